-- Lines up to a place of the text end before it: the words of a definition reach no further than its lines.
use Prim.Native.Nat.{ℕ, zero, suc, ◌+◌, ◌-◌, ◌<◌, ◌≤◌}
use mathlib.Core.Path.{◌≡◌, refl, sym, ap, ◌∙◌}
use mathlib.Core.List.{List, [], ◌∷◌, ◌++◌, map, head-eq_of_cons-eq, tail-eq_of_cons-eq}
use native.Mathlib.Omega.{arith}
use native.Mathlib.Numerals.{add-one}
use borrow.Author.Tests.{ltb-true, ltb-false, leb-true, leb-false}
use lib.Dec.{ltb, leb}
use lib.ListN.{length, drop, get_or}
use lib.Seq.{drop-cons}
use Rattle.songcode.specs.Lists.{provided◌then◌else◌, left}
use Rattle.songcode.specs.Answer.Lines.{Line, cr, ending}
use Rattle.songcode.proofs.ListLaws.{by_cases, taken_left, nil_is_not_cons}
use Rattle.text.specs.Spans.{end, longer, line_length, break_width, break_length, line_of, line_at, line_text, spans_from}
use Rattle.text.proofs.SpanLaws.{by_ending}
use Rattle.text.proofs.WalkLaws.{whole, next_is}
use Rattle.tokens.specs.TokenWords.{token_words}
use Rattle.sections.specs.declared.blocks.DefinitionRead.{DefinitionRead}
use Rattle.sections.specs.declared.runs.Test.TheVariants.{Full}
use Rattle.sections.specs.Runs.{text_lines, passing, lines_of, lines_behind}
use Rattle.sections.specs.BlockParts.{block_at, lines_past, DefinitionAt}
use Rattle.sections.proofs.RunLaws.{lines_next, lines_over}
use Rattle.laying.specs.Laying.{run_tokens, weight}
use Rattle.laying.proofs.WeightLaws.{line_there, run_few}

-- From any byte of a line the next line is the same.
cr_then : (bs : List ℕ) → 1 < break_width cr (end (get_or bs 0 0)) → break_width cr (end (get_or bs 0 0)) ≡ suc (whole bs)
unfolding break_width ending provided◌then◌else◌ line_length longer break_length
cr_then [] h = absurd (omega arith)
cr_then (b ∷ bs) h =
    by_ending b
    (λ e. let z : 1 < 1 = rw e at h in absurd (omega arith))
    (λ e. rw (e, e) refl)
    (λ e. let z : 1 < 1 = rw e at h in absurd (omega arith))

whole_next : (b : ℕ) (bs : List ℕ) → 1 < whole (b ∷ bs) → whole (b ∷ bs) ≡ suc (whole bs)
unfolding line_length longer break_length break_width
whole_next b bs h =
    by_ending b
    (λ e. rw e (omega arith))
    (λ e. let z : 1 < 0 + 1 = rw (e, e) at h in absurd (omega arith))
    (λ e. let z : 1 < 0 + break_width cr (end (get_or bs 0 0)) = rw (e, e) at h in
    let y = cr_then bs (omega arith) in rw (e, e) (omega arith))

abbrev after : List ℕ → ℕ → ℕ
after s at = at + whole (drop at s)

after_next : (s : List ℕ) (at : ℕ) → at < length s → at + 1 < after s at → after s (at + 1) ≡ after s at
after_next s at h k =
    let c = drop-cons s at 0 h in
    let w = whole_next (get_or s at 0) (drop (suc at) s) (let z : at + 1 < at + whole (get_or s at 0 ∷ drop (suc at) s) = rw c at k in omega arith) in
    rw (add-one at, c, w) (omega arith)

after_same : (k : ℕ) (s : List ℕ) (at b : ℕ) → b ≡ at + k → b < length s → b < after s at → after s b ≡ after s at
after_same zero s at b e h l = let z : b ≡ at = omega arith in rw z refl
after_same (suc k) s at b e h l =
    let n = after_next s at (omega arith) (omega arith) in
    after_same k s (at + 1) b (omega arith) h (omega arith) ∙ n

-- How many lines there are from a place on, whatever the number of the first.
lines_many : (s : List ℕ) (n m at k : ℕ) (bs : List ℕ) → length (map (line_text s) (spans_from n at k bs)) ≡ length (map (line_text s) (spans_from m at k bs))
unfolding spans_from line_of
lines_many s n m at k [] = refl
lines_many s n m at (suc k) (b ∷ bs) = lines_many s n m (suc at) k bs
lines_many s n m at zero (b ∷ bs) = ap suc (lines_many s (suc n) (suc m) (suc at) _ bs)

abbrev many : List ℕ → ℕ → ℕ
many s at = length (text_lines s 1 at)

many_is : (s : List ℕ) (n at : ℕ) → length (text_lines s n at) ≡ many s at
unfolding text_lines
many_is s n at = lines_many s n 1 at 0 (drop at s)

many_next : (s : List ℕ) (at : ℕ) → at < length s → many s at ≡ suc (many s (after s at))
many_next s at h =
    let m = (line_at s 1 at).next in
    let e : m ≡ after s at = next_is s 1 at in
    ap length (lines_next s 1 at h) ∙ ap suc (many_is s (1 + 1) m ∙ rw e refl)

-- Further on there are no more lines than before.
many_less : (fuel : ℕ) (s : List ℕ) (a b : ℕ) → a ≤ b → b ≤ length s → length s ≤ a + fuel → many s b ≤ many s a
many_less zero s a b h k f = let e : b ≡ a = omega arith in rw e (omega arith)
many_less (suc fuel) s a b h k f =
    by_cases (ltb b (length s))
    (λ t. let inside = ltb-true b (length s) t in
    by_cases (ltb b (after s a))
    (λ u. let e = after_same (b - a) s a b (omega arith) inside (ltb-true b (after s a) u) in
    let x = many_next s a (omega arith) in
    let y = many_next s b inside in
    let z : many s (after s b) ≡ many s (after s a) = rw e refl in
    omega arith)
    (λ u. let x = many_next s a (omega arith) in
    let l = line_there s 1 a (omega arith) in
    let g = l.further in
    let n = next_is s 1 a in
    let r = many_less fuel s (after s a) b (ltb-false b (after s a) u) k (omega arith) in
    omega arith))
    (λ t. let none : many s b ≡ 0 = ap length (lines_over s 1 b (ltb-false b (length s) t)) in omega arith)

-- A place behind the line at another: fewer lines stand from there on.
many_past : (s : List ℕ) (a b : ℕ) → a < length s → b ≤ length s → many s b < many s a → after s a ≤ b
many_past s a b h k m =
    by_cases (leb (after s a) b) (λ t. leb-true (after s a) b t) (λ t. absurd (stays (leb-false (after s a) b t)))
  where
    stays : b < after s a → ⊥
    stays l =
        by_cases (leb a b)
        (λ t. let p = leb-true a b t in
        let i = (line_there s 1 a h).inside in
        let n = next_is s 1 a in
        let x = many_next s a h in
        let y = many_next s b (omega arith) in
        let e = after_same (b - a) s a b (omega arith) (omega arith) l in
        let z : many s (after s b) ≡ many s (after s a) = rw e refl in
        omega arith)
        (λ t. let p = leb-false a b t in
        let q = many_less (length s) s b a (omega arith) (omega arith) (omega arith) in omega arith)

-- The first of the lines from a place on, and the others.
record FirstLine (s : List ℕ) (n a : ℕ) (l : Line) (ls : List Line) : Type 0 where
  inside : a < length s
  first : line_text s (line_at s n a) ≡ l
  others : text_lines s (n + 1) (line_at s n a).next ≡ ls

first_of : (s : List ℕ) (n a : ℕ) (l : Line) (ls : List Line) → text_lines s n a ≡ l ∷ ls → FirstLine s n a l ls
first_of s n a l ls e =
    by_cases (ltb a (length s))
    (λ t. let h = ltb-true a (length s) t in
    let f = sym (lines_next s n a h) ∙ e in
    record { inside = h; first = head-eq_of_cons-eq f; others = tail-eq_of_cons-eq f })
    (λ t. nil_is_not_cons (sym (lines_over s n a (ltb-false a (length s) t)) ∙ e))

-- Lines from a place up to another.
pub lines_reach : (l : Line) (ls : List Line) (s : List ℕ) (n m a b : ℕ) → text_lines s n a ≡ (l ∷ ls) ++ text_lines s m b → b ≤ length s
    → a + weight (l ∷ ls) ≤ b + 1
unfolding weight
lines_reach l [] s n m a b e k =
    let f = first_of s n a l (text_lines s m b) e in
    let t = line_there s n a f.inside in
    let x : length (line_text s (line_at s n a)).text ≡ length l.text = ap (λ (y : Line). length y.text) f.first in
    let c : many s a ≡ suc (many s b) = sym (many_is s n a) ∙ ap length e ∙ ap suc (many_is s m b) in
    let p = many_past s a b f.inside k (omega arith) in
    let z = t.text in
    let i = next_is s n a in
    omega arith
lines_reach l (x ∷ ks) s n m a b e k =
    let f = first_of s n a l ((x ∷ ks) ++ text_lines s m b) e in
    let t = line_there s n a f.inside in
    let y : length (line_text s (line_at s n a)).text ≡ length l.text = ap (λ (z : Line). length z.text) f.first in
    let g = first_of s (n + 1) (line_at s n a).next x (ks ++ text_lines s m b) f.others in
    let r = lines_reach x ks s (n + 1) m (line_at s n a).next b f.others k in
    let d = t.ended g.inside in
    omega arith

-- The words of a definition, its head and its outline in front, laid from a place before it on, end before the block behind it.
pub definition_reach : (s : List ℕ) (n at : ℕ) (r : DefinitionRead) → DefinitionAt s n at r → at < length s
    → 2 ≤ length (block_at s n at).first.text → (mark : ℕ) → mark ≤ at
    → mark + 2 + length (token_words (run_tokens (lines_of s r.pattern))) ≤ r.pattern.next
unfolding block_at lines_past lines_behind run_tokens token_words
definition_reach s n at r d h long mark f = go (lines_of s r.pattern) refl
  where
    m : ℕ
    m = (line_at s n at).next

    goes : text_lines s (n + 1) m ≡ lines_of s r.pattern ++ text_lines s (r.pattern.number + r.pattern.lines) r.pattern.next
    goes =
        sym (taken_left (passing Full) (text_lines s (n + 1) (line_at s n at).next))
        ∙ ap (λ (ls : List Line). ls ++ left (passing Full) (text_lines s (n + 1) (line_at s n at).next)) (sym d.pattern)
        ∙ ap (λ (ls : List Line). lines_of s r.pattern ++ ls) (sym d.past)

    go : (ls : List Line) → lines_of s r.pattern ≡ ls → mark + 2 + length (token_words (run_tokens (lines_of s r.pattern))) ≤ r.pattern.next
    go [] e =
        let c : many s at ≡ suc (many s m) = many_next s at h ∙ ap (λ (k : ℕ). suc (many s k)) (sym (next_is s n at)) in
        let g : many s m ≡ many s r.pattern.next = sym (many_is s (n + 1) m) ∙ ap length goes ∙ rw e (many_is s _ _) in
        let k = many_past s at r.pattern.next h d.pattern_placed.ends (omega arith) in
        let t = (line_there s n at h).text in
        let i = next_is s n at in
        rw e (omega arith)
    go (l ∷ ls) e =
        let w = run_few l ls in
        let b = text_lines s (r.pattern.number + r.pattern.lines) r.pattern.next in
        let x = lines_reach l ls s (n + 1) (r.pattern.number + r.pattern.lines) m r.pattern.next
        (goes ∙ ap (λ (ks : List Line). ks ++ b) e) d.pattern_placed.ends in
        let t = (line_there s n at h).text in
        rw e (omega arith)
