-- The words of the lines of a run, line by line.
use Prim.Native.Nat.{ℕ, suc, ◌+◌, ◌-◌, ◌*◌, ◌^◌, ◌<◌, ◌≤◌}
use mathlib.Core.Path.{◌≡◌, refl, sym, ap, ◌∙◌, subst}
use mathlib.Core.List.{List, [], ◌∷◌, ◌++◌, append_assoc, append-nil}
use native.Mathlib.Omega.{arith}
use borrow.Author.Tests.{ltb-true, ltb-false}
use Rattle.std.specs.Prelude as std
use lib.Dec.{ltb}
use lib.ListN.{length, take, length-append}
use lib.Seq.{sets, length-sets, take-nil}
use mathlib.Core.Option.{some}
use Rattle.songcode.specs.Bytes.{placed}
use Rattle.songcode.specs.Answer.Lines as songcode
use Rattle.songcode.specs.Answer.Tokens.{Token, line_end, lexed, word, tokens, tokens_of}
use Rattle.songcode.proofs.ByteLaws.{length_placed}
use Rattle.songcode.proofs.ListLaws.{by_cases}
use Rattle.songcode.proofs.MemoryLaws.{sets_sets}
use Rattle.text.specs.declared.lines.Line.{Line}
use Rattle.text.specs.Spans.{part, line_text, Found}
use Rattle.text.proofs.WalkLaws.{part_length}
use Rattle.tokens.specs.TokenWords.{token_word, token_words}
use Rattle.tokens.specs.Lexing.{tokens_from}
use Rattle.tokens.proofs.PartLaws.{part_none}
use Rattle.sections.specs.declared.runs.Run.{Run}
use Rattle.sections.specs.declared.slots.Said.{Said}
use Rattle.sections.specs.Runs.{text_lines, lines_of}
use Rattle.sections.specs.Slots.{Inside, setting_at}
use Rattle.sections.proofs.SlotLaws.{setting_some}
use Rattle.sections.proofs.RunLaws.{lines_found, lines_over}
use Rattle.laying.specs.Laying.{run_tokens, said_tokens, weight, said_weight}

-- The tokens of the lines behind a first one, each behind a line end.
unfoldable pub more_tokens : List songcode.Line → List Token
more_tokens [] = []
more_tokens (l ∷ ls) = line_end ∷ (tokens l.text ++ more_tokens ls)

abbrev pub more_words : List songcode.Line → List ℕ
more_words ls = token_words (more_tokens ls)

tokens_more : (l : songcode.Line) (ls : List songcode.Line) → tokens_of l ls ≡ tokens l.text ++ more_tokens ls
unfolding tokens_of more_tokens
tokens_more l [] = sym (append-nil (tokens l.text))
tokens_more l (m ∷ ms) = ap (λ (ts : List Token). tokens l.text ++ (line_end ∷ ts)) (tokens_more m ms)

pub words_append : (ts us : List Token) → token_words (ts ++ us) ≡ token_words ts ++ token_words us
unfolding token_words
words_append [] us = refl
words_append (t ∷ ts) us = ap (λ (ws : List ℕ). token_word t ∷ ws) (words_append ts us)

more_words_lem : (l : songcode.Line) (ls : List songcode.Line) → more_words (l ∷ ls) ≡ (58 * 2 ^ 26 ∷ token_words (tokens l.text)) ++ more_words ls
unfolding more_tokens token_words token_word
more_words_lem l ls = ap (λ (ws : List ℕ). 58 * 2 ^ 26 ∷ ws) (words_append (tokens l.text) (more_tokens ls))

no_tokens : (s : List ℕ) (a e : ℕ) → e ≤ a → tokens_from a e s ≡ []
unfolding tokens lexed word placed
no_tokens s a e h = rw (part_none s a e h)

text_length : (s : List ℕ) (l : Line) → l.stop ≤ length s → length (line_text s l).text ≡ l.stop - l.start
text_length s l h = length_placed l.start (part l.start l.stop s) ∙ part_length s l.start l.stop h

module _ {s : List ℕ} {n at : ℕ} {l : Line} (f : Found s n at l) (left : ℕ) (some_left : left ≡ 0 → ⊥) where
  -- The first line of a run, and the lines behind it.
  take_first : at < length s → take left (text_lines s n at) ≡ line_text s l ∷ take (left - 1) (text_lines s (n + 1) l.next)
  take_first h =
      let e : left ≡ suc (left - 1) = omega arith in
      ap (λ (k : ℕ). take k (text_lines s n at)) e ∙ rw (lines_found f h)

-- The first line of a run is laid, if there is one; its line end is counted to it.
pub record First (s : List ℕ) (run : Run) (l : Line) : Type 0 where
  pub words : token_words (run_tokens (lines_of s run))
      ≡ token_words (tokens_from l.start l.stop s) ++ more_words (take (run.lines - 1) (text_lines s (run.number + 1) l.next))
  pub room : (l.stop - l.start) + weight (take (run.lines - 1) (text_lines s (run.number + 1) l.next)) ≤ weight (lines_of s run)

module _ {s : List ℕ} (run : Run) {l : Line} (f : Found s run.number run.at l) (some_left : run.lines ≡ 0 → ⊥) (inside : run.at ≤ length s) where
  abbrev rest : List songcode.Line
  rest = take (run.lines - 1) (text_lines s (run.number + 1) l.next)

  first_here : run.at < length s → First s run l
  unfolding lines_of run_tokens weight
  first_here h =
      let e : lines_of s run ≡ line_text s l ∷ rest = take_first f run.lines some_left h in
      let over = f.over in
      let before = f.next in
      let k = text_length s l (omega arith) in
      record {
        words =
            ap (λ ls. token_words (run_tokens ls)) e ∙ ap token_words (tokens_more (line_text s l) rest) ∙ words_append
            (tokens (line_text s l).text) (more_tokens rest);
        room = rw e (omega arith);
      }

  first_over : length s ≤ run.at → First s run l
  unfolding lines_of run_tokens weight more_tokens token_words
  first_over h =
      let over = f.over in
      let onward = f.onward in
      let a = f.start in
      let b = f.stop in
      let c = f.next in
      let none : text_lines s run.number run.at ≡ [] = lines_over s run.number run.at h in
      let none_behind_lem : text_lines s (run.number + 1) l.next ≡ [] = lines_over s (run.number + 1) l.next (omega arith) in
      let none_here : tokens_from l.start l.stop s ≡ [] = no_tokens s l.start l.stop (omega arith) in
      record {
        words = rw (none, none_behind_lem, none_here, take-nil run.lines, take-nil (run.lines - 1));
        room = rw (none, none_behind_lem, take-nil run.lines, take-nil (run.lines - 1)) (omega arith);
      }

  pub first_line_lem : First s run l
  first_line_lem = by_cases (ltb run.at (length s)) (λ e. first_here (ltb-true _ _ e)) (λ e. first_over (ltb-false _ _ e))

-- The lines behind the first are laid up to a line.
pub record Lays (s : List ℕ) (held : List ℕ) (n line₀ at₀ left₀ : ℕ) (words : List ℕ) (fill line at left : ℕ) : Type 0 where
  pub done : List ℕ
  pub table : words ≡ sets held n done
  pub filled : fill ≡ n + length done
  pub same : length words ≡ length held
  pub all : done ++ more_words (take left (text_lines s line at)) ≡ more_words (take left₀ (text_lines s line₀ at₀))
  pub room : fill + weight (take left (text_lines s line at)) ≤ length held

pub lays_none : (s held : List ℕ) (n line at left : ℕ) → n + weight (take left (text_lines s line at)) ≤ length held
    → Lays s held n line at left held n line at left
lays_none s held n line at left h =
    record { done = []; table = refl; filled = omega arith; same = refl; all = refl; room = h }

module _ (s held : List ℕ) (n line₀ at₀ left₀ : ℕ) {words : List ℕ} {fill line at left : ℕ} (i : Lays s held n line₀ at₀ left₀ words fill line at left) where
  -- No line is left.
  pub lays_all : more_words (take left (text_lines s line at)) ≡ [] → i.done ≡ more_words (take left₀ (text_lines s line₀ at₀))
  lays_all e = sym (append-nil i.done) ∙ ap (λ (ws : List ℕ). i.done ++ ws) (sym e) ∙ i.all

  pub lays_over : length s ≤ at → i.done ≡ more_words (take left₀ (text_lines s line₀ at₀))
  unfolding more_tokens token_words
  lays_over h = lays_all (rw (lines_over s line at h, take-nil left))

  pub lays_end : left ≡ 0 → i.done ≡ more_words (take left₀ (text_lines s line₀ at₀))
  unfolding more_tokens token_words
  lays_end h = lays_all (rw h)

  -- One line more.
  module _ {l : Line} (f : Found s line at l) (h : at < length s) (some_left : left ≡ 0 → ⊥) where
    abbrev new : List ℕ
    new = token_words (tokens_from l.start l.stop s)

    abbrev later : List songcode.Line
    later = take (left - 1) (text_lines s (line + 1) l.next)

    pub lays_room : fill + ((l.stop - l.start) + 1 + weight later) ≤ length held
    unfolding weight
    lays_room =
        let over = f.over in
        let before = f.next in
        let r : fill + weight (line_text s l ∷ later) ≤ length held = rw (take_first f left some_left h) at i.room in
        let k = text_length s l (omega arith) in
        omega arith

    pub lays_next : {words' words'' : List ℕ} {begun fill'' : ℕ} → words' ≡ sets words fill (58 * 2 ^ 26 ∷ []) → begun ≡ fill + 1
        → words'' ≡ sets words' begun new → fill'' ≡ begun + length new → fill'' ≤ begun + (l.stop - l.start)
        → Lays s held n line₀ at₀ left₀ words'' fill'' (line + 1) l.next (left - 1)
    lays_next {words'} {words''} {begun} {fill''} a b c d e =
        let room = lays_room in
        let k = i.filled in
        let same = i.same in
        let x = i.done in
        let y = x ++ (58 * 2 ^ 26 ∷ []) in
        let z = y ++ new in
        let p : words' ≡ sets held n y = a ∙ rw i.table (sets_sets n fill x (58 * 2 ^ 26 ∷ []) held k) in
        let py : begun ≡ n + length y = simp length-append (omega arith) in
        let q : words'' ≡ sets held n z = c ∙ rw p (sets_sets n begun y new held py) in
        let pz : fill'' ≡ n + length z = simp length-append (omega arith) in
        record {
          done = z;
          table = q;
          filled = pz;
          same = rw q (length-sets held n z);
          all = append_assoc y new (more_words later) ∙ append_assoc x (58 * 2 ^ 26 ∷ []) (new ++ more_words later)
              ∙ ap (λ (ws : List ℕ). x ++ ws) (sym (more_words_lem (line_text s l) later) ∙ ap more_words (sym (take_first f left some_left h))) ∙ i.all;
          room = omega arith;
        }

-- The whole run is laid.
pub run_laid : (s : List ℕ) (run : Run) (l : Line) (n : ℕ) (held table words : List ℕ) (fill₀ fill line at left : ℕ) → First s run l
    → table ≡ sets held n (token_words (tokens_from l.start l.stop s)) → fill₀ ≡ n + length (token_words (tokens_from l.start l.stop s))
    → (i : Lays s table fill₀ (run.number + 1) l.next (run.lines - 1) words fill line at left)
    → i.done ≡ more_words (take (run.lines - 1) (text_lines s (run.number + 1) l.next))
    → (words ≡ sets held n (token_words (run_tokens (lines_of s run)))) × (fill ≡ n + length (token_words (run_tokens (lines_of s run))))
run_laid s run l n held table words fill₀ fill line at left f a b i e =
    let x = token_words (tokens_from l.start l.stop s) in
    let y = i.done in
    let w : token_words (run_tokens (lines_of s run)) ≡ x ++ y = f.words ∙ ap (λ (ws : List ℕ). x ++ ws) (sym e) in
    let k = i.filled in
    let m : n + length (x ++ y) ≡ fill = simp length-append (omega arith) in
    (rw w (i.table ∙ rw a (sets_sets n fill₀ x y held b)), rw w (sym m))

-- A setting that is said, and how long it is.
module _ (s : List ℕ) {o : std.Option Said} {r : Said} (is : o ≡ std.Some r) where
  said_some : setting_at s o ≡ some (record { line = r.line; text = placed r.start (part r.start r.stop s) })
  said_some = ap (setting_at s) is ∙ setting_some s r

  pub said_inside : Inside s o → (r.start ≤ r.stop) × (r.stop ≤ length s)
  said_inside h = subst (Inside s) is h

  pub said_weight_lem : r.stop ≤ length s → said_weight (setting_at s o) ≡ r.stop - r.start
  unfolding said_weight
  said_weight_lem k = rw said_some (length_placed r.start (part r.start r.stop s) ∙ part_length s r.start r.stop k)

  pub said_tokens_lem : said_tokens (setting_at s o) ≡ tokens_from r.start r.stop s
  unfolding said_tokens
  said_tokens_lem = rw said_some

pub nothing_said : (s : List ℕ) {o : std.Option Said} → o ≡ std.None → token_words (said_tokens (setting_at s o)) ≡ []
unfolding setting_at said_tokens token_words
nothing_said s h = rw h
