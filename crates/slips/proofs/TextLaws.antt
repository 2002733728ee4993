-- From what was read to what is told: the texts of a section, and the number that a pattern names.
use Prim.Native.Nat.{ℕ, zero, suc, ◌/◌, ◌%◌, ◌<◌, ◌≤◌}
use mathlib.Core.Path.{◌≡◌, refl, sym, ap, ◌∙◌, subst}
use mathlib.Core.List.{List, [], ◌∷◌, map, Memᴰ}
use mathlib.Core.Bool.{Bool, true, false}
use native.Mathlib.Omega.{arith}
use borrow.Author.Tests.{ltb-true, ltb-false}
use lib.Dec.{ltb}
use lib.ListN.{length, take}
use Rattle.songcode.specs.Song.{chord, again, silence}
use Rattle.songcode.specs.Answer.Tokens.{Token, sound, remover, reference, semicolon, colon, line_end, opens, closes, wrong}
use Rattle.songcode.specs.Answer.Lines as songcode
use Rattle.songcode.specs.Answer.Lines.{Block}
use Rattle.songcode.specs.Answer.Sections.{pattern_run, body}
use Rattle.songcode.specs.Answer.Answer.{blocks_of}
use Rattle.songcode.proofs.ListLaws.{by_cases}
use Rattle.text.specs.declared.lines.Line.{Line}
use Rattle.text.specs.Spans.{line_of, line_text, Found}
use Rattle.tokens.specs.Fitting.{Fit, kind, amount}
use Rattle.tokens.specs.Lexing.{tokens_from}
use Rattle.tokens.proofs.LexLaws.{tokens_over}
use Rattle.tokens.proofs.KindLaws.{word_kind_lem, word_amount}
use Rattle.sections.specs.declared.runs.Run.{Run}
use Rattle.sections.specs.declared.blocks.Place.{Place}
use Rattle.sections.specs.Runs.{text_lines, lines_of}
use Rattle.sections.specs.BlockParts.{block_at}
use Rattle.sections.proofs.RunLaws.{lines_found, lines_over}
use Rattle.slips.specs.declared.readings.Stray.{Stray}
use Rattle.slips.specs.declared.readings.Reading.{Reading}
use Rattle.slips.specs.declared.slip.Slip.{Slip}
use Rattle.slips.specs.declared.signs.Token as slips
use Rattle.slips.specs.Taken.{TokenAt}
use Rattle.slips.specs.PatternText.{PatternText}
use Rattle.slips.specs.Marks.{Mark, named_by, named_in, SideText}
use Rattle.slips.specs.Strays.{StrayAt, TellsStray, StrayTold, is_found, heard}
use Rattle.slips.specs.declared.readings.Stray.TheVariants.{Unheard}
use Rattle.slips.specs.Readings.{Follows, ReadsPattern, ReadsSide, ToldStray}
use Rattle.slips.specs.BlocksMet.{BlockOf}
use Rattle.slips.specs.MeterTold.{MeterTold}
use Rattle.slips.proofs.StrayLaws.{Outcome, stray_heard}
use Rattle.slips.proofs.AgainLaws.{side_at, stray_byte}
use Rattle.slips.proofs.PutLaws.{pattern_at_lem}
use Rattle.slips.proofs.BlockLaws.{others_later}

pub map_take : {A B : Type 0} (f : A → B) (k : ℕ) (xs : List A) → map f (take k xs) ≡ take k (map f xs)
map_take f zero xs = refl
map_take f (suc k) [] = refl
map_take f (suc k) (x ∷ xs) = ap (λ ys. f x ∷ ys) (map_take f k xs)

module _ (x r : Reading) (e : x.stray ≡ Unheard) (y : Slip) (t : ToldStray r y) where
  told_of : (ms : List Mark) → Follows x ms r → TellsStray ms y.clause y.from y.to
  told_of ms f = go (is_found r.stray) refl
    where
      is : r.stray ≡ heard Unheard ms
      is = f.stray ∙ ap (λ (v : Stray). heard v ms) e

      o : Outcome ms r.stray
      o = subst (Outcome ms) (sym is) (stray_heard ms)

      go : (b : Bool) → is_found r.stray ≡ b → TellsStray ms y.clause y.from y.to
      go true h =
          let w = f.within (rw e (omega arith)) in
          let k = t.told h w in
          let c = k.0 in
          record { few = omega arith; told = λ _. (subst (StrayAt ms) (sym k.1) (o.0 h), k.2); none = λ n. absurd (n k.0) }
      go false h =
          let k = t.none h in
          record { few = omega arith; told = λ c. let z : ⊥ = omega arith in absurd z; none = λ _ from s. o.1 h from s }

  pattern_told : (s : List ℕ) (ls : List songcode.Line) (ms : List Mark) → PatternText s ls ms → Follows x ms r
      → StrayTold s (PatternText s ls) y.clause y.from y.to
  pattern_told s ls ms text f =
      record {
        marks = ms;
        text = text;
        tells = told_of ms f;
        byte = λ c. stray_byte s ms (pattern_at_lem s ls ms text) y.from ((told_of ms f).told c).0;
      }

  side_told : (s : List ℕ) (l : Line) → ReadsSide s l x r → StrayTold s (SideText s l) y.clause y.from y.to
  side_told s l h =
      record {
        marks = _;
        text = record { from = h.from; setting = h.setting; marks = h.reads.marks; marked = h.reads.marked; all = refl };
        tells = told_of _ h.reads.follows;
        byte = λ c.
            stray_byte s _ (side_at s h.from l.stop h.inside h.reads.marks h.reads.marked) y.from
            ((told_of _ h.reads.follows).told c).0;
      }

-- The number that a pattern names.
named_none : (t : Token) (ts : List Token) → (kind t ≡ 55 → ⊥) → 0 ≡ named_by (t ∷ ts)
unfolding named_by kind
named_none (reference n) ts h = absurd (h refl)
named_none (sound s) ts h = refl
named_none remover ts h = refl
named_none semicolon ts h = refl
named_none colon ts h = refl
named_none line_end ts h = refl
named_none opens ts h = refl
named_none (closes n) ts h = refl
named_none wrong ts h = refl

named_some : (t : Token) (ts : List Token) → Fit t → kind t ≡ 55 → amount t ≡ named_by (t ∷ ts)
unfolding named_by kind amount Fit
named_some (reference n) ts f h = refl
named_some (sound (chord c)) ts f h =
    let g = f.0 in
    let z : ⊥ = omega arith in
    absurd z
named_some (sound again) ts f h = let z : ⊥ = omega arith in absurd z
named_some (sound silence) ts f h = let z : ⊥ = omega arith in absurd z
named_some remover ts f h = let z : ⊥ = omega arith in absurd z
named_some semicolon ts f h = let z : ⊥ = omega arith in absurd z
named_some colon ts f h = let z : ⊥ = omega arith in absurd z
named_some line_end ts f h = let z : ⊥ = omega arith in absurd z
named_some opens ts f h = let z : ⊥ = omega arith in absurd z
named_some (closes n) ts f h = let z : ⊥ = omega arith in absurd z
named_some wrong ts f h = let z : ⊥ = omega arith in absurd z

module _ (s : List ℕ) (run : Run) where
  pub named_empty : run.lines ≡ 0 → 0 ≡ named_in (lines_of s run)
  unfolding named_in lines_of
  named_empty h = rw h refl

  module _ (some : run.lines ≡ 0 → ⊥) {l : Line} (f : Found s run.number run.at l) where
    -- A pattern names what its first line names.
    first_names : run.at ≤ length s → (n : ℕ) → n ≡ named_by (tokens_from l.start l.stop s) → n ≡ named_in (lines_of s run)
    unfolding named_in lines_of
    first_names c n e = go run.lines refl
      where
        go : (k : ℕ) → run.lines ≡ k → n ≡ named_in (take k (text_lines s run.number run.at))
        go zero z = absurd (some z)
        go (suc k) z =
            by_cases (ltb run.at (length s))
            (λ h. rw (lines_found f (ltb-true run.at (length s) h)) e)
            (λ h.
            let i = ltb-false run.at (length s) h in
            let v = f.over in
            let w = f.start in
            let j = f.next in
            let u : l.stop ≤ l.start = omega arith in
            rw (lines_over s run.number run.at i) (e ∙ ap named_by (tokens_over s l.start l.stop u)))

    pub names_nothing : run.at ≤ length s → tokens_from l.start l.stop s ≡ [] → 0 ≡ named_in (lines_of s run)
    unfolding named_by
    names_nothing c e = first_names c 0 (sym (ap named_by e))

    module _ (c : run.at ≤ length s) (t : slips.Token) (h : TokenAt s l.start l.stop t) (k : t.next ≤ l.stop) where
      opens_with : tokens_from l.start l.stop s ≡ h.token ∷ tokens_from t.next l.stop s
      opens_with = h.first l.stop k (omega arith)

      kind_is_lem : t.word / 67108864 ≡ kind h.token
      kind_is_lem = ap (λ (w : ℕ). w / 67108864) h.word ∙ word_kind_lem h.token h.fits

      pub names_none : (t.word / 67108864 ≡ 55 → ⊥) → 0 ≡ named_in (lines_of s run)
      names_none n = first_names c 0 (named_none h.token _ (λ e. n (kind_is_lem ∙ e)) ∙ sym (ap named_by opens_with))

      pub names_some : t.word / 67108864 ≡ 55 → t.word % 67108864 ≡ named_in (lines_of s run)
      names_some e =
          first_names c (t.word % 67108864)
          (ap (λ (w : ℕ). w % 67108864) h.word ∙ word_amount h.token h.fits ∙ named_some h.token _ h.fits (sym kind_is_lem ∙ e)
          ∙ sym (ap named_by opens_with))

-- What is told of a text is told of the block that holds the verdict's line.
module _ (s : List ℕ) (line : ℕ) (l : Line) {p : Place} (o : BlockOf s line p) where
  pub block_first : (b : Block) → Memᴰ b (blocks_of s) → b.first.number ≡ line → (p.at < length s) × (b ≡ block_at s p.number p.at)
  block_first b i e = o.holds b i (b.first, Memᴰ.head refl, e)

  pub block_other : l.number ≡ line → (b : Block) → Memᴰ b (blocks_of s) → Memᴰ (line_text s l) b.others
      → (p.at < length s) × (b ≡ block_at s p.number p.at)
  block_other e b i m = o.holds b i (line_text s l, Memᴰ.tail m, e)

  pub meter_past : length s ≤ p.at → (y : Slip) → MeterTold s line l y.clause y.from y.to
  meter_past h y =
      record {
        header_stray = λ b i e. let k = (block_first b i e).0 in
            let z : ⊥ = omega arith in absurd z;
        side_stray = λ e b i m. let k = (block_other e b i m).0 in
            let z : ⊥ = omega arith in absurd z;
      }

  pub meter_header : p.number ≡ line → (run : Run) → lines_of s run ≡ pattern_run (body (block_at s p.number p.at))
      → (x r : Reading) → x.stray ≡ Unheard → ReadsPattern s run x r → (y : Slip) → ToldStray r y
      → MeterTold s line l y.clause y.from y.to
  meter_header n run q x r e h y t =
      record {
        header_stray = λ b i k.
            let same = q ∙ ap (λ (c : Block). pattern_run (body c)) (sym (block_first b i k).1) in
            pattern_told x r e y t s (pattern_run (body b)) h.marks
            (subst (λ (ls : List songcode.Line). PatternText s ls h.marks) same h.text) h.follows;
        side_stray = λ k b i m.
            let w = others_later s p.number p.at (line_text s l)
            (subst (λ (c : Block). Memᴰ (line_text s l) c.others) (block_other k b i m).1 m) in
            let z : ⊥ = omega arith in
            absurd z;
      }

  pub meter_side : (p.number ≡ line → ⊥) → (x r : Reading) → x.stray ≡ Unheard → ReadsSide s l x r → (y : Slip) → ToldStray r y
      → MeterTold s line l y.clause y.from y.to
  unfolding block_at line_of
  meter_side n x r e h y t =
      record {
        header_stray = λ b i k. absurd (n (sym (ap (λ (c : Block). c.first.number) (block_first b i k).1) ∙ k));
        side_stray = λ k b i m. side_told x r e y t s l h;
      }
