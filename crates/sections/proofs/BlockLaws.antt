-- The blocks at a place, put together from the runs of their lines.
use Prim.Native.Nat.{ℕ, suc, ◌+◌, ◌-◌, ◌<◌, ◌≤◌}
use mathlib.Core.Path.{◌≡◌, refl, sym, ap, ◌∙◌}
use mathlib.Core.List.{List, [], ◌∷◌}
use mathlib.Core.Option.{Option, get_or}
use native.Mathlib.Omega.{arith}
use lib.ListN.{length, take}
use Rattle.songcode.specs.Lists.{taken, left}
use Rattle.songcode.specs.Answer.Lines as songcode
use Rattle.songcode.specs.Answer.Sections.{behind_first, pattern_run, body, from_dashes, not_dashes}
use Rattle.text.specs.declared.lines.Line.{Line}
use Rattle.songcode.specs.Bytes as bytes
use Rattle.songcode.specs.Answer.Numbers.{count_in}
use Rattle.songcode.specs.Answer.SongText.{head_in}
use Rattle.text.specs.Spans.{part, line_text, Found}
use Rattle.std.specs.Prelude as std
use Rattle.tokens.specs.Decimals.{number_of}
use Rattle.settings.proofs.OfLineLaws.{head_of_line}
use Rattle.sections.specs.declared.runs.Run.{Run}
use Rattle.sections.specs.declared.runs.Test.{Test}
use Rattle.sections.specs.declared.runs.Test.TheVariants.{Full, Body, Early, Pattern}
use Rattle.sections.specs.Runs.{text_lines, passing, lines_of, lines_behind, Longest}
use Rattle.sections.specs.BlockParts.{block_at, lines_past, Placed, early_lines, late_lines, behind_dashes, LyricsAt, PartsAt}
use Rattle.sections.proofs.ValueLaws.{number_or_lem}
use Rattle.sections.proofs.RunLaws.{lines_found}
use Rattle.sections.proofs.PartLaws.{body_is, ending_is, past_is, early_is, pattern_is, late_is, all_left}

module _ {s : List ℕ} {t : Test} {n at : ℕ} {r : Run} (l : Longest s t n at r) (one : 1 ≤ n) (fits : n ≤ at + 1) where
  pub longest_placed : Placed s r
  longest_placed =
      let a = l.number in
      let b = l.place in
      let c = l.onward in
      let d = l.inside in
      let e = l.counted in
      record { number = omega arith; counted = omega arith; inside = omega arith; behind = omega arith; ends = omega arith }

module _ (s : List ℕ) (n at : ℕ) (rest : Run) (r : Longest s Full n at rest) (one : 1 ≤ n) (fits : n ≤ at + 1) where
  pub lyrics_none : rest.lines ≡ 0 → LyricsAt s n at rest
  unfolding lines_of behind_dashes
  lyrics_none z =
      let nothing : taken (passing Full) (text_lines s n at) ≡ [] = sym r.lines ∙ rw z in
      record {
        onward = r.onward;
        placed = longest_placed r one fits;
        lines = rw (z, nothing);
        past = r.behind;
      }

  pub lyrics_some : {l : Line} → Found s n at l → (rest.lines ≡ 0 → ⊥)
      → LyricsAt s n at (record { number = n + 1; at = l.next; lines = rest.lines - 1; next = rest.next })
  unfolding lines_of lines_behind behind_dashes
  lyrics_some {l} f z =
      let k = rest.lines in
      let a = r.inside in
      let b = r.counted in
      let c = r.onward in
      let o = f.onward in
      let v = f.over in
      let e : k ≡ suc (k - 1) = omega arith in
      let g : n + 1 + (k - 1) ≡ rest.number + k = omega (arith, r.number) in
      let start : text_lines s rest.number rest.at ≡ text_lines s n at = rw (r.number, r.place) refl in
      let whole : taken (passing Full) (text_lines s n at) ≡ line_text s l ∷ take (k - 1) (text_lines s (n + 1) l.next) =
      sym r.lines ∙ ap (take k) start ∙ ap (λ (m : ℕ). take m (text_lines s n at)) e ∙ rw (lines_found f (omega arith)) in
      record {
        onward = c;
        placed = record { number = omega arith; counted = omega arith; inside = omega arith; behind = omega arith; ends = omega arith };
        lines = rw whole;
        past = rw g r.behind;
      }

module _ (s : List ℕ) (n at : ℕ) (one : 1 ≤ n) (fits : n ≤ at + 1) (within : at < length s) {h : Line} (f : Found s n at h) where
  -- The lines behind a block's first line.
  abbrev rest : List songcode.Line
  rest = text_lines s (n + 1) h.next

  pub others_are : (block_at s n at).others ≡ taken (passing Full) rest
  unfolding block_at
  others_are = rw (← f.is) refl

  pub past_are : lines_past s n at ≡ left (passing Full) rest
  unfolding lines_past
  past_are = rw (← f.is) refl

  pub definition_id : {m : std.Option ℕ} {r : ℕ} → m ≡ number_of (count_in (behind_first (bytes.placed 0 (part h.start h.stop s)))) → r ≡ std.unwrap_or m 0
      → r ≡ get_or (head_in (block_at s n at).first) 0
  unfolding block_at
  definition_id {m} e i =
      i ∙ ap (λ (x : std.Option ℕ). std.unwrap_or x 0) e ∙ number_or_lem (count_in (behind_first (bytes.placed 0 (part h.start h.stop s)))) 0
      ∙ rw (← f.is) (ap (λ (o : Option ℕ). get_or o 0) (sym (head_of_line h.number s h.start h.stop)))

  body_are : body (block_at s n at) ≡ taken (passing Body) rest
  unfolding body
  body_are = ap (taken not_dashes) others_are ∙ body_is rest

  ending_are : from_dashes (block_at s n at) ≡ taken (passing Full) (left (passing Body) rest)
  unfolding from_dashes
  ending_are = ap (left not_dashes) others_are ∙ ending_is rest

  module _ (early pattern late lyrics : Run)
      (e : Longest s Early (n + 1) h.next early)
      (p : Longest s Pattern (early.number + early.lines) early.next pattern)
      (l : Longest s Body (pattern.number + pattern.lines) pattern.next late)
      (y : LyricsAt s (late.number + late.lines) late.next lyrics) where
    behind_early : text_lines s (early.number + early.lines) early.next ≡ left (passing Early) rest
    unfolding lines_behind
    behind_early = e.behind

    behind_pattern_lem : text_lines s (pattern.number + pattern.lines) pattern.next ≡ left (passing Pattern) (left (passing Early) rest)
    unfolding lines_behind
    behind_pattern_lem = p.behind ∙ ap (left (passing Pattern)) behind_early

    behind_late : text_lines s (late.number + late.lines) late.next ≡ left (passing Body) rest
    unfolding lines_behind
    behind_late = l.behind ∙ ap (left (passing Body)) behind_pattern_lem ∙ all_left rest

    pub parts_are : PartsAt s n at (record { header = n; early = early; pattern = pattern; late = late; lyrics = lyrics })
    parts_are =
        let o = f.onward in
        let ep = longest_placed e (omega arith) (omega arith) in
        let pp = longest_placed p (omega (arith, ep.number)) (omega (arith, ep.behind)) in
        let lp = longest_placed l (omega (arith, pp.number)) (omega (arith, pp.behind)) in
        record {
          header = refl;
          early_placed = ep;
          early = e.lines ∙ sym (ap early_lines body_are ∙ early_is rest);
          pattern_placed = pp;
          pattern = p.lines ∙ ap (taken (passing Pattern)) behind_early ∙ sym (ap pattern_run body_are ∙ pattern_is rest);
          late_placed = lp;
          late = l.lines ∙ ap (taken (passing Body)) behind_pattern_lem ∙ sym (ap late_lines body_are ∙ late_is rest);
          lyrics_placed = y.placed;
          lyrics = y.lines ∙ ap (λ ls. behind_dashes (taken (passing Full) ls)) behind_late ∙ sym (ap behind_dashes ending_are);
          past = y.past ∙ ap (left (passing Full)) behind_late ∙ past_is rest ∙ sym past_are;
          onward = omega (arith, e.onward, p.onward, l.onward, y.onward);
        }
