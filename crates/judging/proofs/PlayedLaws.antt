-- A section plays no more measures than are counted before its cuts, and the songs that stage 5 accepts have few measures.
use Prim.Native.Nat.{ℕ, ◌+◌, ◌-◌, ◌*◌, ◌≤◌}
use mathlib.Core.Path.{◌≡◌, ap, ◌∙◌}
use mathlib.Core.List.{List, [], ◌∷◌, ◌++◌}
use mathlib.Core.Bool.{false, ◌&&◌}
use mathlib.Core.Option.{Option, none, some}
use native.Mathlib.Omega.{arith}
use lib.Dec.{leb, ltb}
use lib.ListN.{length, drop, length-append, length-drop}
use borrow.Author.Tests.{le-leb, ltb-false}
use Rattle.songcode.specs.Lists.{times}
use Rattle.songcode.specs.Complaints.{complain_if}
use Rattle.songcode.specs.Song.{Cut, Items, Section, Song, Modifiers}
use Rattle.songcode.specs.Answer.References.{pattern_items}
use Rattle.songcode.specs.Answer.Playing.{keep, drop_beats, drop_measures, cut_front, turned, cut_back, applied, cut_row}
use Rattle.songcode.specs.Answer.Playing.{repeats, measures_of, kept_measures, time_of}
use Rattle.songcode.specs.Answer.Playing.{played}
use Rattle.songcode.specs.Answer.Meter.{count, measures_in, section_count, most_measures, cut_faults, length_faults}
use Rattle.songcode.proofs.ListLaws.{append_is_nil, complain_if_nil, times_length}
use Rattle.songcode.proofs.RowLaws.{length_items}
use Rattle.songcode.proofs.MeterAgree.{length_side}
use Rattle.songcode.proofs.TurnedRows.{length_turned}

-- Cuts only take away.
module _ {A : Type 0} where
  keep_short : (m : List A) (row : List (List A)) → length (keep m row) ≤ length row + 1
  unfolding keep
  keep_short [] row = omega arith
  keep_short (b ∷ m) row = omega arith

  beats_short : (b : ℕ) (row : List (List A)) → length (drop_beats (record { beats = b }) row) ≤ length row
  unfolding drop_beats
  beats_short b [] = omega arith
  beats_short b (m ∷ row) =
      let h = beats_short (b - length m) row in
      let k = keep_short (drop b m) (drop_beats (record { beats = b - length m }) row) in
      omega arith

  pub front_short : (c : Cut) (row : List (List A)) → length (cut_front c row) ≤ length row
  unfolding cut_front drop_measures
  front_short c row =
      let h = beats_short c.further.beats (drop c.whole.measures row) in
      let l = length-drop c.whole.measures row in
      omega arith

  pub back_short : (c : Cut) (row : List (List A)) → length (cut_back c row) ≤ length row
  unfolding cut_back
  back_short c row =
      let h = front_short c (turned row) in
      let a = length_turned row in
      let b = length_turned (cut_front c (turned row)) in
      omega arith

  applied_short : (f : Cut → List (List A) → List (List A)) → ((c : Cut) (row : List (List A)) → length (f c row) ≤ length row)
      → (o : Option Cut) (row : List (List A)) → length (applied f o row) ≤ length row
  unfolding applied
  applied_short f h none row = omega arith
  applied_short f h (some c) row = h c row

  pub cut_short : (ms : Modifiers) (row : List (List A)) → length (cut_row ms row) ≤ length row
  unfolding cut_row
  cut_short ms row =
      let a = applied_short cut_front front_short ms.cut_start row in
      let b = applied_short cut_back back_short ms.cut_end (applied cut_front ms.cut_start row) in
      omega arith

kept_short : (n : ℕ) (ms : Modifiers) (o : Option Items) → length (kept_measures n ms o) ≤ repeats ms * measures_in o
unfolding kept_measures measures_in
kept_short n ms none = omega arith
kept_short n ms (some r) =
    let h = cut_short ms (times (repeats ms) (measures_of n none r)) in
    let e : length (times (repeats ms) (measures_of n none r)) ≡ repeats ms * count r = times_length (repeats ms) (measures_of n none r)
    ∙ ap (λ (k : ℕ). repeats ms * k) (length_items n none r) in
    omega arith

pub played_short : (s : Song) (x : Section) → length (played s x) ≤ section_count s x
unfolding played section_count
played_short s x =
    let n = time_of s x in
    let a = length_side n x.modifiers.before in
    let b = kept_short n x.modifiers (pattern_items s.definitions x.pattern) in
    let d = length_side n x.modifiers.after in
    rw (length-append, length-append) (omega arith)

-- Where stage 5 refuses nothing, the sections so far and the next one have at most 65,535 measures.
pub lengths_step : (s : Song) (sofar : ℕ) (x : Section) (xs : List Section) → length_faults s sofar (x ∷ xs) ≡ [] → sofar ≤ 65535
    → (sofar + section_count s x ≤ 65535) × (length_faults s (sofar + section_count s x) xs ≡ [])
unfolding length_faults most_measures
lengths_step s sofar x xs e h =
    let n = section_count s x in
    let over = complain_if (leb sofar 65535 && ltb 65535 (sofar + n)) 14 x.header in
    let cuts = cut_faults (time_of s x) x.header x.modifiers (pattern_items s.definitions x.pattern) in
    let split = append_is_nil (over ++ cuts) (length_faults s (sofar + n) xs) e in
    let passed : leb sofar 65535 && ltb 65535 (sofar + n) ≡ false = complain_if_nil _ 14 x.header (append_is_nil over cuts split.0).0 in
    let few : ltb 65535 (sofar + n) ≡ false = rw (le-leb sofar 65535 h) at passed in
    (ltb-false 65535 (sofar + n) few, split.1)
