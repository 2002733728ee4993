-- Stage 5 of a list of sections: the complaint of the first of them that has one is given.
use Prim.Native.Nat.{ℕ, ◌+◌, ◌<◌, ◌≤◌}
use mathlib.Core.Path.{◌≡◌, refl, sym, ◌∙◌}
use mathlib.Core.List.{List, [], ◌∷◌, ◌++◌}
use mathlib.Core.Bool.{Bool, true, false, ◌&&◌}
use mathlib.Core.Option.{Option, none, some}
use native.Mathlib.Omega.{arith}
use lib.Dec.{leb, ltb}
use borrow.Author.Tests.{le-leb, le-ltb, lt-ltb, eq-eqb}
use Rattle.songcode.specs.Lists.{provided◌then◌else◌, is_empty, when}
use Rattle.songcode.specs.Complaints.{complaint, complain_if, goes_first, earlier, earliest}
use Rattle.songcode.specs.Song.{Items, Section, Song, Modifiers}
use Rattle.songcode.specs.Answer.References.{pattern_items}
use Rattle.songcode.specs.Answer.Playing.{time_of, kept_measures}
use Rattle.songcode.specs.Answer.Meter.{section_count, most_measures, cut_faults, length_faults, any_said}
use Rattle.songcode.proofs.ListLaws.{Each, each_append, each_map, nil_is_not_cons}
use Rattle.std.specs.Prelude.{Some}
use Rattle.refusals.specs.declared.names.Why.TheVariants.{SongTooLong, NothingLeft}
use Rattle.refusals.specs.Refusals.{told}
use Rattle.sections.specs.Onward.{Later}
use Rattle.laying.proofs.ComplaintLaws.{UpTo, Behind, first_wins}
use Rattle.laying.proofs.FaultLineLaws.{line_if}

here_if : (b : Bool) (n line : ℕ) → Each (UpTo line) (complain_if b n line)
unfolding UpTo
here_if b n line = each_map (λ c e. omega arith) (complain_if b n line) (line_if b n line)

behind_if : (b : Bool) (n line header : ℕ) → line < header → Each (Behind line) (complain_if b n header)
unfolding Behind
behind_if b n line header h = each_map (λ c e. omega arith) (complain_if b n header) (line_if b n header)

behind_cut : (n line header : ℕ) (ms : Modifiers) (o : Option Items) → line < header → Each (Behind line) (cut_faults n header ms o)
unfolding cut_faults
behind_cut n line header ms none h = behind_if (any_said ms) 15 line header h
behind_cut n line header ms (some r) h = behind_if (is_empty (kept_measures n ms (some r))) 15 line header h

-- Sections behind a line are complained of behind it.
length_behind : (song : Song) (line sofar : ℕ) (xs : List Section) → Later line xs → Each (Behind line) (length_faults song sofar xs)
unfolding Later length_faults Each
length_behind song line sofar [] w = tt
length_behind song line sofar (x ∷ xs) w =
    let n = time_of song x in
    let cuts = cut_faults n x.header x.modifiers (pattern_items song.definitions x.pattern) in
    let passes = complain_if (leb sofar most_measures && ltb most_measures (sofar + section_count song x)) 14 x.header in
    each_append (Behind line) (passes ++ cuts) (length_faults song (sofar + section_count song x) xs)
    (each_append (Behind line) passes cuts (behind_if (leb sofar most_measures && ltb most_measures (sofar + section_count song x)) 14 line
    x.header w.0) (behind_cut n line x.header x.modifiers (pattern_items song.definitions x.pattern) w.0))
    (length_behind song line (sofar + section_count song x) xs w.1)

passing_first : (b : Bool) (line : ℕ) → earliest (complaint 14 line ∷ complain_if b 15 line) ≡ some (complaint 14 line)
unfolding earliest earlier goes_first complain_if when provided◌then◌else◌
passing_first true line = rw (le-ltb line line (omega arith), eq-eqb line line refl)
passing_first false line = refl

module _ (song : Song) (sofar : ℕ) (x : Section) (xs : List Section) (away : Bool) (small : sofar ≤ 65535)
    (cuts : cut_faults (time_of song x) x.header x.modifiers (pattern_items song.definitions x.pattern) ≡ complain_if away 15 x.header) where
  -- The song passes its length here.
  pub length_passes : 65535 < sofar + section_count song x → Later x.header xs
      → earliest (length_faults song sofar (x ∷ xs)) ≡ told (Some (record { why = SongTooLong; line = x.header }))
  unfolding length_faults complain_if when most_measures told
  length_passes h l =
      let rest = length_faults song (sofar + section_count song x) xs in
      rw (cuts, le-leb sofar 65535 small, lt-ltb 65535 (sofar + section_count song x) h)
      (first_wins x.header (complaint 14 x.header ∷ complain_if away 15 x.header) rest (here away)
      (length_behind song x.header (sofar + section_count song x) xs l) (λ z. nil_is_not_cons (sym z))
      ∙ passing_first away x.header)
    where
      here : (b : Bool) → Each (UpTo x.header) (complaint 14 x.header ∷ complain_if b 15 x.header)
      here b =
          each_append (UpTo x.header) (complain_if true 14 x.header) (complain_if b 15 x.header) (here_if true 14 x.header)
          (here_if b 15 x.header)

  -- Its cuts leave no beat.
  pub length_cut : sofar + section_count song x ≤ 65535 → away ≡ true → Later x.header xs
      → earliest (length_faults song sofar (x ∷ xs)) ≡ told (Some (record { why = NothingLeft; line = x.header }))
  unfolding length_faults complain_if when most_measures told earliest earlier
  length_cut h e l =
      let rest = length_faults song (sofar + section_count song x) xs in
      rw (cuts, e, le-leb sofar 65535 small, le-ltb 65535 (sofar + section_count song x) h)
      (first_wins x.header (complaint 15 x.header ∷ []) rest (here_if true 15 x.header)
      (length_behind song x.header (sofar + section_count song x) xs l) (λ z. nil_is_not_cons (sym z)))

  -- Neither.
  pub length_on : sofar + section_count song x ≤ 65535 → away ≡ false → length_faults song sofar (x ∷ xs) ≡ length_faults song (sofar + section_count song x) xs
  unfolding length_faults complain_if when most_measures
  length_on h e = rw (cuts, e, le-leb sofar 65535 small, le-ltb 65535 (sofar + section_count song x) h)
