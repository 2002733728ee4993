-- The beats of a section are those that its text counts, less those that the cuts name.
use Prim.Native.Nat.{ℕ, zero, suc, ◌+◌, ◌-◌, ◌*◌, ◌/◌, ◌≤◌}
use mathlib.Core.Path.{◌≡◌, refl, sym, ap, ◌∙◌}
use mathlib.Core.List.{List, [], ◌∷◌, ◌++◌, append_assoc, tail-eq_of_cons-eq, flat_map}
use mathlib.Core.Option.{Option, none, some}
use native.Mathlib.Omega.{arith}
use native.Mathlib.Nat.{mul_assoc, mul-div_cancel}
use lib.ListN.{length, take, drop, length-append}
use lib.Seq.{drop_at, take-append_seam}
use Rattle.songcode.specs.Lists.{times, sum}
use Rattle.songcode.specs.Answer.Chords.{Chord}
use Rattle.songcode.specs.Song.{Measure, Item, measure, loop, refer, Items, one, next, Cut, Section, Song, Side, Modifiers, Beat}
use Rattle.songcode.specs.Song.{unmodified}
use Rattle.songcode.specs.Answer.References.{pattern_items}
use Rattle.songcode.specs.Answer.Playing.{lasting, sound_count, positions}
use Rattle.songcode.specs.Answer.Tables.{Tables}
use Rattle.songcode.specs.Answer.Answer.{Room}
use Rattle.songcode.specs.Description.WrittenSection.{Each}
use Rattle.songcode.specs.Description.Performance.{total, PlaysMeasure, PlaysItem, PlaysItems, CutsFront, CutsBack, CutIf, Parts, PlaysAlone}
use Rattle.songcode.specs.Description.Performance.{PlaysSide, as_often, PlaysPattern, PlaysSection, joined}
use Rattle.songcode.specs.Description.Described.{Described}
use Rattle.songcode.specs.EitherOrder.{measure_beats, item_beats, text_beats, item_widths, text_widths, named_front, named_back, side_beats}
use Rattle.songcode.specs.EitherOrder.{pattern_beats, repeated_widths, beats_written, beats_named, BeatsCounted}
use Rattle.songcode.proofs.ListLaws.{sum_append, sum_times}
use Rattle.songcode.proofs.EachLaws.{each_also}
use Rattle.songcode.proofs.PlayingAgree.{positions_some, heard_length, plays_divides, plays_lasting}
use Rattle.songcode.proofs.RowLaws.{lasting_length}
use Rattle.songcode.proofs.TurnedRows.{total_append}

-- The beats of each measure of a row.
lengths : {A : Type 0} → List (List A) → List ℕ
lengths [] = []
lengths (m ∷ row) = length m ∷ lengths row

module _ {A : Type 0} where
  lengths_append : (a b : List (List A)) → lengths (a ++ b) ≡ lengths a ++ lengths b
  unfolding lengths
  lengths_append [] b = refl
  lengths_append (m ∷ a) b = ap (λ r. length m ∷ r) (lengths_append a b)

  lengths_length : (a : List (List A)) → length (lengths a) ≡ length a
  unfolding lengths
  lengths_length [] = refl
  lengths_length (m ∷ a) = ap suc (lengths_length a)

  lengths_times : (k : ℕ) (row : List (List A)) → lengths (times k row) ≡ times k (lengths row)
  unfolding lengths times
  lengths_times zero row = refl
  lengths_times (suc k) row = rw (lengths_append row (times k row), lengths_times k row)

  sum_lengths : (row : List (List A)) → sum (lengths row) ≡ total row
  unfolding lengths sum total
  sum_lengths [] = refl
  sum_lengths (m ∷ row) = ap (λ k. length m + k) (sum_lengths row)

-- What is played has the widths that the text counts.
pub lasting_all : (k : ℕ) (heard : List (Option Chord)) → length (flat_map (lasting k) heard) ≡ length heard * k
unfolding flat_map
lasting_all k [] = omega arith
lasting_all k (c ∷ cs) = let h = lasting_all k cs in rw (length-append, lasting_length k c) (omega arith)

-- "(p - r) x N / p" where the share of a position is N / p.
shared : (sounds removers share n : ℕ) → 1 ≤ sounds + removers → share * (sounds + removers) ≡ n
    → ((sounds + removers - removers) * n) / (sounds + removers) ≡ sounds * share
shared sounds removers share n h e =
    let d : sounds + removers - removers ≡ sounds = omega arith in
    rw (d, ← e, ← (mul_assoc sounds share (sounds + removers))) (mul-div_cancel (sounds * share) h)

measure_width : (n : ℕ) (last : Option Chord) (m : Measure) (beats : List Beat) (later : Option Chord)
    → PlaysMeasure n last m beats later → length beats ≡ measure_beats n m
unfolding measure_beats positions
measure_width n last m beats later p =
    let a = heard_length last m.sounds p.heard later p.hears in
    let b = lasting_all p.share p.heard in
    rw (plays_lasting p) (b ∙ ap (λ k. k * p.share) a ∙ sym (shared (sound_count m.sounds) m.removers p.share n (positions_some m) (plays_divides p)))

mutual
  unfolding PlaysItem PlaysItems item_widths text_widths lengths

  item_widths_lem : (n : ℕ) (last : Option Chord) (i : Item) (row : List (List Beat)) (later : Option Chord)
      → PlaysItem n last i row later → lengths row ≡ item_widths n i
  item_widths_lem n last (measure m) row later (beats, p, e) = rw e (ap (λ k. k ∷ []) (measure_width n last m beats later p))
  item_widths_lem n last (loop r k) row later (pass, p, e) = rw (e, lengths_times k pass, text_widths_lem n last r pass later p)
  item_widths_lem n last (refer k) row later p = absurd p

  text_widths_lem : (n : ℕ) (last : Option Chord) (r : Items) (row : List (List Beat)) (later : Option Chord)
      → PlaysItems n last r row later → lengths row ≡ text_widths n r
  text_widths_lem n last (one i) row later p = item_widths_lem n last i row later p
  text_widths_lem n last (next r s i) row later (front, more, mid, p, q, e) =
      rw (e, lengths_append front more, text_widths_lem n last r front mid p, item_widths_lem n mid i more later q)

mutual
  unfolding item_widths text_widths item_beats text_beats sum

  sum_item : (n : ℕ) (i : Item) → sum (item_widths n i) ≡ item_beats n i
  sum_item n (measure m) = omega arith
  sum_item n (loop r k) = rw (sum_times k (text_widths n r), sum_text n r)
  sum_item n (refer k) = refl

  sum_text : (n : ℕ) (r : Items) → sum (text_widths n r) ≡ text_beats n r
  sum_text n (one i) = sum_item n i
  sum_text n (next r s i) = rw (sum_append (text_widths n r) (item_widths n i), sum_text n r, sum_item n i)

alone_widths : (n : ℕ) (r : Items) (row : List (List Beat)) → PlaysAlone n r row → lengths row ≡ text_widths n r
alone_widths n r row p = text_widths_lem n none r row p.later p.plays

alone_total : (n : ℕ) (r : Items) (row : List (List Beat)) → PlaysAlone n r row → total row ≡ text_beats n r
alone_total n r row p = sym (sum_lengths row) ∙ ap sum (alone_widths n r row p) ∙ sum_text n r

side_total : (n : ℕ) (o : Option Side) (row : List (List Beat)) → PlaysSide n o row → total row ≡ side_beats n o
unfolding PlaysSide side_beats total
side_total n none row p = rw p
side_total n (some x) row p = alone_total n x.items row p

-- The measures behind the first are those of a row's end.
behind_first_lem : {A : Type 0} {x : A} {xs : List A} (ys : List A) (y : A) (zs g : List A) → x ∷ xs ≡ ys ++ ((y ∷ zs) ++ g) → (w : List A) × (xs ≡ w ++ g)
behind_first_lem [] y zs g e = (zs, tail-eq_of_cons-eq e)
behind_first_lem (v ∷ ys) y zs g e = (ys ++ (y ∷ zs), tail-eq_of_cons-eq e ∙ sym (append_assoc ys (y ∷ zs) g))

module _ {A : Type 0} where
  -- The front cut names what is gone.
  front_named : (o : Option Cut) (row shorter : List (List A)) → CutIf CutsFront o row shorter → total shorter + named_front o (lengths row) ≡ total row
  unfolding CutIf named_front total
  front_named none row shorter p = rw p (omega arith)
  front_named (some c) row shorter p =
      let g = p.gone in
      let rest = p.lost ++ ((p.begun ++ p.stays) ∷ p.rest) in
      let t : take c.whole.measures (lengths row) ≡ lengths g =
      rw (p.written, lengths_append g rest, ← p.as_measures, ← (lengths_length g)) (take-append_seam (lengths g) (lengths rest)) in
      let a : total row ≡ total g + (total p.lost + (length p.begun + length p.stays + total p.rest)) =
      rw (p.written, total_append g rest, total_append p.lost ((p.begun ++ p.stays) ∷ p.rest), length-append) refl in
      let b = p.as_beats in
      let s : total shorter ≡ length p.stays + total p.rest = rw p.keeps refl in
      rw (t, sum_lengths g) (omega arith)

  -- What the front cut leaves ends as the row does, behind its first measure.
  ends_alike : (o : Option Cut) (row shorter rest : List (List A)) (m : List A) (lost gone : List (List A))
      → CutIf CutsFront o row shorter → shorter ≡ rest ++ ((m ∷ lost) ++ gone) → (w : List (List A)) × (row ≡ w ++ gone)
  unfolding CutIf
  ends_alike none row shorter rest m lost gone p e = (rest ++ (m ∷ lost), sym p ∙ e ∙ sym (append_assoc rest (m ∷ lost) gone))
  ends_alike (some c) row shorter rest m lost gone p e =
      let h = behind_first_lem rest m lost gone (sym p.keeps ∙ e) in
      let front = p.gone ++ (p.lost ++ ((p.begun ++ p.stays) ∷ [])) in (
        front ++ h.0,
        p.written
            ∙ ap (λ r. p.gone ++ (p.lost ++ ((p.begun ++ p.stays) ∷ r))) h.1
            ∙ regroup p.gone p.lost (p.begun ++ p.stays) h.0 gone,
      )
    where
      regroup : (a b : List (List A)) (x : List A) (c d : List (List A)) → a ++ (b ++ (x ∷ (c ++ d))) ≡ ((a ++ (b ++ (x ∷ []))) ++ c) ++ d
      regroup a b x c d = simp append_assoc

  last_of : (row w gone : List (List A)) (m : ℕ) → row ≡ w ++ gone → length gone ≡ m → drop (length (lengths row) - m) (lengths row) ≡ lengths gone
  last_of row w gone m e h =
      let l : length (lengths w ++ lengths gone) - m ≡ length (lengths w) = let k = lengths_length gone in rw length-append (omega arith) in
      rw (e, lengths_append w gone, l) (drop_at (lengths w) (lengths gone) (length (lengths w)) refl)

  -- The back cut names what is gone at the end of the whole row.
  back_named : (o q : Option Cut) (row shorter kept : List (List A))
      → CutIf CutsFront o row shorter → CutIf CutsBack q shorter kept → total kept + named_back q (lengths row) ≡ total shorter
  unfolding CutIf named_back total
  back_named o none row shorter kept f p = rw p (omega arith)
  back_named o (some c) row shorter kept f p =
      let g = p.gone in
      let w = ends_alike o row shorter p.rest (p.stays ++ p.ended) p.lost g f p.written in
      let t = last_of row w.0 g c.whole.measures w.1 p.as_measures in
      let a : total shorter ≡ total p.rest + (length p.stays + length p.ended + total p.lost + total g) =
      rw (
        p.written,
        total_append p.rest (((p.stays ++ p.ended) ∷ p.lost) ++ g),
        total_append ((p.stays ++ p.ended) ∷ p.lost) g,
        length-append,
      ) refl in
      let b = p.as_beats in
      let s : total kept ≡ total p.rest + (length p.stays + 0) = rw (p.keeps, total_append p.rest (p.stays ∷ [])) refl in
      rw (t, sum_lengths g) (omega arith)

pattern_total : (n : ℕ) (ms : Modifiers) (o : Option Items) (pass middle : List (List Beat)) → PlaysPattern n ms o pass middle
    → total middle + (named_front ms.cut_start (repeated_widths n (as_often ms) o)
    + named_back ms.cut_end (repeated_widths n (as_often ms) o)) ≡ as_often ms * pattern_beats n o
unfolding PlaysPattern repeated_widths pattern_beats total named_front named_back as_often unmodified
pattern_total n ms none pass middle (e, p, m) = rw (e, m) nothing
  where
    nothing : 0 + (named_front unmodified.cut_start [] + named_back unmodified.cut_end []) ≡ as_often unmodified * 0
    nothing = refl
pattern_total n ms (some r) pass middle (shorter, alone, front, back, some_left) =
    let w : lengths (times (as_often ms) pass) ≡ times (as_often ms) (text_widths n r) = rw
    (lengths_times (as_often ms) pass, alone_widths n r pass alone) refl in
    let f = front_named ms.cut_start (times (as_often ms) pass) shorter front in
    let b = back_named ms.cut_start ms.cut_end (times (as_often ms) pass) shorter middle front back in
    let t : total (times (as_often ms) pass) ≡ as_often ms * text_beats n r = rw (← (sum_lengths (times (as_often ms) pass)), w, sum_times, sum_text) refl in
    rw (← w, ← t) (omega arith)

section_counted : (s : Song) (x : Section) (p : Parts) → PlaysSection s x p → BeatsCounted s x p
unfolding BeatsCounted beats_written beats_named joined
section_counted s x p w =
    let l = side_total p.meter x.modifiers.before p.lead_in w.lead_in in
    let t = side_total p.meter x.modifiers.after p.tail w.tail in
    let m = pattern_total p.meter x.modifiers (pattern_items s.definitions x.pattern) p.pass p.middle w.pattern in
    rw (total_append p.lead_in (p.middle ++ p.tail), total_append p.middle p.tail) (omega arith)

pub beats_counted : (room : Room) (bs : List ℕ) (t : Tables) (d : Described room bs t) → Each (BeatsCounted d.song) d.song.sections d.parts
beats_counted room bs t d = each_also (section_counted d.song) d.fits.plays
