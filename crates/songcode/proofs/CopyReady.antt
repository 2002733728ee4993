-- Request 1: what a described song plays fits N, and every chord that is heard is spelled in the song.
use Prim.Native.Nat.{ℕ, zero, suc, ◌+◌, ◌*◌, ◌/◌, ◌%◌, ◌≤◌}
use Prim.Native.Char.{code}
use mathlib.Core.Path.{◌≡◌, refl, ap, sym, subst, ◌∙◌}
use mathlib.Core.List.{List, [], ◌∷◌, ◌++◌}
use mathlib.Core.Bool.{true}
use mathlib.Core.Option.{Option, none, some, bind}
use native.Mathlib.Omega.{arith}
use native.Mathlib.Nat.{div-add-mod', mul-le-mul}
use lib.Dec.{eqb}
use lib.ListN.{length, length-append}
use borrow.Author.Tests.{eqb-true}
use Rattle.songcode.specs.Lists.{provided◌then◌else◌, times}
use Rattle.songcode.specs.Bytes.{Byte, placed, values, is_blank}
use Rattle.songcode.specs.Answer.Chords.{Chord}
use Rattle.songcode.specs.Answer.Lines.{Line, Block}
use Rattle.songcode.specs.Song.{Sounds, only, also, Measure, Item, measure, loop, refer, Items, one, next, Pattern, Beat}
use Rattle.songcode.specs.Song.{items, named, Cut, Modifier, before, after, Definition, Section, Song, Side, Modifiers}
use Rattle.songcode.specs.Answer.References.{definition_of, items_of, put_in, pattern_items}
use Rattle.songcode.specs.Answer.Playing.{voices, sound_count, positions, beats_of, last_items}
use Rattle.songcode.specs.Answer.Playing.{measures_item, measures_of}
use Rattle.songcode.specs.Answer.Meter.{fits, all_fit_item, all_fit}
use Rattle.songcode.specs.Description.WrittenText.{All, Inside, Characters}
use Rattle.songcode.specs.Description.WrittenPattern.{WrittenPattern, WrittenSide}
use Rattle.songcode.specs.Description.WrittenSection.{none_each, and_each, Signed, modifier_spelling, ModifierSetting, ModifierLine, WrittenSection}
use Rattle.songcode.specs.Description.WrittenSection as Written
use Rattle.songcode.specs.Description.WrittenSong.{DefinitionLines, WrittenDefinition, SectionBlock, WrittenSong, WrittenChart}
use Rattle.songcode.specs.Description.Performance.{CutsFront, CutsBack, CutIf, as_often, Parts, PlaysAlone, PlaysSide, PlaysPattern, PlaysSection, joined}
use Rattle.songcode.specs.Description.Fits.{Fits}
use Rattle.songcode.specs.FlatDemands.{Within}
use Rattle.songcode.proofs.ListLaws.{by_cases, Each, each_at, append_each, both_pass}
use Rattle.songcode.proofs.EachLaws.{each_member}
use Rattle.songcode.proofs.ByteLaws.{values_placed}
use Rattle.songcode.proofs.PatternLaws.{none_some}
use Rattle.songcode.proofs.PlayingAgree.{items_by, sounds_some}
use Rattle.songcode.proofs.SectionPlays.{meter_some}
use Rattle.songcode.proofs.MeterAgree.{plays_section, parts_of_lem}
use Rattle.songcode.proofs.BeatsCounted.{lasting_all}
use Rattle.songcode.proofs.FineLines.{Fine, blank_ascii, FineLine, BlockLine, BlockFine, lines_fine, blocks_fine, inside_append, blanks_off, cut_at}
use Rattle.songcode.proofs.Stretches.{Stands, stands_parts}
use Rattle.songcode.proofs.ChordsPlayed.{OfIf, OfItems, OfRow, items_of_tokens, put_in_of, measures_of_lem, row_append, row_times, front_of, back_of_lem}
use Rattle.songcode.proofs.SpeltChords.{Known, text_known, lines_known, row_spelt}
use Rattle.songcode.proofs.CopySong.{Ready}

-- Every measure has a beat and no more than N.
within_append : (n : ℕ) (a b : List (List Beat)) → Within n a → Within n b → Within n (a ++ b)
unfolding Within
within_append n [] b p q = q
within_append n (m ∷ a) b p q = (p.0, p.1, within_append n a b p.2 q)

append_within : (n : ℕ) (a b : List (List Beat)) → Within n (a ++ b) → Within n a × Within n b
unfolding Within
append_within n [] b p = (tt, p)
append_within n (m ∷ a) b p = let h = append_within n a b p.2 in ((p.0, p.1, h.0), h.1)

within_times : (n k : ℕ) (a : List (List Beat)) → Within n a → Within n (times k a)
unfolding Within times
within_times n zero a p = tt
within_times n (suc k) a p = within_append n a (times k a) p (within_times n k a p)

share_fits : (n k p c r : ℕ) → 1 ≤ n → 1 ≤ c → c ≤ p → r ≡ 0 → k * p + r ≡ n → (1 ≤ c * k) × (c * k ≤ n)
share_fits n zero p c r h i j z e = absurd (omega arith)
share_fits n (suc k) p c r h i j z e =
    let x : suc k ≤ suc k = omega arith in
    let y : 1 ≤ suc k = omega arith in
    let a : c * suc k ≤ p * suc k = mul-le-mul j x in
    let b : 1 * 1 ≤ c * suc k = mul-le-mul i y in
    (omega arith, omega arith)

voices_count : (last : Option Chord) (ss : Sounds) → length (voices last ss) ≡ sound_count ss
unfolding voices sound_count
voices_count last (only s) = refl
voices_count last (also ss s) = let h = voices_count last ss in rw length-append (omega arith)

measure_within : (n : ℕ) (last : Option Chord) (m : Measure) → 1 ≤ n → fits n m ≡ true → (1 ≤ length (beats_of n last m)) × (length (beats_of n last m) ≤ n)
unfolding beats_of fits positions
measure_within n last m h f =
    rw (lasting_all (n / positions m) (voices last m.sounds), voices_count last m.sounds)
    (share_fits n (n / positions m) (positions m) (sound_count m.sounds) (n % positions m) h (sounds_some m.sounds) (omega arith)
    (eqb-true (n % positions m) 0 f) (div-add-mod' n (positions m)))

mutual
  unfolding measures_item measures_of all_fit_item all_fit Within

  within_item : (n : ℕ) (last : Option Chord) (i : Item) → 1 ≤ n → all_fit_item n i ≡ true → Within n (measures_item n last i)
  within_item n last (measure m) h f = let w = measure_within n last m h f in (w.0, w.1, tt)
  within_item n last (loop r k) h f = within_times n k (measures_of n last r) (within_items n last r h f)
  within_item n last (refer k) h f = tt

  within_items : (n : ℕ) (last : Option Chord) (r : Items) → 1 ≤ n → all_fit n r ≡ true → Within n (measures_of n last r)
  within_items n last (one i) h f = within_item n last i h f
  within_items n last (next r s i) h f =
      let g = both_pass (all_fit n r) (all_fit_item n i) f in
      within_append n (measures_of n last r) (measures_item n (last_items last r) i) (within_items n last r h g.0) (within_item n (last_items last r) i h g.1)

module _ (file : List Byte) where
  -- A row alone: it fits and is spelled.
  unfoldable pub Good : ℕ → List (List Beat) → Type 0
  Good n row = Within n row × OfRow (Known file) row

  good_append : (n : ℕ) (a b : List (List Beat)) → Good n a → Good n b → Good n (a ++ b)
  unfolding Good
  good_append n a b p q = (within_append n a b p.0 q.0, row_append (Known file) a b p.1 q.1)

  alone_good : (n : ℕ) (r : Items) (row : List (List Beat)) → 1 ≤ n → OfItems (Known file) r → PlaysAlone n r row → Good n row
  unfolding Good OfIf
  alone_good n r row h s p =
      let g = items_by n none r row p.later p.plays in
      rw g.row_there (within_items n none r h g.fitting, measures_of_lem (Known file) n none r tt s)

  front_within : (n : ℕ) (o : Option Cut) (row kept : List (List Beat)) → CutIf CutsFront o row kept → Within n row → Within n kept
  unfolding CutIf Within
  front_within n none row kept p w = rw p w
  front_within n (some c) row kept p w =
      let h = (append_within n p.lost ((p.begun ++ p.stays) ∷ p.rest) (append_within n p.gone _ (subst (λ r. Within n r) p.written w)).1).1 in
      let l = length-append p.begun p.stays in
      let m = h.1 in
      rw p.keeps (p.remains, omega arith, h.2)

  back_within : (n : ℕ) (o : Option Cut) (row kept : List (List Beat)) → CutIf CutsBack o row kept → Within n row → Within n kept
  unfolding CutIf Within
  back_within n none row kept p w = rw p w
  back_within n (some c) row kept p w =
      let h = append_within n p.rest (((p.stays ++ p.ended) ∷ p.lost) ++ p.gone) (subst (λ r. Within n r) p.written w) in
      let l = length-append p.stays p.ended in
      let m = h.1.1 in
      rw p.keeps (within_append n p.rest (p.stays ∷ []) h.0 (p.remains, omega arith, tt))

  side_good : (n : ℕ) (o : Option Side) (row : List (List Beat)) → 1 ≤ n → ((y : Side) → o ≡ some y → OfItems (Known file) y.items)
      → PlaysSide n o row → Good n row
  unfolding PlaysSide Good Within OfRow
  side_good n none row h s p = rw p (tt, tt)
  side_good n (some y) row h s p = alone_good n y.items row h (s y refl) p

  pattern_good : (n : ℕ) (ms : Modifiers) (o : Option Items) (pass middle : List (List Beat)) → 1 ≤ n
      → ((r : Items) → o ≡ some r → OfItems (Known file) r) → PlaysPattern n ms o pass middle → Good n middle
  unfolding PlaysPattern Good Within OfRow
  pattern_good n ms none pass middle h s p = rw p.2 (tt, tt)
  pattern_good n ms (some r) pass middle h s (shorter, alone, front, back, some_left) =
      let g = alone_good n r pass h (s r refl) alone in
      let row = times (as_often ms) pass in (
        back_within n ms.cut_end shorter middle back
            (front_within n ms.cut_start row shorter front (within_times n (as_often ms) pass g.0)),
        back_of_lem (Known file) ms.cut_end shorter middle back
            (front_of (Known file) ms.cut_start row shorter front (row_times (Known file) (as_often ms) pass g.1)),
      )

  -- A section whose texts are spelled.
  pub record SpeltSection (s : Song) (x : Section) : Type 0 where
    pub pattern : (r : Items) → pattern_items s.definitions x.pattern ≡ some r → OfItems (Known file) r
    pub lead : (y : Side) → x.modifiers.before ≡ some y → OfItems (Known file) y.items
    pub tail : (y : Side) → x.modifiers.after ≡ some y → OfItems (Known file) y.items

  section_good : (s : Song) (x : Section) (p : Parts) → 1 ≤ p.meter → SpeltSection s x → PlaysSection s x p → Good p.meter (joined p)
  unfolding joined
  section_good s x p h t w =
      good_append p.meter p.lead_in (p.middle ++ p.tail) (side_good p.meter _ p.lead_in h t.lead w.lead_in)
      (good_append p.meter p.middle p.tail (pattern_good p.meter x.modifiers _ p.pass p.middle h t.pattern w.pattern)
      (side_good p.meter _ p.tail h t.tail w.tail))

  -- The texts of a written song.
  unfoldable SpeltDefinition : Definition → Type 0
  SpeltDefinition d = (r : Items) → d.items ≡ some r → OfItems (Known file) r

  fine_each : (ls : List Line) → Each (BlockLine file) ls → Each (FineLine file) ls
  unfolding Each BlockLine
  fine_each [] f = tt
  fine_each (l ∷ ls) f = (f.0.0, fine_each ls f.1)

  definition_spelt : (b : Block) (d : Definition) → BlockFine file b → WrittenDefinition b d → SpeltDefinition d
  unfolding SpeltDefinition BlockFine DefinitionLines Each BlockLine FineLine
  definition_spelt b d f w r e = go b.others d.items e w.text f.1
    where
      go : (ls : List Line) (o : Option Items) → o ≡ some r → DefinitionLines ls o → Each (BlockLine file) ls → OfItems (Known file) r
      go [] none q t g = none_some refl q
      go [] (some x) q t g = absurd t
      go (l ∷ ls) none q t g = none_some refl q
      go (l ∷ ls) (some x) q t g =
          let z : x ≡ r = cc in
          subst (λ y. OfItems (Known file) y) z (items_of_tokens (Known file) x (lines_known file t.text g.0.0 (fine_each ls g.1)))

  definitions_spelt : {bs : List Block} {ds : List Definition} → Written.Each WrittenDefinition bs ds → Each (BlockFine file) bs → Each SpeltDefinition ds
  unfolding Each
  definitions_spelt none_each f = tt
  definitions_spelt (and_each {x = b} {y = d} w ws) f = (definition_spelt b d f.0 w, definitions_spelt ws f.1)

  found_spelt : (n : ℕ) (ds : List Definition) → Each SpeltDefinition ds → (q : Items) → items_of ds n ≡ some q → OfItems (Known file) q
  unfolding items_of definition_of bind Each provided◌then◌else◌ SpeltDefinition
  found_spelt n [] f q e = none_some refl e
  found_spelt n (d ∷ ds) f q e = by_cases (eqb d.id n) (λ h. f.0 q (rw h at e)) (λ h. found_spelt n ds f.1 q (rw h at e))

  pattern_spelt : (ds : List Definition) (l : Line) (ls : List Line) (p : Pattern) → Each SpeltDefinition ds → Fine file l.text
      → Each (FineLine file) ls → WrittenPattern l ls p → (r : Items) → pattern_items ds p ≡ some r → OfItems (Known file) r
  unfolding WrittenPattern pattern_items bind
  pattern_spelt ds l ls (items q) d f fs w r e =
      let z : q ≡ r = cc in subst (λ y. OfItems (Known file) y) z (items_of_tokens (Known file) q (lines_known file w.0 f fs))
  pattern_spelt ds l ls (named n) d f fs w r e = go (items_of ds n) refl e
    where
      go : (o : Option Items) → items_of ds n ≡ o → bind o (λ q. some (put_in (items_of ds) q)) ≡ some r → OfItems (Known file) r
      go none h k = none_some refl k
      go (some q) h k =
          let z : put_in (items_of ds) q ≡ r = cc in
          subst (λ y. OfItems (Known file) y) z (put_in_of (Known file) (items_of ds) (λ m y g. found_spelt m ds d y g) q (found_spelt n ds d q h))

  -- A lead-in or tail stands behind a blank of its line.
  setting_fine_lem : (sign : ℕ) (spelling : List ℕ) (bs setting : List Byte) → Signed sign spelling bs setting → Inside bs → Characters (values bs)
      → Inside setting × Characters (values setting)
  unfolding All
  setting_fine_lem sign spelling bs setting s i c =
      let j = (inside_append s.gap setting (inside_append (s.first ∷ s.word) (s.gap ++ setting) (subst (λ x. Inside x) s.written i)).1).1 in
      (j, go s.gap s.parted s.blanks (subst (λ x. Characters (values x)) s.written c))
    where
      go : (gap : List Byte) → 1 ≤ length gap → All is_blank gap → Characters (values ((s.first ∷ s.word) ++ (gap ++ setting))) → Characters (values setting)
      go [] h a c = absurd (omega arith)
      go (g ∷ gap) h a c = blanks_off gap setting a.1 (cut_at (s.first ∷ s.word) (gap ++ setting) g (blank_ascii g a.0) c).1

  pub setting_stands : {sign : ℕ} {spelling : List ℕ} {bs setting : List Byte} → Signed sign spelling bs setting → Stands file bs → Stands file setting
  setting_stands {setting} s h =
      (stands_parts s.gap setting (stands_parts (s.first ∷ s.word) (s.gap ++ setting) (subst (λ x. Stands file x) s.written h)).1).1

  side_spelt : (l : Line) (setting : List Byte) (m : Modifier) (r : Items) → FineLine file l
      → Signed (code "_") (modifier_spelling m) l.text setting → WrittenSide setting r → OfItems (Known file) r
  unfolding FineLine
  side_spelt l setting m r f s w =
      let h = setting_fine_lem (code "_") (modifier_spelling m) l.text setting s f.within f.whole in
      items_of_tokens (Known file) r (text_known file w.text h.0 h.1 (setting_stands s f.stands))

  lead_spelt : (l : Line) (k : ℕ) (r : Items) → FineLine file l → ModifierLine l (before k r) → OfItems (Known file) r
  unfolding ModifierSetting
  lead_spelt l k r f w = side_spelt l w.setting (before k r) r f w.written w.allowed.1

  tail_spelt : (l : Line) (k : ℕ) (r : Items) → FineLine file l → ModifierLine l (after k r) → OfItems (Known file) r
  unfolding ModifierSetting
  tail_spelt l k r f w = side_spelt l w.setting (after k r) r f w.written w.allowed.1

  section_spelt : (s : Song) (b : Block) (x : Section) → Each SpeltDefinition s.definitions → BlockFine file b → WrittenSection b x → SpeltSection s x
  unfolding BlockFine Each
  section_spelt s b x d f w =
      let all = subst (λ ls. Each (FineLine file) ls) w.written (fine_each b.others f.1) in
      let p = (append_each (FineLine file) w.key_lines _ all).1 in
      let q = append_each (FineLine file) (w.first_pattern ∷ w.more_pattern) (w.modifier_lines ++ w.last_lines) p in
      let m = (append_each (FineLine file) w.modifier_lines w.last_lines q.1).0 in
      record {
        pattern = pattern_spelt s.definitions w.first_pattern w.more_pattern x.pattern d q.0.0 q.0.1 w.pattern;
        lead =
            λ y e.
            let l = each_member w.each_says ((w.modifiers.before y).0 e) in lead_spelt l.0 y.line y.items (each_at (FineLine file) m l.1) l.2;
        tail =
            λ y e.
            let l = each_member w.each_says ((w.modifiers.after y).0 e) in tail_spelt l.0 y.line y.items (each_at (FineLine file) m l.1) l.2;
      }

  -- Every section plays what fits its N, and chords of the file.
  unfoldable pub KnownParts : List Parts → Type 0
  unfolding Good
  KnownParts [] = Unit {0}
  KnownParts (p ∷ ps) = Good p.meter (joined p) × KnownParts ps

  known_ready : (ps : List Parts) → KnownParts ps → Ready ps
  unfolding KnownParts Ready Good
  known_ready [] k = tt
  known_ready (p ∷ ps) k = ((k.0.0, row_spelt file (joined p) k.0.1), known_ready ps k.1)

  sections_known : (s : Song) {bs : List Block} {xs : List Section} {ps : List Parts} → Each SpeltDefinition s.definitions
      → Each (BlockFine file) bs → Written.Each SectionBlock bs xs → Written.Each (PlaysSection s) xs ps → KnownParts ps
  unfolding Each KnownParts parts_of_lem
  sections_known s d f none_each none_each = tt
  sections_known s d f (and_each {x = b} {y = x} w ws) (and_each {y = p} h hs) =
      (section_good s x p (meter_of_lem s x p h) (section_spelt s b x d f.0 w.section) h, sections_known s d f.1 ws hs)
    where
      meter_of_lem : (s : Song) (x : Section) (p : Parts) → PlaysSection s x p → 1 ≤ p.meter
      meter_of_lem s x p h = subst (λ n. 1 ≤ n) (ap (λ (q : Parts). q.meter) (sym (plays_section s x p h).same) ∙ refl) (meter_some s x)

-- The blocks of a chart, each line of them fine.
pub record FineChart (file : List Byte) {bs : List Block} {s : Song} (w : WrittenSong bs s) : Type 0 where
  pub metadata : Each (BlockFine file) w.metadata
  pub definitions : Each (BlockFine file) w.definition_blocks
  pub sections : Each (BlockFine file) w.section_blocks

pub chart_fine : {bs : List ℕ} {s : Song} (w : WrittenChart bs s) → FineChart (placed 0 bs) w.song
chart_fine {bs} w =
    let file = placed 0 bs in
    let g = w.song in
    let ls = lines_fine file (subst (λ x. Characters x) (sym (values_placed 0 bs)) w.characters) w.lines_written in
    let a = append_each (BlockFine file) g.metadata _ (subst (λ x. Each (BlockFine file) x) g.written (blocks_fine file w.blocks_written ls)) in
    let b = append_each (BlockFine file) g.definition_blocks g.section_blocks a.1 in
    record { metadata = a.0; definitions = b.0; sections = b.1 }

pub known : (bs : List ℕ) (s : Song) (ps : List Parts) → WrittenChart bs s → Fits s ps → KnownParts (placed 0 bs) ps
known bs s ps w f =
    let file = placed 0 bs in
    let c = chart_fine w in
    sections_known file s (definitions_spelt file w.song.definitions c.definitions) c.sections w.song.sections f.plays

pub ready : (bs : List ℕ) (s : Song) (ps : List Parts) → WrittenChart bs s → Fits s ps → Ready ps
ready bs s ps w f = known_ready (placed 0 bs) ps (known bs s ps w f)
