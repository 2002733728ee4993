-- What stage 4 complains of in a text's song has small numbers, on lines of the text.
use Prim.Native.Nat.{ℕ, ◌<◌, ◌≤◌}
use mathlib.Core.List.{List, [], ◌∷◌, ◌++◌, map, filter_map}
use mathlib.Core.Bool.{Bool, true, false, not}
use mathlib.Core.Option.{Option, none, some, or_else, bind}
use native.Mathlib.Omega.{arith}
use lib.ListN.{length}
use Rattle.songcode.specs.Lists.{prepend, when}
use Rattle.songcode.specs.Bytes.{Byte}
use Rattle.songcode.specs.Answer.Lines.{Line, Block}
use Rattle.songcode.specs.Complaints.{complain_if}
use Rattle.songcode.specs.Song.{Items, Side, Section, Song, Cut, Modifier, repeated, cut_start, cut_end, before, after}
use Rattle.songcode.specs.Answer.Chords.{chord_in}
use Rattle.songcode.specs.Answer.Numbers.{repeat_in}
use Rattle.songcode.specs.Answer.PatternText.{side_text}
use Rattle.songcode.specs.Answer.Modifiers.{ModifierName, of_repeat, of_cut_start, of_cut_end, of_before, of_after, cut_in, modifier_in}
use Rattle.songcode.specs.Answer.Modifiers.{before_said, after_said, said_by, modifiers_said}
use Rattle.songcode.specs.Answer.Sections.{Kind, key_line, modifier_line, pattern_line, kind_of_line, setting_of, modifier_name_of, modifier_of, modifier_by_as}
use Rattle.songcode.specs.Answer.Sections.{modifier_on, not_dashes, body, section_in}
use Rattle.songcode.specs.Answer.SongText.{section_blocks, song_in}
use Rattle.songcode.specs.Answer.Answer.{blocks_of, song_of}
use Rattle.songcode.specs.Answer.References.{pattern_items}
use Rattle.songcode.specs.Answer.Playing.{time_of}
use Rattle.songcode.specs.Answer.Meter.{all_fit, stray, row_faults, played_faults, side_faults, section_meter, meter_faults}
use Rattle.songcode.proofs.ListLaws.{Each, each_append}
use Rattle.refusals.specs.Ranks.{Small}
use Rattle.stage2.proofs.SmallLineFaults.{Low, LowBlock, Fine, fine_gather, each_taken}
use Rattle.stage2.proofs.SmallLines.{sections_low}

abbrev LowLine : ℕ → Type 0
LowLine n = n < 131072

-- A lead-in or tail on such a line, and a modifier that says one.
unfoldable LowSide : Option Side → Type 0
LowSide none = Unit {0}
LowSide (some x) = LowLine x.line

unfoldable LowSaid : Modifier → Type 0
LowSaid (repeated k) = Unit {0}
LowSaid (cut_start c) = Unit {0}
LowSaid (cut_end c) = Unit {0}
LowSaid (before n r) = LowLine n
LowSaid (after n r) = LowLine n

unfoldable LowRead : Option Modifier → Type 0
unfolding LowSaid
LowRead none = Unit {0}
LowRead (some m) = LowSaid m

low_before : (m : Modifier) → LowSaid m → LowSide (before_said m)
unfolding LowSaid LowSide before_said
low_before (repeated k) h = tt
low_before (cut_start c) h = tt
low_before (cut_end c) h = tt
low_before (before n r) h = h
low_before (after n r) h = tt

low_after : (m : Modifier) → LowSaid m → LowSide (after_said m)
unfolding LowSaid LowSide after_said
low_after (repeated k) h = tt
low_after (cut_start c) h = tt
low_after (cut_end c) h = tt
low_after (before n r) h = tt
low_after (after n r) h = h

low_first : (f : Modifier → Option Side) → ((m : Modifier) → LowSaid m → LowSide (f m)) → (ms : List Modifier) → Each LowSaid ms → LowSide (said_by f ms)
unfolding said_by Each LowSide or_else
low_first f h [] p = tt
low_first f h (m ∷ ms) p = or (f m) (said_by f ms) (h m p.0) (low_first f h ms p.1)
  where
    or : (a b : Option Side) → LowSide a → LowSide b → LowSide (or_else a b)
    or none b x y = y
    or (some s) b x y = x

-- What a line says as a modifier.
module _ (l : Line) (h : Low l) where
  low_by_name : (m : ModifierName) (bs : List Byte) → LowRead (modifier_in m l.number bs)
  unfolding modifier_in bind LowRead LowSaid
  low_by_name of_repeat bs = of (repeat_in bs)
    where
      of : (o : Option ℕ) → LowRead (bind o (λ k. some (repeated k)))
      of none = tt
      of (some k) = tt
  low_by_name of_cut_start bs = of (cut_in bs)
    where
      of : (o : Option Cut) → LowRead (bind o (λ c. some (cut_start c)))
      of none = tt
      of (some c) = tt
  low_by_name of_cut_end bs = of (cut_in bs)
    where
      of : (o : Option Cut) → LowRead (bind o (λ c. some (cut_end c)))
      of none = tt
      of (some c) = tt
  low_by_name of_before bs = of (side_text bs)
    where
      of : (o : Option Items) → LowRead (bind o (λ r. some (before l.number r)))
      of none = tt
      of (some r) = h
  low_by_name of_after bs = of (side_text bs)
    where
      of : (o : Option Items) → LowRead (bind o (λ r. some (after l.number r)))
      of none = tt
      of (some r) = h

  low_named : (o : Option ModifierName) → LowRead (bind o (λ m. modifier_in m l.number (setting_of l)))
  unfolding LowRead bind
  low_named none = tt
  low_named (some m) = low_by_name m (setting_of l)

  low_by_kind : (k : Kind) → LowRead (modifier_by_as chord_in k l)
  unfolding modifier_by_as modifier_of LowRead
  low_by_kind key_line = tt
  low_by_kind modifier_line = low_named (modifier_name_of l)
  low_by_kind pattern_line = tt

low_modifiers : (ls : List Line) → Each Low ls → Each LowSaid (filter_map modifier_on ls)
unfolding filter_map Each modifier_on prepend LowRead
low_modifiers [] p = tt
low_modifiers (l ∷ ls) p =
    with_one (modifier_by_as chord_in (kind_of_line l) l) (filter_map modifier_on ls) (low_by_kind l p.0 (kind_of_line l)) (low_modifiers ls p.1)
  where
    with_one : (o : Option Modifier) (ms : List Modifier) → LowRead o → Each LowSaid ms → Each LowSaid (prepend o ms)
    with_one none ms x y = y
    with_one (some m) ms x y = (x, y)

-- A section of such lines.
record LowSection (x : Section) : Type 0 where
  pub header : LowLine x.header
  pub before : LowSide x.modifiers.before
  pub after : LowSide x.modifiers.after

low_section : (b : Block) → LowBlock b → LowSection (section_in b)
unfolding section_in modifiers_said body LowBlock
low_section b h =
    let ms = low_modifiers (body b) (each_taken Low not_dashes b.others h.1) in
    record {
      header = h.0;
      before = low_first before_said low_before (filter_map modifier_on (body b)) ms;
      after = low_first after_said low_after (filter_map modifier_on (body b)) ms;
    }

low_sections : (bs : List Block) → Each LowBlock bs → Each LowSection (map section_in bs)
unfolding Each
low_sections [] h = tt
low_sections (b ∷ bs) h = (low_section b h.0, low_sections bs h.1)

-- The complaints.
fine_row : (n line : ℕ) (r : Items) → LowLine line → Fine (row_faults n line r)
unfolding row_faults complain_if when Each
fine_row n line r h =
    each_append Small (complain_if (not (all_fit n r)) 12 line) (complain_if (stray none r) 13 line)
    (one (not (all_fit n r)) 12 (omega arith, omega arith)) (one (stray none r) 13 (omega arith, omega arith))
  where
    one : (t : Bool) (number : ℕ) → (1 ≤ number) × (number < 32) → Fine (complain_if t number line)
    one true number a = ((a.1, h, a.0), tt)
    one false number a = tt

fine_played : (n line : ℕ) (o : Option Items) → LowLine line → Fine (played_faults n line o)
unfolding played_faults Each
fine_played n line none h = tt
fine_played n line (some r) h = fine_row n line r h

fine_side : (n : ℕ) (o : Option Side) → LowSide o → Fine (side_faults n o)
unfolding side_faults LowSide Each
fine_side n none h = tt
fine_side n (some x) h = fine_row n x.line x.items h

fine_section : (s : Song) (x : Section) → LowSection x → Fine (section_meter s x)
unfolding section_meter
fine_section s x h =
    let n = time_of s x in
    let p = played_faults n x.header (pattern_items s.definitions x.pattern) in
    each_append Small (p ++ side_faults n x.modifiers.before) (side_faults n x.modifiers.after)
    (each_append Small p (side_faults n x.modifiers.before) (fine_played n x.header (pattern_items s.definitions x.pattern) h.header)
    (fine_side n x.modifiers.before h.before)) (fine_side n x.modifiers.after h.after)

pub meters_small : (s : List ℕ) → length s ≤ 65536 → Each Small (meter_faults (song_of s))
unfolding meter_faults song_of song_in
meters_small s h =
    fine_gather (section_meter (song_of s)) (fine_section (song_of s)) (map section_in (section_blocks (blocks_of s)))
    (low_sections (section_blocks (blocks_of s)) (sections_low s h))
