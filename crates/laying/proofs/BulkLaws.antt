-- How many words the sections of some blocks take: no more than their bytes, each line with one for its end, each block with one for the blank line.
use Prim.Native.Nat.{ℕ, ◌+◌, ◌*◌, ◌<◌, ◌≤◌}
use mathlib.Core.Path.{◌≡◌, refl}
use mathlib.Core.List.{List, [], ◌∷◌}
use mathlib.Core.Bool.{false, ◌||◌}
use mathlib.Core.Option.{Option, none, some}
use native.Mathlib.Omega.{arith}
use borrow.Author.Tests.{eqb-true}
use lib.Dec.{eqb}
use lib.ListN.{length}
use Rattle.songcode.specs.Lists.{provided◌then◌else◌, is_empty, is_some, taken, left}
use Rattle.songcode.specs.Bytes.{Byte}
use Rattle.songcode.specs.Answer.Lines.{Line, Block, shut, join, runs, blocks}
use Rattle.songcode.specs.Answer.Sections.{kind_of_line, kind_of, setting_of, is_pattern_line, not_pattern_line, not_dashes, pattern_run, body, from_dashes}
use Rattle.songcode.proofs.ListLaws.{by_cases, Each, true_is_not_false}
use Rattle.sections.proofs.ListLaws.{each_left}
use Rattle.sections.specs.declared.blocks.Place.{Place}
use Rattle.sections.specs.Runs.{text_lines}
use Rattle.sections.specs.Slots.{slot_of, slot_by, Setting, setting_among}
use Rattle.sections.specs.BlockParts.{late_lines, behind_dashes}
use Rattle.laying.specs.Laying.{weight, said_weight}
use Rattle.laying.specs.Rows.{bulk, RoomFor}
use Rattle.laying.proofs.WeightLaws.{weight_parts, weight_lines, setting_length}

-- A line that is not blank.
unfoldable pub Solid : Line → Type 0
Solid l = 1 ≤ length l.text

unfoldable pub SolidBlock : Block → Type 0
unfolding Solid Each
SolidBlock b = Solid b.first × Each Solid b.others

-- What the runs of lines weigh, and that their lines are not blank.
module _ where
  shut_bulk : (ls : List Line) (bs : List Block) → bulk (shut ls bs) ≤ weight ls + 1 + bulk bs
  unfolding shut bulk weight
  shut_bulk [] bs = omega arith
  shut_bulk (l ∷ ls) bs = omega arith

  runs_bulk : (ls : List Line) → weight (runs ls).front + bulk (runs ls).rest ≤ weight ls
  unfolding runs join weight bulk
  runs_bulk [] = omega arith
  runs_bulk (l ∷ ls) =
      let h = runs_bulk ls in
      let k = shut_bulk (runs ls).front (runs ls).rest in
      by_cases (is_empty l.text) (λ e. rw e (omega arith)) (λ e. rw e (omega arith))

  pub blocks_bulk : (ls : List Line) → bulk (blocks ls) ≤ weight ls + 1
  unfolding blocks
  blocks_bulk ls =
      let h = runs_bulk ls in
      let k = shut_bulk (runs ls).front (runs ls).rest in
      omega arith

  shut_solid : (ls : List Line) (bs : List Block) → Each Solid ls → Each SolidBlock bs → Each SolidBlock (shut ls bs)
  unfolding shut Each SolidBlock
  shut_solid [] bs f g = g
  shut_solid (l ∷ ls) bs f g = (f, g)

  solid_text : (bs : List Byte) → is_empty bs ≡ false → 1 ≤ length bs
  unfolding is_empty
  solid_text [] z = absurd (true_is_not_false refl z)
  solid_text (b ∷ bs) z = omega arith

  solid_line : (l : Line) → is_empty l.text ≡ false → Solid l
  unfolding Solid
  solid_line l e = solid_text l.text e

  runs_solid : (ls : List Line) → Each Solid (runs ls).front × Each SolidBlock (runs ls).rest
  unfolding runs join Each
  runs_solid [] = (tt, tt)
  runs_solid (l ∷ ls) =
      let h = runs_solid ls in
      by_cases (is_empty l.text) (λ e. rw e (tt, shut_solid (runs ls).front (runs ls).rest h.0 h.1))
      (λ e. rw e ((solid_line l e, h.0), h.1))

  pub blocks_solid : (ls : List Line) → Each SolidBlock (blocks ls)
  unfolding blocks
  blocks_solid ls = let h = runs_solid ls in shut_solid (runs ls).front (runs ls).rest h.0 h.1

solid_two : (ls : List Line) → Each Solid ls → 2 * length ls ≤ weight ls
unfolding weight Each Solid
solid_two [] h = omega arith
solid_two (l ∷ ls) h =
    let k = solid_two ls h.1 in
    let m = h.0 in
    omega arith

-- A line that says a setting is not blank.
slot_solid : (l : Line) (k : ℕ) → k < 13 → slot_of l ≡ k → 1 ≤ length l.text
unfolding slot_of slot_by kind_of_line kind_of
slot_solid l k h e = go l.text refl
  where
    go : (bs : List Byte) → l.text ≡ bs → 1 ≤ length bs
    go [] z =
        let y : slot_of l ≡ 13 = rw z in
        let x : ⊥ = omega arith in
        absurd x
    go (b ∷ bs) z = omega arith

-- The modifiers of a section: a lead-in and a tail on lines of their own, and cuts on others.
unfoldable pub cuts_there : Option Setting → Option Setting → ℕ
unfolding is_some provided◌then◌else◌
cuts_there a b = provided is_some a || is_some b then 2 else 0

cuts_most : (a b : Option Setting) → cuts_there a b ≤ 2
unfolding cuts_there is_some provided◌then◌else◌
cuts_most none none = omega arith
cuts_most none (some x) = omega arith
cuts_most (some x) b = omega arith

cuts_none : 0 + 0 + cuts_there none none ≤ 0
unfolding cuts_there is_some provided◌then◌else◌
cuts_none = omega arith

pub modifiers_weight : (ls : List Line) → said_weight (setting_among 11 ls) + said_weight (setting_among 12 ls)
    + cuts_there (setting_among 9 ls) (setting_among 10 ls) ≤ weight ls
unfolding setting_among said_weight weight provided◌then◌else◌
modifiers_weight [] = cuts_none
modifiers_weight (l ∷ ls) =
    let h = modifiers_weight ls in
    let m = setting_length l in
    let said : Setting = record { line = l.number; text = setting_of l } in
    by_cases (eqb (slot_of l) 11)
    (λ e. let k = eqb-true (slot_of l) 11 e in rw (e, k) (omega arith))
    (λ e. by_cases (eqb (slot_of l) 12)
    (λ f. let k = eqb-true (slot_of l) 12 f in rw (e, f, k) (omega arith))
    (λ f. by_cases (eqb (slot_of l) 9)
    (λ g. let k = eqb-true (slot_of l) 9 g in
    let s = slot_solid l 9 (omega arith) k in
    let most = cuts_most (some said) (setting_among 10 ls) in rw (e, f, g, k) (omega arith))
    (λ g. by_cases (eqb (slot_of l) 10)
    (λ i. let k = eqb-true (slot_of l) 10 i in
    let s = slot_solid l 10 (omega arith) k in
    let most = cuts_most (setting_among 9 ls) (some said) in rw (e, f, g, i) (omega arith))
    (λ i. rw (e, f, g, i) (omega arith)))))

-- The lines of a section's block: its words are fewer than these and the blank line behind them.
behind_solid : (ls : List Line) → Each Solid ls → Each Solid (behind_dashes ls)
unfolding behind_dashes Each
behind_solid [] h = tt
behind_solid (l ∷ ls) h = h.1

behind_weight : (ls : List Line) → weight (behind_dashes ls) ≤ weight ls
unfolding behind_dashes weight
behind_weight [] = omega arith
behind_weight (l ∷ ls) = omega arith

pub section_weight : (b : Block) → SolidBlock b
    → said_weight (setting_among 11 (late_lines (body b))) + said_weight (setting_among 12 (late_lines (body b)))
    + cuts_there (setting_among 9 (late_lines (body b))) (setting_among 10 (late_lines (body b)))
    + weight (pattern_run (body b)) + 2 * length (behind_dashes (from_dashes b)) + 2 ≤ weight (b.first ∷ b.others)
unfolding SolidBlock Solid body from_dashes late_lines pattern_run weight
section_weight b h =
    let ls = taken not_dashes b.others in
    let a = weight_parts not_dashes b.others in
    let c = weight_parts not_pattern_line ls in
    let d = weight_parts is_pattern_line (left not_pattern_line ls) in
    let e = modifiers_weight (left is_pattern_line (left not_pattern_line ls)) in
    let f = solid_two (behind_dashes (left not_dashes b.others)) (behind_solid _ (each_left Solid not_dashes b.others h.1)) in
    let g = behind_weight (left not_dashes b.others) in
    let k = h.0 in
    omega arith

-- The sections begin behind the definitions.
pub room_start : (s : List ℕ) (p : Place) (mark : ℕ) → p.at ≤ length s → mark ≤ p.at → RoomFor s p (mark + 1)
unfolding RoomFor
room_start s p mark h k =
    let a = blocks_bulk (text_lines s p.number p.at) in
    let b = weight_lines s p.number p.at h in
    omega arith
