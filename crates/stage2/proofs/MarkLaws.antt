-- The marks that the code keeps agree with the lists of what was said.
use Prim.Native.Nat.{ℕ, ◌<◌}
use mathlib.Core.Path.{◌≡◌, refl, sym, ◌∙◌}
use mathlib.Core.List.{List, [], ◌∷◌}
use mathlib.Core.Bool.{Bool, true, false}
use mathlib.Core.Option.{Option, bind}
use mathlib.Core.Option as option
use native.Mathlib.Omega.{arith}
use borrow.Author.Tests.{lt-ltb, eqb-true, eqb-false}
use lib.Dec.{eqb}
use lib.ListN.{length, get_or, set, length-set, get_or-replicate}
use lib.Seq.{get_or-set_same, get_or-set_other}
use Rattle.songcode.specs.Lists.{provided◌then◌else◌, any, prepend}
use Rattle.songcode.specs.Answer.Lines.{Line}
use Rattle.songcode.specs.Song.{KeyName, name, artist, original, capo, bpm, time, warning, end}
use Rattle.songcode.specs.Answer.Keys.{key_place}
use Rattle.songcode.specs.Answer.Modifiers.{ModifierName, of_repeat, of_cut_start, of_cut_end, of_before, of_after, modifier_place}
use Rattle.songcode.specs.Answer.Sections.{kind_of_line, key_name_of, modifier_name_of, key_said, modifier_said, twice_by}
use Rattle.songcode.proofs.LineAgree.{by_kind}
use Rattle.songcode.proofs.ListLaws.{by_cases}
use Rattle.refusals.specs.Ranks.{least}
use Rattle.stage2.specs.States.{no_marks, again, marked}

-- What a line says is one of eight things.
unfoldable pub Below : Option ℕ → Type 0
Below option.none = Unit {0}
Below (option.some k) = k < 8

key_below : (o : Option KeyName) → Below (bind o (λ k. option.some (key_place k)))
unfolding bind Below key_place
key_below option.none = tt
key_below (option.some name) = omega arith
key_below (option.some artist) = omega arith
key_below (option.some original) = omega arith
key_below (option.some capo) = omega arith
key_below (option.some bpm) = omega arith
key_below (option.some time) = omega arith
key_below (option.some warning) = omega arith
key_below (option.some end) = omega arith

modifier_below : (o : Option ModifierName) → Below (bind o (λ m. option.some (modifier_place m)))
unfolding bind Below modifier_place
modifier_below option.none = tt
modifier_below (option.some of_repeat) = omega arith
modifier_below (option.some of_cut_start) = omega arith
modifier_below (option.some of_cut_end) = omega arith
modifier_below (option.some of_before) = omega arith
modifier_below (option.some of_after) = omega arith

pub key_said_below : (l : Line) → Below (key_said l)
unfolding key_said Below
key_said_below l =
    by_kind (kind_of_line l) (λ e. rw (e, key_said) (key_below (key_name_of l))) (λ e. rw (e, key_said) tt) (λ e. rw (e, key_said) tt)

pub modifier_said_below : (l : Line) → Below (modifier_said l)
unfolding modifier_said Below
modifier_said_below l =
    by_kind (kind_of_line l) (λ e. rw (e, modifier_said) tt) (λ e. rw (e, modifier_said) (modifier_below (modifier_name_of l))) (λ e. rw (e, modifier_said) tt)

-- A mark is there exactly if the thing was said.
abbrev pub said : ℕ → List ℕ → Bool
said k seen = any (λ x. eqb x k) seen

abbrev pub Agrees : List Bool → List ℕ → Type 0
Agrees marks seen = (length marks ≡ 8) × ((k : ℕ) → k < 8 → get_or marks k false ≡ said k seen)

pub none_agrees : Agrees no_marks []
unfolding any
none_agrees = (refl, λ k h. get_or-replicate 8 k false false h)

pub again_agrees : (number : ℕ) (o : Option ℕ) (marks : List Bool) (seen : List ℕ) (l : Line) → Below o → Agrees marks seen
    → again number (option.get_or o 8) marks l.number ≡ least (twice_by number o seen l)
unfolding again twice_by Below least provided◌then◌else◌
again_agrees number option.none marks seen l b h = refl
again_agrees number (option.some k) marks seen l b h = rw (lt-ltb k 8 b, h.1 k b) refl

put_agrees : (marks : List Bool) (seen : List ℕ) (j : ℕ) → j < 8 → Agrees marks seen → (k : ℕ) → k < 8 → get_or (set marks j true) k false ≡ said k (j ∷ seen)
unfolding any
put_agrees marks seen j b h k c =
    by_cases
    (eqb j k)
    (λ e. let s = eqb-true j k e in rw (e, ← s, get_or-set_same marks j true false (omega arith)) refl)
    (λ e. let n = eqb-false j k e in rw (e, get_or-set_other marks j k true false (λ z. n (sym z))) (h.1 k c))

pub marked_agrees : (o : Option ℕ) (marks : List Bool) (seen : List ℕ) → Below o → Agrees marks seen
    → Agrees (marked (option.get_or o 8) marks) (prepend o seen)
unfolding marked prepend Below provided◌then◌else◌
marked_agrees option.none marks seen b h = h
marked_agrees (option.some j) marks seen b h = rw (lt-ltb j 8 b) (length-set marks j true ∙ h.0, put_agrees marks seen j b h)
