-- "The modifiers: `_repeat n`, `_cutStart c`, `_cutEnd c`, `_before p`, `_after p`."
use Rattle.std.specs.Prelude.{ℕ, List, [], ◌∷◌, Bool, not}
use Prim.Native.Char.{code}
use Rattle.std.proofs.Math.Option.{Option, none, some, or_else, bind}
use Rattle.songcode.specs.Lists.{provided◌then◌else◌, taken, left}
use Rattle.songcode.specs.Bytes.{Byte, is, is_byte}
use Rattle.songcode.specs.Answer.Numbers.{count_in, repeat_in}
use Rattle.songcode.specs.Answer.Chords.{Reading, chord_in}
use Rattle.songcode.specs.Song.{Cut, Modifier, repeated, cut_start, cut_end, before, after, Side, Modifiers}
use Rattle.songcode.specs.Answer.PatternText.{side_text_as}

pub data ModifierName : Type 0 where
  of_repeat of_cut_start of_cut_end of_before of_after : ModifierName

unfoldable pub modifier_named : List Byte → Option ModifierName
unfolding provided◌then◌else◌ is
modifier_named w =
    provided is "repeat" w then some of_repeat
    else provided is "cutStart" w then some of_cut_start
    else provided is "cutEnd" w then some of_cut_end
    else provided is "before" w then some of_before
    else provided is "after" w then some of_after
    else none

unfoldable pub cut : ℕ → ℕ → Cut
cut m b = record { whole = record { measures = m }; further = record { beats = b } }

-- "A cut c is `m`, `-b` or `m-b`."
unfoldable pub is_dash : Byte → Bool
unfolding is_byte
is_dash b = is_byte (code "-") b

unfoldable pub cut_by : List Byte → List Byte → Option Cut
unfolding cut bind count_in
cut_by m [] = bind (count_in m) (λ x. some (cut x 0))
cut_by [] (dash ∷ b) = bind (count_in b) (λ y. some (cut 0 y))
cut_by (d ∷ m) (dash ∷ b) = bind (count_in (d ∷ m)) (λ x. bind (count_in b) (λ y. some (cut x y)))

unfoldable pub cut_in : List Byte → Option Cut
unfolding cut_by taken left is_dash
cut_in bs = cut_by (taken (λ b. not (is_dash b)) bs) (left (λ b. not (is_dash b)) bs)

-- The modifier that a name and its setting say, on the line of that number.
unfoldable pub modifier_in_as : Reading → ModifierName → ℕ → List Byte → Option Modifier
unfolding repeat_in cut_in side_text_as bind
modifier_in_as read of_repeat n bs = bind (repeat_in bs) (λ k. some (repeated k))
modifier_in_as read of_cut_start n bs = bind (cut_in bs) (λ c. some (cut_start c))
modifier_in_as read of_cut_end n bs = bind (cut_in bs) (λ c. some (cut_end c))
modifier_in_as read of_before n bs = bind (side_text_as read bs) (λ r. some (before n r))
modifier_in_as read of_after n bs = bind (side_text_as read bs) (λ r. some (after n r))

-- 5: "setting of a key, repeat or cut malformed or out of range"; 7: "pattern text against the rules".
unfoldable pub setting_refusal : ModifierName → ℕ
setting_refusal of_repeat = 5
setting_refusal of_cut_start = 5
setting_refusal of_cut_end = 5
setting_refusal of_before = 7
setting_refusal of_after = 7

unfoldable pub modifier_place : ModifierName → ℕ
modifier_place of_repeat = 0
modifier_place of_cut_start = 1
modifier_place of_cut_end = 2
modifier_place of_before = 3
modifier_place of_after = 4

-- What one modifier says of each kind.
unfoldable pub repeat_said : Modifier → Option ℕ
repeat_said (repeated n) = some n
repeat_said (cut_start c) = none
repeat_said (cut_end c) = none
repeat_said (before l r) = none
repeat_said (after l r) = none

unfoldable pub cut_start_said : Modifier → Option Cut
cut_start_said (repeated n) = none
cut_start_said (cut_start c) = some c
cut_start_said (cut_end c) = none
cut_start_said (before l r) = none
cut_start_said (after l r) = none

unfoldable pub cut_end_said : Modifier → Option Cut
cut_end_said (repeated n) = none
cut_end_said (cut_start c) = none
cut_end_said (cut_end c) = some c
cut_end_said (before l r) = none
cut_end_said (after l r) = none

unfoldable pub before_said : Modifier → Option Side
before_said (repeated n) = none
before_said (cut_start c) = none
before_said (cut_end c) = none
before_said (before l r) = some (record { line = l; items = r })
before_said (after l r) = none

unfoldable pub after_said : Modifier → Option Side
after_said (repeated n) = none
after_said (cut_start c) = none
after_said (cut_end c) = none
after_said (before l r) = none
after_said (after l r) = some (record { line = l; items = r })

-- The first that is said.
unfoldable pub said_by : {A B : Type 0} → (A → Option B) → List A → Option B
unfolding or_else
said_by f [] = none
said_by f (x ∷ xs) = or_else (f x) (said_by f xs)

-- What a section's modifiers say, each kind looked up among them.
unfoldable pub modifiers_said : List Modifier → Modifiers
unfolding said_by repeat_said cut_start_said cut_end_said before_said after_said
modifiers_said ms =
    record {
      repeat = said_by repeat_said ms;
      cut_start = said_by cut_start_said ms;
      cut_end = said_by cut_end_said ms;
      before = said_by before_said ms;
      after = said_by after_said ms;
    }

-- The same with chords as they are read today.
unfoldable abbrev pub modifier_in : ModifierName → ℕ → List Byte → Option Modifier
unfolding modifier_in_as chord_in
modifier_in = modifier_in_as chord_in
