-- "every line is `@key` and, after spaces, its setting": keys and their settings.
use Rattle.std.specs.Prelude.{ℕ, List, Bool, true, false, ◌&&◌, not, leb}
use Prim.Native.Char.{code}
use Rattle.std.proofs.Math.Option.{Option, none, some}
use Rattle.songcode.specs.Lists.{provided◌then◌else◌, taken, left, is_some}
use Rattle.songcode.specs.Bytes.{Byte, is, is_byte, is_blank, not_blank}
use Rattle.songcode.specs.Answer.Characters.{characters}
use Rattle.songcode.specs.Answer.Numbers.{number_in}
use Rattle.songcode.specs.Answer.Chords.{is_base}
use Rattle.songcode.specs.Song.{KeyName, name, artist, original, capo, bpm, time, warning, end}

-- "Key and modifier names run to the first space or the line's end."
unfoldable pub name_in : List Byte → List Byte
unfolding taken not_blank
name_in bs = taken not_blank bs

unfoldable pub setting_in : List Byte → List Byte
unfolding left not_blank is_blank
setting_in bs = left is_blank (left not_blank bs)

unfoldable pub key_named : List Byte → Option KeyName
unfolding provided◌then◌else◌ is
key_named w =
    provided is "name" w then some name
    else provided is "artist" w then some artist
    else provided is "original" w then some original
    else provided is "capo" w then some capo
    else provided is "bpm" w then some bpm
    else provided is "time" w then some time
    else provided is "warning" w then some warning
    else provided is "end" w then some end
    else none

-- "1 to 100 characters"
unfoldable pub is_phrase : List Byte → Bool
unfolding characters
is_phrase bs = leb 1 (characters bs) && leb (characters bs) 100

-- "bpm (0 to 400)"
unfoldable pub bpm_in : List Byte → Option ℕ
unfolding number_in
bpm_in bs = number_in 0 400 bs

-- "time (`n/4`, n from 1 to 32)"
unfoldable pub time_in : List Byte → Option ℕ
unfolding provided◌then◌else◌ is is_byte taken left number_in
time_in bs =
    provided is "/4" (left (λ b. not (is_byte (code "/") b)) bs) then number_in 1 32 (taken (λ b. not (is_byte (code "/") b)) bs) else none

unfoldable pub is_setting : KeyName → List Byte → Bool
unfolding is_phrase is_base is_some number_in bpm_in time_in
is_setting name bs = is_phrase bs
is_setting artist bs = is_phrase bs
is_setting original bs = is_base bs
is_setting capo bs = is_some (number_in 1 20 bs)
is_setting bpm bs = is_some (bpm_in bs)
is_setting time bs = is_some (time_in bs)
is_setting warning bs = is_phrase bs
is_setting end bs = is_phrase bs

-- A section's keys are "bpm, time"; metadata has all eight.
unfoldable pub of_section : KeyName → Bool
of_section name = false
of_section artist = false
of_section original = false
of_section capo = false
of_section bpm = true
of_section time = true
of_section warning = false
of_section end = false

unfoldable pub of_metadata : KeyName → Bool
of_metadata k = true

-- "keys, 8 in the order name, artist, original, capo, bpm, time, warning, end"
unfoldable pub key_place : KeyName → ℕ
key_place name = 0
key_place artist = 1
key_place original = 2
key_place capo = 3
key_place bpm = 4
key_place time = 5
key_place warning = 6
key_place end = 7
