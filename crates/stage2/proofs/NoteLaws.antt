-- A line's own faults are what the code notes of its name and its setting.
use mathlib.Core.Path.{◌≡◌, refl}
use mathlib.Core.List.{List}
use mathlib.Core.Bool.{Bool, true, false, not}
use mathlib.Core.Option.{Option, none, some, get_or, bind}
use Rattle.songcode.specs.Lists.{is_some, when}
use Rattle.songcode.specs.Bytes.{Byte}
use Rattle.songcode.specs.Answer.Lines.{Line}
use Rattle.songcode.specs.Answer.Numbers.{repeat_in}
use Rattle.songcode.specs.Song.{KeyName, name, artist, original, capo, bpm, time, warning, end, repeated, cut_start, cut_end, before, after}
use Rattle.songcode.specs.Answer.Keys.{is_setting, of_section, of_metadata, key_place}
use Rattle.songcode.specs.Answer.Modifiers.{ModifierName, of_repeat, of_cut_start, of_cut_end, of_before, of_after, modifier_in, setting_refusal}
use Rattle.songcode.specs.Answer.Modifiers.{modifier_place, cut_in}
use Rattle.songcode.specs.Answer.PatternText.{side_text}
use Rattle.songcode.specs.Complaints.{complain_if}
use Rattle.songcode.specs.Answer.Sections.{setting_of, key_faults_by, modifier_faults_by}
use Rattle.std.specs.Prelude as std
use Rattle.settings.specs.declared.keys.KeyName as code
use Rattle.settings.specs.declared.keys.KeyName.TheVariants as coded_as
use Rattle.settings.specs.Names.{key_is, modifier_is}
use Rattle.settings.specs.KeySettings.{is_setting_of}
use Rattle.refusals.specs.Ranks.{least}
use Rattle.stage2.specs.LineNotes.{key_number, modifier_number, allowed_in, key_note, setting_fine, modifier_note}
use Rattle.refusals.proofs.RankLaws.{least_append}

-- Where keys stand.
unfoldable pub allowed_by : Bool → KeyName → Bool
allowed_by true = of_section
allowed_by false = of_metadata

-- The code's name of a key.
abbrev key_code : KeyName → code.KeyName
key_code name = coded_as.Name
key_code artist = coded_as.Artist
key_code original = coded_as.Original
key_code capo = coded_as.Capo
key_code bpm = coded_as.Bpm
key_code time = coded_as.Time
key_code warning = coded_as.Warning
key_code end = coded_as.End

coded : (k : KeyName) → key_is (some k) ≡ std.Some (key_code k)
unfolding key_is
coded name = refl
coded artist = refl
coded original = refl
coded capo = refl
coded bpm = refl
coded time = refl
coded warning = refl
coded end = refl

allowed_same : (section : Bool) (k : KeyName) → allowed_in section (key_code k) ≡ allowed_by section k
unfolding allowed_by of_section of_metadata
allowed_same true name = refl
allowed_same true artist = refl
allowed_same true original = refl
allowed_same true capo = refl
allowed_same true bpm = refl
allowed_same true time = refl
allowed_same true warning = refl
allowed_same true end = refl
allowed_same false name = refl
allowed_same false artist = refl
allowed_same false original = refl
allowed_same false capo = refl
allowed_same false bpm = refl
allowed_same false time = refl
allowed_same false warning = refl
allowed_same false end = refl

setting_same : (k : KeyName) (bs : List Byte) → is_setting_of (key_code k) bs ≡ is_setting k bs
unfolding is_setting_of
setting_same name bs = refl
setting_same artist bs = refl
setting_same original bs = refl
setting_same capo bs = refl
setting_same bpm bs = refl
setting_same time bs = refl
setting_same warning bs = refl
setting_same end bs = refl

pub key_note_lem : (section : Bool) (o : Option KeyName) (l : Line) → least (key_faults_by (allowed_by section) o l) ≡ key_note section (key_is o)
    (setting_of l) l.number
unfolding key_faults_by key_note key_is complain_if when
key_note_lem section none l = refl
key_note_lem section (some k) l =
    rw (coded k, allowed_same section k, setting_same k (setting_of l))
    (least_append (complain_if (not (allowed_by section k)) 4 l.number) (complain_if (not (is_setting k (setting_of l))) 5 l.number))

pub key_number_lem : (o : Option KeyName) → key_number (key_is o) ≡ get_or (bind o (λ k. some (key_place k))) 8
unfolding key_is bind key_place
key_number_lem none = refl
key_number_lem (some name) = refl
key_number_lem (some artist) = refl
key_number_lem (some original) = refl
key_number_lem (some capo) = refl
key_number_lem (some bpm) = refl
key_number_lem (some time) = refl
key_number_lem (some warning) = refl
key_number_lem (some end) = refl

pub modifier_number_lem : (o : Option ModifierName) → modifier_number (modifier_is o) ≡ get_or (bind o (λ m. some (modifier_place m))) 8
unfolding modifier_is bind modifier_place
modifier_number_lem none = refl
modifier_number_lem (some of_repeat) = refl
modifier_number_lem (some of_cut_start) = refl
modifier_number_lem (some of_cut_end) = refl
modifier_number_lem (some of_before) = refl
modifier_number_lem (some of_after) = refl

read_on : {A B : Type 0} (o : Option A) (f : A → B) → is_some (bind o (λ x. some (f x))) ≡ is_some o
unfolding is_some bind
read_on none f = refl
read_on (some x) f = refl

pub modifier_note_lem : (o : Option ModifierName) (l : Line) → least (modifier_faults_by o l) ≡ modifier_note (modifier_is o) (setting_of l) l.number
unfolding modifier_faults_by modifier_note modifier_is setting_fine modifier_in setting_refusal complain_if when
modifier_note_lem none l = refl
modifier_note_lem (some of_repeat) l = rw (read_on (repeat_in (setting_of l)) repeated) refl
modifier_note_lem (some of_cut_start) l = rw (read_on (cut_in (setting_of l)) cut_start) refl
modifier_note_lem (some of_cut_end) l = rw (read_on (cut_in (setting_of l)) cut_end) refl
modifier_note_lem (some of_before) l = rw (read_on (side_text (setting_of l)) (before l.number)) refl
modifier_note_lem (some of_after) l = rw (read_on (side_text (setting_of l)) (after l.number)) refl
