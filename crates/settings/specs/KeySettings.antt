-- The settings of keys, by the names that the code answers.
use Rattle.std.specs.Prelude.{List, Bool}
use Rattle.songcode.specs.Bytes.{Byte}
use Rattle.songcode.specs.Song as song
use Rattle.songcode.specs.Answer.Keys.{is_setting}
use Rattle.settings.specs.declared.keys.KeyName.{KeyName}
use Rattle.settings.specs.declared.keys.KeyName.TheVariants.{Name, Artist, Original, Capo, Bpm, Time, Warning, End}

unfoldable pub is_setting_of : KeyName → List Byte → Bool
is_setting_of Name bs = is_setting song.name bs
is_setting_of Artist bs = is_setting song.artist bs
is_setting_of Original bs = is_setting song.original bs
is_setting_of Capo bs = is_setting song.capo bs
is_setting_of Bpm bs = is_setting song.bpm bs
is_setting_of Time bs = is_setting song.time bs
is_setting_of Warning bs = is_setting song.warning bs
is_setting_of End bs = is_setting song.end bs
