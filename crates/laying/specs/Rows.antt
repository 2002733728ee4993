-- A section laid into the row: the words of its parts as the code reads them, and what the row holds then.
use Rattle.std.specs.Prelude.{ℕ, ◌+◌, ◌-◌, ◌*◌, ◌/◌, ◌<◌, ◌≤◌, ◌≡◌, Bool, ◌||◌, eqb, length, take, drop, set, is_some}
use mathlib.Core.List.{List, [], ◌∷◌, ◌++◌, map, flat_map}
use Rattle.std.proofs.Math.Option.{get_or}
use Rattle.std.proofs.lemmas.List.Edits.{sets}
use Rattle.songcode.specs.Lists.{provided◌then◌else◌}
use Rattle.songcode.specs.Song.{Song}
use Rattle.songcode.specs.Answer.Lines.{Block, blocks}
use Rattle.songcode.specs.Answer.Sections.{lyric_line}
use Rattle.songcode.specs.Answer.Playing.{time_among, bpm_among, time_of}
use Rattle.songcode.specs.Answer.Answer.{song_of}
use Rattle.std.specs.Prelude as std
use Rattle.std.specs.Prelude.{Some, None}
use Rattle.cuts.specs.declared.Cut.{Cut}
use Rattle.tokens.specs.TokenWords.{token_words}
use Rattle.score.specs.declared.stretches.Stretch.{Stretch}
use Rattle.score.specs.Places.{played_text}
use Rattle.score.specs.Sections.{cuts_by, lyric_row, bit, section_row}
use Rattle.score.specs.Fitting.{SectionFits}
use Rattle.score.specs.Seen.{Holds}
use Rattle.sections.specs.declared.values.Keys.{Keys}
use Rattle.sections.specs.declared.values.Modifiers.{Modifiers}
use Rattle.sections.specs.declared.blocks.Place.{Place}
use Rattle.sections.specs.declared.blocks.SectionRead.{SectionRead}
use Rattle.sections.specs.Runs.{text_lines, lines_of}
use Rattle.sections.specs.Slots.{setting_at}
use Rattle.sections.specs.Onward.{section_at}
use Rattle.laying.specs.declared.rows.Heads.{Heads}
use Rattle.laying.specs.declared.rows.Places.{Places}
use Rattle.laying.specs.declared.texts.Opened.{Opened}
use Rattle.laying.specs.declared.texts.Text.{Text}
use Rattle.laying.specs.declared.texts.Texts.{Texts}
use Rattle.outlines.specs.declared.readings.Outline.{Outline}
use Rattle.outlines.specs.Readings.{outlined}
use Rattle.outlines.specs.Words.{look_up}
use Rattle.laying.specs.Laying.{run_tokens, said_tokens, weight, Names}
use Rattle.laying.specs.Scores.{Ready, Opens}

-- "N is the section's time, else the song's"; 0 is no time. "bpm (section's, else song's, else 511)"
unfoldable pub meter_of : ℕ → ℕ → ℕ
unfolding provided◌then◌else◌
meter_of own song = provided eqb own 0 then (provided eqb song 0 then 4 else song) else own

unfoldable pub tempo_of : ℕ → ℕ → ℕ
unfolding provided◌then◌else◌
tempo_of own song = provided eqb own 511 then song else own

-- The word that tells where a text stands: offset 16, length 16; 0 for an empty text.
unfoldable pub place_word : ℕ → ℕ → ℕ
unfolding provided◌then◌else◌
place_word start stop = provided eqb start stop then 0 else start * 65536 + (stop - start)

-- The words of the cuts as the code reads them.
abbrev pub read_word : std.Option Cut → ℕ
read_word (Some c) = c.measures.0 * 262144 + c.beats.0 * 16
read_word None = 0

abbrev pub has_cut : Modifiers → Bool
has_cut m = is_some m.front || is_some m.back

unfoldable pub cuts_said : Modifiers → List ℕ
unfolding cuts_by
cuts_said m = cuts_by (has_cut m) (read_word m.front) (read_word m.back)

-- The words of the parts of a section that is read.
unfoldable pub lead_said : List ℕ → SectionRead → List ℕ
unfolding token_words said_tokens setting_at
lead_said s r = token_words (said_tokens (setting_at s r.modifiers.before))

unfoldable pub pattern_said : List ℕ → SectionRead → List ℕ
unfolding token_words run_tokens lines_of
pattern_said s r = token_words (run_tokens (lines_of s r.pattern))

unfoldable pub tail_said : List ℕ → SectionRead → List ℕ
unfolding token_words said_tokens setting_at
tail_said s r = token_words (said_tokens (setting_at s r.modifiers.after))

unfoldable pub lyrics_said : List ℕ → SectionRead → List ℕ
unfolding flat_map lyric_row lines_of
lyrics_said s r = flat_map lyric_row (map lyric_line (lines_of s r.lyrics))

unfoldable pub parts_said : List ℕ → SectionRead → List ℕ
unfolding cuts_said lead_said pattern_said tail_said lyrics_said
parts_said s r = cuts_said r.modifiers ++ (lead_said s r ++ (pattern_said s r ++ (tail_said s r ++ lyrics_said s r)))

-- Where they stand, one behind the other from a place on.
pub record PlacesAre (s : List ℕ) (r : SectionRead) (at : ℕ) (p : Places) : Type 0 where
  pub from : p.from ≡ at + length (cuts_said r.modifiers)
  pub begun : p.begun ≡ p.from + length (lead_said s r)
  pub ended : p.ended ≡ p.begun + length (pattern_said s r)
  pub last : p.last ≡ p.ended + length (tail_said s r)
  pub end : p.end ≡ p.last + 2 * length (lines_of s r.lyrics)

-- The four words about a section, stored from the last to the first.
abbrev pub about_section : SectionRead → Heads → ℕ → Places → List ℕ → List ℕ
about_section r h at p ws =
    set (set (set (set ws (at + 3) ((p.end - p.last) / 2 * 65536 + h.even))
    (at + 2) ((p.begun - p.from) * 65536 + (p.last - p.ended)))
    (at + 1) ((r.header - 1) * 65536 + r.modifiers.repeat * 4 + bit (has_cut r.modifiers) * 2))
    at ((p.end - at) * 32768 + h.meter * 512 + h.tempo)

-- What a text says; one that names a definition says what that definition does.
unfoldable pub outline_by : List ℕ → Stretch → ℕ → Outline
unfolding provided◌then◌else◌ outlined look_up
outline_by ws t n = provided eqb n 0 then outlined (look_up ws) (drop t.from (take t.to ws)) else look_up ws n

-- The texts at these places, with what they say; a pattern that names a definition plays that definition's text.
abbrev pub text_at : List ℕ → ℕ → ℕ → Text
text_at ws from to = record { at = record { from = from; to = to }; outline = outlined (look_up ws) (drop from (take to ws)) }

abbrev pub told_texts : List ℕ → Places → Outline → Texts
told_texts ws p o =
    record {
      lead = text_at ws p.from p.begun;
      pattern = record { at = played_text ws (record { from = p.begun; to = p.ended }); outline = o };
      tail = text_at ws p.ended p.last;
    }

-- The bytes of some blocks, with one for each line end and one for the blank line behind each: as many words are enough for their sections.
unfoldable pub bulk : List Block → ℕ
unfolding weight
bulk [] = 0
bulk (b ∷ bs) = weight (b.first ∷ b.others) + 1 + bulk bs

-- The sections from a place on have room in the row from there on.
unfoldable pub RoomFor : List ℕ → Place → ℕ → Type 0
unfolding bulk
RoomFor s p at = at + bulk (blocks (text_lines s p.number p.at)) ≤ length s + 3

-- The definitions stand in the row before a place.
pub record Before (s ws : List ℕ) (at : ℕ) : Type 0 where
  pub mark : ℕ
  pub ready : Ready s ws mark
  pub below : mark < at

-- The song's time, 0 where it has none, and its bpm, 511 where it has none.
pub record SongKeys (song : Song) (k : Keys) : Type 0 where
  pub time : k.time ≡ get_or (time_among song.keys) 0
  pub time_fits : k.time ≤ 32
  pub bpm : k.bpm ≡ get_or (bpm_among song.keys) 511
  pub bpm_fits : k.bpm ≤ 511

-- The section at the place is laid from a place of the row on, and opened.
pub record Lays (s : List ℕ) (p : Place) (song : Keys) (at : ℕ) (old new : List ℕ) (r : Opened) : Type 0 where
  pub opens : Opens s p new r
  pub names : Names (section_at s p).pattern r.named
  pub lyrics : Holds new r.lyrics (flat_map lyric_row (section_at s p).lyrics)
  pub lyrics_end : r.lyrics.to ≡ r.end
  pub said : r.meter ≡ meter_of r.section.keys.time song.time
  pub meter : r.meter ≡ time_of (song_of s) (section_at s p)
  pub words : new ≡ sets old at (section_row (song_of s) (section_at s p))
  pub end : r.end ≡ at + length (section_row (song_of s) (section_at s p))
  pub fits : SectionFits (song_of s) (section_at s p)
  pub room : RoomFor s r.next r.end
  pub before : Before s new r.end
