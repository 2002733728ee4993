-- When the buffer holds the definitions of a song, and the texts of a section.
use Rattle.std.specs.Prelude.{ℕ, ◌+◌, ◌<◌, ◌≤◌, ◌≡◌, List, [], Bool, false, not, eqb, length, Result, Some, MatchResult}
use Rattle.std.proofs.Math.Option.{Option, none, some, bind}
use Rattle.songcode.specs.Lists.{provided◌then◌else◌, is_some}
use Rattle.songcode.specs.Complaints.{earliest}
use Rattle.songcode.specs.Answer.Lines.{blocks}
use Rattle.songcode.specs.Song.{Items, named, Definition, Section, Side}
use Rattle.songcode.specs.Answer.References.{definition_of, pattern_items, definitions_references, reference_faults}
use Rattle.songcode.specs.Answer.Playing.{measures_of}
use Rattle.songcode.specs.Answer.SongText.{section_blocks}
use Rattle.songcode.specs.Answer.Answer.{blocks_of, song_of}
use Rattle.refusals.specs.declared.Refusal.{Refusal}
use Rattle.refusals.specs.Refusals.{told}
use Rattle.tokens.specs.Kept.{KeptFrom}
use Rattle.score.specs.declared.stretches.Stretch.{Stretch}
use Rattle.score.specs.Places.{stretch_of}
use Rattle.player.specs.Walks.{row_of}
use Rattle.player.specs.Texts.{row_words}
use Rattle.outlines.specs.Words.{vacant, look_up, is_missing}
use Rattle.outlines.specs.Told.{Tells}
use Rattle.sections.specs.declared.blocks.Place.{Place}
use Rattle.sections.specs.Runs.{text_lines}
use Rattle.sections.specs.Onward.{sections_from, Onward, section_at, Meets}
use Rattle.laying.specs.declared.definitions.Loaded.{Loaded}
use Rattle.laying.specs.declared.texts.Text.{Text}
use Rattle.laying.specs.declared.texts.Texts.{Texts}
use Rattle.laying.specs.declared.texts.Opened.{Opened}
use Rattle.laying.specs.Laying.{named_at}
use Rattle.laying.specs.Fronts.{Front}

-- The text of the definition of that number, as it is found.
unfoldable pub named_text : List ℕ → ℕ → Text
unfolding stretch_of look_up
named_text ws n = record { at = stretch_of ws n; outline = look_up ws n }

-- Whether a text names an empty definition.
unfoldable pub is_empty_text : List ℕ → Stretch → Bool
unfolding provided◌then◌else◌ named_at look_up
is_empty_text ws t = provided eqb (named_at ws t) 0 then false else (look_up ws (named_at ws t)).empty

-- A text in the buffer that plays these items, references put in, and whose outline tells of them; no items are an empty text.
unfoldable pub Carries : List ℕ → Text → Option Items → Type 0
Carries ws t none = (t.outline ≡ vacant) × ((n : ℕ) → row_of n ws t.at ≡ [])
Carries ws t (some r) = (t.outline.empty ≡ false) × Tells t.outline r × ((n : ℕ) → row_of n ws t.at ≡ row_words (measures_of n none r))

-- What is found of a song's definitions: which are there, and which are not empty.
pub record Told (s ws : List ℕ) : Type 0 where
  pub small : length s ≤ 65536
  pub missing : (n : ℕ) → is_missing ws n ≡ not (is_some (definition_of n (song_of s).definitions))
  pub filled : (n : ℕ) → (named_text ws n).outline.empty ≡ not (is_some (pattern_items (song_of s).definitions (named n)))

-- All definitions of the song stand at the front of the row, up to the mark.
pub record Ready (s ws : List ℕ) (mark : ℕ) : Type 0 where
  pub small : length s ≤ 65536
  pub room : length s < length ws
  pub front : Front (song_of s).definitions (song_of s).definitions ws mark

-- All sections of the song stand from the place on.
pub record Begins (s : List ℕ) (p : Place) : Type 0 where
  pub onward : Onward s p
  pub all : blocks (text_lines s p.number p.at) ≡ section_blocks (blocks_of s)
  pub sections : sections_from s p ≡ (song_of s).sections

-- All definitions are loaded, and stage 3 complains of none: they are ready, what is kept behind them is right, and the sections follow.
pub record LoadsAll (s : List ℕ) (ws : List ℕ) (r : Loaded) : Type 0 where
  pub clear : definitions_references [] (song_of s).definitions ≡ []
  pub ready : Ready s ws r.mark
  pub kept : KeptFrom s ws (r.mark + 1)
  pub begins : Begins s r.sections
  pub filled : r.mark ≤ r.sections.at

-- What stage 3 gives of the song.
abbrev pub RefusedThree : List ℕ → Refusal → Type 0
RefusedThree s e = told (Some e) ≡ earliest (reference_faults (song_of s))

-- The definitions are loaded, or stage 3 refuses one of them.
abbrev pub Loads : List ℕ → List ℕ → Result Loaded Refusal → Type 0
Loads s ws r = MatchResult r (LoadsAll s ws) (RefusedThree s)

unfoldable pub side_items : Option Side → Option Items
unfolding bind
side_items o = bind o (λ x. some x.items)

-- The texts of a section in the buffer.
pub record TextsAre (ds : List Definition) (x : Section) (ws : List ℕ) (t : Texts) : Type 0 where
  pub lead : Carries ws t.lead (side_items x.modifiers.before)
  pub pattern : Carries ws t.pattern (pattern_items ds x.pattern)
  pub tail : Carries ws t.tail (side_items x.modifiers.after)

-- The section at the place is opened.
pub record Opens (s : List ℕ) (p : Place) (ws : List ℕ) (r : Opened) : Type 0 where
  pub met : Meets s p (record { section = r.section; next = r.next })
  pub texts : TextsAre (song_of s).definitions (section_at s p) ws r.texts
