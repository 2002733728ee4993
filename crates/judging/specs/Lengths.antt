-- What stage 5 finds of a section: its measures before cuts, and whether its cuts leave a beat.
use Rattle.std.specs.Prelude.{ℕ, ◌+◌, ◌-◌, ◌*◌, ◌≤◌, ◌≡◌, Bool, not, ◌||◌, List, eqb, ltb, length}
use Rattle.songcode.specs.Lists.{provided◌then◌else◌, times}
use Rattle.refusals.specs.declared.Refusal.{Refusal}
use Rattle.refusals.specs.declared.names.Why.TheVariants.{SongTooLong, NothingLeft}
use Rattle.settings.specs.Cuts.{CutFits}
use Rattle.cuts.specs.declared.Cut.{Cut}
use Rattle.cuts.specs.Cuts.{cut_of}
use Rattle.std.specs.Prelude as std
use Rattle.std.specs.Prelude.{is_some, Result, Ok, Err}
use Rattle.std.specs.Option.{unwrap_or}
use Rattle.player.specs.declared.playing.Arrangement.{Arrangement}
use Rattle.player.specs.Walks.{row_of}
use Rattle.player.specs.Windows.{first_beat, last_beat}
use Rattle.player.specs.Even.{Even}
use Rattle.outlines.specs.Even.{even_in}
use Rattle.sections.specs.declared.values.Modifiers.{Modifiers}
use Rattle.laying.specs.declared.texts.Text.{Text}
use Rattle.laying.specs.declared.texts.Texts.{Texts}
use Rattle.laying.specs.Rows.{has_cut}

-- The cut that is said, else one that takes nothing.
abbrev pub cut_or_none : std.Option Cut → Cut
cut_or_none c = unwrap_or c (cut_of 0 0)

-- What a section plays in n: its texts, and what its modifiers say.
abbrev pub arrangement_of : ℕ → Texts → Modifiers → Arrangement
arrangement_of n t m =
    record {
      n = n;
      lead = t.lead.at;
      pattern = t.pattern.at;
      tail = t.tail.at;
      repeat = m.repeat;
      front = cut_or_none m.front;
      back = cut_or_none m.back;
      even = even_in t.pattern.outline n;
    }

abbrev pub count_of_texts : Modifiers → Texts → ℕ
count_of_texts m t = t.lead.outline.measures + m.repeat * t.pattern.outline.measures + t.tail.outline.measures

abbrev pub is_modified : Modifiers → Bool
is_modified m = not (eqb m.repeat 1) || is_some m.before || is_some m.after || has_cut m

-- What the code finds of the cuts of a section played in n.
unfoldable pub cut_away : List ℕ → ℕ → Modifiers → Texts → Bool
unfolding provided◌then◌else◌ times
cut_away ws n m t =
    provided t.pattern.outline.empty then is_modified m
    else (provided has_cut m
    then eqb
    (last_beat (cut_or_none m.back) (times m.repeat (row_of n ws t.pattern.at))
    - first_beat (cut_or_none m.front) (times m.repeat (row_of n ws t.pattern.at)))
    0
    else eqb t.pattern.outline.measures 0)

-- The song's measures up to the end of a section played in n, or what is refused of it.
unfoldable pub length_fault : List ℕ → ℕ → ℕ → Modifiers → Texts → ℕ → Result ℕ Refusal
unfolding provided◌then◌else◌
length_fault ws n header m t measures =
    provided ltb 65535 measures then Err (record { why = SongTooLong; line = header })
    else (provided cut_away ws n m t then Err (record { why = NothingLeft; line = header }) else Ok measures)

-- With one more section; where one is refused, those behind it are not asked.
unfoldable pub with_lengths : List ℕ → ℕ → ℕ → Modifiers → Texts → Result ℕ Refusal → Result ℕ Refusal
unfolding length_fault
with_lengths ws n header m t (Err r) = Err r
with_lengths ws n header m t (Ok k) = length_fault ws n header m t (k + count_of_texts m t)

-- Where its outline tells so, each measure of a text has n beats.
abbrev pub EvenText : List ℕ → ℕ → Text → Type 0
EvenText ws n t = (even_in t.outline n ≡ 0 → ⊥) → Even n (even_in t.outline n) (row_of n ws t.at)

-- The numbers of a section are small, and where its measures are few enough, all that its pattern plays are counted.
pub record Measurable (ws : List ℕ) (n : ℕ) (m : Modifiers) (t : Texts) : Type 0 where
  pub meter : n ≤ 32
  pub cuts : CutFits m.front
  pub repeat : m.repeat ≤ 9999
  pub lead : t.lead.outline.measures ≤ 65536
  pub pattern : t.pattern.outline.measures ≤ 65536
  pub tail : t.tail.outline.measures ≤ 65536
  pub played : count_of_texts m t ≤ 65535 → length (times m.repeat (row_of n ws t.pattern.at)) ≤ 65535
  pub even : EvenText ws n t.pattern
