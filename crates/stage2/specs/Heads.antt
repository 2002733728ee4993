-- The heads of definitions: how many there are, up to 26, and their numbers, in a row of 26.
use Rattle.std.specs.Prelude.{ℕ, min, List, Bool, true, false, ◌||◌, not, eqb, leb, set, take}
use Rattle.songcode.specs.Lists.{provided◌then◌else◌, any}
use Rattle.songcode.specs.Answer.Lines.{Line}
use Rattle.songcode.specs.Answer.SongText.{head_in}
use Rattle.songcode.specs.Complaints.{complain_if}
use Rattle.tokens.specs.Decimals.{number_of}
use Rattle.std.specs.Prelude as std
use Rattle.std.specs.Prelude.{Some, None}
use Rattle.stage2.specs.declared.states.Place.{Place}
use Rattle.stage2.specs.declared.states.Place.TheVariants.{Between, Metadata, Head, Definition, Body, Lyrics}
use Rattle.refusals.specs.Ranks.{none, least}

unfoldable pub has_head : ℕ → List ℕ → ℕ → Bool
has_head n ids x = any (λ y. eqb y x) (take n ids)

unfoldable pub head_again : std.Option ℕ → ℕ → List ℕ → ℕ → ℕ
head_again None n ids line = none
head_again (Some x) n ids line = least (complain_if (has_head n ids x) 6 line)

unfoldable pub head_judged : std.Option ℕ → ℕ → List ℕ → ℕ → ℕ
head_judged o n ids line = min (least (complain_if (not (std.is_some o) || leb 26 n) 6 line)) (head_again o n ids line)

-- One more; beyond 26 none is remembered, as every further one is complained of.
unfoldable pub with_head : std.Option ℕ → ℕ → List ℕ → List ℕ
unfolding provided◌then◌else◌
with_head o n ids = provided leb 26 n then ids else set ids n (std.unwrap_or o 0)

-- A line behind which the walk stands at a place is a head there.
abbrev pub is_head : Place → Bool
is_head Between = false
is_head Metadata = false
is_head Head = true
is_head Definition = false
is_head (Body p) = false
is_head Lyrics = false

unfoldable pub head_noted : Place → ℕ → List ℕ → Line → ℕ
unfolding provided◌then◌else◌
head_noted p n ids l = provided is_head p then head_judged (number_of (head_in l)) n ids l.number else none

unfoldable pub heads_after : Place → ℕ → List ℕ → Line → List ℕ
unfolding provided◌then◌else◌
heads_after p n ids l = provided is_head p then with_head (number_of (head_in l)) n ids else ids
