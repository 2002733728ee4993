-- The answer of the call and what the cue table holds afterwards, by cases on the refusal.
use Rattle.std.specs.Prelude.{ℕ, List, Option, Some, None, Result, Ok, Err}
use Rattle.std.proofs.lemmas.List.Edits.{sets}
use Rattle.songcode.specs.Lists.{sum}
use Rattle.refusals.specs.declared.names.Why.{Why}
use Rattle.cues.specs.Cues.{lengths, starts}

-- "the answer also gives the song's end"
unfoldable pub lit_by : Option Why → List ℕ → List ℕ → Result ℕ Why
unfolding lengths sum
lit_by None sections measures = Ok (sum (lengths sections measures))
lit_by (Some why) sections measures = Err why

-- "cue table untouched" where refused. "Lent memory past what a call writes keeps what it held": `sets held 0 starts` holds the starts from its first
-- place on, and behind them what it held.
unfoldable pub cues_by : Option Why → List ℕ → List ℕ → List ℕ → List ℕ
unfolding lengths starts
cues_by None sections measures held = sets held 0 (starts 0 (lengths sections measures))
cues_by (Some why) sections measures held = held
