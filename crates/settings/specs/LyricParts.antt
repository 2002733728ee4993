-- The texts whose places the code answers.
use Rattle.std.specs.Prelude.{ℕ, zero, suc, List}
use Rattle.std.proofs.Math.Option.{Option, none, some}
use Rattle.songcode.specs.Bytes.{placed}
use Rattle.songcode.specs.Answer.Lyrics as lyrics
use Rattle.text.specs.Spans.{part}
use Rattle.settings.specs.declared.lyrics.Styled.{Styled}
use Rattle.settings.specs.declared.lyrics.Words.{Words}

abbrev pub styled_from : Styled → List ℕ → lyrics.Styled
styled_from r s = record { style = r.style; text = placed r.start (part r.start r.stop s) }

-- A count is never 0, so that 0 says that there is none.
unfoldable pub count_from : ℕ → Option ℕ
count_from zero = none
count_from (suc n) = some (suc n)

abbrev pub words_from : Words → ℕ → List ℕ → lyrics.Words
words_from r a s = record { text = placed a (part a r.stop s); count = count_from r.count }
