-- The two words of a lyric line.
use mathlib.Core.Path.{sym}
use native.Mathlib.Omega.{arith}
use Rattle.songcode.proofs.MemoryLaws.{sets_two}
use Rattle.laying.proofs.LyricRowLaws.{lyric_words, lyric_fits}
use Rattle.laying.proofs.rows.lay_lyric.Goals as goal

pub returns : goal.returns
returns c =
    let a = c.args in
    let p = c.requires in
    let row = lyric_words a.s.now a.number a.start a.stop c.lyric_words-line.result c.style_of-styled.result c.lyric_words-line.ensures.0
    c.style_of-styled.ensures.0 (omega arith) (omega arith) in record {
      held = rw (row, sym c.place_word-place.ensures, sym c.line_word-about.ensures)
          (sets_two a.n c.place_word-place.result c.line_word-about.result a.words.now);
      fits = lyric_fits a.s.now a.number a.start a.stop c.lyric_words-line.result c.style_of-styled.result c.lyric_words-line.ensures.0
          c.style_of-styled.ensures.0 p.0 p.1 (omega arith) (omega arith)
          (omega arith) (omega arith) (omega arith) (omega arith);
    }
