-- A line's last word is a count, or it is not: each branch is one case of the definition, with the places where its parts end.
use mathlib.Core.Path.{◌∙◌}
use native.Mathlib.Omega.{arith}
use Rattle.songcode.specs.Bytes.{placed}
use Rattle.songcode.specs.Answer.Lyrics.{count_behind}
use Rattle.text.specs.Spans.{part}
use Rattle.settings.specs.LyricParts.{count_from}
use Rattle.settings.proofs.WordLaws.{words_alone, words_uncounted, words_counted}
use Rattle.settings.proofs.NumberLaws.{count_behind_placeless}
use Rattle.settings.proofs.ReadLaws.{number_some, number_none, count_behind_range, count_from_some}
use Rattle.settings.proofs.lyrics.lyric_words.Goals as goal

pub returns-then-k-a : goal.returns-then-k-a
unfolding count_from
returns-then-k-a c = let a = c.args in (
  words_alone a.s.now a.a c.word_start-k.result a.e (omega arith) (omega arith) (omega arith) c.word_start-k.ensures.0
      c.if-k-a.true,
  omega arith,
  omega arith,
  omega arith,
)

pub returns-in-Some : goal.returns-in-Some
returns-in-Some c = let a = c.args in
    let k = c.word_start-k.result in
    let n = c.in-Some.n in
    let t = part k a.e a.s.now in
    let m = count_behind_placeless k t ∙ number_some (count_behind (placed 0 t)) c.count_behind.ensures c.in-Some.is in
    let r = count_behind_range (placed k t) m in (
      words_counted a.s.now a.a k a.e (omega arith) (omega arith) (omega arith) c.word_start-k.ensures.0 c.solid_len.result n
          (omega (arith, c.if-k-a.false)) m c.solid_len.ensures.0 (omega arith)
          ∙ rw (count_from_some n r.0),
      omega arith,
      omega arith,
      omega arith,
    )

pub returns-in-None : goal.returns-in-None
unfolding count_from
returns-in-None c = let a = c.args in
    let k = c.word_start-k.result in
    let t = part k a.e a.s.now in
    let m = count_behind_placeless k t ∙ number_none (count_behind (placed 0 t)) c.count_behind.ensures c.in-None.is in (
      words_uncounted a.s.now a.a k a.e (omega arith) (omega arith) (omega arith) c.word_start-k.ensures.0
          (omega (arith, c.if-k-a.false)) m,
      omega arith,
      omega arith,
      omega arith,
    )
