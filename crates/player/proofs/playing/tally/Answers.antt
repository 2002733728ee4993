-- Where every measure has n beats, n for each.
use Rattle.std.proofs.Common.{◌*◌, min, ap, ◌∙◌, arith}
use Rattle.player.proofs.EvenLaws.{even_measures_lem, even_beats, even_few}
use Rattle.player.proofs.playing.tally.Goals as goal

pub overflow_mul-a : goal.overflow_mul-a
overflow_mul-a c =
    let a = c.args.a in
    let e = even_measures_lem (c.requires.0.even c.if-a-eq0.false) a.repeat in
    omega (arith, e, c.requires.0.measures)

pub returns : goal.returns
returns c =
    let a = c.args.a in
    let e = c.requires.0.even c.if-a-eq0.false in
    let few = even_few a.n c.min-measures.result c.requires.0.meter (omega (arith, c.min-measures.ensures, c.requires.1)) in record {
      measures = c.min-measures.ensures ∙ ap (min c.args.k) (even_measures_lem e a.repeat);
      beats = ap (λ x. a.n * x) c.min-measures.ensures ∙ even_beats e a.repeat c.args.k;
      bound = few;
    }
