-- `turnipcart_cues` meets its contract: what it returns and writes is what `cues::light_cues` promises, as told to C.
use mathlib.Core.Path.{◌≡◌, refl, ap, ◌∙◌}
use mathlib.Core.List.{List}
use Prim.Native.Nat.{ℕ}
use borrow.Author.Rules.{rules}
use Rattle.std.specs.Prelude.{Option, Some, None}
use Rattle.std.specs.Result.{result_err, result_unwrap_or}
use Rattle.refusals.specs.declared.names.Why.{Why}
use Rattle.cues.specs.Answers.{lit_by}
use Rattle.turnipcart.specs.Answers.{refusal_number}
use Rattle.turnipcart.proofs.lights.turnipcart_cues.Goals as goal

-- The answer's error is what is refused.
refused_by : (refusal : Option Why) (sections measures : List ℕ) → result_err (lit_by refusal sections measures) ≡ refusal
unfolding lit_by
refused_by None sections measures = refl
refused_by (Some why) sections measures = refl

pub returns : goal.returns
returns c =
    let value = c.light_cues-lit.ensures.value in
    let number : c.map_or.result ≡ refusal_number c.err.result = search rules in
    record {
      refused = number ∙ ap refusal_number (c.err.ensures.value ∙ ap result_err value ∙ refused_by _ _ _);
      lit = c.unwrap_or.ensures ∙ ap (λ l. result_unwrap_or l 0) value;
      cues = c.light_cues-lit.ensures.cues_after;
    }
