-- Both complaints are of a line before 131,072 and have a number up to 22, so the least number tells one of them, or "no section".
use mathlib.Core.Path.{◌≡◌, ap, ◌∙◌}
use mathlib.Core.List.{List, ◌++◌}
use mathlib.Core.Bool.{Bool, true, false}
use Prim.Native.Nat.{ℕ, ◌%◌, ◌<◌, min}
use native.Mathlib.Omega.{arith}
use Rattle.songcode.specs.Lists.{provided◌then◌else◌, when}
use Rattle.songcode.specs.Complaints.{Complaint, complain_if}
use Rattle.songcode.proofs.ListLaws.{Each, each_append}
use Rattle.refusals.specs.Names.{Numbered}
use Rattle.refusals.specs.Ranks.{no_section, least, only_if, refusal_at}
use Rattle.refusals.proofs.RankLaws.{SmallNumbered, before_no_section, least_append}
use Rattle.uses.proofs.numbers.first_told.Goals as goal

numbered_if : (t : Bool) (number line : ℕ) → Numbered number → line < 131072 → Each SmallNumbered (complain_if t number line)
unfolding Each complain_if when
numbered_if true number line n h = ((n, h), tt)
numbered_if false number line n h = tt

first_numbered : (cs : List Complaint) → Each SmallNumbered cs → min (least cs) no_section < no_section → Numbered (min (least cs) no_section % 32)
unfolding only_if provided◌then◌else◌
first_numbered cs h = before_no_section cs true h

pub returns : goal.returns
returns c h =
    let a = c.args in
    let twelve = complain_if a.twelve 12 a.line in
    let thirteen = complain_if a.thirteen 13 a.line in
    let fine = each_append SmallNumbered twelve thirteen (numbered_if a.twelve 12 a.line (omega arith, omega arith) h)
    (numbered_if a.thirteen 13 a.line (omega arith, omega arith) h) in
    let both = least_append twelve thirteen in
    let e : c.min-2.result ≡ min (least (twelve ++ thirteen)) no_section =
    omega (
      arith,
      both,
      c.min-2.ensures,
      c.min.ensures,
      c.from-divided.ensures,
      c.from-again.ensures,
      c.from-last.ensures,
      c.complain_if.ensures,
      c.complain_if-2.ensures,
    ) in
    c.refusal_at.ensures.numbered (λ l. rw e (first_numbered (twelve ++ thirteen) fine (rw e at l))) ∙ ap refusal_at e
