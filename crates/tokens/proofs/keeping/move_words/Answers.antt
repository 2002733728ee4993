-- The words are laid in front as they stood.
use Prim.Native.Nat.{◌+◌, ◌-◌}
use mathlib.Core.Path.{◌≡◌, sym, ◌∙◌}
use native.Mathlib.Omega.{arith}
use lib.ListN.{length, take, drop, length-drop}
use lib.Seq.{sets-eq, length-take-le}
use Rattle.tokens.proofs.keeping.move_words.Goals as goal

pub returns : goal.returns
returns c =
    let a = c.args in
    let words = a.words.now in
    let size : a.from + a.count - a.from ≡ a.count = omega arith in
    let left = length-drop a.from words in
    let moved : length (take a.count (drop a.from words)) ≡ a.count = length-take-le a.count (drop a.from words) (omega arith) in
    let laid = sets-eq (take a.count (drop a.from words)) words a.to (omega arith) in
    c.copy_within.ensures.after ∙ rw size (sym (rw moved at laid))
