-- The clauses of refusal 7, by their numbers.
use Rattle.std.specs.Prelude.{ℕ}
use Rattle.slips.specs.declared.faults.Clause.{Clause}
use Rattle.slips.specs.declared.faults.Clause.TheVariants.{NoChord, ExtensionLong, ReferenceMalformed, SeparatorFirst, SeparatorDoubled}
use Rattle.slips.specs.declared.faults.Clause.TheVariants.{SeparatorLast, SeparatorLineEnd, SeparatorLineStart, RemoverFirst, RemoverInside}
use Rattle.slips.specs.declared.faults.Clause.TheVariants.{LoopEmpty, LoopCountMissing, LoopCountWrong, LoopInLoop, LoopOpen}
use Rattle.slips.specs.declared.faults.Clause.TheVariants.{LoopNotOpen, LoopLineEnd, NotParted, ReferenceNotHere, ColonNotHere}
use Rattle.slips.specs.declared.faults.Clause.TheVariants.{SideEmpty, ExtensionSign}

abbrev pub number_of : Clause → ℕ
number_of NoChord = 1
number_of ExtensionLong = 2
number_of ReferenceMalformed = 3
number_of SeparatorFirst = 4
number_of SeparatorDoubled = 5
number_of SeparatorLast = 6
number_of SeparatorLineEnd = 7
number_of SeparatorLineStart = 8
number_of RemoverFirst = 9
number_of RemoverInside = 10
number_of LoopEmpty = 11
number_of LoopCountMissing = 12
number_of LoopCountWrong = 13
number_of LoopInLoop = 14
number_of LoopOpen = 15
number_of LoopNotOpen = 16
number_of LoopLineEnd = 17
number_of NotParted = 18
number_of ReferenceNotHere = 19
number_of ColonNotHere = 20
number_of SideEmpty = 21
number_of ExtensionSign = 22
