-- What is refused has a number, and a number names one of them, or none.
use Rattle.std.specs.Prelude.{ℕ, ◌≤◌, ◌≡◌, ◌≢◌, Result, MatchResult}
use Rattle.refusals.specs.declared.names.Why.{Why}
use Rattle.refusals.specs.declared.names.UnknownNumber.{UnknownNumber}
use Rattle.refusals.specs.declared.names.Why.TheVariants.{TextTooLong, BadText, BlockOrder, BadKey, BadSetting, BadHead}
use Rattle.refusals.specs.declared.names.Why.TheVariants.{BadPattern, BadLine, NoSection, ReferenceUndefined, ReferenceKind, Division}
use Rattle.refusals.specs.declared.names.Why.TheVariants.{NoChordBefore, SongTooLong, NothingLeft, CountMissing, CountSum, TableTooShort}
use Rattle.refusals.specs.declared.names.Why.TheVariants.{BeatNotFound, CopyTooLong, MoveOutOfRange, NoBeatWord, NotJoined, NotTimed}

abbrev pub number_of : Why → ℕ
number_of TextTooLong = 1
number_of BadText = 2
number_of BlockOrder = 3
number_of BadKey = 4
number_of BadSetting = 5
number_of BadHead = 6
number_of BadPattern = 7
number_of BadLine = 8
number_of NoSection = 9
number_of ReferenceUndefined = 10
number_of ReferenceKind = 11
number_of Division = 12
number_of NoChordBefore = 13
number_of SongTooLong = 14
number_of NothingLeft = 15
number_of CountMissing = 16
number_of CountSum = 17
number_of TableTooShort = 18
number_of BeatNotFound = 19
number_of CopyTooLong = 20
number_of MoveOutOfRange = 21
number_of NoBeatWord = 22
number_of NotJoined = 25
number_of NotTimed = 26

-- The numbers of a chart's refusals and of the calls that read one are 1 to 22.
abbrev pub Numbered : ℕ → Type 0
Numbered n = (1 ≤ n) × (n ≤ 22)

-- The numbers that name what is refused: 1 to 22, 25 and 26.
abbrev pub Named : ℕ → Type 0
Named n = (1 ≤ n) × (n ≤ 26) × (n ≢ 23) × (n ≢ 24)

abbrev pub Names : ℕ → Result Why UnknownNumber → Type 0
Names n r = MatchResult r (λ why. number_of why ≡ n) (λ e. Named n → ⊥)
