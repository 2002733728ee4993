-- What a number names, and that a name's number is small.
use Prim.Native.Nat.{ℕ, ◌<◌}
use mathlib.Core.Path.{◌≡◌}
use native.Mathlib.Omega.{arith}
use Rattle.std.specs.Prelude.{Some, None, Result, Ok, Err}
use Rattle.std.specs.Result.{result_ok}
use Rattle.refusals.specs.declared.names.Why.{Why}
use Rattle.refusals.specs.declared.names.Why.TheVariants.{
  TextTooLong,
  BadText,
  BlockOrder,
  BadKey,
  BadSetting,
  BadHead,
  BadPattern,
  BadLine,
  NoSection,
  ReferenceUndefined,
  ReferenceKind,
  Division,
  NoChordBefore,
  SongTooLong,
  NothingLeft,
  CountMissing,
  CountSum,
  TableTooShort,
  BeatNotFound,
  CopyTooLong,
  MoveOutOfRange,
  NoBeatWord,
  NotJoined,
  NotTimed,
}
use Rattle.refusals.specs.declared.names.UnknownNumber.{UnknownNumber}
use Rattle.refusals.specs.Names.{number_of, Named, Names}

pub number_small : (why : Why) → number_of why < 32
number_small TextTooLong = omega arith
number_small BadText = omega arith
number_small BlockOrder = omega arith
number_small BadKey = omega arith
number_small BadSetting = omega arith
number_small BadHead = omega arith
number_small BadPattern = omega arith
number_small BadLine = omega arith
number_small NoSection = omega arith
number_small ReferenceUndefined = omega arith
number_small ReferenceKind = omega arith
number_small Division = omega arith
number_small NoChordBefore = omega arith
number_small SongTooLong = omega arith
number_small NothingLeft = omega arith
number_small CountMissing = omega arith
number_small CountSum = omega arith
number_small TableTooShort = omega arith
number_small BeatNotFound = omega arith
number_small CopyTooLong = omega arith
number_small MoveOutOfRange = omega arith
number_small NoBeatWord = omega arith
number_small NotJoined = omega arith
number_small NotTimed = omega arith

module _ (n : ℕ) where
  pub named : (r : Result Why UnknownNumber) (why : Why) → Names n r → result_ok r ≡ Some why → number_of why ≡ n
  named (Ok w) why h e = grind (arith, h, e)
  named (Err x) why h e = let w : ◌≡◌ {A = ℕ} 0 1 = cc in absurd (omega arith)

  pub unnamed : (r : Result Why UnknownNumber) → Names n r → result_ok r ≡ None → Named n → ⊥
  unnamed (Ok w) h e k = let z : ◌≡◌ {A = ℕ} 0 1 = cc in omega arith
  unnamed (Err x) h e k = h k
