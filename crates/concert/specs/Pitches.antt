-- "moved by a signed number of semitones from -11 to 20": a root moved, and the sharp name of what it comes to.
use Rattle.std.proofs.Math.Option
use Rattle.std.specs.Prelude.{ℕ, suc, ◌+◌, ◌*◌, ◌%◌, List, [], ◌∷◌, ◌++◌, Bool, ◌&&◌, ℤ, pos, negsuc, get_or}
use Prim.Native.String.{String}
use Rattle.std.specs.Int.Signed.{le_z}
use Rattle.songcode.specs.Lists.{provided◌then◌else◌}
use Rattle.songcode.specs.Bytes.{ascii}
use Rattle.songcode.specs.Answer.Chords.{spellings, spelling_of, number_of, root_of, is_minor}

-- "from -11 to 20"
unfoldable pub is_allowed : ℤ → Bool
is_allowed move = le_z (negsuc 10) move && le_z move (pos 20)

-- A move as semitones up: one down is eleven up, an octave less.
unfoldable pub upward : ℤ → ℕ
upward (pos n) = n
upward (negsuc n) = 11 * suc n

-- A root moved, among the twelve from C.
unfoldable pub moved_root : ℤ → ℕ → ℕ
unfolding upward
moved_root move root = (root + upward move) % 12

-- "The new base is always the sharp name (C# and not Db), major stays major, minor stays minor".
unfoldable pub sharps : List String
sharps = "C" ∷ "C#" ∷ "D" ∷ "D#" ∷ "E" ∷ "F" ∷ "F#" ∷ "G" ∷ "G#" ∷ "A" ∷ "A#" ∷ "B" ∷ []

unfoldable pub sharp_name : ℕ → Bool → List ℕ
unfolding provided◌then◌else◌ spellings sharps ascii
sharp_name root minor = get_or (spellings sharps) root [] ++ (provided minor then ascii "m" else [])

unfoldable pub sharp_base : ℕ → Bool → ℕ
unfolding number_of sharp_name
sharp_base root minor = Option.get_or (number_of (sharp_name root minor)) 0

-- The base that a base comes to.
unfoldable pub moved_base : ℤ → ℕ → ℕ
unfolding sharp_base moved_root root_of is_minor spelling_of
moved_base move base = sharp_base (moved_root move (root_of (spelling_of base))) (is_minor (spelling_of base))
