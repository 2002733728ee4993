-- What is demanded of these definitions, and proved in `proofs/Demanded.antt`.
use Rattle.std.specs.Prelude.{ℕ, ◌<◌, ◌≡◌, ◌↔◌, List, map, false, eqb, ℤ, pos, ◌+ℤ◌, ◌*ℤ◌, length, Option}
use Prim.Native.Char.{code}
use Rattle.songcode.specs.Lists.{any}
use Rattle.songcode.specs.Answer.Chords.{spelling_of, root_of, is_minor}
use Rattle.refusals.specs.declared.names.Why.{Why}
use Rattle.concert.specs.Pitches.{moved_root, moved_base}
use Rattle.concert.specs.Moves.{base_in, behind_base, moved_word, moved_table, is_odd}
use Rattle.concert.specs.Promises.{Moves}

-- A base that another comes to, by what both are: spelled without a flat, as minor as the other, and its root so many semitones away.
pub record ComesTo (move : ℤ) (old new : ℕ) : Type 0 where
  pub listed : new < 34
  pub no_flat : any (eqb (code "b")) (spelling_of new) ≡ false
  pub quality : is_minor (spelling_of new) ≡ is_minor (spelling_of old)
  pub root : root_of (spelling_of new) ≡ moved_root move (root_of (spelling_of old))

-- Two moves and a third "that differs from their sum by a multiple of 12".
pub record SumsTo (a b c : ℤ) : Type 0 where
  pub octaves : ℤ
  pub sums : c ≡ (a +ℤ b) +ℤ (pos 12 *ℤ octaves)

pub record Demands : Type 0 where
  pub moved_exactly : (move : ℤ) (old new : ℕ) → (moved_base move old ≡ new) ↔ ComesTo move old new
  -- "On a table that isn't refused, moving by one allowed number and then by another gives the same table as any single allowed move that differs from
  -- their sum by a multiple of 12"; the table between is never refused for its words.
  pub moved_twice : (a b c : ℤ) (beats : List ℕ) → any is_odd beats ≡ false → SumsTo a b c → moved_table b (moved_table a beats) ≡ moved_table c beats
  pub between : (a : ℤ) (beats : List ℕ) → any is_odd beats ≡ false → any is_odd (moved_table a beats) ≡ false
  -- "Extensions and heads stay"; as many words; silence as it was.
  pub nothing_else : (move : ℤ) (beats : List ℕ) → map behind_base (moved_table move beats) ≡ map behind_base beats
  pub as_many : (move : ℤ) (beats : List ℕ) → length (moved_table move beats) ≡ length beats
  pub silence_stays : (move : ℤ) (word : ℕ) → base_in word ≡ 63 → moved_word move word ≡ word
  -- "a move of 0 still respells", and once is enough.
  pub once_respelled : (beats : List ℕ) → any is_odd beats ≡ false → moved_table (pos 0) (moved_table (pos 0) beats) ≡ moved_table (pos 0) beats
  -- No second outcome meets the promise.
  pub one_outcome : (move : ℤ) (beats before : List ℕ) (r q : Option Why) (x y : List ℕ) → Moves move beats before r x → Moves move beats before q y
      → (r ≡ q) × (x ≡ y)
