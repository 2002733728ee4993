-- What the code finds at a place: behind blanks, where a chord stands, and in words.
use Prim.Native.Nat.{ℕ, ◌+◌, ◌<◌, ◌≤◌}
use mathlib.Core.Path.{◌≡◌, refl, ◌∙◌}
use mathlib.Core.List.{List, [], ◌∷◌}
use mathlib.Core.Bool.{true}
use native.Mathlib.Omega.{arith}
use lib.ListN.{length, get_or}
use Rattle.songcode.specs.Bytes.{placed}
use Rattle.songcode.specs.Answer.Chords.{chord_in}
use Rattle.songcode.specs.Answer.Tokens.{chord_token, word_token}
use Rattle.text.specs.Spans.{part}
use Rattle.text.proofs.WalkLaws.{part_length}
use Rattle.tokens.specs.declared.lexing.Lexed.{Lexed}
use Rattle.std.specs.Prelude as std
use Rattle.std.specs.Prelude.{Some, None}
use Rattle.tokens.specs.Bases.{is_letter}
use Rattle.tokens.specs.TokenWords.{token_word, token_words}
use Rattle.tokens.specs.Lexing.{plain_length, tokens_from, Reads}
use Rattle.tokens.proofs.LexLaws.{at_word, letter_plain, plain_le, plain_sooner}
use Rattle.tokens.proofs.PartLaws.{part_cons}
use Rattle.tokens.proofs.WordLaws.{word_letter}

-- What is read behind blanks is read in front of them.
pub reads_behind : (s : List ℕ) (at a stop : ℕ) → at ≤ a → a ≤ stop → ((to : ℕ) → a ≤ to → to ≤ stop → tokens_from at to s ≡ tokens_from a to s)
    → (r : std.Option Lexed) → Reads s a stop r → Reads s at stop r
unfolding Reads
reads_behind s at a stop l h p (Some r) (t, b, e, q, f) = (t, omega arith, e, q, λ to g k. p to (omega arith) k ∙ f to g k)
reads_behind s at a stop l h p None e = p stop h (omega arith) ∙ e

-- A word that begins with a letter is read as a chord.
pub reads_chord : (s : List ℕ) (a stop w e : ℕ) → a < stop → stop ≤ length s → is_letter (get_or s a 0) ≡ true
    → e ≡ a + 1 + plain_length (part (a + 1) stop s) → w ≡ token_word (chord_token (chord_in (placed a (part a e s))))
    → Reads s a stop (Some (record { word = w; next = e }))
unfolding Reads
reads_chord s a stop w e h l g f q =
    let k = plain_length (part (a + 1) stop s) in
    let m = plain_le (part (a + 1) stop s) in
    let n = part_length s (a + 1) stop l in
    let v = part_cons s a (a + 1 + k) (omega arith) (omega arith) in
    rw f (
      word_token (placed a (part a (a + 1 + k) s)),
      omega arith,
      omega arith,
      (rw f at q) ∙ word_letter a (get_or s a 0) (part (a + 1) (a + 1 + k) s) (part a (a + 1 + k) s) v g,
      λ to i j. at_word s a to (omega arith) (omega arith) k (plain_sooner s (a + 1) stop to j k i refl) (letter_plain (get_or s a 0) g),
    )

-- What the code found at a place, in words.
pub read_next : (s : List ℕ) (at stop : ℕ) {r : std.Option Lexed} {l : Lexed} → r ≡ Some l → Reads s at stop r
    → (at < l.next) × (l.next ≤ stop) × (token_words (tokens_from at stop s) ≡ l.word ∷ token_words (tokens_from l.next stop s))
unfolding Reads token_words
read_next s at stop e m = let g = rw e at m in (g.1, g.2, rw (g.4 stop g.2 (omega arith), g.3))

pub read_end : (s : List ℕ) (at stop : ℕ) {r : std.Option Lexed} → r ≡ None → Reads s at stop r → token_words (tokens_from at stop s) ≡ []
unfolding Reads token_words
read_end s at stop e m = let g = rw e at m in rw g
