-- The kind of a token is told by its word.
use Prim.Native.Nat.{ℕ, ◌≤◌}
use mathlib.Core.Path.{◌≡◌, refl, ap, ◌∙◌}
use native.Mathlib.Omega.{arith}
use borrow.Author.Tests.{lt-ltb}
use Rattle.songcode.specs.Lists.{provided◌then◌else◌}
use Rattle.songcode.specs.Song.{chord, again, silence}
use Rattle.songcode.specs.Answer.Tokens.{Token, sound, remover, reference, semicolon, colon, line_end, opens, closes, wrong}
use Rattle.tokens.specs.TokenWords.{token_word}
use Rattle.tokens.specs.Fitting.{Fit, kind}
use Rattle.tokens.proofs.KindLaws as words
use Rattle.grammar.specs.declared.kinds.Kind.TheVariants.{Sound}
use Rattle.grammar.specs.Kinds.{kind_of, sign_kind, word_kind}

base_sounds : (n : ℕ) → n ≤ 33 → sign_kind n ≡ Sound
unfolding sign_kind provided◌then◌else◌
base_sounds n h = simp (lt-ltb n 34 (omega arith))

kind_told : (t : Token) → Fit t → sign_kind (kind t) ≡ kind_of t
unfolding sign_kind provided◌then◌else◌ kind kind_of Fit
kind_told (sound (chord c)) h = base_sounds c.base h.0
kind_told (sound again) h = refl
kind_told (sound silence) h = refl
kind_told remover h = refl
kind_told (reference n) h = refl
kind_told semicolon h = refl
kind_told colon h = refl
kind_told line_end h = refl
kind_told opens h = refl
kind_told (closes n) h = refl
kind_told wrong h = refl

pub word_kind_lem : (t : Token) → Fit t → word_kind (token_word t) ≡ kind_of t
unfolding word_kind
word_kind_lem t h = ap sign_kind (words.word_kind_lem t h) ∙ kind_told t h
