-- What a token is to the rules of pattern text; told of the token, and of its word.
use Rattle.std.specs.Prelude.{ℕ, ◌-◌, ◌/◌, ◌^◌, List, [], ◌∷◌, ltb, get_or}
use Rattle.songcode.specs.Lists.{provided◌then◌else◌}
use Rattle.songcode.specs.Answer.Tokens.{Token, sound, remover, reference, semicolon, colon, line_end, opens, closes, wrong}
use Rattle.grammar.specs.declared.kinds.Kind.{Kind}
use Rattle.grammar.specs.declared.kinds.Kind.TheVariants.{Sound, Remover, Reference, Semicolon, Colon, LineEnd, Opens, Closes, Wrong}
use Rattle.tokens.specs.Signs.{is_chord}

unfoldable pub kind_of : Token → Kind
kind_of (sound s) = Sound
kind_of remover = Remover
kind_of (reference n) = Reference
kind_of semicolon = Semicolon
kind_of colon = Colon
kind_of line_end = LineEnd
kind_of opens = Opens
kind_of (closes n) = Closes
kind_of wrong = Wrong

unfoldable pub kinds_of : List Token → List Kind
unfolding kind_of
kinds_of [] = []
kinds_of (t ∷ ts) = kind_of t ∷ kinds_of ts

-- The six bits in front of a word tell its kind: a base chord, or one of the signs.
abbrev pub signs : List Kind
signs = Reference ∷ Closes ∷ Opens ∷ LineEnd ∷ Colon ∷ Semicolon ∷ Remover ∷ Sound ∷ Sound ∷ []

unfoldable pub sign_kind : ℕ → Kind
unfolding provided◌then◌else◌
sign_kind n = provided is_chord n then Sound else provided ltb n 55 then Wrong else get_or signs (n - 55) Sound

unfoldable pub word_kind : ℕ → Kind
unfolding sign_kind
word_kind w = sign_kind (w / 2 ^ 26)
