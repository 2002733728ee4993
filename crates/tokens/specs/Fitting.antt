-- Tokens whose words tell them apart: those of a text of at most 65,536 bytes.
use Rattle.std.specs.Prelude.{ℕ, ◌+◌, ◌*◌, ◌^◌, ◌<◌, ◌≤◌, List, [], ◌∷◌, length}
use Rattle.songcode.specs.Song.{chord, again, silence}
use Rattle.songcode.specs.Answer.Tables.{offset}
use Rattle.songcode.specs.Answer.Tokens.{Token, sound, remover, reference, semicolon, colon, line_end, opens, closes, wrong}

-- Each number of a token has room in its word.
unfoldable pub Fit : Token → Type 0
unfolding offset
Fit (sound (chord c)) = (c.base ≤ 33) × (offset c.extension < 65536) × (length c.extension ≤ 31)
Fit (sound silence) = Unit {0}
Fit (sound again) = Unit {0}
Fit remover = Unit {0}
Fit (reference n) = n ≤ 9999
Fit semicolon = Unit {0}
Fit colon = Unit {0}
Fit line_end = Unit {0}
Fit opens = Unit {0}
Fit (closes n) = n ≤ 9999
Fit wrong = Unit {0}

unfoldable pub AllFit : List Token → Type 0
unfolding Fit
AllFit [] = Unit {0}
AllFit (t ∷ ts) = Fit t × AllFit ts

-- The two parts of a token's word: its kind, the base of a chord or one of ten signs, and its amount.
unfoldable pub kind : Token → ℕ
kind (sound (chord c)) = c.base
kind (sound silence) = 63
kind (sound again) = 62
kind remover = 61
kind semicolon = 60
kind colon = 59
kind line_end = 58
kind opens = 57
kind (closes n) = 56
kind (reference n) = 55
kind wrong = 54

unfoldable pub amount : Token → ℕ
unfolding offset
amount (sound (chord c)) = offset c.extension * 2 ^ 10 + length c.extension * 2 ^ 5
amount (sound silence) = 0
amount (sound again) = 0
amount remover = 0
amount semicolon = 0
amount colon = 0
amount line_end = 0
amount opens = 0
amount (closes n) = n
amount (reference n) = n
amount wrong = 0
