-- The tokens of a text with its references put in, as its items say them.
use Prim.Native.Nat.{ℕ, zero, suc}
use mathlib.Core.Path.{◌≡◌, refl, sym, ap, ◌∙◌}
use mathlib.Core.Logic.{◌⊎◌}
use mathlib.Core.List.{List, [], ◌∷◌, ◌++◌, append_assoc}
use mathlib.Core.Option.{Option, none, some}
use Rattle.songcode.specs.Song.{Sounds, only, also, Measure, nothing, a_line_end, Separator, by_semicolon, by_line_end, by_colon, Items}
use Rattle.songcode.specs.Answer.Tokens.{Token, sound, remover, reference, semicolon, colon, line_end, opens, closes, wrong}
use Rattle.songcode.specs.Answer.References.{put_in}
use Rattle.songcode.specs.Description.WrittenPattern.{items_tokens}
use Rattle.songcode.proofs.WrittenBefore.{write_sounds, write_removers, write_measure, write_beside, write_separator, write_items, items_appended}

-- What a token means beside itself, if it is known of every number; so with all tokens.
unfoldable pub meant : (ℕ → List Token) → Token → List Token
meant g (reference n) = g n
meant g (sound x) = []
meant g remover = []
meant g semicolon = []
meant g colon = []
meant g line_end = []
meant g opens = []
meant g (closes n) = []
meant g wrong = []

unfoldable pub put_tokens : (ℕ → List Token) → List Token → List Token
unfolding meant
put_tokens g [] = []
put_tokens g (t ∷ ts) = t ∷ (meant g t ++ put_tokens g ts)

-- Items and a line end.
abbrev pub with_end : Items → List Token
with_end r = write_items r (line_end ∷ [])

pub ended : (r : Items) (ts : List Token) → with_end r ++ ts ≡ write_items r (line_end ∷ ts)
ended r ts =
    ap (λ (us : List Token). us ++ ts) (items_appended r (line_end ∷ [])) ∙ append_assoc (items_tokens r) (line_end ∷ []) ts
    ∙ sym (items_appended r (line_end ∷ ts))

-- The items of every number and the tokens of every number are of one text.
abbrev pub Tied : (ℕ → Option Items) → (ℕ → List Token) → Type 0
Tied f g = (n : ℕ) → ((f n ≡ none) × (g n ≡ [])) ⊎ ((r : Items) × (f n ≡ some r) × (g n ≡ with_end r))

-- The tokens are those of the items: as they are written, or with references put in.
pub data Says (f : ℕ → Option Items) (g : ℕ → List Token) (r : Items) (ts : List Token) : Type 0 where
  as_written : ts ≡ with_end r → Says f g r ts
  with_put : (q : Items) → r ≡ put_in f q → ts ≡ put_tokens g (with_end q) → Says f g r ts

module _ (g : ℕ → List Token) where
  put_sounds : (ss : Sounds) (ts : List Token) → put_tokens g (write_sounds ss ts) ≡ write_sounds ss (put_tokens g ts)
  unfolding put_tokens meant write_sounds
  put_sounds (only s) ts = refl
  put_sounds (also ss s) ts = put_sounds ss (sound s ∷ ts)

  put_removers : (n : ℕ) (ts : List Token) → put_tokens g (write_removers n ts) ≡ write_removers n (put_tokens g ts)
  unfolding put_tokens meant write_removers
  put_removers zero ts = refl
  put_removers (suc n) ts = put_removers n (remover ∷ ts)

  pub put_measure : (m : Measure) (ts : List Token) → put_tokens g (write_measure m ts) ≡ write_measure m (put_tokens g ts)
  unfolding write_measure
  put_measure m ts =
      put_sounds m.sounds (write_removers m.removers ts) ∙ ap (write_sounds m.sounds) (put_removers m.removers ts)

  pub put_separator : (s : Separator) (ts : List Token) → put_tokens g (write_separator s ts) ≡ write_separator s (put_tokens g ts)
  unfolding put_tokens meant write_separator write_beside
  put_separator by_semicolon ts = refl
  put_separator by_line_end ts = refl
  put_separator (by_colon nothing nothing) ts = refl
  put_separator (by_colon nothing a_line_end) ts = refl
  put_separator (by_colon a_line_end nothing) ts = refl
  put_separator (by_colon a_line_end a_line_end) ts = refl
