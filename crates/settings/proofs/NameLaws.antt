-- The names of keys and modifiers by the words that they are, found by one byte of them.
use Prim.Native.Nat.{ℕ}
use Prim.Native.String.{String}
use mathlib.Core.Path.{◌≡◌, refl, sym, subst, ◌∙◌}
use mathlib.Core.List.{List}
use mathlib.Core.Bool.{Bool, true, false}
use mathlib.Core.Option.{Option, none, some}
use lib.Dec.{eqb}
use lib.ListN.{get_or}
use Rattle.std.specs.Prelude as std
use Rattle.songcode.specs.Lists.{provided◌then◌else◌}
use Rattle.songcode.specs.Bytes.{Byte, placed, values, ascii, same, is}
use Rattle.songcode.specs.Song.{KeyName, name, artist, original, capo, bpm, time, warning, end}
use Rattle.songcode.specs.Answer.Keys.{key_named}
use Rattle.songcode.specs.Answer.Modifiers.{ModifierName, of_repeat, of_cut_start, of_cut_end, of_before, of_after, modifier_named}
use Rattle.songcode.proofs.ByteLaws.{values_placed}
use Rattle.songcode.proofs.ListLaws.{by_cases}
use Rattle.songcode.proofs.Spellings.{same_true}
use Rattle.settings.specs.declared.keys.KeyName as code
use Rattle.settings.specs.declared.keys.KeyName.TheVariants.{Name, Artist, Original, Capo, Bpm, Time, Warning, End}
use Rattle.settings.specs.declared.modifiers.ModifierName as codes
use Rattle.settings.specs.declared.modifiers.ModifierName.TheVariants.{Repeat, CutStart, CutEnd, Before, After}
use Rattle.settings.specs.Names.{key_is, modifier_is, if_named}

-- Whether a text is a word, wherever it stands, by what a comparison says.
pub is_by : (word : String) (a : ℕ) (w : List ℕ) {r t : Bool} → r ≡ same (ascii word) w → r ≡ t → is word (placed a w) ≡ t
unfolding is
is_by word a w e h = rw (values_placed a w) (sym e ∙ h)

unfoldable pub key_by : Bool → Bool → Bool → Bool → Bool → Bool → Bool → Bool → Option KeyName
unfolding provided◌then◌else◌
key_by a b c d e f g h =
    provided a then some name
    else provided b then some artist
    else provided c then some original
    else provided d then some capo
    else provided e then some bpm
    else provided f then some time
    else provided g then some warning
    else provided h then some end
    else none

pub key_by_lem : (w : List Byte) → key_named w ≡ key_by (is "name" w) (is "artist" w) (is "original" w) (is "capo" w) (is "bpm" w) (is "time" w)
    (is "warning" w) (is "end" w)
unfolding key_named key_by
key_by_lem w = refl

unfoldable pub modifier_by : Bool → Bool → Bool → Bool → Bool → Option ModifierName
unfolding provided◌then◌else◌
modifier_by a b c d e =
    provided a then some of_repeat
    else provided b then some of_cut_start
    else provided c then some of_cut_end
    else provided d then some of_before
    else provided e then some of_after
    else none

pub modifier_by_lem : (w : List Byte) → modifier_named w ≡ modifier_by (is "repeat" w) (is "cutStart" w) (is "cutEnd" w) (is "before" w) (is "after" w)
unfolding modifier_named modifier_by
modifier_by_lem w = refl

either : {A : Type 0} (t : Bool) (x : A) → (provided t then x else x) ≡ x
unfolding provided◌then◌else◌
either true x = refl
either false x = refl

-- The name that a text is, looked for by its first byte.
unfoldable pub key_lettered : ℕ → List ℕ → std.Option code.KeyName
unfolding provided◌then◌else◌
key_lettered b w =
    provided eqb b 110 then if_named (same (ascii "name") w) Name
    else provided eqb b 97 then if_named (same (ascii "artist") w) Artist
    else provided eqb b 111 then if_named (same (ascii "original") w) Original
    else provided eqb b 99 then if_named (same (ascii "capo") w) Capo
    else provided eqb b 98 then if_named (same (ascii "bpm") w) Bpm
    else provided eqb b 116 then if_named (same (ascii "time") w) Time
    else provided eqb b 119 then if_named (same (ascii "warning") w) Warning
    else provided eqb b 101 then if_named (same (ascii "end") w) End
    else std.None

module _ (w : List ℕ) where
  abbrev KeyFound : List ℕ → Type 0
  KeyFound v = key_lettered (get_or v 0 0) v ≡ key_is (key_named (placed 0 v))

  -- A text that is a word: what is found for the word is found for it.
  key_found : (word : String) → same (ascii word) w ≡ true → KeyFound (ascii word) → KeyFound w
  key_found word e h = subst KeyFound (same_true (ascii word) w e) h

  no_key : (b : ℕ) → same (ascii "name") w ≡ false → same (ascii "artist") w ≡ false → same (ascii "original") w ≡ false → same (ascii "capo") w ≡ false
      → same (ascii "bpm") w ≡ false → same (ascii "time") w ≡ false → same (ascii "warning") w ≡ false → same (ascii "end") w ≡ false
      → key_lettered b w ≡ key_is (key_named (placed 0 w))
  unfolding key_lettered key_by key_is provided◌then◌else◌
  no_key b p q r s t u v x =
      rw (
        key_by_lem (placed 0 w),
        is_by "name" 0 w refl p,
        is_by "artist" 0 w refl q,
        is_by "original" 0 w refl r,
        is_by "capo" 0 w refl s,
        is_by "bpm" 0 w refl t,
        is_by "time" 0 w refl u,
        is_by "warning" 0 w refl v,
        is_by "end" 0 w refl x,
        p,
        q,
        r,
        s,
        t,
        u,
        v,
        x,
        either {A = std.Option code.KeyName} (eqb b 101) std.None,
        either {A = std.Option code.KeyName} (eqb b 119) std.None,
        either {A = std.Option code.KeyName} (eqb b 116) std.None,
        either {A = std.Option code.KeyName} (eqb b 98) std.None,
        either {A = std.Option code.KeyName} (eqb b 99) std.None,
        either {A = std.Option code.KeyName} (eqb b 111) std.None,
        either {A = std.Option code.KeyName} (eqb b 97) std.None,
        either {A = std.Option code.KeyName} (eqb b 110) std.None,
      ) refl

  key_lettered_lem : KeyFound w
  unfolding key_lettered key_named key_is is same ascii placed values provided◌then◌else◌
  key_lettered_lem =
      by_cases (same (ascii "name") w) (λ e. key_found "name" e refl) (λ p.
      by_cases (same (ascii "artist") w) (λ e. key_found "artist" e refl) (λ q.
      by_cases (same (ascii "original") w) (λ e. key_found "original" e refl) (λ r.
      by_cases (same (ascii "capo") w) (λ e. key_found "capo" e refl) (λ s.
      by_cases (same (ascii "bpm") w) (λ e. key_found "bpm" e refl) (λ t.
      by_cases (same (ascii "time") w) (λ e. key_found "time" e refl) (λ u.
      by_cases (same (ascii "warning") w) (λ e. key_found "warning" e refl) (λ v.
      by_cases (same (ascii "end") w) (λ e. key_found "end" e refl) (λ x. no_key (get_or w 0 0) p q r s t u v x))))))))

  pub key_by_letter : (b : ℕ) → get_or w 0 0 ≡ b → key_lettered b w ≡ key_is (key_named (placed 0 w))
  key_by_letter b h = rw (← h) key_lettered_lem

-- By its sixth.
unfoldable pub modifier_lettered : ℕ → List ℕ → std.Option codes.ModifierName
unfolding provided◌then◌else◌
modifier_lettered b w =
    provided eqb b 116 then if_named (same (ascii "repeat") w) Repeat
    else provided eqb b 97 then if_named (same (ascii "cutStart") w) CutStart
    else provided eqb b 100 then if_named (same (ascii "cutEnd") w) CutEnd
    else provided eqb b 101 then if_named (same (ascii "before") w) Before
    else if_named (same (ascii "after") w) After

module _ (w : List ℕ) where
  abbrev ModifierFound : List ℕ → Type 0
  ModifierFound v = modifier_lettered (get_or v 5 0) v ≡ modifier_is (modifier_named (placed 0 v))

  modifier_found : (word : String) → same (ascii word) w ≡ true → ModifierFound (ascii word) → ModifierFound w
  modifier_found word e h = subst ModifierFound (same_true (ascii word) w e) h

  no_modifier : (b : ℕ) → same (ascii "repeat") w ≡ false → same (ascii "cutStart") w ≡ false → same (ascii "cutEnd") w ≡ false
      → same (ascii "before") w ≡ false → same (ascii "after") w ≡ false → modifier_lettered b w ≡ modifier_is (modifier_named (placed 0 w))
  unfolding modifier_lettered modifier_by modifier_is provided◌then◌else◌
  no_modifier b p q r s t =
      rw (
        modifier_by_lem (placed 0 w),
        is_by "repeat" 0 w refl p,
        is_by "cutStart" 0 w refl q,
        is_by "cutEnd" 0 w refl r,
        is_by "before" 0 w refl s,
        is_by "after" 0 w refl t,
        p,
        q,
        r,
        s,
        t,
        either {A = std.Option codes.ModifierName} (eqb b 101) std.None,
        either {A = std.Option codes.ModifierName} (eqb b 100) std.None,
        either {A = std.Option codes.ModifierName} (eqb b 97) std.None,
        either {A = std.Option codes.ModifierName} (eqb b 116) std.None,
      ) refl

  modifier_lettered_lem : ModifierFound w
  unfolding modifier_lettered modifier_named modifier_is is same ascii placed values provided◌then◌else◌
  modifier_lettered_lem =
      by_cases (same (ascii "repeat") w) (λ e. modifier_found "repeat" e refl) (λ p.
      by_cases (same (ascii "cutStart") w) (λ e. modifier_found "cutStart" e refl) (λ q.
      by_cases (same (ascii "cutEnd") w) (λ e. modifier_found "cutEnd" e refl) (λ r.
      by_cases (same (ascii "before") w) (λ e. modifier_found "before" e refl) (λ s.
      by_cases (same (ascii "after") w) (λ e. modifier_found "after" e refl) (λ t. no_modifier (get_or w 5 0) p q r s t)))))

  pub modifier_by_letter : (b : ℕ) → get_or w 5 0 ≡ b → modifier_lettered b w ≡ modifier_is (modifier_named (placed 0 w))
  modifier_by_letter b h = rw (← h) modifier_lettered_lem
