-- Request 1: a measure's line in the copy is read as one position a beat, and plays the measure again with every head set.
use Prim.Native.Nat.{ℕ, zero, suc, ◌+◌, ◌-◌, ◌≤◌}
use mathlib.Core.Path.{◌≡◌, refl, ap, sym, subst, ◌∙◌}
use mathlib.Core.List.{List, [], ◌∷◌, ◌++◌, map, append_assoc, append-nil, flat_map}
use mathlib.Core.Bool.{true}
use mathlib.Core.Option.{Option, none, some}
use native.Mathlib.Omega.{arith}
use lib.ListN.{length, get_or, get_elem?, replicate}
use Rattle.songcode.specs.Lists.{provided◌then◌else◌}
use Rattle.songcode.specs.Bytes.{Byte, placed, values, ascii, is_blank, is_byte}
use Rattle.songcode.specs.Answer.Chords.{Chord, bases}
use Rattle.songcode.specs.Song.{Sound, chord, silence, Sounds, only, also, Measure, Beat, beat}
use Rattle.songcode.specs.Answer.Tokens.{Token, sound, remover, class}
use Rattle.songcode.specs.Description.WrittenPattern.{Begins, PassedOver, SpelledChord, Word, spells_silence, spells_remover, spells_chord}
use Rattle.songcode.specs.Description.WrittenPattern.{Plain, NoPlain, Text, t_end, t_blank, t_word}
use Rattle.songcode.specs.Description.WrittenText.{Inside, Characters}
use Rattle.songcode.specs.Description.Performance.{Hears, HearsAll, held_for, PlaysMeasure}
use Rattle.songcode.specs.Answer.Flat.{letters, letters_of, parted, spaced, flat_measure}
use Rattle.songcode.specs.Description.WrittenPattern.{sounds_tokens, measure_tokens}
use Rattle.songcode.proofs.ByteLaws.{values_placed, values_append, length_placed, length_values, placed_append}
use Rattle.songcode.proofs.PatternLaws.{none_some}

-- A chord whose letters stand at a place; what is heard there.
unfoldable pub chord_at : ℕ → Chord → Chord
unfolding bases
chord_at at c = record { base = c.base; extension = placed (at + length (get_or bases c.base [])) (values c.extension) }

-- A chord of the song: the word that spells it, without a separator's byte.
pub record Spelt (c : Chord) : Type 0 where
  pub word : List Byte
  pub spelled : SpelledChord word c
  pub plainly : Plain word
  pub filled : 1 ≤ length word
  pub within : Inside word
  pub whole : Characters (values word)

get_some : {A : Type 0} (xs : List A) (n : ℕ) (d x : A) → get_elem? xs n ≡ some x → get_or xs n d ≡ x
get_some [] n d x h = none_some refl h
get_some (y ∷ xs) zero d x h = some_eq h
  where
    some_eq : some y ≡ some x → y ≡ x
    some_eq e = cc
get_some (y ∷ xs) (suc n) d x h = get_some xs n d x h

-- The letters are spelled again as the same chord.
pub spelled_again : (at : ℕ) (c : Chord) (w : List Byte) → SpelledChord w c → SpelledChord (placed at (letters (some c))) (chord_at at c)
unfolding letters chord_at
spelled_again at c w s =
    let g : get_or bases c.base [] ≡ values s.base = get_some bases c.base [] (values s.base) s.numbered in
    let v : values (placed at (get_or bases c.base [] ++ values c.extension)) ≡ values w =
    values_placed at _ ∙ rw (g, s.joined, values_append s.base c.extension) refl in
    let l : length (placed at (get_or bases c.base [])) ≡ length s.base = length_placed at _ ∙ ap length g ∙ length_values s.base in
    record {
      base = placed at (get_or bases c.base []);
      joined = placed_append at (get_or bases c.base []) (values c.extension);
      numbered = rw (values_placed at (get_or bases c.base []), g) s.numbered;
      taken = λ p.
          let q = subst (λ x. PassedOver (values (placed at (get_or bases c.base []))) x) v p in
          s.taken (subst (λ x. PassedOver x (values w)) (values_placed at _ ∙ g) q);
      longest = λ n t e b p. rw l (s.longest n t e (subst (λ x. Begins t x) v b) (λ q. p (subst (λ x. PassedOver t x) (sym v) q)));
      short = rw (length_placed, length_values) s.short;
      clean = rw (values_placed) s.clean;
    }

-- Bytes of the same values are plain alike.
class_of : (x y : Byte) → x.value ≡ y.value → class y ≡ class x
unfolding class is_blank is_byte
class_of x y e = rw e

pub plain_alike : (a b : List Byte) → values a ≡ values b → Plain a → Plain b
unfolding values Plain
plain_alike [] [] e p = tt
plain_alike [] (y ∷ b) e p = let z : ◌≡◌ {A = ℕ} 0 1 = cc in absurd (omega arith)
plain_alike (x ∷ a) [] e p = let z : ◌≡◌ {A = ℕ} 0 1 = cc in absurd (omega arith)
plain_alike (x ∷ a) (y ∷ b) e p = (class_of x y (cc) ∙ p.0, plain_alike a b (cc) p.1)

-- A word of the copy: its letters, and the token that they spell wherever they stand.
pub record Said : Type 0 where
  pub word : List ℕ
  pub filled : 1 ≤ length word
  pub token : ℕ → Token
  pub plainly : (at : ℕ) → Plain (placed at word)
  pub spells : (at : ℕ) → Word (placed at word) (token at)

unfoldable pub word_of : Said → List ℕ
word_of x = x.word

-- The tokens of words that each stand behind a space, the first space at a place.
unfoldable pub said_tokens : ℕ → List Said → List Token
said_tokens at [] = []
said_tokens at (x ∷ xs) = x.token (suc at) ∷ said_tokens (suc at + length x.word) xs

no_plain : (at : ℕ) (ws : List (List ℕ)) → NoPlain (placed at (parted ws))
unfolding parted placed NoPlain class provided◌then◌else◌ is_blank
no_plain at [] = tt
no_plain at (w ∷ ws) = λ e. let z : ◌≡◌ {A = ℕ} 0 1 = cc in absurd (omega arith)

word_at : (at : ℕ) (w rest : List ℕ) (t : Token) (ts : List Token) → 1 ≤ length w → Plain (placed at w) → Word (placed at w) t
    → NoPlain (placed (at + length w) rest) → Text (placed (at + length w) rest) ts → Text (placed at (w ++ rest)) (t ∷ ts)
unfolding placed Plain
word_at at [] rest t ts f p s n k = absurd (omega arith)
word_at at (b ∷ w) rest t ts f p s n k =
    let e : suc at + length w ≡ at + suc (length w) = omega arith in
    let z : placed (suc at) (w ++ rest) ≡ placed (suc at) w ++ placed (at + suc (length w)) rest = placed_append (suc at) w rest ∙ rw e in
    t_word p.0 p.1 n z s k

word_text : (at : ℕ) (x : Said) (xs : List Said) → Text (placed (at + length x.word) (parted (map word_of xs))) (said_tokens (at + length x.word) xs)
    → Text (placed at (x.word ++ parted (map word_of xs))) (x.token at ∷ said_tokens (at + length x.word) xs)
word_text at x xs k =
    word_at at x.word (parted (map word_of xs)) (x.token at) _ x.filled (x.plainly at) (x.spells at)
    (no_plain (at + length x.word) (map word_of xs)) k

parted_text : (at : ℕ) (xs : List Said) → Text (placed at (parted (map word_of xs))) (said_tokens at xs)
unfolding parted placed said_tokens class provided◌then◌else◌ is_blank word_of
parted_text at [] = t_end
parted_text at (x ∷ xs) = t_blank refl (word_text (suc at) x xs (parted_text (suc at + length x.word) xs))

pub spaced_text : (at : ℕ) (x : Said) (xs : List Said) → Text (placed at (spaced (map word_of (x ∷ xs)))) (x.token at ∷ said_tokens (at + length x.word) xs)
unfolding spaced word_of
spaced_text at x xs = word_text at x xs (parted_text (at + length x.word) xs)

-- What a beat sounds, said at a place.
unfoldable pub SpeltIf : Option Chord → Type 0
SpeltIf none = Unit {0}
SpeltIf (some c) = Spelt c

unfoldable pub SpeltAll : List Beat → Type 0
unfolding SpeltIf
SpeltAll [] = Unit {0}
SpeltAll (b ∷ m) = SpeltIf b.sounds × SpeltAll m

unfoldable pub sound_at : ℕ → Option Chord → Sound
unfolding chord_at
sound_at at none = silence
sound_at at (some c) = chord (chord_at at c)

pub letters_spelt : (c : Chord) (s : Spelt c) → letters (some c) ≡ values s.word
unfolding letters
letters_spelt c s =
    let w = s.spelled in
    let g : get_or bases c.base [] ≡ values w.base = get_some bases c.base [] (values w.base) w.numbered in
    rw (g, w.joined, values_append w.base c.extension) refl

said_sound : (h : Option Chord) → SpeltIf h → Said
unfolding SpeltIf sound_at letters ascii Plain class provided◌then◌else◌ is_blank placed
said_sound none s =
    record { word = letters none; filled = omega arith; token = λ at. sound silence; plainly = λ at. (refl, tt); spells = λ at. spells_silence refl }
said_sound (some c) s =
    record {
      word = letters (some c);
      filled = rw (letters_spelt c s, length_values) s.filled;
      token = λ at. sound (sound_at at (some c));
      plainly = λ at. plain_alike s.word (placed at (letters (some c))) (sym (values_placed at (letters (some c)) ∙ letters_spelt c s)) s.plainly;
      spells = λ at. spells_chord (spelled_again at c s.word s.spelled);
    }

remover_said : Said
unfolding ascii Plain class provided◌then◌else◌ is_blank is_byte placed values
remover_said =
    record { word = ascii "="; filled = omega arith; token = λ at. remover; plainly = λ at. (refl, tt); spells = λ at. spells_remover refl }

saids_of : (m : List Beat) → SpeltAll m → List Said
unfolding SpeltAll
saids_of [] s = []
saids_of (b ∷ m) s = said_sound b.sounds s.0 ∷ saids_of m s.1

-- The measure of the copy's line: its first position at a place.
unfoldable pub sounds_from : Sounds → List Sound → Sounds
sounds_from ss [] = ss
sounds_from ss (x ∷ xs) = sounds_from (also ss x) xs

unfoldable pub sounds_at : ℕ → List Beat → List Sound
unfolding sound_at letters_of
sounds_at at [] = []
sounds_at at (b ∷ m) = sound_at (suc at) b.sounds ∷ sounds_at (suc at + length (letters_of b)) m

unfoldable pub measure_at : ℕ → ℕ → Beat → List Beat → Measure
unfolding sounds_from sounds_at sound_at letters_of
measure_at n at b m = record { sounds = sounds_from (only (sound_at at b.sounds)) (sounds_at (at + length (letters_of b)) m); removers = n - length (b ∷ m) }

said_word : (h : Option Chord) (s : SpeltIf h) → (said_sound h s).word ≡ letters h
unfolding said_sound
said_word none s = refl
said_word (some c) s = refl

said_token : (h : Option Chord) (s : SpeltIf h) (at : ℕ) → (said_sound h s).token at ≡ sound (sound_at at h)
unfolding said_sound sound_at
said_token none s at = refl
said_token (some c) s at = refl

words_of : (m : List Beat) (s : SpeltAll m) (k : ℕ) → map word_of (saids_of m s ++ replicate k remover_said) ≡ map letters_of m ++ replicate k (ascii "=")
unfolding saids_of SpeltAll word_of letters_of remover_said ascii
words_of [] s zero = refl
words_of [] s (suc k) = ap (λ r. ascii "=" ∷ r) (words_of [] s k)
words_of (b ∷ m) s k = rw (said_word b.sounds s.0, words_of m s.1 k)

tokens_of_lem : (at : ℕ) (m : List Beat) (s : SpeltAll m) (k : ℕ)
    → said_tokens at (saids_of m s ++ replicate k remover_said) ≡ map sound (sounds_at at m) ++ replicate k remover
unfolding saids_of SpeltAll said_tokens sounds_at letters_of remover_said
tokens_of_lem at [] s zero = refl
tokens_of_lem at [] s (suc k) = ap (λ r. remover ∷ r) (tokens_of_lem (suc at + 1) [] s k)
tokens_of_lem at (b ∷ m) s k =
    rw (said_token b.sounds s.0 (suc at), said_word b.sounds s.0, tokens_of_lem (suc at + length (letters b.sounds)) m s.1 k)

sounds_from_lem : (ss : Sounds) (xs : List Sound) → sounds_tokens (sounds_from ss xs) ≡ sounds_tokens ss ++ map sound xs
unfolding sounds_from sounds_tokens
sounds_from_lem ss [] = sym (append-nil (sounds_tokens ss))
sounds_from_lem ss (x ∷ xs) = sounds_from_lem (also ss x) xs ∙ append_assoc (sounds_tokens ss) (sound x ∷ []) (map sound xs)

-- The line of a measure, read.
pub measure_text : (n at : ℕ) (b : Beat) (m : List Beat) → SpeltAll (b ∷ m) → Text (placed at (flat_measure n (b ∷ m))) (measure_tokens (measure_at n at b m))
unfolding flat_measure SpeltAll measure_at measure_tokens sounds_tokens letters_of word_of said_sound
measure_text n at b m s =
    let k = n - length (b ∷ m) in
    let x = said_sound b.sounds s.0 in
    let t = spaced_text at x (saids_of m s.1 ++ replicate k remover_said) in
    let ws : map word_of (x ∷ (saids_of m s.1 ++ replicate k remover_said)) ≡ letters_of b ∷ (map letters_of m ++ replicate k (ascii "=")) =
    rw (words_of m s.1 k) (ap (λ w. w ∷ (map letters_of m ++ replicate k (ascii "="))) (said_word b.sounds s.0)) in
    let ts : x.token at ∷ said_tokens (at + length x.word) (saids_of m s.1 ++ replicate k remover_said) ≡ measure_tokens (measure_at n at b m) =
    rw (said_token b.sounds s.0 at, said_word b.sounds s.0, tokens_of_lem (at + length (letters b.sounds)) m s.1 k)
    (rw (sounds_from_lem (only (sound_at at b.sounds)) (sounds_at (at + length (letters b.sounds)) m)) refl) in
    subst (λ y. Text y (measure_tokens (measure_at n at b m))) (ap (λ y. placed at (spaced y)) ws)
    (subst (λ y. Text (placed at (spaced (map word_of (x ∷ (saids_of m s.1 ++ replicate k remover_said))))) y) ts t)

-- What is heard there, and the measure played again: every beat has its head.
unfoldable pub heard_at : ℕ → Option Chord → Option Chord
unfolding chord_at
heard_at at none = none
heard_at at (some c) = some (chord_at at c)

unfoldable pub heads_at : ℕ → List Beat → List Beat
unfolding heard_at letters_of
heads_at at [] = []
heads_at at (b ∷ m) = beat (heard_at (suc at) b.sounds) true ∷ heads_at (suc at + length (letters_of b)) m

unfoldable pub measure_heads : ℕ → Beat → List Beat → List Beat
unfolding heads_at heard_at letters_of
measure_heads at b m = beat (heard_at at b.sounds) true ∷ heads_at (at + length (letters_of b)) m

unfoldable sound_of : Beat → Option Chord
sound_of b = b.sounds

one_beat : (at : ℕ) (m : List Beat) → heads_at at m ≡ flat_map (held_for 1) (map sound_of (heads_at at m))
unfolding flat_map held_for sound_of heads_at
one_beat at [] = refl
one_beat at (b ∷ m) = ap (λ r. beat (heard_at (suc at) b.sounds) true ∷ r) (one_beat (suc at + length (letters_of b)) m)

hears_one : (at : ℕ) (last h : Option Chord) → (later : Option Chord) × Hears last (sound_at at h) (heard_at at h) later
unfolding sound_at heard_at Hears
hears_one at last none = (last, (refl, refl))
hears_one at last (some c) = (some (chord_at at c), (refl, refl))

hears_more : (at : ℕ) (last : Option Chord) (ss : Sounds) (before : List (Option Chord)) (mid : Option Chord) (m : List Beat)
    → HearsAll last ss before mid → (later : Option Chord) × HearsAll last (sounds_from ss (sounds_at at m)) (before ++ map sound_of (heads_at at m)) later
unfolding sounds_from sounds_at heads_at sound_of HearsAll
hears_more at last ss before mid [] h = (mid, rw (append-nil before) h)
hears_more at last ss before mid (b ∷ m) h =
    let o = hears_one (suc at) mid b.sounds in
    let w : HearsAll last (also ss (sound_at (suc at) b.sounds)) (before ++ (heard_at (suc at) b.sounds ∷ [])) o.0 =
    (before, mid, heard_at (suc at) b.sounds, h, o.1, refl) in
    let r =
    hears_more (suc at + length (letters_of b)) last (also ss (sound_at (suc at) b.sounds)) (before ++ (heard_at (suc at) b.sounds ∷ [])) o.0 m w in
    (r.0, rw append_assoc at r.1)

length_heads_at : (at : ℕ) (m : List Beat) → length (map sound_of (heads_at at m)) ≡ length m
unfolding heads_at
length_heads_at at [] = refl
length_heads_at at (b ∷ m) = ap suc (length_heads_at (suc at + length (letters_of b)) m)

-- "each as N positions, one a beat": it plays in N what it was made of.
pub measure_plays : (n at : ℕ) (last : Option Chord) (b : Beat) (m : List Beat) → length (b ∷ m) ≤ n
    → (later : Option Chord) × PlaysMeasure n last (measure_at n at b m) (measure_heads at b m) later
unfolding measure_at measure_heads HearsAll flat_map held_for
measure_plays n at last b m h =
    let next = at + length (letters_of b) in
    let o = hears_one at last b.sounds in
    let w : HearsAll last (only (sound_at at b.sounds)) (heard_at at b.sounds ∷ []) o.0 = (heard_at at b.sounds, o.1, refl) in
    let r = hears_more next last (only (sound_at at b.sounds)) (heard_at at b.sounds ∷ []) o.0 m w in
    let l = length_heads_at next m in (
      r.0,
      record {
        heard = heard_at at b.sounds ∷ map sound_of (heads_at next m);
        hears = r.1;
        share = 1;
        divides = omega arith;
        lasts = ap (λ r. beat (heard_at at b.sounds) true ∷ r) (one_beat next m);
      },
    )
