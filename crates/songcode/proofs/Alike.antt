-- Request 1: bytes of the same values, wherever they stand, are read alike.
use Prim.Native.Nat.{ℕ, suc, ◌+◌, ◌*◌, ◌-◌}
use Prim.Native.Char.{code}
use mathlib.Core.Path.{◌≡◌, refl, ap, sym, ◌∙◌}
use mathlib.Core.List.{List, [], ◌∷◌, ◌++◌, map}
use lib.ListN.{length}
use Rattle.songcode.specs.Bytes.{Byte, values, is_blank, is_byte}
use Rattle.songcode.specs.Answer.Characters.{characters}
use Rattle.songcode.specs.Answer.Lines.{Line}
use Rattle.songcode.specs.Answer.Numbers.{is_digit, digits, is_decimal, value_from}
use Rattle.songcode.specs.Song.{KeyName, name, artist, original, capo, bpm, time, warning, end, Key}
use Rattle.songcode.specs.Description.WrittenText.{All, Stops}
use Rattle.songcode.specs.Description.WrittenPattern.{Number}
use Rattle.songcode.specs.Description.WrittenSection.{Each, none_each, and_each, Signed, Phrase, TimeText}
use Rattle.songcode.specs.Description.WrittenSection.{Setting, KeyLine, key_number, key_spelling, Unmarked, CommentMarked, Header}
use Rattle.songcode.specs.Answer.Flat.{text_of}
use Rattle.songcode.proofs.ListLaws.{nil_is_not_cons}

-- Two texts of the same values, byte for byte.
pub alike : (R : List Byte → List Byte → Type 0) → R [] []
    → ((x y : Byte) (a b : List Byte) → x.value ≡ y.value → values a ≡ values b → R a b → R (x ∷ a) (y ∷ b)) → (a b : List Byte) → values a ≡ values b → R a b
unfolding values
alike R n c [] [] e = n
alike R n c [] (y ∷ b) e = nil_is_not_cons e
alike R n c (x ∷ a) [] e = nil_is_not_cons (sym e)
alike R n c (x ∷ a) (y ∷ b) e = c x y a b (cc) (cc) (alike R n c a b (cc))

pub record Split (zs xs ys : List Byte) : Type 0 where
  pub front : List Byte
  pub back : List Byte
  pub joined : zs ≡ front ++ back
  pub front_alike : values front ≡ values xs
  pub back_alike : values back ≡ values ys

pub split : (zs xs ys : List Byte) → values zs ≡ values (xs ++ ys) → Split zs xs ys
unfolding values
split zs [] ys e = record { front = []; back = zs; joined = refl; front_alike = refl; back_alike = e }
split [] (x ∷ xs) ys e = nil_is_not_cons e
split (z ∷ zs) (x ∷ xs) ys e =
    let s = split zs xs ys (cc) in
    let v : z.value ≡ x.value = cc in
    record {
      front = z ∷ s.front;
      back = s.back;
      joined = ap (λ w. z ∷ w) s.joined;
      front_alike = rw v (ap (λ w. x.value ∷ w) s.front_alike);
      back_alike = s.back_alike;
    }

pub length_alike : (a b : List Byte) → values a ≡ values b → length a ≡ length b
length_alike a b e = alike (λ a b. length a ≡ length b) refl (λ x y a b v w h. ap suc h) a b e

blank_alike : (x y : Byte) → x.value ≡ y.value → is_blank x ≡ is_blank y
unfolding is_blank
blank_alike x y e = rw e

pub byte_alike : (c : ℕ) (x y : Byte) → x.value ≡ y.value → is_byte c x ≡ is_byte c y
unfolding is_byte
byte_alike c x y e = rw e

pub blanks_alike : (a b : List Byte) → values a ≡ values b → All is_blank b → All is_blank a
unfolding All
blanks_alike a b e = alike (λ a b. All is_blank b → All is_blank a) (λ h. tt) (λ x y a b v w f h. (blank_alike x y v ∙ h.0, f h.1)) a b e

pub stops_alike : (a b : List Byte) → values a ≡ values b → Stops is_blank b → Stops is_blank a
unfolding Stops
stops_alike a b e = alike (λ a b. Stops is_blank b → Stops is_blank a) (λ h. tt) (λ x y a b v w f h. blank_alike x y v ∙ h) a b e

-- A signed line.
pub record SignedAlike (sign : ℕ) (spelling : List ℕ) (bs setting : List Byte) : Type 0 where
  pub other : List Byte
  pub written : Signed sign spelling bs other
  pub same : values other ≡ values setting

pub signed_alike : (sign : ℕ) (spelling : List ℕ) (cs bs setting : List Byte) → values cs ≡ values bs → Signed sign spelling bs setting
    → SignedAlike sign spelling cs setting
unfolding values
signed_alike sign spelling cs bs setting e s =
    let a = split cs (s.first ∷ []) (s.word ++ (s.gap ++ setting)) (rw s.written at e) in
    let b = split a.back s.word (s.gap ++ setting) a.back_alike in
    let c = split b.back s.gap setting b.back_alike in
    go a.front a.joined a.front_alike b c
  where
    go : {back : List Byte} (front : List Byte) → cs ≡ front ++ back → values front ≡ s.first.value ∷ []
        → (b : Split back s.word (s.gap ++ setting)) → (c : Split b.back s.gap setting) → SignedAlike sign spelling cs setting
    go [] j f b c = nil_is_not_cons f
    go {back} (x ∷ []) j f b c =
        record {
          other = c.back;
          written = record {
            first = x;
            word = b.front;
            gap = c.front;
            written = j ∙ ap (λ w. x ∷ w) (b.joined ∙ ap (λ w. b.front ++ w) c.joined);
            signs = (let v : x.value ≡ s.first.value = cc in v ∙ s.signs);
            spelled = b.front_alike ∙ s.spelled;
            blanks = blanks_alike c.front s.gap c.front_alike s.blanks;
            parted = rw (length_alike c.front s.gap c.front_alike) s.parted;
            solid = stops_alike c.back setting c.back_alike s.solid;
          };
          same = c.back_alike;
        }
    go (x ∷ y ∷ front) j f b c = nil_is_not_cons (sym (tail f))
      where
        tail : x.value ∷ (y.value ∷ values front) ≡ s.first.value ∷ [] → y.value ∷ values front ≡ []
        tail h = cc

-- Settings.
pub characters_alike : (a b : List Byte) → values a ≡ values b → characters a ≡ characters b
unfolding characters
characters_alike a b e = alike (λ a b. characters a ≡ characters b) refl (λ x y a b v w h. rw (v, h)) a b e

digit_alike : (x y : Byte) → x.value ≡ y.value → is_digit x ≡ is_digit y
unfolding is_digit
digit_alike x y e = rw e

digits_alike : (a b : List Byte) → values a ≡ values b → digits a ≡ digits b
unfolding digits
digits_alike a b e = alike (λ a b. digits a ≡ digits b) refl (λ x y a b v w h. rw (digit_alike x y v, h)) a b e

decimal_alike : (a b : List Byte) → values a ≡ values b → is_decimal a ≡ is_decimal b
unfolding is_decimal digits
decimal_alike a b e = alike (λ a b. is_decimal a ≡ is_decimal b) refl (λ x y a b v w h. more x y v a b w) a b e
  where
    more : (x y : Byte) → x.value ≡ y.value → (a b : List Byte) → values a ≡ values b → is_decimal (x ∷ a) ≡ is_decimal (y ∷ b)
    more x y v a b w = alike (λ a b. is_decimal (x ∷ a) ≡ is_decimal (y ∷ b)) (digit_alike x y v) (λ c d a b p q h. rw (v, p, digits_alike a b q)) a b w

value_alike : (a b : List Byte) → values a ≡ values b → (v : ℕ) → value_from v a ≡ value_from v b
unfolding value_from
value_alike a b e = alike (λ a b. (v : ℕ) → value_from v a ≡ value_from v b) (λ v. refl) (λ x y a b p q h v. rw p (h (v * 10 + (y.value - code "0")))) a b e

pub number_alike : {low high n : ℕ} (a b : List Byte) → values a ≡ values b → Number low high b n → Number low high a n
number_alike a b e s =
    record { decimal = decimal_alike a b e ∙ s.decimal; says = s.says ∙ sym (value_alike a b e 0); at_least = s.at_least; at_most = s.at_most }

pub time_alike : {n : ℕ} (a b : List Byte) → values a ≡ values b → TimeText b n → TimeText a n
time_alike a b e s =
    let p = split a s.above s.under (rw s.written at e) in
    record {
      above = p.front;
      under = p.back;
      written = p.joined;
      number = number_alike p.front s.above p.front_alike s.number;
      quarters = p.back_alike ∙ s.quarters;
    }

phrase_alike : (a b : List Byte) → values a ≡ values b → Phrase b → Phrase a
unfolding Phrase
phrase_alike a b e h = rw (characters_alike a b e) h

pub setting_alike : (k : KeyName) (a b : List Byte) → values a ≡ values b → Setting k b → Setting k a
unfolding Setting
setting_alike name a b e h = phrase_alike a b e h
setting_alike artist a b e h = phrase_alike a b e h
setting_alike original a b e h = (h.0, rw e h.1)
setting_alike capo a b e h = (h.0, number_alike a b e h.1)
setting_alike bpm a b e h = (h.0, number_alike a b e h.1)
setting_alike time a b e h = (h.0, time_alike a b e h.1)
setting_alike warning a b e h = phrase_alike a b e h
setting_alike end a b e h = phrase_alike a b e h

-- Key lines.
pub record AlikeKey (j k : Key) : Type 0 where
  pub key : j.key ≡ k.key
  pub setting : values j.setting ≡ values k.setting

pub key_alike : (m l : Line) (k : Key) → text_of m ≡ text_of l → KeyLine l k → (j : Key) × KeyLine m j × AlikeKey j k
unfolding text_of
key_alike m l k e w =
    let s = signed_alike (code "@") (key_spelling k.key) m.text l.text k.setting e w.written in
    let a = setting_alike k.key s.other k.setting s.same w.allowed in
    (record { key = k.key; setting = s.other }, record { written = s.written; allowed = a }, record { key = refl; setting = s.same })

pub keys_alike : (ms ls : List Line) (ks : List Key) → map text_of ms ≡ map text_of ls → Each KeyLine ls ks
    → (js : List Key) × Each KeyLine ms js × Each AlikeKey js ks
keys_alike [] ls ks e none_each = ([], none_each, none_each)
keys_alike (m ∷ ms) ls ks e none_each = nil_is_not_cons (sym e)
keys_alike [] ls ks e (and_each w ws) = nil_is_not_cons e
keys_alike (m ∷ ms) ls ks e (and_each {x} {y} {xs} {ys} w ws) =
    let a = key_alike m x y (cc) w in
    let b = keys_alike ms xs ys (cc) ws in
    (a.0 ∷ b.0, and_each a.1 b.1, and_each a.2 b.2)

pub numbers_alike : {js ks : List Key} → Each AlikeKey js ks → map key_number js ≡ map key_number ks
unfolding key_number
numbers_alike none_each = refl
numbers_alike (and_each a more) = rw (a.key, numbers_alike more)

-- Headers.
unmarked_alike : (a b : List Byte) → values a ≡ values b → Unmarked b → Unmarked a
unfolding Unmarked
unmarked_alike a b e = alike (λ a b. Unmarked b → Unmarked a) (λ h. tt) (λ x y a b v w f h. (byte_alike (code "!") x y v ∙ h.0, f h.1)) a b e

marked_alike : (a b : List Byte) → values a ≡ values b → CommentMarked b → CommentMarked a
unfolding CommentMarked
marked_alike a b e = alike (λ a b. CommentMarked b → CommentMarked a) (λ h. tt) (λ x y a b v w f h. byte_alike (code "!") x y v ∙ h) a b e

pub header_alike : (a b : List Byte) → values a ≡ values b → Header b → Header a
header_alike a b e h =
    let p = split a h.title h.comment (rw h.written at e) in
    record {
      title = p.front;
      comment = p.back;
      written = p.joined;
      plain_title = unmarked_alike p.front h.title p.front_alike h.plain_title;
      marked = marked_alike p.back h.comment p.back_alike h.marked;
      long = rw (characters_alike p.front h.title p.front_alike) h.long;
      short = rw (characters_alike p.front h.title p.front_alike) h.short;
    }
