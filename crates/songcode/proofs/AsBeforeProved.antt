-- Requests 2 and 4: where no `maj` stands behind a base, or no slip in an extension, a song is answered as before.
use Prim.Native.Nat.{ℕ, suc}
use mathlib.Core.Path.{◌≡◌, refl, ap, sym, ◌∙◌}
use mathlib.Core.List.{List, [], ◌∷◌, ◌++◌, append_assoc, reverse, reverse-append}
use mathlib.Core.Bool.{Bool, true, false, ◌&&◌, ◌||◌, not}
use mathlib.Core.Option.{Option, none, some}
use lib.ListN.{get_elem?}
use Rattle.songcode.specs.Lists.{provided◌then◌else◌, any, every}
use Rattle.songcode.specs.Bytes.{Byte, placed, values, ascii, same, begins}
use Rattle.songcode.specs.Answer.Chords.{bases, Base, ends_in_m, is_passed_over, is_taken, longest_from, longest_base, Chord, Reading, chord_by, is_slip}
use Rattle.songcode.specs.Answer.Chords.{without_slip}
use Rattle.songcode.specs.Answer.Chords.{chord_in}
use Rattle.songcode.specs.Answer.Tokens.{Token, Class, blank, semi, double, bracket, closing, plain, class, Lexed, dollar_as, word_token_as, word_as}
use Rattle.songcode.specs.Answer.Tokens.{lexed_by_as}
use Rattle.songcode.specs.Answer.Tokens.{lexed_as, lexed, tokens_as}
use Rattle.songcode.specs.Answer.Answer.{answer, song_answer}
use Rattle.songcode.specs.Description.WrittenPattern.{NoPlain}
use Rattle.songcode.specs.AsBefore.{as_at_first, by_longest, unchecked, WordOf, NoMaj, NoSlips, OfChords, AnsweredAs, AsBefore}
use Rattle.songcode.proofs.ListLaws.{by_cases, both_pass}
use Rattle.songcode.proofs.PatternLaws.{every_at, any_where}
use Rattle.songcode.proofs.Spellings.{same_true}
use Rattle.songcode.proofs.TakenBases.{passed_sound}
use Rattle.songcode.proofs.TokensAgree.{is_plain, not_plain, cut}
use Rattle.songcode.proofs.AnsweredAlike.{answer_alike, song_answer_alike}

-- What is read alike is lexed alike.
module _ (read : Reading) where
  word_alike : (w : List Byte) (ts : List Token) → chord_in w ≡ read w → word_as chord_in w ts ≡ word_as read w ts
  unfolding word_as word_token_as dollar_as
  word_alike [] ts e = refl
  word_alike (b ∷ w) ts e = rw e

  step_alike : (k : Class) (b : Byte) (l : Lexed) → (is_plain k ≡ false → word_as chord_in l.front l.rest ≡ word_as read l.front l.rest)
      → lexed_by_as chord_in k b l ≡ lexed_by_as read k b l
  unfolding lexed_by_as is_plain
  step_alike blank b l h = rw (h refl)
  step_alike semi b l h = rw (h refl)
  step_alike double b l h = rw (h refl)
  step_alike bracket b l h = rw (h refl)
  step_alike closing b l h = refl
  step_alike plain b l h = refl

  module _ (text : List Byte) (h : (w : List Byte) → WordOf text w → chord_in w ≡ read w) where
    front_alike_lem : (before bs : List Byte) → text ≡ before ++ bs → NoPlain (reverse before)
        → word_as chord_in (lexed_as chord_in bs).front (lexed_as chord_in bs).rest ≡ word_as read (lexed_as chord_in bs).front (lexed_as chord_in bs).rest
    unfolding lexed
    front_alike_lem before bs e n =
        let c = cut bs in
        let joined = e ∙ ap (λ xs. before ++ xs) c.joins in
        let w : WordOf text (lexed bs).front =
        record { before = before; behind = c.tail; joined = joined; plainly = c.plains; none_before = n; none_behind = c.stops } in
        word_alike (lexed bs).front (lexed bs).rest (h (lexed bs).front w)

    lexed_alike : (before bs : List Byte) → text ≡ before ++ bs → lexed_as chord_in bs ≡ lexed_as read bs
    unfolding lexed_as NoPlain
    lexed_alike before [] e = refl
    lexed_alike before (b ∷ bs) e =
        let further : text ≡ (before ++ (b ∷ [])) ++ bs = e ∙ sym (append_assoc before (b ∷ []) bs) in
        step_alike (class b) b (lexed_as chord_in bs)
        (λ p. front_alike_lem (before ++ (b ∷ [])) bs further (rw (reverse-append before (b ∷ [])) (λ f. not_plain p f)))
        ∙ ap (lexed_by_as read (class b) b) (lexed_alike (before ++ (b ∷ [])) bs further)

    tokens_alike : tokens_as chord_in text ≡ tokens_as read text
    unfolding tokens_as NoPlain
    tokens_alike = front_alike_lem [] text refl tt ∙ ap (λ (l : Lexed). word_as read l.front l.rest) (lexed_alike [] text refl)

-- So a file is answered alike where every word of its texts is read alike.
answered : (read : Reading) (bs : List ℕ) → OfChords (λ text. (w : List Byte) → WordOf text w → chord_in w ≡ read w) bs → AnsweredAs read bs
unfolding answer song_answer
answered read bs h =
    record {
      with_tables = answer_alike chord_in read bs (λ text i. tokens_alike read text (h text i));
      without_tables = song_answer_alike chord_in read bs (λ text i. tokens_alike read text (h text i));
    }

-- Request 4: a chord without slips is the chord that was read.
slips_alike : (text : List Byte) → NoSlips text → (w : List Byte) → WordOf text w → chord_in w ≡ unchecked w
unfolding chord_in unchecked without_slip provided◌then◌else◌
slips_alike text h w o = go (unchecked w) (h w o)
  where
    go : (o : Option Chord) → ((c : Chord) → o ≡ some c → any is_slip c.extension ≡ false) → without_slip o ≡ o
    go none k = refl
    go (some c) k = rw (k c refl)

-- Request 2: where none is passed over the longest that is taken is the longest that fits.
longest_alike : (word : List ℕ) (n : ℕ) (ss : List (List ℕ)) (best : Option Base)
    → ((k : ℕ) (s : List ℕ) → get_elem? ss k ≡ some s → is_passed_over s word ≡ false)
    → longest_from is_taken n ss word best ≡ longest_from begins n ss word best
unfolding longest_from is_taken
longest_alike word n [] best h = refl
longest_alike word n (s ∷ ss) best h =
    let e : begins s word && not (is_passed_over s word) ≡ begins s word = rw (h 0 s refl) (by_cases (begins s word) (λ t. rw t) (λ t. rw t)) in
    rw e (longest_alike word (suc n) ss _ (λ k u i. h (suc k) u i))

-- Every base that ends in `m` is another base and `m`.
is_other : List ℕ → Bool
is_other s = not (ends_in_m s) || any (λ t. same (t ++ ascii "m") s) bases

minors : every is_other bases ≡ true
unfolding is_other every bases ends_in_m any same ascii
minors = refl

none_passed : (text : List Byte) → NoMaj text → (w : List Byte) → WordOf text w → (k : ℕ) (s : List ℕ) → get_elem? bases k ≡ some s
    → is_passed_over s (values w) ≡ false
unfolding is_passed_over is_other ascii
none_passed text h w o k s i = by_cases (is_passed_over s (values w)) passed (λ t. t)
  where
    passed : is_passed_over s (values w) ≡ true → is_passed_over s (values w) ≡ false
    passed t =
        let p = passed_sound s (values w) t in
        let m : is_other s ≡ true = every_at is_other bases k minors i in
        let found = any_where (λ u. same (u ++ ascii "m") s) bases (rw (both_pass (ends_in_m s) (begins (s ++ ascii "aj") (values w)) t).0 at m) in
        let u = found.1 in
        let spelled : values w ≡ u ++ (ascii "maj" ++ p.rest) =
        p.follows ∙ ap (λ x. x ++ (ascii "aj" ++ p.rest)) (sym (same_true (u ++ ascii "m") s found.3))
        ∙ append_assoc u (ascii "m") (ascii "aj" ++ p.rest) in
        absurd (h w o u p.rest found.0 found.2 spelled)

maj_alike : (text : List Byte) → NoMaj text → (w : List Byte) → WordOf text w → unchecked w ≡ as_at_first w
unfolding unchecked as_at_first longest_base
maj_alike text h w o = ap (λ b. chord_by b w) (longest_alike (values w) 0 bases none (none_passed text h w o))

without_maj : (bs : List ℕ) → OfChords NoMaj bs → AnsweredAs by_longest bs
unfolding chord_in by_longest unchecked
without_maj bs h = answered by_longest bs (λ text i w o. ap without_slip (maj_alike text (h text i) w o))

pub as_before : AsBefore
unfolding by_longest unchecked as_at_first placed ascii
as_before =
    record {
      came_up_minor = refl;
      shown_as_chord = refl;
      both_at_first = refl;
      without_maj = without_maj;
      without_slips = λ bs h. answered unchecked bs (λ text i. slips_alike text (h text i));
      without_either = λ bs h k. answered as_at_first bs (λ text i w o. slips_alike text (k text i) w o ∙ maj_alike text (h text i) w o);
    }
