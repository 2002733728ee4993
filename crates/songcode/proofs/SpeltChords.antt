-- Request 1: every chord that is heard was spelled in the song, by a word without blanks, separators or brackets that stands in its file.
use Prim.Native.Nat.{◌<◌, ◌≤◌}
use Prim.Native.Char.{code}
use mathlib.Core.Path.{◌≡◌, refl, ap, sym, subst, ◌∙◌}
use mathlib.Core.List.{List, [], ◌∷◌, ◌++◌, append-nil}
use mathlib.Core.Bool.{Bool, true, false}
use mathlib.Core.Option.{Option, none, some}
use native.Mathlib.Omega.{arith}
use lib.ListN.{length}
use lib.Dec.{eqb}
use borrow.Author.Tests.{eqb-true}
use Rattle.songcode.specs.Lists.{provided◌then◌else◌}
use Rattle.songcode.specs.Bytes.{Byte, values, is_blank, is_byte}
use Rattle.songcode.specs.Answer.Chords.{Chord}
use Rattle.songcode.specs.Answer.Lines.{Line}
use Rattle.songcode.specs.Answer.Tokens.{Token, line_end, Class, blank, semi, double, bracket, closing, plain, class}
use Rattle.songcode.specs.Song.{Beat}
use Rattle.songcode.specs.Description.WrittenPattern.{Word, spells_again, spells_silence, spells_remover, spells_reference, spells_chord, Plain, NoPlain}
use Rattle.songcode.specs.Description.WrittenPattern.{Text}
use Rattle.songcode.specs.Description.WrittenPattern.{t_end, t_blank, t_semicolon, t_colon, t_open, t_close, t_word, TextLines, one_line, more_lines}
use Rattle.songcode.specs.Description.WrittenText.{Inside, Characters, no_character}
use Rattle.songcode.proofs.ListLaws.{by_cases, true_is_not_false, Each}
use Rattle.songcode.proofs.ByteLaws.{values_append}
use Rattle.songcode.proofs.CharacterPieces.{characters_before, characters_behind, ascii_no_tail}
use Rattle.songcode.proofs.FineLines.{Fine, FineLine, blank_ascii, inside_append}
use Rattle.songcode.proofs.CopyMeasure.{Spelt, SpeltIf, SpeltAll}
use Rattle.songcode.proofs.CopyPattern.{SpeltRow}
use Rattle.songcode.proofs.Stretches.{Stands, stands_parts, stands_more}
use Rattle.songcode.proofs.ChordsPlayed.{OfIf, OfAll, OfRow, OfSound, OfToken, OfTokens, tokens_append}

-- What is no plain byte is ASCII.
class_ascii : (b : Byte) → (class b ≡ plain → ⊥) → b.value < 128
unfolding class provided◌then◌else◌ is_byte
class_ascii b h =
    by_cases (is_blank b) (λ e. blank_ascii b e)
    (λ e. by_cases (eqb b.value (code ";")) (λ f. let v = eqb-true b.value (code ";") f in omega arith)
    (λ f. by_cases (eqb b.value (code ":")) (λ g. let v = eqb-true b.value (code ":") g in omega arith)
    (λ g. by_cases (eqb b.value (code "[")) (λ i. let v = eqb-true b.value (code "[") i in omega arith)
    (λ i. by_cases (eqb b.value (code "]")) (λ j. let v = eqb-true b.value (code "]") j in omega arith)
    (λ j. absurd (h (rw (e, f, g, i, j))))))))

word_off : (w bs : List Byte) → NoPlain bs → Characters (values (w ++ bs)) → Characters (values w) × Characters (values bs)
unfolding NoPlain values
word_off w [] n c = (rw append-nil at c, no_character)
word_off w (x ∷ bs) n c =
    characters_before x.value (values bs) (values w) (values (w ++ (x ∷ bs))) (ascii_no_tail x.value (class_ascii x n)) c (values_append w (x ∷ bs))

byte_off : (b : Byte) (bs : List Byte) → b.value < 128 → Characters (values (b ∷ bs)) → Characters (values bs)
unfolding values
byte_off b bs h c = characters_behind b.value (values bs) (values (b ∷ bs)) h c refl

unfoldable is_plain : Class → Bool
is_plain k = elim k [ blank ↦ false | semi ↦ false | double ↦ false | bracket ↦ false | closing ↦ false | plain ↦ true ]

other_ascii : (b : Byte) {k : Class} → class b ≡ k → is_plain k ≡ false → b.value < 128
unfolding is_plain
other_ascii b e n = class_ascii b (λ h. true_is_not_false (sym (ap is_plain (sym h ∙ e))) n)

module _ (file : List Byte) where
  -- A chord of a file: the word that spells it stands there.
  pub record Known (c : Chord) : Type 0 where
    pub spelt : Spelt c
    pub stands : Stands file c.extension

  word_known : {w : List Byte} {t : Token} → Plain w → 1 ≤ length w → Inside w → Characters (values w) → Stands file w → Word w t → OfToken Known t
  unfolding OfToken OfSound
  word_known p f i c h (spells_again e) = tt
  word_known p f i c h (spells_silence e) = tt
  word_known p f i c h (spells_remover e) = tt
  word_known p f i c h (spells_reference b e n) = tt
  word_known {w} p f i c h (spells_chord {c = d} s) =
      record {
        spelt = record { word = w; spelled = s; plainly = p; filled = f; within = i; whole = c };
        stands = (stands_parts s.base d.extension (subst (λ x. Stands file x) s.joined h)).1;
      }

  pub text_known : {bs : List Byte} {ts : List Token} → Text bs ts → Inside bs → Characters (values bs) → Stands file bs → OfTokens Known ts
  unfolding OfTokens OfToken Plain Inside is_plain
  text_known t_end i c s = tt
  text_known (t_blank {b} {bs} e t) i c s = text_known t i.1 (byte_off b bs (other_ascii b e refl) c) (stands_more b bs s)
  text_known (t_semicolon {b} {bs} e t) i c s = (tt, text_known t i.1 (byte_off b bs (other_ascii b e refl) c) (stands_more b bs s))
  text_known (t_colon {b} {bs} e t) i c s = (tt, text_known t i.1 (byte_off b bs (other_ascii b e refl) c) (stands_more b bs s))
  text_known (t_open {b} {bs} e t) i c s = (tt, text_known t i.1 (byte_off b bs (other_ascii b e refl) c) (stands_more b bs s))
  text_known (t_close {b} {w} {bs} {zs} e p n z k t) i c s =
      let h = word_off w bs n (subst (λ x. Characters (values x)) z (byte_off b zs (other_ascii b e refl) c)) in
      let q = stands_parts w bs (subst (λ x. Stands file x) z (stands_more b zs s)) in
      (tt, text_known t (inside_append w bs (subst (λ x. Inside x) z i.1)).1 h.1 q.1)
  text_known (t_word {b} {w} {bs} {zs} e p n z y t) i c s =
      let h = word_off (b ∷ w) bs n (subst (λ x. Characters (values (b ∷ x))) z c) in
      let j = inside_append (b ∷ w) bs (subst (λ x. Inside (b ∷ x)) z i) in
      let q = stands_parts (b ∷ w) bs (subst (λ x. Stands file (b ∷ x)) z s) in
      (word_known {w = b ∷ w} (e, p) (omega arith) j.0 h.0 q.0 y, text_known t j.1 h.1 q.1)

  pub lines_known : {l : Line} {ls : List Line} {ts : List Token} → TextLines l ls ts → Fine file l.text → Each (FineLine file) ls → OfTokens Known ts
  unfolding OfTokens OfToken Each FineLine
  lines_known (one_line t) f fs = text_known t f.within f.whole f.stands
  lines_known (more_lines {ts} {us} t m e) f fs =
      rw e (tokens_append Known ts (line_end ∷ us) (text_known t f.within f.whole f.stands) (tt, lines_known m fs.0 fs.1))

  -- Every chord of a row is spelled.
  all_spelt : (m : List Beat) → OfAll Known m → SpeltAll m
  unfolding OfAll OfIf SpeltAll SpeltIf
  all_spelt [] h = tt
  all_spelt (b ∷ m) h = (sound b.sounds h.0, all_spelt m h.1)
    where
      sound : (o : Option Chord) → OfIf Known o → SpeltIf o
      sound none k = tt
      sound (some c) k = k.spelt

  pub row_spelt : (row : List (List Beat)) → OfRow Known row → SpeltRow row
  unfolding OfRow SpeltRow
  row_spelt [] h = tt
  row_spelt (m ∷ row) h = (all_spelt m h.0, row_spelt row h.1)
