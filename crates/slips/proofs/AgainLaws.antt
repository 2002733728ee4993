-- Where a token `%` begins, the byte is a `%`.
use Prim.Native.Nat.{ℕ, suc, ◌+◌, ◌-◌, ◌<◌, ◌≤◌}
use mathlib.Core.Path.{◌≡◌, refl, sym, ap, ◌∙◌, subst}
use mathlib.Core.Logic.{⊎_elim}
use mathlib.Core.List.Memᴰ
use mathlib.Core.List.{List, [], ◌∷◌, ◌++◌, head-eq_of_cons-eq, Memᴰ}
use mathlib.Core.Bool.{Bool, true, false}
use mathlib.Core.Option.{Option, none, some}
use native.Mathlib.Omega.{arith}
use borrow.Author.Tests.{eqb-true, eqb-false}
use lib.Dec.{eqb}
use lib.ListN.{length, get_or, take, drop}
use lib.Seq.{drop-cons}
use Rattle.songcode.specs.Lists.{provided◌then◌else◌}
use Rattle.songcode.specs.Bytes.{Byte, placed, values, ascii, same, is, is_byte}
use Rattle.songcode.specs.Answer.Numbers.{count_in}
use Rattle.songcode.specs.Answer.Chords.{Chord, chord_in}
use Rattle.songcode.specs.Song.{again, silence}
use Rattle.songcode.specs.Answer.Tokens.{Token, sound, remover, line_end, chord_token, reference_token, closing_token, dollar_or, word_token}
use Rattle.songcode.proofs.ListLaws.{by_cases, both_pass}
use Rattle.text.specs.declared.lines.Line.{Line}
use Rattle.text.specs.Spans.{blank, part, front_blanks}
use Rattle.tokens.specs.Lexing.{plain_length, tokens_from}
use Rattle.tokens.proofs.LexLaws.{blanks_passed, blanks_over, at_semicolon, at_colon, at_bracket, at_closing, at_word, plain_byte}
use Rattle.slips.specs.Marks.{Mark, MarksFrom, MarkedLines, end_mark}
use Rattle.slips.specs.Strays.{StrayAt}

abbrev NotAgain : Token → Type 0
NotAgain t = t ≡ sound again → ⊥

if_not : (b : Bool) (x y : Token) → NotAgain x → NotAgain y → NotAgain (provided b then x else y)
unfolding provided◌then◌else◌
if_not true x y f g = f
if_not false x y f g = g

chord_not : (o : Option Chord) → NotAgain (chord_token o)
unfolding chord_token
chord_not none e =
    let z : ◌≡◌ {A = ℕ} 0 1 = cc in
    let y : ⊥ = omega arith in
    y
chord_not (some c) e =
    let z : ◌≡◌ {A = ℕ} 0 1 = cc in
    let y : ⊥ = omega arith in
    y

reference_not : (o : Option ℕ) → NotAgain (reference_token o)
unfolding reference_token
reference_not none e =
    let z : ◌≡◌ {A = ℕ} 0 1 = cc in
    let y : ⊥ = omega arith in
    y
reference_not (some n) e =
    let z : ◌≡◌ {A = ℕ} 0 1 = cc in
    let y : ⊥ = omega arith in
    y

closing_not : (o : Option ℕ) → NotAgain (closing_token o)
unfolding closing_token
closing_not none e =
    let z : ◌≡◌ {A = ℕ} 0 1 = cc in
    let y : ⊥ = omega arith in
    y
closing_not (some n) e =
    let z : ◌≡◌ {A = ℕ} 0 1 = cc in
    let y : ⊥ = omega arith in
    y

dollar_not : (w : List Byte) → NotAgain (dollar_or w)
unfolding dollar_or
dollar_not [] e =
    let z : ◌≡◌ {A = ℕ} 0 1 = cc in
    let y : ⊥ = omega arith in
    y
dollar_not (b ∷ bs) e =
    if_not (is_byte 36 b) (reference_token (count_in bs)) (chord_token (chord_in (b ∷ bs))) (reference_not (count_in bs)) (chord_not (chord_in (b ∷ bs))) e

word_again : (w : List Byte) → word_token w ≡ sound again → is "%" w ≡ true
unfolding word_token provided◌then◌else◌
word_again w e =
    by_cases (is "%" w)
    (λ h. h)
    (λ h.
    let g : (provided is "_" w then sound silence else provided is "=" w then remover else dollar_or w) ≡ sound again = rw h at e in
    absurd (if_not (is "_" w) (sound silence) _ (λ k. let z : ◌≡◌ {A = ℕ} 0 1 = cc in
    let y : ⊥ = omega arith in y)
    (if_not (is "=" w) remover (dollar_or w) (λ k. let z : ◌≡◌ {A = ℕ} 0 1 = cc in
    let y : ⊥ = omega arith in y) (dollar_not w)) g))

again_first : (b : Byte) (bs : List Byte) → is "%" (b ∷ bs) ≡ true → b.value ≡ 37
unfolding is same ascii values
again_first b bs e = sym (eqb-true 37 b.value (both_pass (eqb 37 b.value) _ e).0)

module _ (s : List ℕ) (a stop : ℕ) (h : a < stop) (l : stop ≤ length s) (solid : blank (get_or s a 0) ≡ false)
    (ts : List Token) (e : tokens_from a stop s ≡ sound again ∷ ts) where
  other : (t : Token) (us : List Token) → NotAgain t → tokens_from a stop s ≡ t ∷ us → ⊥
  other t us n f = n (head-eq_of_cons-eq (sym f ∙ e))

  pub again_byte : get_or s a 0 ≡ 37
  unfolding placed
  again_byte =
      let b = get_or s a 0 in
      let k = plain_length (part (a + 1) stop s) in
      by_cases (eqb b 59)
      (λ y. absurd (other _ _ (λ k. let z : ◌≡◌ {A = ℕ} 0 1 = cc in
      let x : ⊥ = omega arith in x) (at_semicolon s a stop h l (eqb-true b 59 y))))
      (λ n59.
      by_cases (eqb b 58)
      (λ y. absurd (other _ _ (λ k. let z : ◌≡◌ {A = ℕ} 0 1 = cc in
      let x : ⊥ = omega arith in x) (at_colon s a stop h l (eqb-true b 58 y))))
      (λ n58.
      by_cases (eqb b 91)
      (λ y. absurd (other _ _ (λ k. let z : ◌≡◌ {A = ℕ} 0 1 = cc in
      let x : ⊥ = omega arith in x) (at_bracket s a stop h l (eqb-true b 91 y))))
      (λ n91.
      by_cases (eqb b 93)
      (λ y. absurd (other _ _ (closing_not _) (at_closing s a stop h l k refl (eqb-true b 93 y))))
      (λ n93.
      let plain = plain_byte b solid (eqb-false b 59 n59) (eqb-false b 58 n58) (eqb-false b 91 n91) (eqb-false b 93 n93) in
      let w = head-eq_of_cons-eq (sym (at_word s a stop h l k refl plain) ∙ e) in
      let one : a + 1 + k - a ≡ suc k = omega arith in
      let there : placed a (part a (a + 1 + k) s) ≡ record { place = a; value = b } ∷ placed (suc a) (take k (drop (suc a) s)) =
      rw (one, drop-cons s a 0 (omega arith)) refl in
      again_first (record { place = a; value = b }) (placed (suc a) (take k (drop (suc a) s)))
      (subst (λ (v : List Byte). is "%" v ≡ true) there (word_again _ w))))))

abbrev pub AtAgain : List ℕ → Mark → Type 0
AtAgain s m = m.token ≡ sound again → (m.from < length s) × (get_or s m.from 0 ≡ 37)

pub marks_at : (s : List ℕ) (at stop : ℕ) → stop ≤ length s → (ms : List Mark) → MarksFrom s at stop ms → (m : Mark) → Memᴰ m ms → AtAgain s m
unfolding MarksFrom
marks_at s at stop l [] h m i = absurd (Memᴰ.not-nil i)
marks_at s at stop l (k ∷ ks) h m i =
    let f = front_blanks (part at stop s) in
    let place = h.0 in
    let before = h.1 in
    let inside = h.2 in
    ⊎_elim
    (λ e t.
    let t2 : k.token ≡ sound again = ap (λ (x : Mark). x.token) (sym e) ∙ t in
    let from : m.from ≡ at + f = ap (λ (x : Mark). x.from) e ∙ place in
    let told : tokens_from (at + f) stop s ≡ sound again ∷ tokens_from k.to stop s =
    sym (blanks_passed s at stop f refl stop (omega arith) (omega arith)) ∙ h.3 ∙ ap (λ (x : Token). x ∷ tokens_from k.to stop s) t2 in
    let byte = again_byte s (at + f) stop (omega arith) l (blanks_over s at stop f refl (omega arith) l) _ told in
    (omega arith, ap (λ (j : ℕ). get_or s j 0) from ∙ byte))
    (λ j. marks_at s k.to stop l ks h.4 m j)
    (Memᴰ.cases_cons i)

end_not : (stop : ℕ) (m : Mark) → m ≡ end_mark stop → NotAgain m.token
end_not stop m e t =
    let f : line_end ≡ sound again = ap (λ (x : Mark). x.token) (sym e) ∙ t in
    let z : ◌≡◌ {A = ℕ} 0 1 = cc in
    let y : ⊥ = omega arith in
    y

pub lines_at : (s : List ℕ) (ls : List Line) (ms : List Mark) → MarkedLines s ls ms → (m : Mark) → Memᴰ m ms → AtAgain s m
unfolding MarkedLines
lines_at s [] ms h m i = absurd (Memᴰ.not-nil (subst (λ (ns : List Mark). Memᴰ m ns) h i))
lines_at s (l ∷ ls) ms h m i =
    ⊎_elim
    (λ j. marks_at s l.start l.stop h.2.0 h.0 h.3 m j)
    (λ j.
    ⊎_elim
    (λ e t. absurd (end_not l.stop m e t))
    (λ k. lines_at s ls h.1 h.4 m k)
    (Memᴰ.cases_cons j))
    (Memᴰ.append_cases h.0 (subst (λ (ns : List Mark). Memᴰ m ns) h.5 i))

pub side_at : (s : List ℕ) (at stop : ℕ) → stop ≤ length s → (ms : List Mark) → MarksFrom s at stop ms
    → (m : Mark) → Memᴰ m (ms ++ (end_mark stop ∷ [])) → AtAgain s m
side_at s at stop l ms h m i =
    ⊎_elim
    (λ j. marks_at s at stop l ms h m j)
    (λ j t. absurd (end_not stop m (Memᴰ.eq_of_singleton j) t))
    (Memᴰ.append_cases ms i)

-- So it is where a stray `%` stands.
pub stray_byte : (s : List ℕ) (ms : List Mark) → ((m : Mark) → Memᴰ m ms → AtAgain s m) → (from : ℕ) → StrayAt ms from
    → (from < length s) × (get_or s from 0 ≡ 37)
stray_byte s ms h from x =
    let i = subst (λ (ns : List Mark). Memᴰ x.here ns) (sym x.text) (Memᴰ.append_right x.front (Memᴰ.head refl)) in
    subst (λ (p : ℕ). (p < length s) × (get_or s p 0 ≡ 37)) x.place (h x.here i x.again)
