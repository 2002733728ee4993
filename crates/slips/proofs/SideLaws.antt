-- A lead-in or tail whose tokens are right is so written: without a token `:` and without `$n` no `:` and no `$` stands in it.
use Prim.Native.Nat.{ℕ}
use Prim.Native.Char.{code}
use mathlib.Core.Path.{◌≡◌, refl, sym, ap, subst, ◌∙◌}
use mathlib.Core.List.Memᴰ
use mathlib.Core.List.{List, [], ◌∷◌, ◌++◌, append-nil, Memᴰ}
use mathlib.Core.Bool.{Bool, true, false, not}
use mathlib.Core.Option.{bind}
use native.Mathlib.Omega.{arith}
use borrow.Author.Tests.{ne_eqb}
use lib.Dec.{eqb}
use Rattle.songcode.specs.Lists.{provided◌then◌else◌, any, every}
use Rattle.songcode.specs.Bytes.{Byte, values, ascii, is_byte, is_blank}
use Rattle.songcode.specs.Song.{Items}
use Rattle.songcode.specs.Answer.Chords.{bases, Chord}
use Rattle.songcode.specs.Answer.Tokens.{Token, sound, remover, reference, semicolon, colon, line_end, opens, closes, wrong, tokens}
use Rattle.songcode.specs.Answer.Tokens.{Class, blank, semi, double, bracket, closing, plain, class}
use Rattle.songcode.specs.Answer.PatternText.{items_in, kept, references, no_reference, barred}
use Rattle.songcode.specs.Description.WrittenText.{All}
use Rattle.songcode.specs.Description.WrittenPattern.{Word, spells_again, spells_silence, spells_remover, spells_reference, spells_chord, SpelledChord, Plain}
use Rattle.songcode.specs.Description.WrittenPattern.{Text, t_end, t_blank, t_semicolon, t_colon, t_open, t_close, t_word, Unbarred, WrittenSide}
use Rattle.songcode.proofs.WrittenBefore.{write_items, appended}
use Rattle.songcode.proofs.ListLaws.{true_is_not_false, none_passes, nil_is_not_cons}
use Rattle.songcode.proofs.ChoiceLaws.{is_some_some}
use Rattle.songcode.proofs.MemberLaws.{either, only_one}
use Rattle.songcode.proofs.PatternLaws.{every_at}
use Rattle.songcode.proofs.ByteLaws.{values_append}
use Rattle.songcode.proofs.SettingAgree.{without, decimal_without}
use Rattle.songcode.proofs.TokensAgree.{text_exact}
use Rattle.songcode.proofs.WrittenTokens.{mentioned, items_mentioned}
use Rattle.songcode.proofs.PatternAgree.{kept_sound, no_wrong, none_referred}
use Rattle.grammar.proofs.BeginningLaws.{or_true}
use Rattle.slips.specs.declared.patterns.Whose.TheVariants.{Side}
use Rattle.slips.specs.Rules.{is_colon, Right}

-- The two signs are of classes of their own.
colon_double : (b : Byte) → b.value ≡ code ":" → class b ≡ double
unfolding class is_blank is_byte provided◌then◌else◌
colon_double b e = rw e refl

dollar_plain : (b : Byte) → b.value ≡ code "$" → class b ≡ plain
unfolding class is_blank is_byte provided◌then◌else◌
dollar_plain b e = rw e refl

unbarred_by : (b : Byte) → (b.value ≡ code ":" → ⊥) → (b.value ≡ code "$" → ⊥) → barred b ≡ false
unfolding barred is_byte
unbarred_by b n m = rw (ne_eqb b.value (code ":") n, ne_eqb b.value (code "$") m) refl

-- The classes of the two, and the others.
unfoldable may_bar : Class → Bool
may_bar blank = false
may_bar semi = false
may_bar double = true
may_bar bracket = false
may_bar closing = false
may_bar plain = true

sign_unbarred : {k : Class} (b : Byte) → class b ≡ k → may_bar k ≡ false → barred b ≡ false
unfolding may_bar
sign_unbarred b e n =
    unbarred_by b (λ v. true_is_not_false (ap may_bar (sym e ∙ colon_double b v)) n) (λ v. true_is_not_false (ap may_bar (sym e ∙ dollar_plain b v)) n)

not_double : (b : Byte) → class b ≡ plain → class b ≡ double → ⊥
not_double b e f = let z : ◌≡◌ {A = ℕ} 0 1 = cc in omega arith

-- Words.
abbrev NoDollar : List Byte → Type 0
NoDollar w = Memᴰ (code "$") (values w) → ⊥

plain_unbarred : (w : List Byte) → Plain w → NoDollar w → Unbarred w
unfolding Plain Unbarred values
plain_unbarred [] p n = tt
plain_unbarred (b ∷ w) p n = (
  unbarred_by b (λ v. not_double b p.0 (colon_double b v)) (λ v. n (Memᴰ.head (sym v))),
  plain_unbarred w p.1 (λ i. n (Memᴰ.tail i)),
)

behind_unbarred : (w bs : List Byte) → Unbarred w → Unbarred bs → Unbarred (w ++ bs)
unfolding Unbarred
behind_unbarred [] bs u v = v
behind_unbarred (b ∷ w) bs u v = (u.0, behind_unbarred w bs u.1 v)

without_dollar : (w : List Byte) → All (without (code "$")) w → NoDollar w
unfolding All values is_byte
without_dollar [] a i = Memᴰ.not-nil i
without_dollar (b ∷ w) a (Memᴰ.head e) = true_is_not_false a.0 (rw (sym e) refl)
without_dollar (b ∷ w) a (Memᴰ.tail i) = without_dollar w a.1 i

one_sign : (sign : ℕ) (w : List Byte) → values w ≡ sign ∷ [] → (code "$" ≡ sign → ⊥) → NoDollar w
one_sign sign w e n i = n (only_one (subst (λ (vs : List ℕ). Memᴰ (code "$") vs) e i))

-- Of the base chords none is spelled with a `$`, and an extension holds none.
any_dollar : {vs : List ℕ} → Memᴰ (code "$") vs → any (eqb (code "$")) vs ≡ true
unfolding any
any_dollar (Memᴰ.head e) = rw (← e) refl
any_dollar {vs = v ∷ vs} (Memᴰ.tail i) = rw (any_dollar i) (or_true (eqb (code "$") v))

bases_plain : every (λ s. not (any (eqb (code "$")) s)) bases ≡ true
unfolding every any bases
bases_plain = refl

chord_plain : (w : List Byte) (c : Chord) → SpelledChord w c → NoDollar w
unfolding ascii
chord_plain w c s i =
    either (values s.base)
    (λ j.
    true_is_not_false (every_at (λ s. not (any (eqb (code "$")) s)) bases c.base bases_plain s.numbered) (rw (any_dollar j) refl))
    (λ j. s.clean (code "$") j (Memᴰ.tail (Memᴰ.tail (Memᴰ.tail (Memᴰ.head refl)))))
    (subst (λ (vs : List ℕ). Memᴰ (code "$") vs) (ap values s.joined ∙ values_append s.base c.extension) i)

word_plain : {w : List Byte} {t : Token} (ts : List Token) → Word w t → mentioned (t ∷ ts) ≡ [] → NoDollar w
unfolding mentioned ascii
word_plain {w} ts (spells_again e) m = one_sign (code "%") w e (λ z. omega arith)
word_plain {w} ts (spells_silence e) m = one_sign (code "_") w e (λ z. omega arith)
word_plain {w} ts (spells_remover e) m = one_sign (code "=") w e (λ z. omega arith)
word_plain ts (spells_reference b e n) m = nil_is_not_cons (sym m)
word_plain {w} ts (spells_chord {c = c} s) m = chord_plain w c s

mentioned_behind : (t : Token) (ts : List Token) → mentioned (t ∷ ts) ≡ [] → mentioned ts ≡ []
unfolding mentioned
mentioned_behind (sound s) ts m = m
mentioned_behind remover ts m = m
mentioned_behind (reference n) ts m = nil_is_not_cons (sym m)
mentioned_behind semicolon ts m = m
mentioned_behind colon ts m = m
mentioned_behind line_end ts m = m
mentioned_behind opens ts m = m
mentioned_behind (closes n) ts m = m
mentioned_behind wrong ts m = m

-- A text without a token `:` and without `$n`.
text_unbarred : {bs : List Byte} {ts : List Token} → Text bs ts → any is_colon ts ≡ false → mentioned ts ≡ [] → Unbarred bs
unfolding any Unbarred Plain mentioned is_colon may_bar
text_unbarred t_end c m = tt
text_unbarred (t_blank {b} e t) c m = (sign_unbarred b e refl, text_unbarred t c m)
text_unbarred (t_semicolon {b} e t) c m = (sign_unbarred b e refl, text_unbarred t c m)
text_unbarred (t_colon {b} e t) c m = true_is_not_false refl c
text_unbarred (t_open {b} e t) c m = (sign_unbarred b e refl, text_unbarred t c m)
text_unbarred (t_close {b} {w} {bs} e p s z k t) c m = (
  sign_unbarred b e refl,
  rw z (behind_unbarred w bs (plain_unbarred w p (without_dollar w (decimal_without (code "$") (omega arith) w k.decimal))) (text_unbarred t c m)),
)
text_unbarred (t_word {b} {w} {bs} {ts = ts} {t = u} e p s z v t) c m =
    let n = none_passes (is_colon u) (any is_colon ts) c in
    let own = plain_unbarred (b ∷ w) (e, p) (word_plain ts v m) in
    (own.0, rw z (behind_unbarred w bs own.1 (text_unbarred t n.1 (mentioned_behind u ts m))))

pub side_written : (bs : List Byte) → Right Side (tokens bs) → (r : Items) × WrittenSide bs r
unfolding Right mentioned
side_written bs h =
    let a = is_some_some (bind (items_in (tokens bs)) (kept no_reference)) h.1 in
    let r = a.0 in
    let k = kept_sound no_reference (tokens bs) r a.1 in
    let t = (text_exact bs (write_items r []) (no_wrong r)).0 k.0 in
    let m : mentioned (write_items r []) ≡ [] = items_mentioned r [] ∙ append-nil (references r) ∙ (none_referred r).0 k.2 in
    let c : any is_colon (write_items r []) ≡ false = subst (λ (ts : List Token). any is_colon ts ≡ false) k.0 h.0 in
    (r, record { text = subst (λ (ts : List Token). Text bs ts) (appended r) t; shallow = k.1; unbarred = text_unbarred t c m })
