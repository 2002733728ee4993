-- Every token of a text of at most 65,536 bytes fits its word, and every count among them is at least 1; so do the items that are read of them.
use Prim.Native.Nat.{ℕ, zero, suc, ◌-◌, ◌<◌, ◌≤◌}
use mathlib.Core.Path.{◌≡◌, refl, subst}
use mathlib.Core.List.{List, [], ◌∷◌, map}
use mathlib.Core.Bool.{Bool, true, false}
use mathlib.Core.Option.{Option, none, some}
use native.Mathlib.Omega.{arith}
use borrow.Author.Tests.{leb-true, leb-false}
use Rattle.std.specs.Prelude as std
use lib.Dec.{leb}
use lib.ListN.{length, take, drop, length-take, length-drop, drop_of_length-le}
use lib.Seq.{take-nil}
use Rattle.songcode.specs.Lists.{provided◌then◌else◌}
use Rattle.songcode.specs.Bytes.{Byte, placed, is, is_byte}
use Rattle.songcode.specs.Answer.Numbers.{count_in, repeat_in}
use Rattle.songcode.specs.Answer.Chords.{Chord, chord_in}
use Rattle.songcode.specs.Answer.Lines.{Line}
use Rattle.songcode.specs.Song.{Sound, chord, again, silence, Sounds, only, also, Beside, nothing, a_line_end, Separator, by_semicolon}
use Rattle.songcode.specs.Song.{by_line_end, by_colon, Item, measure, loop, refer, Items, one, next}
use Rattle.songcode.specs.Answer.Tokens.{Token, sound, remover, reference, semicolon, colon, line_end, opens, closes, wrong, Class, blank, semi}
use Rattle.songcode.specs.Answer.Tokens.{double, bracket, closing, plain, class, chord_token, reference_token, closing_token, dollar_or, word_token}
use Rattle.songcode.specs.Answer.Tokens.{Lexed, word, lexed_by, lexed, tokens, tokens_of}
use Rattle.songcode.proofs.WrittenBefore.{write_sounds, write_removers, write_measure, write_beside, write_separator, write_item, write_items}
use Rattle.songcode.proofs.NumbersAgree.{count_exact, repeat_exact}
use Rattle.songcode.proofs.ListLaws.{by_cases, Each, each_append}
use Rattle.text.specs.declared.lines.Line as text
use Rattle.text.specs.Spans.{part, line_text, spans_from}
use Rattle.tokens.specs.TokenWords.{chord_word}
use Rattle.tokens.specs.Fitting.{Fit, AllFit}
use Rattle.tokens.proofs.TokensFit.{tokens_fit}
use Rattle.score.specs.Standing.{ChordFits, ChordsFit, ItemFits, ItemsFit}
use Rattle.sections.specs.declared.runs.Run.{Run}
use Rattle.sections.specs.declared.slots.Said.{Said}
use Rattle.sections.specs.Runs.{text_lines, lines_of}
use Rattle.sections.specs.Slots.{setting_at}
use Rattle.laying.specs.Laying.{run_tokens, said_tokens}

-- A count is at least 1.
unfoldable pub Counted : Token → Type 0
Counted (sound s) = Unit {0}
Counted remover = Unit {0}
Counted (reference n) = 1 ≤ n
Counted semicolon = Unit {0}
Counted colon = Unit {0}
Counted line_end = Unit {0}
Counted opens = Unit {0}
Counted (closes n) = 1 ≤ n
Counted wrong = Unit {0}

reference_counted : (bs : List Byte) → Counted (reference_token (count_in bs))
unfolding reference_token Counted
reference_counted bs = go (count_in bs) refl
  where
    go : (o : Option ℕ) → count_in bs ≡ o → Counted (reference_token o)
    go none e = tt
    go (some n) e = ((count_exact bs n).0 e).at_least

closing_counted : (bs : List Byte) → Counted (closing_token (repeat_in bs))
unfolding closing_token Counted
closing_counted bs = go (repeat_in bs) refl
  where
    go : (o : Option ℕ) → repeat_in bs ≡ o → Counted (closing_token o)
    go none e = tt
    go (some n) e = let h = ((repeat_exact bs n).0 e).at_least in omega arith

chord_counted : (o : Option Chord) → Counted (chord_token o)
unfolding chord_token Counted
chord_counted none = tt
chord_counted (some c) = tt

if_counted : (t : Bool) (x y : Token) → Counted x → Counted y → Counted (provided t then x else y)
unfolding provided◌then◌else◌
if_counted true x y f g = f
if_counted false x y f g = g

word_counted : (w : List Byte) → Counted (word_token w)
unfolding word_token Counted dollar_or
word_counted w =
    if_counted (is "%" w) (sound again) _ tt (if_counted (is "_" w) (sound silence) _ tt (if_counted (is "=" w) remover (dollar_or w) tt (dollar w)))
  where
    dollar : (v : List Byte) → Counted (dollar_or v)
    dollar [] = tt
    dollar (b ∷ bs) =
        if_counted (is_byte 36 b) (reference_token (count_in bs)) (chord_token (chord_in (b ∷ bs))) (reference_counted bs)
        (chord_counted (chord_in (b ∷ bs)))

words_counted : (w : List Byte) (ts : List Token) → Each Counted ts → Each Counted (word w ts)
unfolding word Each
words_counted [] ts h = h
words_counted (b ∷ w) ts h = (word_counted (b ∷ w), h)

lexed_by_counted : (k : Class) (b : Byte) (l : Lexed) → Each Counted l.rest → Each Counted (lexed_by k b l).rest
unfolding lexed_by Each Counted
lexed_by_counted blank b l h = words_counted l.front l.rest h
lexed_by_counted semi b l h = (tt, words_counted l.front l.rest h)
lexed_by_counted double b l h = (tt, words_counted l.front l.rest h)
lexed_by_counted bracket b l h = (tt, words_counted l.front l.rest h)
lexed_by_counted closing b l h = (closing_counted l.front, h)
lexed_by_counted plain b l h = h

lexed_counted : (bs : List Byte) → Each Counted (lexed bs).rest
unfolding lexed Each
lexed_counted [] = tt
lexed_counted (b ∷ bs) = lexed_by_counted (class b) b (lexed bs) (lexed_counted bs)

tokens_counted : (bs : List Byte) → Each Counted (tokens bs)
unfolding tokens
tokens_counted bs = words_counted (lexed bs).front (lexed bs).rest (lexed_counted bs)

-- Both: the token fits its word and is counted.
abbrev pub Good : Token → Type 0
Good t = Fit t × Counted t

both_good : (ts : List Token) → AllFit ts → Each Counted ts → Each Good ts
unfolding AllFit Each
both_good [] f c = tt
both_good (t ∷ ts) f c = ((f.0, c.0), both_good ts f.1 c.1)

none_good : Each Good []
unfolding Each
none_good = tt

-- The tokens of a part of the text, of a setting, of a run of lines.
module _ (s : List ℕ) (small : length s ≤ 65536) where
  pub part_good : (a e : ℕ) → Each Good (tokens (placed a (part a e s)))
  unfolding placed tokens lexed word Each
  part_good a e = by_cases (leb a (length s)) (λ t. within (leb-true a (length s) t)) (λ t. past (leb-false a (length s) t))
    where
      within : a ≤ length s → Each Good (tokens (placed a (part a e s)))
      within h =
          let k = length-take (e - a) (drop a s) in
          let l = length-drop a s in
          both_good (tokens (placed a (part a e s))) (tokens_fit a (part a e s) (omega arith)) (tokens_counted (placed a (part a e s)))

      past : length s < a → Each Good (tokens (placed a (part a e s)))
      past h =
          let z : part a e s ≡ [] = rw (drop_of_length-le s {i = a} (omega arith)) (take-nil (e - a)) in
          rw z tt

  pub said_good : (r : std.Option Said) → Each Good (said_tokens (setting_at s r))
  unfolding said_tokens setting_at Each
  said_good std.None = tt
  said_good (std.Some r) = part_good r.start r.stop

  GoodLine : Line → Type 0
  GoodLine l = Each Good (tokens l.text)

  spans_good : (ls : List text.Line) → Each GoodLine (map (line_text s) ls)
  unfolding Each GoodLine
  spans_good [] = tt
  spans_good (l ∷ ls) = (part_good l.start l.stop, spans_good ls)

  take_good : (k : ℕ) (ls : List Line) → Each GoodLine ls → Each GoodLine (take k ls)
  unfolding Each
  take_good zero ls h = tt
  take_good (suc k) [] h = tt
  take_good (suc k) (l ∷ ls) h = (h.0, take_good k ls h.1)

  lines_good : (l : Line) (ls : List Line) → Each GoodLine (l ∷ ls) → Each Good (tokens_of l ls)
  unfolding tokens_of Each GoodLine Fit Counted
  lines_good l [] h = h.0
  lines_good l (m ∷ ms) h = each_append Good (tokens l.text) (line_end ∷ tokens_of m ms) h.0 ((tt, tt), lines_good m ms h.1)

  pub run_good : (run : Run) → Each Good (run_tokens (lines_of s run))
  unfolding lines_of text_lines run_tokens
  run_good run =
      go (lines_of s run) (take_good run.lines (text_lines s run.number run.at)
      (spans_good (spans_from run.number run.at 0 (drop run.at s))))
    where
      go : (ls : List Line) → Each GoodLine ls → Each Good (run_tokens ls)
      go [] h = none_good
      go (l ∷ ls) h = lines_good l ls h

-- Items whose tokens are good fit.
sound_fit : (x : Sound) → Fit (sound x) → ChordFits x
unfolding Fit ChordFits chord_word
sound_fit (chord c) h = omega arith
sound_fit again h = tt
sound_fit silence h = tt

sounds_fit : (xs : Sounds) (k : List Token) → Each Good (write_sounds xs k) → ChordsFit xs × Each Good k
unfolding write_sounds Each ChordsFit
sounds_fit (only x) k h = (sound_fit x h.0.0, h.1)
sounds_fit (also xs x) k h = let g = sounds_fit xs (sound x ∷ k) h in ((g.0, sound_fit x g.1.0.0), g.1.1)

removers_fit : (n : ℕ) (k : List Token) → Each Good (write_removers n k) → Each Good k
unfolding write_removers Each
removers_fit zero k h = h
removers_fit (suc n) k h = (removers_fit n (remover ∷ k) h).1

beside_fit : (b : Beside) (k : List Token) → Each Good (write_beside b k) → Each Good k
unfolding write_beside Each
beside_fit nothing k h = h
beside_fit a_line_end k h = h.1

separator_fit : (t : Separator) (k : List Token) → Each Good (write_separator t k) → Each Good k
unfolding write_separator Each
separator_fit by_semicolon k h = h.1
separator_fit by_line_end k h = h.1
separator_fit (by_colon a b) k h = beside_fit b k (beside_fit a (colon ∷ write_beside b k) h).1

mutual
  unfolding write_item write_items write_measure Each ItemFits ItemsFit Fit Counted

  item_fit : (i : Item) (k : List Token) → Each Good (write_item i k) → ItemFits i × Each Good k
  item_fit (measure m) k h = let g = sounds_fit m.sounds (write_removers m.removers k) h in (g.0, removers_fit m.removers k g.1)
  item_fit (loop r n) k h =
      let g = items_fit_then r (closes n ∷ k) h.1 in
      let f = g.1.0.0 in
      ((g.1.0.1, omega arith, g.0), g.1.1)
  item_fit (refer n) k h = let f = h.0.0 in (omega arith, h.1)

  items_fit_then : (r : Items) (k : List Token) → Each Good (write_items r k) → ItemsFit r × Each Good k
  items_fit_then (one i) k h = item_fit i k h
  items_fit_then (next r t i) k h =
      let g = items_fit_then r (write_separator t (write_item i k)) h in
      let f = item_fit i k (separator_fit t (write_item i k) g.1) in
      ((g.0, f.0), f.1)

pub items_fit : (r : Items) (ts : List Token) → ts ≡ write_items r [] → Each Good ts → ItemsFit r
items_fit r ts e h = (items_fit_then r [] (subst (Each Good) e h)).0
