-- What the answer and the description share, described once more in other words: references put in, decimals, loops in loops, repeats, heads.
use Rattle.std.specs.Prelude.{ℕ, ◌+◌, ◌*◌, ◌<◌, ◌≤◌, ◌≡◌, ◌↔◌, ◌⊎◌, true, length}
use Prim.Native.Char.{code}
use mathlib.Core.List.{List, [], ◌∷◌, ◌++◌, Memᴰ}
use Rattle.std.proofs.Math.Option.{Option, none, some}
use Rattle.songcode.specs.Lists.{times}
use Rattle.songcode.specs.Bytes.{Byte}
use Rattle.songcode.specs.Answer.Numbers.{is_decimal, value_from}
use Rattle.songcode.specs.Song.{Measure, Item, measure, loop, refer, Items, one, next, Pattern, items, named, Beat}
use Rattle.songcode.specs.Song.{Cut, Side, Modifiers, Definition, Section, Song}
use Rattle.songcode.specs.Answer.Tokens.{Token, reference}
use Rattle.songcode.specs.Answer.PatternText.{depth, loops_deep}
use Rattle.songcode.specs.Answer.References.{pattern_items}
use Rattle.songcode.specs.Answer.Playing.{repeats}
use Rattle.songcode.specs.Description.WrittenPattern.{items_tokens}
use Rattle.songcode.specs.Description.WrittenSong.{WrittenChart}
use Rattle.songcode.specs.Description.Performance.{CutsFront, as_often, Parts, PlaysSection}
use Rattle.songcode.specs.Description.Fits.{DefinitionsRefer, PatternRefers}
use Rattle.songcode.specs.Description.StoppedSong.{HoldsLoop, MeasureIn, sounds_written, places}

-- "`$n` means an earlier definition's items, put in its place": in the written text each `$n` gives way to what that definition is written as.
pub data InPlace (ds : List Definition) : Token → List Token → Type 0 where
  its_items : (d : Definition) (q : Items) → Memᴰ d ds → d.items ≡ some q → InPlace ds (reference d.id) (items_tokens q)
  as_it_is : (t : Token) → ((n : ℕ) → t ≡ reference n → ⊥) → InPlace ds t (t ∷ [])

pub data PutIn (ds : List Definition) : List Token → List Token → Type 0 where
  all_put : PutIn ds [] []
  and_put : {t : Token} {ts us vs ws : List Token} → InPlace ds t us → PutIn ds ts vs → ws ≡ us ++ vs → PutIn ds (t ∷ ts) ws

-- What a section's pattern says: its own items, or those of the definition that it names, references put in; nothing where that one is empty.
-- "By 000 a definition that holds a reference can't itself be referred to by a definition ... A section may name it."
pub data PatternSays (ds : List Definition) : Pattern → Option Items → Type 0 where
  own_items : {r : Items} → PatternSays ds (items r) (some r)
  names_items : {r : Items} (d : Definition) (q : Items) → Memᴰ d ds → d.items ≡ some q → PutIn ds (items_tokens q) (items_tokens r)
      → PatternSays ds (named d.id) (some r)
  names_nothing : (d : Definition) → Memᴰ d ds → d.items ≡ none → PatternSays ds (named d.id) none

-- "Numbers are decimals without leading zero": a digit, or a digit behind a number that is not 0.
pub data Decimal : List Byte → ℕ → Type 0 where
  digit : (b : Byte) (d : ℕ) → d < 10 → b.value ≡ code "0" + d → Decimal (b ∷ []) d
  more_digits : {ds zs : List Byte} {n : ℕ} (b : Byte) (d : ℕ) → Decimal ds n → 1 ≤ n → d < 10 → b.value ≡ code "0" + d → zs ≡ ds ++ (b ∷ [])
      → Decimal zs (n * 10 + d)

-- "No loop in a loop."
unfoldable pub SimpleItem : Item → Type 0
SimpleItem (measure m) = Unit {0}
SimpleItem (loop r n) = HoldsLoop r → ⊥
SimpleItem (refer n) = Unit {0}

unfoldable pub Simple : Items → Type 0
unfolding SimpleItem
Simple (one i) = SimpleItem i
Simple (next r s i) = Simple r × SimpleItem i

-- "_repeat n ... loop and repeat counts start at 2": without it the pattern is played once.
unfoldable pub Repeats : Modifiers → ℕ → Type 0
Repeats ms n = (ms.repeat ≡ some n) ⊎ ((ms.repeat ≡ none) × (n ≡ 1))

-- "Head is 1 on the first beat of a position as written", and "each position lasts N/p beats": of a measure that has lost so many beats at its front, a beat
-- is a head exactly where the beats before it, those lost among them, are a multiple of N/p. It has no more beats than its positions that sound.
pub record FirstBeats (n : ℕ) (m : Measure) (lost : ℕ) (beats : List Beat) : Type 0 where
  pub share : ℕ
  pub divides : share * places m ≡ n
  pub within : lost + length beats ≤ length (sounds_written m.sounds) * share
  pub heads : (front behind : List Beat) (b : Beat) → beats ≡ front ++ (b ∷ behind) → (b.head ≡ true) ↔ ((i : ℕ) × (lost + length front ≡ i * share))

-- Measures of a text: the first of them has lost so many beats at its front, the others none.
unfoldable pub HeadsOf : ℕ → Items → ℕ → List (List Beat) → Type 0
HeadsOf n r lost [] = Unit {0}
HeadsOf n r lost (beats ∷ row) = ((m : Measure) × MeasureIn m r × FirstBeats n m lost beats) × HeadsOf n r 0 row

-- "A cut that takes it leaves 0": how many beats the front cut took of the first measure that it left, when its measures and the beats before it were gone.
unfoldable pub TakenOf : Option Cut → List (List Beat) → ℕ → Type 0
TakenOf none row lost = lost ≡ 0
TakenOf (some c) row lost = (kept : List (List Beat)) × (cut : CutsFront c row kept) × (lost ≡ length cut.begun)

-- The heads of a section: of its lead-in, of what the cuts leave of its pattern, of its tail.
pub record Heads (s : Song) (x : Section) (p : Parts) : Type 0 where
  pub lead_in : (y : Side) → x.modifiers.before ≡ some y → HeadsOf p.meter y.items 0 p.lead_in
  pub pattern : (r : Items) → pattern_items s.definitions x.pattern ≡ some r
      → (lost : ℕ) × TakenOf x.modifiers.cut_start (times (as_often x.modifiers) p.pass) lost × HeadsOf p.meter r lost p.middle
  pub tail : (y : Side) → x.modifiers.after ≡ some y → HeadsOf p.meter y.items 0 p.tail

-- Both ways of saying it agree.
pub record Apart : Type 0 where
  pub says : (bs : List ℕ) (s : Song) (x : Section) (o : Option Items) → WrittenChart bs s → DefinitionsRefer [] s.definitions
      → PatternRefers s.definitions x.pattern → (pattern_items s.definitions x.pattern ≡ o) ↔ PatternSays s.definitions x.pattern o
  pub decimals : (bs : List Byte) (n : ℕ) → ((is_decimal bs ≡ true) × (value_from 0 bs ≡ n)) ↔ Decimal bs n
  pub simple : (r : Items) → (depth r ≤ loops_deep) ↔ Simple r
  pub repeats_said : (ms : Modifiers) (n : ℕ) → (repeats ms ≡ n) ↔ Repeats ms n
  pub heads : (s : Song) (x : Section) (p : Parts) → PlaysSection s x p → Heads s x p
