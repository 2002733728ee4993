-- Looking at the positions of a measure, and sounding them, one after another.
use Rattle.std.proofs.Common.{◌≡◌, ℕ, suc, ◌+◌, ◌*◌, ◌/◌, ◌<◌, ◌≤◌, true, List, [], ◌∷◌, ◌++◌, length, take, drop, sym, ◌∙◌, mul-le-mul, div-mul-le_self}
use Rattle.std.proofs.Common.{arith, le-ltb, lt-ltb, eq-eqb, ne_eqb}
use Rattle.songcode.specs.Lists.{provided◌then◌else◌}
use Rattle.tokens.specs.Signs.{kind_of, is_position}
use Rattle.player.specs.Signs.{voice_of, chord_of, chords_of, lasting_of, part_of, parts_of, sounds_as, sounding_of, positions_of, positions_at}
use Rattle.player.specs.Page.{Page, Ink, Fine, inked, measure_of, play}
use Rattle.player.specs.Walks.{End, finish, one_of}
use Rattle.player.proofs.SignLaws.{sounding_length}
use Rattle.player.proofs.PageLaws.{inked_append, moved_inked}

-- A chord: a position that sounds, and the last chord behind it.
pub chord_test : (w k : ℕ) → k ≡ kind_of w → k < 34 → is_position (kind_of w) ≡ true
unfolding is_position
chord_test w k e h = rw (← e, lt-ltb k 34 h)

pub chord_sounds : (k : ℕ) → k < 34 → 1 ≡ sounds_as k
unfolding sounds_as provided◌then◌else◌
chord_sounds k h = rw (ne_eqb k 61 (λ z. omega arith))

pub chord_taken : (l w k : ℕ) → k ≡ kind_of w → k < 34 → w ≡ chord_of l w
unfolding chord_of provided◌then◌else◌
chord_taken l w k e h = simp (← e, lt-ltb k 34 h)

-- No other position changes the last chord.
pub chord_kept : (l w k : ℕ) → k ≡ kind_of w → 34 ≤ k → l ≡ chord_of l w
unfolding chord_of provided◌then◌else◌
chord_kept l w k e h = simp (← e, le-ltb k 34 h)

pub look_done : (ps : List ℕ) (i s l a b d : ℕ) → ps ≡ [] → i + length ps ≡ a → s + sounding_of ps ≡ b → chords_of l ps ≡ d → (i ≡ a) × (s ≡ b) × (l ≡ d)
unfolding sounding_of chords_of
look_done ps i s l a b d n p q r =
    let p' : i + 0 ≡ a = rw n at p in
    let q' : s + 0 ≡ b = rw n at q in
    (omega arith, omega arith, rw n at r)

pub look_more : (ps qs : List ℕ) (w k i s l x y a b d : ℕ) → ps ≡ w ∷ qs → k ≡ kind_of w → x ≡ sounds_as k → y ≡ chord_of l w
    → i + length ps ≡ a → s + sounding_of ps ≡ b → chords_of l ps ≡ d
    → (i + 1 + length qs ≡ a) × (s + x + sounding_of qs ≡ b) × (chords_of y qs ≡ d)
unfolding sounding_of chords_of
look_more ps qs w k i s l x y a b d n g h j p q r =
    let p' : i + suc (length qs) ≡ a = rw n at p in
    let q' : s + (sounds_as (kind_of w) + sounding_of qs) ≡ b = rw n at q in
    let r' : chords_of (chord_of l w) qs ≡ d = rw n at r in
    let x' : x ≡ sounds_as (kind_of w) = rw (h, g) in
    (omega arith, omega arith, rw j r')

-- One position.
pub part_removed : (share last w k : ℕ) (g : Ink) → k ≡ kind_of w → k ≡ 61 → g ≡ inked (part_of share last w) g
unfolding part_of inked provided◌then◌else◌
part_removed share last w k g e h = simp (eq-eqb (kind_of w) 61 (sym e ∙ h))

pub part_sounds : (share last w k v : ℕ) (g h : Ink) → k ≡ kind_of w → (k ≡ 61 → ⊥) → v ≡ voice_of last w → h ≡ inked (lasting_of share v) g
    → h ≡ inked (part_of share last w) g
unfolding part_of provided◌then◌else◌
part_sounds share last w k v g h e n p q = let z : (kind_of w ≡ 61 → ⊥) = λ y. n (e ∙ y) in simp (ne_eqb (kind_of w) 61 z, ← p) q

-- The positions of a measure.
pub parts_next : (ps qs : List ℕ) (share l w y : ℕ) (g h goal : Ink) → ps ≡ w ∷ qs → y ≡ chord_of l w → h ≡ inked (part_of share l w) g
    → inked (parts_of share l ps) g ≡ goal → inked (parts_of share y qs) h ≡ goal
unfolding parts_of
parts_next ps qs share l w y g h goal n j p q =
    let q' : inked (part_of share l w ++ parts_of share (chord_of l w) qs) g ≡ goal = rw n at q in
    rw (p, j) (sym (inked_append (part_of share l w) (parts_of share (chord_of l w) qs) g) ∙ q')

pub parts_over : (ps : List ℕ) (share l : ℕ) (g goal : Ink) → ps ≡ [] → inked (parts_of share l ps) g ≡ goal → g ≡ goal
unfolding parts_of inked
parts_over ps share l g goal n q = rw n at q

pub fine_part : (share l w : ℕ) (g h : Ink) → h ≡ inked (part_of share l w) g → Fine g.pen → Fine h.pen
fine_part share l w g h e f = rw e (moved_inked (part_of share l w) g f).fine

-- The beats of a measure in n are n at most.
pub beats_few : (n p s : ℕ) (ps : List ℕ) → p ≡ length ps → s ≡ sounding_of ps → n / p * s ≤ n
beats_few n p s ps e f =
    let a = sounding_length ps in
    let b = div-mul-le_self n p in
    let d : n / p * s ≤ n / p * p = mul-le-mul (le_self (n / p)) (omega arith) in
    omega arith
  where
    le_self : (k : ℕ) → k ≤ k
    le_self k = omega arith

pub few_beats : (n count s share : ℕ) (ps : List ℕ) → count ≡ length ps → s ≡ sounding_of ps → share ≡ n / count → n ≤ 32 → share * s ≤ 32
few_beats n count s share ps e f h k = let a = beats_few n count s ps e f in rw h (omega arith)

-- A measure of the text.
pub one_done : (n : ℕ) (ws ts ps : List ℕ) (to at last count share l : ℕ) (g h : Page) → ts ≡ drop at (take to ws) → count ≡ length (positions_of ts)
    → ps ≡ positions_of ts → share ≡ n / count → l ≡ chords_of last (positions_of ts) → h ≡ measure_of (parts_of share last ps) g
    → ◌≡◌ {A = End} (record { at = at + count; last = l; page = h }) (finish (one_of n ws to at last) g)
unfolding finish one_of play positions_at
one_done n ws ts ps to at last count share l g h t e p f k m = rw (m, f, e, k, p, t)

-- Both ways through a position, for a check that finds its proof by them.
pub ruleset part_ways = (part_removed, part_sounds)
