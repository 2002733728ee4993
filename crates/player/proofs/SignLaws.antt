-- Laws of the token words: what is found in a text, and the positions of a measure one by one.
use Rattle.std.proofs.Common.{◌≡◌, ℕ, zero, suc, ◌+◌, ◌*◌, ◌<◌, ◌≤◌, true, false, ◌&&◌, ◌||◌, eqb, ltb, leb, List, [], ◌∷◌, length, get_or, take, drop, sym}
use Rattle.std.proofs.Common.{refl, ap, ◌∙◌, add-one, arith, length-append, drop_of_length-le, length-take, drop-cons, leb-false, leb-true}
use lib.ListN.{length-replicate}
use Rattle.songcode.specs.Lists.{provided◌then◌else◌}
use Rattle.songcode.proofs.ListLaws.{by_cases}
use Rattle.score.specs.Places.{word_of}
use Rattle.score.proofs.WordLaws.{word_past, word_over}
use Rattle.tokens.specs.Signs.{kind_of, is_position, is_stop}
use Rattle.player.specs.Signs.{voice_of, chord_of, lasting_of, part_of, parts_of, sounds_as, sounding_of}
use Rattle.player.specs.Signs.{positions_of, positions_at}

-- A word that is not of kind 54 stands inside.
pub word_inside : (ws : List ℕ) (to at : ℕ) → (kind_of (word_of ws to at) ≡ 54 → ⊥) → (at < to) × (at < length (take to ws))
word_inside ws to at n =
    by_cases (leb to at)
    (λ e. let z : word_of ws to at ≡ 3623878656 = sym (word_past ws to at (leb-true to at e)) in absurd (n (rw z)))
    (λ e.
    let h = leb-false to at e in
    let l = length-take to ws in
    by_cases (leb (length ws) at)
    (λ f. let z : word_of ws to at ≡ 3623878656 = sym (word_over ws to at (leb-true (length ws) at f)) in absurd (n (rw z)))
    (λ f. let k = leb-false (length ws) at f in (h, omega arith)))

pub position_within : (ws : List ℕ) (to at : ℕ) → is_position (kind_of (word_of ws to at)) ≡ true → (at < to) × (at < length (take to ws))
unfolding is_position
position_within ws to at e = word_inside ws to at (λ z. let y : (ltb 54 34 || leb 61 54) ≡ true = rw z at e in
    let x : ◌≡◌ {A = ℕ} 0 1 = cc in omega arith)

pub position_inside : (ws : List ℕ) (to at : ℕ) → is_position (kind_of (word_of ws to at)) ≡ true → at < to
position_inside ws to at e = (position_within ws to at e).0

pub stop_inside : (ws : List ℕ) (to at : ℕ) → is_stop (kind_of (word_of ws to at)) ≡ false → at < to
unfolding is_stop
stop_inside ws to at e =
    (word_inside ws to at (λ z. let y : (eqb 54 56 || (leb 34 54 && leb 54 54)) ≡ false = rw z at e in
    let x : ◌≡◌ {A = ℕ} 0 1 = cc in omega arith)).0

-- The positions of a measure: none, or one and those behind it.
none_of : (w : ℕ) (xs : List ℕ) → is_position (kind_of w) ≡ false → positions_of (w ∷ xs) ≡ []
unfolding positions_of
none_of w xs e = rw (e, provided◌then◌else◌)

pub one_of : (w : ℕ) (xs : List ℕ) → is_position (kind_of w) ≡ true → positions_of (w ∷ xs) ≡ w ∷ positions_of xs
unfolding positions_of
one_of w xs e = rw (e, provided◌then◌else◌)

pub positions_none : (ws : List ℕ) (to at : ℕ) → is_position (kind_of (word_of ws to at)) ≡ false → positions_at ws to at ≡ []
unfolding positions_at word_of positions_of
positions_none ws to at e =
    by_cases (leb (length (take to ws)) at)
    (λ f. rw (drop_of_length-le (take to ws) {i = at} (leb-true (length (take to ws)) at f)))
    (λ f. ap positions_of (drop-cons (take to ws) at 3623878656 (leb-false (length (take to ws)) at f))
    ∙ none_of (get_or (take to ws) at 3623878656) (drop (suc at) (take to ws)) e)

pub positions_more : (ws : List ℕ) (to at : ℕ) → is_position (kind_of (word_of ws to at)) ≡ true
    → positions_at ws to at ≡ word_of ws to at ∷ positions_at ws to (at + 1)
unfolding positions_at word_of is_position
positions_more ws to at e =
    let h = word_inside ws to at (λ z. let y : (ltb 54 34 || leb 61 54) ≡ true = rw z at e in
    let x : ◌≡◌ {A = ℕ} 0 1 = cc in omega arith) in
    rw (add-one at) (ap positions_of (drop-cons (take to ws) at 3623878656 h.1) ∙ one_of (get_or (take to ws) at 3623878656) (drop (suc at) (take to ws)) e)

-- Inside a measure the next word is a position.
pub position_there : (ws : List ℕ) (to at : ℕ) → 1 ≤ length (positions_at ws to at) → is_position (kind_of (word_of ws to at)) ≡ true
position_there ws to at h =
    by_cases (is_position (kind_of (word_of ws to at))) (λ e. e)
    (λ e. let z : length (positions_at ws to at) ≡ 0 = ap length (positions_none ws to at e) in absurd (omega arith))

-- The same in words of which some were passed.
pub here : (ts : List ℕ) (k : ℕ) → k < length ts → drop k ts ≡ get_or ts k 0 ∷ drop (k + 1) ts
here ts k h = rw (add-one k) (drop-cons ts k 0 h)

pub past : (ts : List ℕ) (k : ℕ) → length ts ≤ k → drop k ts ≡ []
past ts k h = drop_of_length-le ts {i = k} h

pub none_here : (ts : List ℕ) (k : ℕ) → k < length ts → is_position (kind_of (get_or ts k 0)) ≡ false → positions_of (drop k ts) ≡ []
none_here ts k h e = rw (here ts k h) (none_of (get_or ts k 0) (drop (k + 1) ts) e)

pub one_here : (ts : List ℕ) (k : ℕ) → k < length ts → is_position (kind_of (get_or ts k 0)) ≡ true
    → positions_of (drop k ts) ≡ get_or ts k 0 ∷ positions_of (drop (k + 1) ts)
one_here ts k h e = rw (here ts k h) (one_of (get_or ts k 0) (drop (k + 1) ts) e)

pub none_past : (ts : List ℕ) (k : ℕ) → length ts ≤ k → positions_of (drop k ts) ≡ []
unfolding positions_of
none_past ts k h = rw (past ts k h)

-- A measure's positions stand in front.
positions_front : (ts : List ℕ) → (length (positions_of ts) ≤ length ts) × (take (length (positions_of ts)) ts ≡ positions_of ts)
unfolding positions_of
positions_front [] = (omega arith, refl)
positions_front (w ∷ ts) =
    by_cases (is_position (kind_of w))
    (λ e. let h = positions_front ts in
    let g = h.0 in rw (e, provided◌then◌else◌) (omega arith, ap (λ (l : List ℕ). w ∷ l) h.1))
    (λ e. rw (e, provided◌then◌else◌) (omega arith, refl))

pub front_text : (ts : List ℕ) (count : ℕ) → count ≡ length (positions_of ts) → (count ≤ length ts) × (take count ts ≡ positions_of ts)
front_text ts count e = rw e (positions_front ts)

-- How many beats a measure has.
pub lasting_length : (share v : ℕ) → length (lasting_of share v) ≡ share
unfolding lasting_of
lasting_length zero v = refl
lasting_length (suc k) v = ap suc (length-replicate k v)

pub part_length : (share last w : ℕ) → length (part_of share last w) ≡ share * sounds_as (kind_of w)
unfolding part_of sounds_as
part_length share last w =
    by_cases (eqb (kind_of w) 61) (λ e. rw (e, provided◌then◌else◌) (omega arith))
    (λ e. rw (e, provided◌then◌else◌) (lasting_length share (voice_of last w) ∙ omega arith))

pub parts_length : (share last : ℕ) (ps : List ℕ) → length (parts_of share last ps) ≡ share * sounding_of ps
unfolding parts_of sounding_of
parts_length share last [] = omega arith
parts_length share last (w ∷ ps) =
    let a = part_length share last w in
    let b = parts_length share (chord_of last w) ps in
    rw (length-append, a, b) (sums share (sounds_as (kind_of w)) (sounding_of ps))
  where
    sums : (s a b : ℕ) → s * a + s * b ≡ s * (a + b)
    sums s a b = omega arith

sounds_one : (k : ℕ) → sounds_as k ≤ 1
unfolding sounds_as
sounds_one k = by_cases (eqb k 61) (λ e. rw (e, provided◌then◌else◌) (omega arith)) (λ e. rw (e, provided◌then◌else◌) (omega arith))

pub sounding_length : (ps : List ℕ) → sounding_of ps ≤ length ps
unfolding sounding_of
sounding_length [] = omega arith
sounding_length (w ∷ ps) =
    let a = sounds_one (kind_of w) in
    let b = sounding_length ps in
    omega arith
