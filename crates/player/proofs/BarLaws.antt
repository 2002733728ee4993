-- The beats of a measure written one position after another, where the table has room for all of them.
use Rattle.std.proofs.Common.{◌≡◌, ℕ, zero, suc, ◌+◌, ◌-◌, ◌*◌, ◌<◌, ◌≤◌, List, [], ◌∷◌, ◌++◌, length, take, drop, set, replicate, sym, refl, ap, ◌∙◌}
use Rattle.std.proofs.Common.{append_assoc, append-nil, arith, length-drop, length-take-le, take_all, lt-ltb, eq-eqb, ne_eqb}
use Rattle.std.proofs.lemmas.List.{drop_all}
use lib.Seq.{sets, sets-eq, drop-drop}
use borrow.Rule.Slice.PartMut.{put_mid}
use Rattle.songcode.specs.Lists.{provided◌then◌else◌}
use Rattle.songcode.proofs.MemoryLaws.{sets_append}
use Rattle.tokens.specs.Signs.{kind_of}
use Rattle.player.specs.declared.pens.Pen.{Pen}
use Rattle.player.specs.declared.bars.Bar.{Bar}
use Rattle.player.specs.Bars.{beats_of, Counted}
use Rattle.player.specs.Signs.{voice_of, chord_of, lasting_of, part_of, parts_of, sounds_as, sounding_of}
use Rattle.player.specs.Page.{Ink, inked}
use Rattle.player.proofs.SignLaws.{lasting_length, part_length, parts_length}
use Rattle.player.proofs.ContentLaws.{inked_is, ink_eq}

-- A sound: a table filled with its word, then the head; where the table has no place, neither changes it.
pub sound_set : (n v w : ℕ) (t : List ℕ) → t ≡ replicate n v → w ≡ v + 16 → set t 0 w ≡ lasting_of n v
unfolding lasting_of
sound_set zero v w t e f = rw e
sound_set (suc n) v w t e f = rw (e, f)

pub sound_none : (n v : ℕ) (t : List ℕ) → t ≡ replicate n v → length t ≤ 0 → t ≡ lasting_of n v
unfolding lasting_of
sound_none zero v t e h = e
sound_none (suc n) v t e h = let z : suc (length (replicate n v)) ≤ 0 = rw e at h in absurd (omega arith)

pub sound_nowhere : (v : ℕ) (t : List ℕ) → length t ≤ 0 → t ≡ lasting_of (length t) v
sound_nowhere v [] h = sound_none 0 v [] refl h
sound_nowhere v (x ∷ t) h = absurd (omega arith)

-- The head first, then the rest filled: the table is then as if it had been filled and the head stored.
pub sound_rest : (v w : ℕ) (t ys : List ℕ) → 0 < length t → w ≡ v + 16
    → ys ≡ replicate (length (take (length (set t 0 w) - 1) (drop 1 (set t 0 w)))) v
    → put_mid 1 (length (set t 0 w) - 1) (set t 0 w) ys ≡ lasting_of (length t) v
sound_rest v w [] ys h f e = absurd (omega arith)
sound_rest v w (x ∷ t) ys h f e =
    let k : suc (length t) - 1 ≡ length t = omega arith in
    let e' : ys ≡ replicate (length t) v = rw (k, take_all (length t) t (omega arith)) at e in
    rw (k, e', drop_all (length t) t (omega arith), append-nil) (sound_set (suc (length t)) v w (replicate (suc (length t)) v) refl f)

-- Words written into a part of a table.
put_part : (b k : ℕ) (t xs : List ℕ) → k ≡ length xs → b + k ≤ length t → put_mid b k t xs ≡ sets t b xs
put_part b k t xs e h =
    let d : drop k (drop b t) ≡ drop (b + length xs) t = rw e (drop-drop (length xs) b t) in
    rw d (sym (append_assoc (take b t) xs (drop (b + length xs) t)) ∙ sym (sets-eq xs t b (omega arith)))

-- A position.
pub bar_removed : (share last w k b : ℕ) (t : List ℕ) → k ≡ kind_of w → k ≡ 61
    → (b ≡ b + share * sounds_as (kind_of w)) × (t ≡ sets t b (part_of share last w))
unfolding part_of sounds_as provided◌then◌else◌
bar_removed share last w k b t e h = let z = eq-eqb (kind_of w) 61 (sym e ∙ h) in (simp z (omega arith), simp z)

pub bar_place : (share w k b : ℕ) → k ≡ kind_of w → (k ≡ 61 → ⊥) → b + share ≡ b + share * sounds_as (kind_of w)
unfolding sounds_as provided◌then◌else◌
bar_place share w k b e n = let y : (kind_of w ≡ 61 → ⊥) = λ x. n (e ∙ x) in simp (ne_eqb (kind_of w) 61 y) (omega arith)

-- A chord sounds itself.
pub chord_voice : (last w k : ℕ) → k ≡ kind_of w → k < 34 → w ≡ voice_of last w
unfolding voice_of provided◌then◌else◌
chord_voice last w k e h = simp (lt-ltb (kind_of w) 34 (omega arith))

-- Where a position sounds, the table has room for its share.
pub bar_share : (share w k b n : ℕ) → k ≡ kind_of w → (k ≡ 61 → ⊥) → b + share * sounds_as (kind_of w) ≤ n → b + share ≤ n
bar_share share w k b n e m h = let p = bar_place share w k b e m in omega arith

pub bar_sounds : (share last w k v b e : ℕ) (t ys : List ℕ) → k ≡ kind_of w → (k ≡ 61 → ⊥) → v ≡ voice_of last w → e ≡ b + share → e ≤ length t
    → ys ≡ lasting_of (length (take (e - b) (drop b t))) v → put_mid b (e - b) t ys ≡ sets t b (part_of share last w)
unfolding part_of provided◌then◌else◌
bar_sounds share last w k v b e t ys p n q f h y =
    let s : e - b ≡ share = omega arith in
    let l : length (take share (drop b t)) ≡ share = length-take-le share (drop b t) (simp length-drop (omega arith)) in
    let y' : ys ≡ lasting_of share v = rw (s, l) at y in
    let m : (kind_of w ≡ 61 → ⊥) = λ x. n (p ∙ x) in
    simp (s, ne_eqb (kind_of w) 61 m, ← q)
    (rw y' (put_part b share t (lasting_of share v) (sym (lasting_length share v)) (omega arith)))

-- The positions of a measure.
times_sum : (s a b : ℕ) → s * (a + b) ≡ s * a + s * b
times_sum s a b = omega arith

pub bar_next : (ps qs : List ℕ) (share l w y b b' : ℕ) (t t' goal : List ℕ) → ps ≡ w ∷ qs → y ≡ chord_of l w
    → b' ≡ b + share * sounds_as (kind_of w) → t' ≡ sets t b (part_of share l w) → sets t b (parts_of share l ps) ≡ goal
    → sets t' b' (parts_of share y qs) ≡ goal
unfolding parts_of
bar_next ps qs share l w y b b' t t' goal n j m p q =
    let one = part_of share l w in
    let rest = parts_of share (chord_of l w) qs in
    let q' : sets t b (one ++ rest) ≡ goal = rw n at q in
    let m' : b' ≡ b + length one = m ∙ ap (λ k. b + k) (sym (part_length share l w)) in
    rw (p, m', j) (sym (sets_append t b one rest) ∙ q')

pub bar_room : (ps qs : List ℕ) (share w b b' n : ℕ) → ps ≡ w ∷ qs → b' ≡ b + share * sounds_as (kind_of w) → b + share * sounding_of ps ≤ n
    → (b + share * sounds_as (kind_of w) ≤ n) × (b' + share * sounding_of qs ≤ n)
unfolding sounding_of
bar_room ps qs share w b b' n e m h =
    let s : sounding_of ps ≡ sounds_as (kind_of w) + sounding_of qs = rw e in
    let u = times_sum share (sounds_as (kind_of w)) (sounding_of qs) in
    let h' : b + share * (sounds_as (kind_of w) + sounding_of qs) ≤ n = rw s at h in
    (omega arith, omega arith)

pub bar_over : (ps : List ℕ) (share l b : ℕ) (t goal : List ℕ) → ps ≡ [] → sets t b (parts_of share l ps) ≡ goal → t ≡ goal
unfolding parts_of
bar_over ps share l b t goal n q = rw n at q

pub bar_length : (x : Bar) → Counted x → x.share * x.sounding ≡ length (beats_of x)
bar_length x c = ap (λ n. x.share * n) c.sounding ∙ sym (parts_length x.share x.last.word x.positions.now)

-- Beats that are all written.
pub inked_whole : (x : List ℕ) (n : ℕ) (p r : Pen) (bs bs' : List ℕ) → n ≡ length x → p.skip ≤ 0 → n ≤ p.left
    → r ≡ record { base = p.base; todo = p.todo; skip = p.skip; left = p.left - n; m = p.m; b = p.b + n } → bs' ≡ sets bs p.b x
    → ◌≡◌ {A = Ink} (record { pen = r; bs = bs' }) (inked x (record { pen = p; bs = bs }))
inked_whole x n p r bs bs' e s l k f =
    let z : p.skip ≡ 0 = omega arith in
    let t : take p.left (drop p.skip x) ≡ x = rw z (take_all p.left x (omega arith)) in
    rw (k, f) (sym (inked_is x p.base p.todo p.skip p.left p.m p.b bs
    ∙ ink_eq p.base p.todo p.m _ _ _ _ _ _ _ _ (omega arith) (omega arith) (rw t (omega arith)) (rw t)))
