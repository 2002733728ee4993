-- The sections that are left in the row, of which those passed play something.
use Prim.Native.Nat.{ℕ, ◌<◌}
use mathlib.Core.Path.{◌≡◌, sym, ap, ◌∙◌, subst}
use mathlib.Core.List.{List, [], ◌∷◌}
use mathlib.Core.Bool.{Bool, true, false}
use native.Mathlib.Omega.{arith}
use Rattle.songcode.specs.Lists.{any}
use Rattle.songcode.specs.Song.{Section}
use Rattle.songcode.specs.Answer.Answer.{song_of}
use Rattle.songcode.specs.Answer.Flat.{plays_nothing}
use Rattle.songcode.proofs.ListLaws.{Each}
use Rattle.songcode.specs.Answer.Playing.{time_of, played}
use Rattle.score.specs.declared.views.View.{View}
use Rattle.score.specs.Views.{view_of}
use Rattle.player.specs.declared.playing.Arrangement.{Arrangement}
use Rattle.player.specs.Texts.{row_words}
use Rattle.player.specs.Arrangements.{arrangement_in, arranged_row, PlaysWithin}
use Rattle.laying.specs.Scores.{is_empty_text, Ready}
use Rattle.judging.proofs.AheadLaws.{Ahead, ahead_alone, ahead_some, ahead_sees, ahead_within, ahead_row, ahead_empty, ahead_further, ahead_next}
use Rattle.flat.proofs.SilentLaws.{Silent}

pub record Left (s ws : List ℕ) (at end : ℕ) (xs : List Section) : Type 0 where
  pub ahead : Ahead s ws at end 0 0 xs
  pub silent : Each (Silent (song_of s)) xs
  pub same : any (plays_nothing (song_of s)) xs ≡ any (plays_nothing (song_of s)) (song_of s).sections

pub record First (s ws : List ℕ) (at end : ℕ) : Type 0 where
  pub first : Section
  pub others : List Section
  pub left : Left s ws at end (first ∷ others)

pub left_first : {s ws : List ℕ} {at end : ℕ} (xs : List Section) → Left s ws at end xs → at < end → First s ws at end
left_first [] l h = absurd (ahead_some l.ahead h)
left_first (x ∷ xs) l h = record { first = x; others = xs; left = l }

module _ {s ws : List ℕ} {mark at end : ℕ} {x : Section} {xs : List Section} (ready : Ready s ws mark) (l : Left s ws at end (x ∷ xs))
    {v : View} (is : v ≡ view_of ws at) where
  pub left_further : at < v.next
  left_further =
      let h = ahead_further ready l.ahead in
      let e = ap (λ (u : View). u.next) is in
      omega arith

  here : {r : Bool} → r ≡ is_empty_text ws v.pattern → plays_nothing (song_of s) x ≡ r
  unfolding Each
  here e = l.silent.0 ∙ sym (ahead_empty ready l.ahead) ∙ sym (ap (λ (u : View). is_empty_text ws u.pattern) is) ∙ sym e

  -- It plays nothing, or the others tell.
  pub left_empty : {r : Bool} → r ≡ is_empty_text ws v.pattern → (r ≡ true → true ≡ any (plays_nothing (song_of s)) (song_of s).sections)
      × (r ≡ false → Left s ws v.next end xs)
  unfolding any Each
  left_empty {r} e =
      let h = here e in (
        (λ t. let w : plays_nothing (song_of s) x ≡ true = h ∙ t in sym (rw w at (sym l.same))),
        λ t.
            let w : plays_nothing (song_of s) x ≡ false = h ∙ t in
            record {
              ahead = subst (λ (p : ℕ). Ahead s ws p end 0 0 xs) (sym (ap (λ (u : View). u.next) is)) (ahead_alone (ahead_next ready l.ahead));
              silent = l.silent.1;
              same = rw w at l.same;
            },
      )

-- A section that is seen where its block begins.
module _ {s ws : List ℕ} {mark at end : ℕ} {x : Section} {xs ys : List Section} (ready : Ready s ws mark) (split : xs ≡ x ∷ ys)
    (a : Ahead s ws at end 0 0 xs) {v : View} (is : v ≡ view_of ws at) where
  here_ahead : Ahead s ws at end 0 0 (x ∷ ys)
  here_ahead = subst (λ (zs : List Section). Ahead s ws at end 0 0 zs) split a

  pub seen_plays : {y : Arrangement} → y ≡ arrangement_in ws v
      → (y.n ≡ time_of (song_of s) x) × PlaysWithin ws y 0 × (arranged_row ws y ≡ row_words (played (song_of s) x))
  unfolding arrangement_in
  seen_plays {y} e =
      let same : y ≡ arrangement_in ws (view_of ws at) = e ∙ ap (arrangement_in ws) is in (
        ap (λ (u : Arrangement). u.n) same ∙ (ahead_sees ready here_ahead).meter,
        subst (λ (u : Arrangement). PlaysWithin ws u 0) (sym same) (ahead_within ready here_ahead 0 (omega arith)),
        ap (arranged_row ws) same ∙ ahead_row ready here_ahead,
      )

  pub seen_next : Ahead s ws v.next end 0 0 ys
  seen_next = subst (λ (p : ℕ). Ahead s ws p end 0 0 ys) (sym (ap (λ (u : View). u.next) is)) (ahead_alone (ahead_next ready here_ahead))
