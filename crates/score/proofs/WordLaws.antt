-- The word at a place of a text: what stands there, or that of no token.
use Prim.Native.Nat.{ℕ, ◌<◌, ◌≤◌}
use mathlib.Core.Path.{◌≡◌, sym, ◌∙◌}
use mathlib.Core.List.{List, head-eq_of_cons-eq}
use native.Mathlib.Omega.{arith}
use lib.ListN.{length, take, get_or, get_or-eq_default, length-take}
use lib.Seq.{drop-cons, get_or-take}
use Rattle.score.specs.Places.{word_of}

same_default : (l : List ℕ) (i d e : ℕ) → i < length l → get_or l i d ≡ get_or l i e
same_default l i d e h = head-eq_of_cons-eq (sym (drop-cons l i d h) ∙ drop-cons l i e h)

pub word_past : (ws : List ℕ) (to at : ℕ) → to ≤ at → 3623878656 ≡ word_of ws to at
unfolding word_of
word_past ws to at h = let l = length-take to ws in sym (get_or-eq_default (take to ws) 3623878656 (omega arith))

pub word_over : (ws : List ℕ) (to at : ℕ) → length ws ≤ at → 3623878656 ≡ word_of ws to at
unfolding word_of
word_over ws to at h = let l = length-take to ws in sym (get_or-eq_default (take to ws) 3623878656 (omega arith))

pub word_is : (ws : List ℕ) (to at d : ℕ) → at < to → at < length ws → get_or ws at d ≡ word_of ws to at
unfolding word_of
word_is ws to at d h k = sym (get_or-take to ws at 3623878656 h ∙ same_default ws at 3623878656 d k)
