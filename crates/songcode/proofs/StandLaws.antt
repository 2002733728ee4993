-- Where a line of a section stands, by the lines before it: behind a line that is no key, behind a pattern line, past the pattern's run.
use mathlib.Core.Path.{◌≡◌, refl, ap, sym, ◌∙◌}
use mathlib.Core.List.{List, [], ◌∷◌, ◌++◌}
use mathlib.Core.Bool.{Bool, true, false, ◌||◌, ◌&&◌, not}
use Rattle.songcode.specs.Lists.{provided◌then◌else◌, left, is_empty, any}
use Rattle.songcode.specs.Answer.Lines.{Line}
use Rattle.songcode.specs.Answer.Sections.{key_line, modifier_line, pattern_line, kind_of_line, is_pattern_line, not_pattern_line, is_key_line, not_key_line}
use Rattle.songcode.specs.Answer.Sections.{past_run, misplaced, order}
use Rattle.songcode.proofs.ListLaws.{by_cases, or_false, or_true, and_true, and_false, append_is_nil, any_append, true_is_not_false, complain_if_nil}

-- What the tests say of each kind.
module _ (l : Line) where
  pub pattern_passes : kind_of_line l ≡ pattern_line → is_pattern_line l ≡ true
  unfolding is_pattern_line
  pattern_passes k = rw (k, is_pattern_line)

  pub key_stops : kind_of_line l ≡ key_line → is_pattern_line l ≡ false
  unfolding is_pattern_line
  key_stops k = rw (k, is_pattern_line)

  pub modifier_stops : kind_of_line l ≡ modifier_line → is_pattern_line l ≡ false
  unfolding is_pattern_line
  modifier_stops k = rw (k, is_pattern_line)

  pub key_passes : kind_of_line l ≡ key_line → not_key_line l ≡ false
  unfolding not_key_line is_key_line
  key_passes k = rw (k, is_key_line)

  pub modifier_passes : kind_of_line l ≡ modifier_line → not_key_line l ≡ true
  unfolding not_key_line is_key_line
  modifier_passes k = rw (k, is_key_line)

  pub other_passes : kind_of_line l ≡ pattern_line → not_key_line l ≡ true
  unfolding not_key_line is_key_line
  other_passes k = rw (k, is_key_line)

-- One line more behind the others.
any_next : (p : Line → Bool) (before : List Line) (l : Line) → any p (before ++ (l ∷ [])) ≡ any p before || p l
unfolding any
any_next p before l = any_append p before (l ∷ []) ∙ ap (λ b. any p before || b) (by_cases (p l) (λ t. rw t refl) (λ f. rw f refl))

left_next : (p : Line → Bool) (xs : List Line) (l : Line) → not (is_empty (left p (xs ++ (l ∷ [])))) ≡ not (is_empty (left p xs)) || not (p l)
unfolding left provided◌then◌else◌ is_empty
left_next p [] l = by_cases (p l) (λ t. rw t refl) (λ f. rw f refl)
left_next p (x ∷ xs) l = by_cases (p x) (λ t. rw t (left_next p xs l)) (λ f. rw f refl)

-- What is past the run, from its first line on.
pub past_from : (l : Line) (ls : List Line) → is_pattern_line l ≡ true → past_run (l ∷ ls) ≡ left is_pattern_line ls
unfolding past_run left not_pattern_line provided◌then◌else◌
past_from l ls t = rw t (rw t refl)

pub past_before : (l : Line) (ls : List Line) → is_pattern_line l ≡ false → past_run (l ∷ ls) ≡ past_run ls
unfolding past_run left not_pattern_line provided◌then◌else◌
past_before l ls f = rw f refl

past_next : (before : List Line) (l : Line)
    → not (is_empty (past_run (before ++ (l ∷ [])))) ≡ not (is_empty (past_run before)) || (any is_pattern_line before && not (is_pattern_line l))
unfolding past_run left is_empty any
past_next [] l = by_cases (is_pattern_line l) (λ t. rw (past_from l [] t) refl) (λ f. rw (past_before l [] f) refl)
past_next (x ∷ xs) l =
    by_cases
    (is_pattern_line x)
    (λ t. rw (past_from x (xs ++ (l ∷ [])) t, past_from x xs t, t) (left_next is_pattern_line xs l))
    (λ f. rw (past_before x (xs ++ (l ∷ [])) f, past_before x xs f, f) (past_next xs l))

-- Behind a line that is no key; behind a pattern line; past the pattern's run.
pub record Stands (before : List Line) (others begun past : Bool) : Type 0 where
  pub behind_others : any not_key_line before ≡ others
  pub behind_pattern : any is_pattern_line before ≡ begun
  pub past_it : not (is_empty (past_run before)) ≡ past

pub stands_first : Stands [] false false false
unfolding any past_run left is_empty
stands_first = record { behind_others = refl; behind_pattern = refl; past_it = refl }

module _ {before : List Line} {others begun past : Bool} (l : Line) (s : Stands before others begun past) where
  pub stands_key : kind_of_line l ≡ key_line → Stands (before ++ (l ∷ [])) others begun (past || begun)
  stands_key k =
      record {
        behind_others = any_next not_key_line before l ∙ rw (key_passes l k, s.behind_others) (or_false others);
        behind_pattern = any_next is_pattern_line before l ∙ rw (key_stops l k, s.behind_pattern) (or_false begun);
        past_it = past_next before l ∙ rw (key_stops l k, s.past_it, s.behind_pattern) (ap (λ b. past || b) (and_true begun));
      }

  pub stands_modifier : kind_of_line l ≡ modifier_line → Stands (before ++ (l ∷ [])) true begun (past || begun)
  stands_modifier k =
      record {
        behind_others = any_next not_key_line before l ∙ rw (modifier_passes l k) (or_true (any not_key_line before));
        behind_pattern = any_next is_pattern_line before l ∙ rw (modifier_stops l k, s.behind_pattern) (or_false begun);
        past_it = past_next before l ∙ rw (modifier_stops l k, s.past_it, s.behind_pattern) (ap (λ b. past || b) (and_true begun));
      }

  pub stands_pattern : kind_of_line l ≡ pattern_line → Stands (before ++ (l ∷ [])) true true past
  stands_pattern k =
      record {
        behind_others = any_next not_key_line before l ∙ rw (other_passes l k) (or_true (any not_key_line before));
        behind_pattern = any_next is_pattern_line before l ∙ rw (pattern_passes l k) (or_true (any is_pattern_line before));
        past_it = past_next before l ∙ rw (pattern_passes l k, s.past_it) (ap (λ b. past || b) (and_false (any is_pattern_line before)) ∙ or_false past);
      }

-- A line in its place, and those behind it.
module _ {before : List Line} {others begun past : Bool} (l : Line) (ls : List Line) (s : Stands before others begun past)
    (h : order before (l ∷ ls) ≡ []) where
  order_split : (misplaced (kind_of_line l) before l ≡ []) × (order (before ++ (l ∷ [])) ls ≡ [])
  unfolding order
  order_split = append_is_nil (misplaced (kind_of_line l) before l) (order (before ++ (l ∷ [])) ls) h

  pub order_behind : order (before ++ (l ∷ [])) ls ≡ []
  order_behind = order_split.1

  pub key_placed : kind_of_line l ≡ key_line → others ≡ false
  unfolding misplaced
  key_placed k = sym s.behind_others ∙ complain_if_nil (any not_key_line before) 4 l.number (rw k at order_split.0)

  pub modifier_placed : kind_of_line l ≡ modifier_line → begun ≡ true
  unfolding misplaced
  modifier_placed k =
      let e = complain_if_nil (not (any is_pattern_line before)) 8 l.number (rw k at order_split.0) in
      sym s.behind_pattern ∙ by_cases (any is_pattern_line before) (λ t. t) (λ f. true_is_not_false (ap not f) e)

  pub pattern_placed : kind_of_line l ≡ pattern_line → past ≡ false
  unfolding misplaced
  pattern_placed k = sym s.past_it ∙ complain_if_nil (not (is_empty (past_run before))) 8 l.number (rw k at order_split.0)
