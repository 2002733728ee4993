-- Which items can be walked: those whose chords and numbers fit their words, where loops and references are not too deep. An empty stretch plays nothing.
use Rattle.std.proofs.Common.{◌≡◌, ℕ, zero, suc, ◌+◌, ◌≤◌, List, [], ◌∷◌, ap, arith}
use mathlib.Core.Option.{Option}
use Rattle.songcode.specs.Song.{Item, measure, loop, refer, Items, one, next}
use Rattle.songcode.specs.Answer.PatternText.{depth_i, depth, references_i, references}
use Rattle.songcode.proofs.ListLaws.{Each, append_each}
use Rattle.score.specs.declared.stretches.Stretch.{Stretch}
use Rattle.tokens.specs.Signs.{is_stop}
use Rattle.player.specs.Walks.{row_of, level, Read}
use Rattle.score.specs.Standing.{ItemFits, ItemsFit}
use Rattle.player.specs.Texts.{Says, WalkableItem, WalkableBy, Walkable}
use Rattle.score.proofs.WordLaws.{word_past}
use Rattle.player.proofs.WalkLaws.{rows_stop}

module _ (ws : List ℕ) (f : ℕ → Option Items) where
  -- What can be walked in some levels can be in more.
  item_wider : (P Q : Items → Type 0) → ((q : Items) → P q → Q q) → (i : Item) → WalkableItem ws f P i → WalkableItem ws f Q i
  unfolding WalkableItem
  item_wider P Q g (measure m) h = h
  item_wider P Q g (loop r n) h = (h.0, h.1, g r h.2)
  item_wider P Q g (refer n) h = (h.0, h.1, h.2, g h.1 h.3)

  items_wider : (P Q : Items → Type 0) → ((q : Items) → P q → Q q) → (r : Items) → WalkableBy ws f P r → WalkableBy ws f Q r
  unfolding WalkableBy
  items_wider P Q g (one i) h = item_wider P Q g i h
  items_wider P Q g (next r s i) h = (items_wider P Q g r h.0, item_wider P Q g i h.1)

  more_levels : (a b : ℕ) → a ≤ b → (r : Items) → Walkable ws f a r → Walkable ws f b r
  unfolding Walkable
  more_levels zero b l r h = absurd h
  more_levels (suc a) zero l r h = let z : ⊥ = omega arith in absurd z
  more_levels (suc a) (suc b) l r h = items_wider (Walkable ws f a) (Walkable ws f b) (more_levels a b (omega arith)) r h

  -- A reference to items that stand in a definition and can be walked in k levels.
  record Leads (k j : ℕ) : Type 0 where
    items : Items
    says : Says ws f j items
    walkable : Walkable ws f k items

  mutual
    unfolding ItemFits ItemsFit depth_i depth references_i references Each WalkableItem WalkableBy Walkable

    item_walkable : (k e b : ℕ) → e + k ≤ b → (i : Item) → ItemFits i → depth_i i ≤ e → Each (Leads k) (references_i i)
        → WalkableItem ws f (Walkable ws f b) i
    item_walkable k e b q (measure m) h l s = h
    item_walkable k zero b q (loop r n) h l s = let z : ⊥ = omega arith in absurd z
    item_walkable k (suc e) zero q (loop r n) h l s = let z : ⊥ = omega arith in absurd z
    item_walkable k (suc e) (suc b) q (loop r n) h l s = (h.0, h.1, items_walkable k e b (omega arith) r h.2 (omega arith) s)
    item_walkable k e b q (refer n) h l s = (h, s.0.items, s.0.says, more_levels k b (omega arith) s.0.items s.0.walkable)

    items_walkable : (k e b : ℕ) → e + k ≤ b → (r : Items) → ItemsFit r → depth r ≤ e → Each (Leads k) (references r) → Walkable ws f (suc b) r
    items_walkable k e b q (one i) h l s = item_walkable k e b q i h l s
    items_walkable k e b q (next r t i) h l s =
        let g = append_each (Leads k) (references r) (references_i i) s in
        (items_walkable k e b q r h.0 (omega arith) g.0, item_walkable k e b q i h.1 (omega arith) g.1)

  none_lead : (k : ℕ) (js : List ℕ) → js ≡ [] → Each (Leads k) js
  unfolding Each
  none_lead k [] e = tt
  none_lead k (j ∷ js) e = let z : ◌≡◌ {A = ℕ} 0 1 = cc in absurd (omega arith)

  -- Items that hold no reference, as those of a section, a lead-in or a tail.
  pub plain_walkable : (r : Items) → ItemsFit r → references r ≡ [] → depth r ≤ 7 → Walkable ws f 8 r
  plain_walkable r h e l = items_walkable 0 7 7 (omega arith) r h l (none_lead 0 (references r) e)

  -- A reference to a definition that fits.
  pub record Refers (j : ℕ) : Type 0 where
    pub items : Items
    pub says : Says ws f j items
    pub fits : ItemsFit items
    pub shallow : depth items ≤ 3

  all_lead : (js : List ℕ) → Each Refers js → Each (Leads 4) js
  unfolding Each
  all_lead [] h = tt
  all_lead (j ∷ js) h =
      let q = h.0 in (
        record {
          items = q.items;
          says = q.says;
          walkable =
              items_walkable 0 3 3 (omega arith) q.items q.fits q.shallow (none_lead 0 (references q.items) q.says.plain);
        },
        all_lead js h.1,
      )

  -- Items whose references say what stands in definitions, as those of a definition that a section names.
  pub refers_walkable : (r : Items) → ItemsFit r → depth r ≤ 3 → Each Refers (references r) → Walkable ws f 8 r
  refers_walkable r h l s = items_walkable 4 3 7 (omega arith) r h l (all_lead (references r) s)

-- An empty stretch.
pub empty_row : (n : ℕ) (ws : List ℕ) (s : Stretch) → s.to ≤ s.from → row_of n ws s ≡ []
unfolding row_of level is_stop
empty_row n ws s h =
    ap (λ (r : Read). r.row) (rows_stop (level 7 n ws) n ws s.to s.to s.from 4227858432 (rw (← word_past ws s.to s.from h)))
