-- How many positions the measures of a text have, in their order: as its items say.
use Prim.Native.Nat.{ℕ, zero, suc, ◌+◌, ◌*◌, ◌/◌, ◌%◌, ◌≤◌}
use mathlib.Core.Path.{◌≡◌, refl, sym, ap, ◌∙◌, subst}
use mathlib.Core.Logic.{⊎_elim}
use mathlib.Core.List.Memᴰ
use mathlib.Core.List.{List, [], ◌∷◌, ◌++◌, map, append_assoc, append-nil, Memᴰ}
use mathlib.Core.Option.{Option, get_or}
use native.Mathlib.Omega.{arith}
use native.Mathlib.Nat.{div-add-mod'}
use lib.ListN.{length, length-append}
use Rattle.songcode.specs.Lists.{provided◌then◌else◌}
use Rattle.songcode.specs.Song.{Sounds, only, also, nothing, a_line_end, Separator, by_semicolon, by_line_end, by_colon, Measure}
use Rattle.songcode.specs.Song.{Item, measure, loop, refer, Items, one, next}
use Rattle.songcode.specs.Answer.Tokens.{Token, sound, remover, line_end, closes}
use Rattle.songcode.specs.Answer.References.{glue, put_in_item, put_in}
use Rattle.songcode.specs.Answer.Playing.{sound_count, positions}
use Rattle.songcode.proofs.WrittenBefore.{write_sounds, write_removers, write_measure, write_beside, write_separator, write_item, write_items}
use Rattle.songcode.specs.Description.StoppedSong.{MeasureOf, MeasureIn}
use Rattle.songcode.proofs.ListLaws.{by_cases}
use Rattle.songcode.proofs.PlayingAgree.{sounds_some}
use Rattle.slips.specs.Marks.{Mark, end_mark}
use Rattle.slips.specs.Misfits.{is_position, over, measures_from, measures_in, AllFit}
use Rattle.sections.proofs.LineLaws.{in_map}
use Rattle.explain.proofs.PutTokens.{meant, put_tokens, ended, Tied, Says, as_written, with_put, put_measure, put_separator}
use Rattle.explain.proofs.SoundLaws.{tokens_in, tokens_behind}

unfoldable pub closed : ℕ → List ℕ → List ℕ
closed zero ns = ns
closed (suc k) ns = suc k ∷ ns

-- Runs of positions; so many were met.
unfoldable pub sizes_from : ℕ → List Token → List ℕ
unfolding provided◌then◌else◌ is_position closed
sizes_from k [] = closed k []
sizes_from k (t ∷ ts) = provided is_position t then sizes_from (suc k) ts else closed k (sizes_from 0 ts)

abbrev pub sizes : List Token → List ℕ
sizes ts = sizes_from 0 ts

closed_both : (k : ℕ) (ns ms : List ℕ) → closed k (ns ++ ms) ≡ closed k ns ++ ms
unfolding closed
closed_both zero ns ms = refl
closed_both (suc k) ns ms = refl

pub sizes_parted : (k : ℕ) (ts us : List Token) → sizes_from k (ts ++ (line_end ∷ us)) ≡ sizes_from k ts ++ sizes us
unfolding sizes_from provided◌then◌else◌ is_position
sizes_parted k [] us = closed_both k [] (sizes us)
sizes_parted k (t ∷ ts) us =
    by_cases (is_position t)
    (λ p. rw p (sizes_parted (suc k) ts us))
    (λ p. rw p (ap (closed k) (sizes_parted 0 ts us) ∙ closed_both k (sizes ts) (sizes us)))

-- The measures of a text's tokens with their places.
over_sizes : (met : List Mark) (rows : List (List Mark)) → map length (over met rows) ≡ closed (length met) (map length rows)
unfolding over closed
over_sizes [] rows = refl
over_sizes (m ∷ met) rows = refl

of_measures : (met ms : List Mark) → map length (measures_from met ms) ≡ sizes_from (length met) (tokens_in ms)
unfolding measures_from sizes_from provided◌then◌else◌
of_measures met [] = over_sizes met []
of_measures met (m ∷ ms) =
    let e : length (met ++ (m ∷ [])) ≡ suc (length met) = simp length-append (omega arith) in
    by_cases (is_position m.token)
    (λ p. rw p (of_measures (met ++ (m ∷ [])) ms ∙ ap (λ (k : ℕ). sizes_from k (tokens_in ms)) e))
    (λ p. rw p (over_sizes met (measures_from [] ms) ∙ ap (closed (length met)) (of_measures [] ms)))

pub measures_sized : (ms : List Mark) → map length (measures_in ms) ≡ sizes (tokens_in ms)
measures_sized ms = of_measures [] ms

pub sizes_before_end : (ms : List Mark) (stop : ℕ) (rest : List Mark)
    → sizes (tokens_in (ms ++ (end_mark stop ∷ rest))) ≡ sizes (tokens_in ms) ++ sizes (tokens_in rest)
sizes_before_end ms stop rest = ap sizes (tokens_behind ms (end_mark stop ∷ rest)) ∙ sizes_parted 0 (tokens_in ms) (tokens_in rest)

-- Of written items.
unfoldable mutual
  pub item_sizes : Item → List ℕ
  item_sizes (measure m) = positions m ∷ []
  item_sizes (loop r n) = items_sizes r
  item_sizes (refer n) = []

  pub items_sizes : Items → List ℕ
  items_sizes (one i) = item_sizes i
  items_sizes (next r s i) = items_sizes r ++ item_sizes i

of_sounds : (k : ℕ) (ss : Sounds) (ts : List Token) → sizes_from k (write_sounds ss ts) ≡ sizes_from (sound_count ss + k) ts
unfolding sizes_from write_sounds sound_count provided◌then◌else◌ is_position
of_sounds k (only s) ts = let e : suc k ≡ 1 + k = omega arith in ap (λ (j : ℕ). sizes_from j ts) e
of_sounds k (also ss s) ts =
    let e : suc (sound_count ss + k) ≡ suc (sound_count ss) + k = omega arith in
    of_sounds k ss (sound s ∷ ts) ∙ ap (λ (j : ℕ). sizes_from j ts) e

of_removers : (k n : ℕ) (ts : List Token) → sizes_from k (write_removers n ts) ≡ sizes_from (k + n) ts
unfolding sizes_from write_removers provided◌then◌else◌ is_position
of_removers k zero ts = let e : k ≡ k + 0 = omega arith in ap (λ (j : ℕ). sizes_from j ts) e
of_removers k (suc n) ts =
    let e : suc (k + n) ≡ k + suc n = omega arith in of_removers k n (remover ∷ ts) ∙ ap (λ (j : ℕ). sizes_from j ts) e

closed_some : (k : ℕ) (ns : List ℕ) → 1 ≤ k → closed k ns ≡ k ∷ ns
unfolding closed
closed_some zero ns h = let z : ⊥ = omega arith in absurd z
closed_some (suc k) ns h = refl

-- Tokens that do not go on with a measure.
abbrev Apart : List Token → Type 0
Apart ts = (k : ℕ) → sizes_from k ts ≡ closed k (sizes ts)

pub apart_none : Apart []
unfolding sizes_from closed
apart_none k = refl

of_measure : (m : Measure) (ts : List Token) → Apart ts → sizes (write_measure m ts) ≡ positions m ∷ sizes ts
unfolding write_measure positions
of_measure m ts a =
    let h = sounds_some m.sounds in
    let e : sound_count m.sounds + 0 + m.removers ≡ sound_count m.sounds + m.removers = omega arith in
    of_sounds 0 m.sounds (write_removers m.removers ts)
    ∙ of_removers (sound_count m.sounds + 0) m.removers ts
    ∙ ap (λ (j : ℕ). sizes_from j ts) e
    ∙ a (sound_count m.sounds + m.removers)
    ∙ closed_some (sound_count m.sounds + m.removers) (sizes ts) (omega arith)

apart_separator : (s : Separator) (ts : List Token) → Apart (write_separator s ts)
unfolding sizes_from write_separator write_beside provided◌then◌else◌ is_position closed
apart_separator by_semicolon ts k = refl
apart_separator by_line_end ts k = refl
apart_separator (by_colon nothing nothing) ts k = refl
apart_separator (by_colon nothing a_line_end) ts k = refl
apart_separator (by_colon a_line_end nothing) ts k = refl
apart_separator (by_colon a_line_end a_line_end) ts k = refl

of_separator : (s : Separator) (ts : List Token) → sizes (write_separator s ts) ≡ sizes ts
unfolding sizes_from write_separator write_beside provided◌then◌else◌ is_position closed
of_separator by_semicolon ts = refl
of_separator by_line_end ts = refl
of_separator (by_colon nothing nothing) ts = refl
of_separator (by_colon nothing a_line_end) ts = refl
of_separator (by_colon a_line_end nothing) ts = refl
of_separator (by_colon a_line_end a_line_end) ts = refl

apart_closes : (n : ℕ) (ts : List Token) → Apart (closes n ∷ ts)
unfolding sizes_from provided◌then◌else◌ is_position closed
apart_closes n ts k = refl

mutual
  unfolding write_item write_items item_sizes items_sizes sizes_from provided◌then◌else◌ is_position closed

  of_item : (i : Item) (ts : List Token) → Apart ts → sizes (write_item i ts) ≡ item_sizes i ++ sizes ts
  of_item (measure m) ts a = of_measure m ts a
  of_item (loop r n) ts a = of_items r (closes n ∷ ts) (apart_closes n ts)
  of_item (refer n) ts a = refl

  pub of_items : (r : Items) (ts : List Token) → Apart ts → sizes (write_items r ts) ≡ items_sizes r ++ sizes ts
  of_items (one i) ts a = of_item i ts a
  of_items (next r s i) ts a =
      of_items r (write_separator s (write_item i ts)) (apart_separator s (write_item i ts))
      ∙ ap (λ (ns : List ℕ). items_sizes r ++ ns) (of_separator s (write_item i ts) ∙ of_item i ts a)
      ∙ sym (append_assoc (items_sizes r) (item_sizes i) (sizes ts))

-- With references put in.
glue_sizes : (r : Items) (s : Separator) (q : Items) → items_sizes (glue r s q) ≡ items_sizes r ++ items_sizes q
unfolding glue items_sizes item_sizes
glue_sizes r s (one i) = refl
glue_sizes r s (next q t i) =
    ap (λ (ns : List ℕ). ns ++ item_sizes i) (glue_sizes r s q) ∙ append_assoc (items_sizes r) (items_sizes q) (item_sizes i)

apart_end : (ts : List Token) → Apart (line_end ∷ ts)
unfolding sizes_from provided◌then◌else◌ is_position closed
apart_end ts k = refl

module _ (f : ℕ → Option Items) (g : ℕ → List Token) (tied : Tied f g) where
  put_refer : (n : ℕ) (ts : List Token) → sizes (g n ++ ts) ≡ items_sizes (get_or (f n) (one (refer n))) ++ sizes ts
  unfolding items_sizes item_sizes sizes_from provided◌then◌else◌ is_position closed
  put_refer n ts =
      ⊎_elim
      (λ h. rw (h.0, h.1) refl)
      (λ h. rw (h.1, h.2, ended h.0 ts) (of_items h.0 (line_end ∷ ts) (apart_end ts)))
      (tied n)

  mutual
    unfolding write_item write_items put_tokens meant put_in put_in_item item_sizes items_sizes sizes_from provided◌then◌else◌ is_position closed

    put_item : (i : Item) (ts : List Token) → Apart (put_tokens g ts)
        → sizes (put_tokens g (write_item i ts)) ≡ items_sizes (put_in_item f i) ++ sizes (put_tokens g ts)
    put_item (measure m) ts a = ap sizes (put_measure g m ts) ∙ of_measure m (put_tokens g ts) a
    put_item (loop r n) ts a = put_items r (closes n ∷ ts) (apart_closes n (put_tokens g ts))
    put_item (refer n) ts a = put_refer n (put_tokens g ts)

    put_items : (r : Items) (ts : List Token) → Apart (put_tokens g ts)
        → sizes (put_tokens g (write_items r ts)) ≡ items_sizes (put_in f r) ++ sizes (put_tokens g ts)
    put_items (one i) ts a = put_item i ts a
    put_items (next r s i) ts a =
        let behind = write_item i ts in
        let between = put_separator g s behind in
        put_items r (write_separator s behind) (subst Apart (sym between) (apart_separator s (put_tokens g behind)))
        ∙ ap (λ (ns : List ℕ). items_sizes (put_in f r) ++ ns)
        (ap sizes between ∙ of_separator s (put_tokens g behind) ∙ put_item i ts a)
        ∙ sym (append_assoc (items_sizes (put_in f r)) (items_sizes (put_in_item f i)) (sizes (put_tokens g ts)))
        ∙ ap (λ (ns : List ℕ). ns ++ sizes (put_tokens g ts)) (sym (glue_sizes (put_in f r) s (put_in_item f i)))

  pub said_sizes : (r : Items) (ts : List Token) → Says f g r ts → sizes ts ≡ items_sizes r
  unfolding put_tokens meant sizes_from provided◌then◌else◌ is_position closed
  said_sizes r ts (as_written e) = ap sizes e ∙ of_items r (line_end ∷ []) (apart_end []) ∙ append-nil (items_sizes r)
  said_sizes r ts (with_put q h e) =
      ap sizes e ∙ put_items q (line_end ∷ []) (apart_end []) ∙ append-nil (items_sizes (put_in f q)) ∙ ap items_sizes (sym h)

-- A measure of a row is among them.
mutual
  unfolding MeasureOf MeasureIn item_sizes items_sizes

  measure_of_lem : (m : Measure) (i : Item) → MeasureOf m i → Memᴰ (positions m) (item_sizes i)
  measure_of_lem m (measure k) h = Memᴰ.head (ap positions h)
  measure_of_lem m (loop r n) h = measure_in m r h
  measure_of_lem m (refer n) h = absurd h

  pub measure_in : (m : Measure) (r : Items) → MeasureIn m r → Memᴰ (positions m) (items_sizes r)
  measure_in m (one i) h = measure_of_lem m i h
  measure_in m (next r s i) h =
      ⊎_elim (λ k. Memᴰ.append_left (item_sizes i) (measure_in m r k)) (λ k. Memᴰ.append_right (items_sizes r) (measure_of_lem m i k)) h

-- So where all fit, each divides N.
all_divide : (n : ℕ) (rows : List (List Mark)) → AllFit n rows → (row : List Mark) → Memᴰ row rows → n % length row ≡ 0
unfolding AllFit
all_divide n rows f row m = go rows f m
  where
    go : (rows : List (List Mark)) → AllFit n rows → Memᴰ row rows → n % length row ≡ 0
    go [] f m = absurd (Memᴰ.not-nil m)
    go (r ∷ rows) f m =
        ⊎_elim (λ e. ap (λ (x : List Mark). n % length x) e ∙ f.0) (λ i. go rows f.1 i) (Memᴰ.cases_cons m)

pub undivided_not : (n : ℕ) (ms : List Mark) (r : Items) → sizes (tokens_in ms) ≡ items_sizes r → (m : Measure) → MeasureIn m r
    → ((k : ℕ) → k * positions m ≡ n → ⊥) → AllFit n (measures_in ms) → ⊥
undivided_not n ms r e m i u f =
    let p = positions m in
    let q = in_map length (measures_in ms) (subst (λ (ns : List ℕ). Memᴰ p ns) (sym (measures_sized ms ∙ e)) (measure_in m r i)) in
    let z : n % p ≡ 0 = ap (λ (k : ℕ). n % k) q.2 ∙ all_divide n (measures_in ms) f q.0 q.1 in
    let d = div-add-mod' n p in
    u (n / p) (omega arith)
