-- References put in, over the written text: what a pattern says is what the description says of it.
use Prim.Native.Nat.{ℕ, zero, suc}
use mathlib.Core.Path.{◌≡◌, refl, ap, sym, subst, ◌∙◌}
use mathlib.Core.Logic.{◌↔◌}
use mathlib.Core.List.Memᴰ
use mathlib.Core.List.{List, [], ◌∷◌, ◌++◌, append-nil, append_assoc, Memᴰ}
use mathlib.Core.Option.{Option, none, some, bind}
use lib.ListN.{replicate}
use Rattle.songcode.specs.Song.{Sounds, only, also, Measure, nothing, a_line_end, Separator, by_semicolon, by_line_end, by_colon, Item, measure, loop, refer}
use Rattle.songcode.specs.Song.{Items, one, next, Pattern, items, named, Definition}
use Rattle.songcode.specs.Answer.Tokens.{Token, sound, remover, reference, semicolon, colon, line_end, opens, closes}
use Rattle.songcode.specs.Answer.PatternText.{references_i, references, items_in}
use Rattle.songcode.specs.Answer.References.{definition_of, items_of, glue, put_in_item, put_in, pattern_items}
use Rattle.songcode.specs.Description.WrittenPattern.{sounds_tokens, measure_tokens, separator_tokens, item_tokens, items_tokens}
use Rattle.songcode.specs.Description.Fits.{PatternRefers}
use Rattle.songcode.specs.Apart.{InPlace, its_items, as_it_is, PutIn, all_put, and_put, PatternSays, own_items, names_items, names_nothing}
use Rattle.songcode.proofs.PatternLaws.{and_then_some}
use Rattle.songcode.proofs.ChoiceLaws.{zero_is_not_one}
use Rattle.songcode.proofs.ItemsAgree.{items_complete}
use Rattle.songcode.proofs.WrittenBefore.{appended}
use Rattle.songcode.proofs.ReferenceStops.{One, there, a_definition}

-- Rows joined are written one behind the other.
glue_tokens : (r : Items) (s : Separator) (q : Items) → items_tokens (glue r s q) ≡ items_tokens r ++ (separator_tokens s ++ items_tokens q)
unfolding glue items_tokens
glue_tokens r s (one i) = refl
glue_tokens r s (next q t i) =
    ap (λ z. z ++ (separator_tokens t ++ item_tokens i)) (glue_tokens r s q)
    ∙ append_assoc (items_tokens r) (separator_tokens s ++ items_tokens q) (separator_tokens t ++ item_tokens i)
    ∙ ap (λ z. items_tokens r ++ z) (append_assoc (separator_tokens s) (items_tokens q) (separator_tokens t ++ item_tokens i))

module _ (ds : List Definition) where
  keeps : (t : Token) → ((n : ℕ) → t ≡ reference n → ⊥) → PutIn ds (t ∷ []) (t ∷ [])
  keeps t h = and_put (as_it_is t h) all_put refl

  joins : {a b c d : List Token} → PutIn ds a b → PutIn ds c d → PutIn ds (a ++ c) (b ++ d)
  joins all_put q = q
  joins {d = d} (and_put {us = us} {vs = vs} i p e) q = and_put i (joins p q) (ap (λ z. z ++ d) e ∙ append_assoc us vs d)

  sounds_put : (ss : Sounds) → PutIn ds (sounds_tokens ss) (sounds_tokens ss)
  unfolding sounds_tokens
  sounds_put (only s) = keeps (sound s) (λ n e. zero_is_not_one (cc))
  sounds_put (also ss s) = joins (sounds_put ss) (keeps (sound s) (λ n e. zero_is_not_one (cc)))

  removers_put : (n : ℕ) → PutIn ds (replicate n remover) (replicate n remover)
  removers_put zero = all_put
  removers_put (suc n) = joins (keeps remover (λ k e. zero_is_not_one (cc))) (removers_put n)

  measure_put : (m : Measure) → PutIn ds (measure_tokens m) (measure_tokens m)
  unfolding measure_tokens
  measure_put m = joins (sounds_put m.sounds) (removers_put m.removers)

  line_put : PutIn ds (line_end ∷ []) (line_end ∷ [])
  line_put = keeps line_end (λ k e. zero_is_not_one (cc))

  colon_put : PutIn ds (colon ∷ []) (colon ∷ [])
  colon_put = keeps colon (λ k e. zero_is_not_one (cc))

  separator_put : (s : Separator) → PutIn ds (separator_tokens s) (separator_tokens s)
  unfolding separator_tokens
  separator_put by_semicolon = keeps semicolon (λ k e. zero_is_not_one (cc))
  separator_put by_line_end = line_put
  separator_put (by_colon nothing nothing) = colon_put
  separator_put (by_colon nothing a_line_end) = joins colon_put line_put
  separator_put (by_colon a_line_end nothing) = joins line_put colon_put
  separator_put (by_colon a_line_end a_line_end) = joins line_put (joins colon_put line_put)

  -- Every reference of a row says something.
  unfoldable pub Known : List ℕ → Type 0
  Known ns = (n : ℕ) → Memᴰ n ns → (q : Items) × (items_of ds n ≡ some q)

  refer_put : (n : ℕ) (q : Items) → items_of ds n ≡ some q → PutIn ds (reference n ∷ []) (items_tokens q)
  unfolding items_of
  refer_put n q e =
      let a = and_then_some (definition_of n ds) (λ d. d.items) e in
      let b = a_definition n ds a.0 a.1 in
      let put : PutIn ds (reference a.0.id ∷ []) (items_tokens q) =
      and_put (its_items a.0 q b.0 a.2) all_put (sym (append-nil (items_tokens q))) in
      subst (λ k. PutIn ds (reference k ∷ []) (items_tokens q)) b.1 put

  mutual
    unfolding references references_i items_tokens item_tokens put_in put_in_item Known

    item_put : (i : Item) → Known (references_i i) → PutIn ds (item_tokens i) (items_tokens (put_in_item (items_of ds) i))
    item_put (measure m) h = measure_put m
    item_put (loop r n) h = joins (keeps opens (λ k e. zero_is_not_one (cc))) (joins (items_put r h) (keeps (closes n) (λ k e. zero_is_not_one (cc))))
    item_put (refer n) h = let q = h n (Memᴰ.head refl) in rw q.1 (refer_put n q.0 q.1)

    items_put : (r : Items) → Known (references r) → PutIn ds (items_tokens r) (items_tokens (put_in (items_of ds) r))
    items_put (one i) h = item_put i h
    items_put (next r s i) h =
        rw (glue_tokens (put_in (items_of ds) r) s (put_in_item (items_of ds) i))
        (joins (items_put r (λ n m. h n (Memᴰ.append_left (references_i i) m)))
        (joins (separator_put s) (item_put i (λ n m. h n (Memᴰ.append_right (references r) m)))))

  -- A text has one text with its references put in, and a text is of one row.
  place_once : (only-ones : One ds) {t : Token} {us vs : List Token} → InPlace ds t us → InPlace ds t vs → us ≡ vs
  place_once o {t} i j = go t refl i j
    where
      go : (t : Token) {k : Token} {us vs : List Token} → t ≡ k → InPlace ds t us → InPlace ds k vs → us ≡ vs
      go t e (its_items d q m h) (its_items b p n g) =
          let same : d ≡ b = o d b m n (cc) in
          let r : some q ≡ some p = sym h ∙ ap (λ z. z.items) same ∙ g in
          let s : q ≡ p = cc in ap items_tokens s
      go t e (its_items d q m h) (as_it_is k n) = absurd (n d.id (sym e))
      go t e (as_it_is k n) (its_items d q m h) = absurd (n d.id e)
      go t e (as_it_is k n) (as_it_is j p) = ap (λ z. z ∷ []) e

  put_once : One ds → {ts us vs : List Token} → PutIn ds ts us → PutIn ds ts vs → us ≡ vs
  put_once o all_put all_put = refl
  put_once o (and_put {us = a} {vs = b} i p e) (and_put {us = c} {vs = d} j q f) =
      e ∙ ap (λ z. z ++ b) (place_once o i j) ∙ ap (λ z. c ++ z) (put_once o p q) ∙ sym f

  written_once : (r q : Items) → items_tokens r ≡ items_tokens q → r ≡ q
  written_once r q e =
      let a = ap items_in (sym (appended r)) ∙ items_complete r in
      let b = ap items_in (sym (appended q)) ∙ items_complete q in
      let c : items_in (items_tokens r) ≡ items_in (items_tokens q) = ap items_in e in
      cc

  -- What a pattern says.
  module _ (o : One ds) (known : (d : Definition) (q : Items) → Memᴰ d ds → d.items ≡ some q → Known (references q)) where
    says : (p : Pattern) (x : Option Items) → PatternRefers ds p → pattern_items ds p ≡ x → PatternSays ds p x
    unfolding pattern_items PatternRefers items_of bind
    says (items r) x h e = subst (λ z. PatternSays ds (items r) z) e own_items
    says (named n) x h e = go h.0.items refl
      where
        d : Definition
        d = h.0

        found : Memᴰ h.0 ds × (h.0.id ≡ n)
        found = a_definition n ds h.0 h.1

        go : (i : Option Items) → h.0.items ≡ i → PatternSays ds (named n) x
        go none g =
            let y : x ≡ none = sym e ∙ rw (h.1, g) in
            subst (λ z. PatternSays ds (named n) z) (sym y) (subst (λ k. PatternSays ds (named k) none) found.1 (names_nothing h.0 found.0 g))
        go (some q) g =
            let y : x ≡ some (put_in (items_of ds) q) = sym e ∙ rw (h.1, g) in
            subst (λ z. PatternSays ds (named n) z) (sym y)
            (subst (λ k. PatternSays ds (named k) (some (put_in (items_of ds) q))) found.1
            (names_items h.0 q found.0 g (items_put q (known h.0 q found.0 g))))

    said : {p : Pattern} {x : Option Items} → PatternSays ds p x → pattern_items ds p ≡ x
    unfolding pattern_items items_of bind
    said own_items = refl
    said (names_items {r = r} d q m h w) =
        rw (there ds o d m, h) (ap (λ z. some z) (written_once (put_in (items_of ds) q) r (put_once o (items_put q (known d q m h)) w)))
    said (names_nothing d m h) = rw (there ds o d m, h)

    pub says_exact : (p : Pattern) (x : Option Items) → PatternRefers ds p → (pattern_items ds p ≡ x) ↔ PatternSays ds p x
    says_exact p x h = (says p x h, said)
