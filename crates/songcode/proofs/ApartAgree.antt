-- What the answer and the description share is also what is described of it in other words.
use Prim.Native.Nat.{ℕ, ◌≤◌}
use mathlib.Core.Path.{◌≡◌, refl, ap, sym, subst, ◌∙◌}
use mathlib.Core.Logic.{◌↔◌, inl, inr, ⊎_elim}
use mathlib.Core.List.{List, [], Memᴰ}
use mathlib.Core.Option.{Option, none, some, get_or}
use native.Mathlib.Omega.{arith}
use lib.Dec.{leb}
use borrow.Author.Tests.{leb-true, leb-false}
use Rattle.songcode.specs.Answer.Lines.{Block}
use Rattle.songcode.specs.Song.{Item, measure, loop, refer, Items, one, next, Definition, Song, Modifiers}
use Rattle.songcode.specs.Answer.PatternText.{depth_i, depth, loops_deep, references}
use Rattle.songcode.specs.Answer.References.{definition_of, items_of}
use Rattle.songcode.specs.Answer.Playing.{repeats}
use Rattle.songcode.specs.Description.WrittenSong.{WrittenSong}
use Rattle.songcode.specs.Description.Fits.{DefinitionsRefer}
use Rattle.songcode.specs.Apart.{SimpleItem, Simple, Repeats, Apart}
use Rattle.songcode.proofs.ListLaws.{by_cases, each_at}
use Rattle.songcode.proofs.PatternLaws.{none_some}
use Rattle.songcode.proofs.DecimalAgree.{decimal_exact}
use Rattle.songcode.proofs.PutInPlain.{PutsPlain, Referring, each_found, each_referring}
use Rattle.songcode.proofs.PutInAgree.{Known, says_exact}
use Rattle.songcode.proofs.ReferenceStops.{loop_items, ones}
use Rattle.songcode.proofs.HeadsAgree.{heads_stand}
use Rattle.songcode.proofs.AnswerAgree.{of_chart}

-- "No loop in a loop."
item_simple : (i : Item) → (depth_i i ≤ 1) ↔ SimpleItem i
unfolding depth_i SimpleItem
item_simple (measure m) = ((λ h. tt), (λ h. omega arith))
item_simple (loop r n) = (
  (λ h l. let d = (loop_items r).1 l in
      let z : ⊥ = omega arith in z),
  (λ h. by_cases (leb 1 (depth r)) (λ t. absurd (h ((loop_items r).0 (leb-true 1 (depth r) t)))) (λ f. let d = leb-false 1 (depth r) f in omega arith)),
)
item_simple (refer n) = ((λ h. tt), (λ h. omega arith))

items_simple : (r : Items) → (depth r ≤ loops_deep) ↔ Simple r
unfolding depth Simple loops_deep
items_simple (one i) = item_simple i
items_simple (next r s i) =
    let a = items_simple r in
    let b = item_simple i in (
      (λ h. (a.0 (omega arith), b.0 (omega arith))),
      (λ h. let c = a.1 h.0 in
          let d = b.1 h.1 in omega arith),
    )

-- Repeats.
repeats_exact : (ms : Modifiers) (n : ℕ) → (repeats ms ≡ n) ↔ Repeats ms n
unfolding repeats Repeats
repeats_exact ms n = (to ms.repeat refl, from)
  where
    to : (o : Option ℕ) → ms.repeat ≡ o → get_or ms.repeat 1 ≡ n → Repeats ms n
    to none e h = inr (e, sym h ∙ rw e)
    to (some k) e h = inl (e ∙ ap (λ z. some z) (sym (rw e) ∙ h))

    from : Repeats ms n → get_or ms.repeat 1 ≡ n
    from h = ⊎_elim (λ e. rw e) (λ p. rw p.0 (sym p.1)) h

-- References of a written song's definitions.
known_all : (s : Song) {bs : List Block} (w : WrittenSong bs s) → DefinitionsRefer [] s.definitions → (d : Definition) (q : Items)
    → Memᴰ d s.definitions → d.items ≡ some q → Known s.definitions (references q)
unfolding Known Referring definition_of
known_all s w refers d q m e =
    let all = each_referring s.definitions [] s.definitions (λ n b f. none_some refl f) (each_found s.definitions w.definitions_once) refers in
    let mine : Referring s.definitions (some q) =
    subst (λ o. Referring s.definitions o) e (each_at (λ b. Referring s.definitions b.items) all m) in
    λ n i. let p = each_at (PutsPlain (items_of s.definitions)) mine i in (p.items, p.said)

pub apart : Apart
apart =
    record {
      says = λ bs s x o c refers h. let w = of_chart bs s c in says_exact s.definitions (ones s w) (known_all s w refers) x.pattern o h;
      decimals = decimal_exact;
      simple = items_simple;
      repeats_said = repeats_exact;
      heads = heads_stand;
    }
