-- The outlines of the definitions in order: none at first, then each by its own text. What they tell of a definition whose references are right.
use Prim.Native.Nat.{ℕ, ◌≤◌}
use mathlib.Core.Path.{◌≡◌, refl}
use mathlib.Core.List.{List, [], ◌∷◌}
use mathlib.Core.Bool.{Bool}
use mathlib.Core.Option.{Option, none, some, bind}
use native.Mathlib.Omega.{arith}
use lib.ListN.{take, drop}
use Rattle.songcode.specs.Song.{Items, Definition}
use Rattle.songcode.specs.Answer.PatternText.{depth, loops_deep, references}
use Rattle.songcode.specs.Answer.References.{definition_of, items_of, put_in_item}
use Rattle.songcode.specs.Description.Fits.{Refers}
use Rattle.songcode.proofs.ListLaws.{Each}
use Rattle.score.specs.declared.stretches.Stretch.{Stretch}
use Rattle.score.specs.Standing.{ItemsFit, Stands}
use Rattle.songcode.proofs.GlueLaws.{put_in_same}
use Rattle.outlines.specs.declared.readings.Outline.{Outline}
use Rattle.outlines.specs.Words.{vacant}
use Rattle.outlines.specs.Readings.{outlined}
use Rattle.outlines.specs.Told.{Tells, Told, KnowsItems, Knows, Known}
use Rattle.outlines.proofs.OutlineAgree.{outline_tells}
use Rattle.outlines.proofs.SketchLaws.{outline_sketches}

-- References that are right are told of.
found_told : (d : Option Definition) (e : Definition) (q : Items) (m : Bool) (o : Outline) → Knows d m o → d ≡ some e → e.items ≡ some q
    → references q ≡ [] → Tells o q
unfolding Knows KnowsItems
found_told d e q m o k f g p = tells e.items g (knows d f k)
  where
    knows : (c : Option Definition) → c ≡ some e → Knows c m o → KnowsItems e.items o
    knows c h w = let z : Knows (some e) m o = rw h at w in z.1

    tells : (i : Option Items) → i ≡ some q → KnowsItems i o → Tells o q
    tells i h w = let z : KnowsItems (some q) o = rw h at w in z.1 p

refer_told : (ds : List Definition) (missing : ℕ → Bool) (find : ℕ → Outline) → Known ds missing find → (n : ℕ) → Refers ds n → Told find (items_of ds) n
unfolding Told Known put_in_item items_of bind
refer_told ds missing find known n w =
    rw (w.found, w.filled) (found_told (definition_of n ds) w.definition w.items (missing n) (find n) (known n) w.found w.filled w.plain)

-- The outline of a definition's text is one that later references may find.
none_told : (find : ℕ → Outline) (f : ℕ → Option Items) (ns : List ℕ) → ns ≡ [] → Each (Told find f) ns
unfolding Each
none_told find f [] e = tt
none_told find f (n ∷ ns) e = let z : ◌≡◌ {A = ℕ} 0 1 = cc in absurd (omega arith)

pub items_known : (find : ℕ → Outline) (ws : List ℕ) (s : Stretch) (r : Items) → Stands ws s r → ItemsFit r → depth r ≤ loops_deep
    → KnowsItems (some r) (outlined find (drop s.from (take s.to ws)))
unfolding KnowsItems
items_known find ws s r p h d =
    (outline_sketches find ws s r p h d, λ e. plain e)
  where
    plain : references r ≡ [] → Tells (outlined find (drop s.from (take s.to ws))) r
    plain e = let t = outline_tells find (λ n. none) ws s r p h d (none_told find (λ n. none) (references r) e) in rw (put_in_same (λ n. none) r e) at t

pub empty_known : (find : ℕ → Outline) (ws : List ℕ) (s : Stretch) → drop s.from (take s.to ws) ≡ []
    → KnowsItems none (outlined find (drop s.from (take s.to ws)))
unfolding KnowsItems outlined vacant
empty_known find ws s e = rw e refl
