-- When an outline says what items say, as references put them in.
use Rattle.std.specs.Prelude as std
use Rattle.std.specs.Prelude.{Some, None}
use Rattle.std.specs.Prelude.{ℕ, ◌≤◌, min, ◌≡◌, List, [], Bool, true, false, not}
use Rattle.std.proofs.Math.Option.{Option, none, some}
use Rattle.songcode.specs.Lists.{is_empty, is_some}
use Rattle.songcode.specs.Complaints.{Complaint, complaint}
use Rattle.songcode.specs.Song.{Items, refer, Definition}
use Rattle.songcode.specs.Answer.PatternText.{depth, references}
use Rattle.songcode.specs.Answer.References.{definition_of, put_in_item}
use Rattle.songcode.specs.Answer.Playing.{last_items}
use Rattle.songcode.specs.Answer.Meter.{all_fit, stray, count}
use Rattle.refusals.specs.declared.names.Why.{Why}
use Rattle.refusals.specs.Names.{number_of}
use Rattle.score.specs.Even.{is_whole}
use Rattle.outlines.specs.declared.readings.Outline.{Outline}
use Rattle.outlines.specs.Sizes.{divides}
use Rattle.outlines.specs.Words.{vacant}

-- Which N up to 32 its measures fit, whether a `%` stands before every chord, whether there is a chord, whether there is no remover, and how many
-- measures there are.
pub record Tells (o : Outline) (r : Items) : Type 0 where
  pub sizes : (n : ℕ) → 1 ≤ n → n ≤ 32 → divides o.sizes n ≡ all_fit n r
  pub wants : o.wants ≡ stray none r
  pub chord : o.chord ≡ is_some (last_items none r)
  pub whole : o.whole ≡ is_whole r
  pub measures : o.measures ≡ min 65536 (count r)

-- The outline that is found tells what stands in the reference's place.
unfoldable pub Told : (ℕ → Outline) → (ℕ → Option Items) → ℕ → Type 0
Told find f n = Tells (find n) (put_in_item f (refer n))

-- Of the items alone: there are some, how deep their loops are, and whether they hold a reference.
pub record Sketches (o : Outline) (r : Items) : Type 0 where
  pub filled : o.empty ≡ false
  pub depth : o.depth ≡ depth r
  pub refers : o.refers ≡ not (is_empty (references r))

-- The outline of a definition: an empty one's says that it is empty, and another's what its items say, where no reference is to be put in.
unfoldable pub KnowsItems : Option Items → Outline → Type 0
KnowsItems none o = o ≡ vacant
KnowsItems (some r) o = Sketches o r × (references r ≡ [] → Tells o r)

unfoldable pub Knows : Option Definition → Bool → Outline → Type 0
unfolding KnowsItems
Knows none missing o = (missing ≡ true) × (o ≡ vacant)
Knows (some d) missing o = (missing ≡ false) × KnowsItems d.items o

-- The outlines of those definitions, whichever number is looked up.
unfoldable pub Known : List Definition → (ℕ → Bool) → (ℕ → Outline) → Type 0
Known ds missing find = (n : ℕ) → Knows (definition_of n ds) (missing n) (find n)

-- What is refused, on that line.
unfoldable pub refusal : std.Option Why → ℕ → Option Complaint
refusal None line = none
refusal (Some why) line = some (complaint (number_of why) line)
