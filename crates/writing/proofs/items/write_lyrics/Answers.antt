-- The items of the lines passed are written, each at its measure.
use Prim.Native.Nat.{ℕ, ◌+◌, ◌<◌}
use mathlib.Core.Path.{◌≡◌, refl, sym, ap, ◌∙◌, subst}
use mathlib.Core.List.{List, ◌∷◌}
use native.Mathlib.Omega.{arith}
use lib.ListN.{length, take, drop, length-take, length-drop}
use Rattle.songcode.proofs.MemoryLaws.{Wrote, wrote_start, wrote_put, wrote_left, wrote_length, wrote_end}
use Rattle.writing.specs.Prompts.{counts_in, prompt_words}
use Rattle.writing.proofs.PromptLaws.{prompts_more, counts_more, prompts_over}
use Rattle.writing.proofs.items.write_lyrics.Goals as goal
use Rattle.writing.proofs.items.write_lyrics.Goals.{After-lyric_at-line}

-- A line is left, and its item has room.
room : (c : After-lyric_at-line) → (c.loop-at.i < length c.loop-at.items)
    × (counts_in (drop c.loop-at.at (take c.args.lyrics.to
    c.args.words.now))
    ≡ c.lyric_at-line.result.count + counts_in (drop (c.loop-at.at + 2) (take c.args.lyrics.to
    c.args.words.now)))
room c =
    let l = c.loop-at in
    let ws = c.args.words.now in
    let end = c.args.lyrics.to in
    let more = c.loop-at-test.true in
    let inside = l.invariant.3 (omega (arith, l.invariant.0)) in
    let is = c.lyric_at-line.ensures.value in
    let first = ap (λ (vs : List ℕ). length vs) (prompts_more ws end l.at more inside c.lyric_at-line.result is l.measure) in
    let left = wrote_left c.args.items.now l.i l.items _ _ l.invariant.6 in
    (omega (arith, c.requires.3, l.invariant.4), counts_more ws end l.at more inside c.lyric_at-line.result is)

pub loop-at-init : goal.loop-at-init
loop-at-init c =
    let ws = c.args.words.now in
    let t = c.args.lyrics in
    let k = length-drop t.from (take t.to ws) in
    let n = length-take t.to ws in
    let size = c.requires.1 in
    (omega arith, omega arith, c.requires.0, (λ h. omega arith), refl, c.requires.2, wrote_start _ _)

pub item_word-requires : goal.item_word-requires
item_word-requires c =
    let f = c.lyric_at-line.ensures.bounds in
    let m = c.loop-at.invariant.5 in
    (f.0, f.1, omega arith, f.2, f.3)

pub offset_bounds-items-i : goal.offset_bounds-items-i
offset_bounds-items-i c = omega (arith, (room (goal.at.offset_bounds-items-i c).After-lyric_at-line).0)

pub bounds-items-i : goal.bounds-items-i
bounds-items-i c = (room (goal.at.bounds-items-i c).After-lyric_at-line).0

pub overflow_add-measure : goal.overflow_add-measure
overflow_add-measure c = let k = (room (goal.at.overflow_add-measure c).After-lyric_at-line).1 in omega (arith, c.loop-at.invariant.5)

pub overflow_add-i : goal.overflow_add-i
overflow_add-i c = omega (arith, (room (goal.at.overflow_add-i c).After-lyric_at-line).0)

pub loop-at-preserved : goal.loop-at-preserved
loop-at-preserved c =
    let l = c.loop-at in
    let ws = c.args.words.now in
    let t = c.args.lyrics in
    let more = c.loop-at-test.true in
    let inside = l.invariant.3 (omega (arith, l.invariant.0)) in
    let fits = room (goal.at.loop-at-preserved c).After-lyric_at-line in
    let rest = prompt_words (l.measure + c.lyric_at-line.result.count) (drop (l.at + 2) (take t.to ws)) in
    let all = prompt_words c.args.first (drop t.from (take t.to ws)) in
    let item = prompts_more ws t.to l.at more inside c.lyric_at-line.result c.lyric_at-line.ensures.value l.measure
    ∙ ap (λ (v : ℕ). v ∷ rest) (sym c.item_word.ensures) in
    let put = wrote_put c.args.items.now l.i l.items rest all c.item_word.result
    (subst (λ (vs : List ℕ). Wrote c.args.items.now l.i l.items vs all) item l.invariant.6) in (
      omega (arith, l.invariant.0),
      omega arith,
      l.invariant.2,
      l.invariant.3,
      wrote_length c.args.items.now (l.i + 1) _ rest all put,
      omega (arith, fits.1, l.invariant.5),
      put,
    )

pub returns : goal.returns
returns c =
    let l = c.loop-at in
    let ws = c.args.words.now in
    let t = c.args.lyrics in
    let all = prompt_words c.args.first (drop t.from (take t.to ws)) in
    let over = prompts_over ws t.to l.at l.measure c.loop-at-test.false in
    let done = subst (λ (vs : List ℕ). Wrote c.args.items.now l.i l.items vs all) over l.invariant.6 in
    let left = wrote_left c.args.items.now l.i l.items _ all done in record {
      items = wrote_end c.args.items.now l.i l.items all done;
      count = omega arith;
    }
