-- The lines of a text of at most 65,536 bytes have small numbers, so its refusal is read off the walk.
use Prim.Native.Nat.{ℕ, zero, suc, ◌+◌, ◌-◌, ◌≤◌}
use mathlib.Core.Path.{◌≡◌, ap, ◌∙◌}
use mathlib.Core.List.{List, [], ◌∷◌, map}
use mathlib.Core.Bool.{Bool, true, false}
use native.Mathlib.Omega.{arith}
use lib.ListN.{length}
use Rattle.songcode.specs.Lists.{is_empty}
use Rattle.songcode.specs.Answer.Lines as songcode
use Rattle.songcode.specs.Answer.Lines.{Block, Runs, shut, join, runs, blocks}
use Rattle.songcode.specs.Complaints.{earliest}
use Rattle.songcode.specs.Answer.SongText.{block_kind, section_if, section_blocks, text_faults}
use Rattle.songcode.specs.Answer.Answer.{blocks_of}
use Rattle.songcode.proofs.ListLaws.{Each}
use Rattle.std.proofs.Math.Option.{none}
use Rattle.text.specs.Spans.{line_of, spans_from, spans, line_text}
use Rattle.text.proofs.LineLaws.{blocks_spans}
use Rattle.refusals.specs.Ranks.{refusal_at}
use Rattle.stage2.specs.Walk.{walked, at_first}
use Rattle.refusals.proofs.RankLaws.{or_no_section_lem, clear_faults}
use Rattle.stage2.proofs.TextWalk.{block_faults, walked_least}
use Rattle.stage2.proofs.SmallFaults.{faults_small, low_section}
use Rattle.stage2.proofs.SmallLineFaults.{Low, LowBlock, each_gather}

-- A line has at least one byte, so numbers do not outrun places.
numbers : (s : List ℕ) (n at k : ℕ) (bs : List ℕ) → n + length bs ≤ 131072 → Each Low (map (line_text s) (spans_from n at k bs))
unfolding spans_from line_of Each
numbers s n at k [] h = tt
numbers s n at (suc k) (b ∷ bs) h = numbers s n (suc at) k bs (omega arith)
numbers s n at zero (b ∷ bs) h = (omega arith, numbers s (suc n) (suc at) ((line_of n at (b ∷ bs)).next - suc at) bs (omega arith))

-- Blocks of such lines.
abbrev LowRuns : Runs → Type 0
LowRuns r = Each Low r.front × Each LowBlock r.rest

low_shut : (ls : List songcode.Line) (bs : List Block) → Each Low ls → Each LowBlock bs → Each LowBlock (shut ls bs)
unfolding shut Each LowBlock
low_shut [] bs p q = q
low_shut (l ∷ ls) bs p q = (p, q)

low_join : (t : Bool) (l : songcode.Line) (r : Runs) → Low l → LowRuns r → LowRuns (join t l r)
unfolding join Each
low_join true l r h p = (tt, low_shut r.front r.rest p.0 p.1)
low_join false l r h p = ((h, p.0), p.1)

low_runs : (ls : List songcode.Line) → Each Low ls → LowRuns (runs ls)
unfolding runs Each
low_runs [] h = (tt, tt)
low_runs (l ∷ ls) h = low_join (is_empty l.text) l (runs ls) h.0 (low_runs ls h.1)

low_blocks : (ls : List songcode.Line) → Each Low ls → Each LowBlock (blocks ls)
unfolding blocks
low_blocks ls h = let r = low_runs ls h in low_shut (runs ls).front (runs ls).rest r.0 r.1

pub text_low : (s : List ℕ) → length s ≤ 65536 → Each LowBlock (blocks_of s)
unfolding spans
text_low s h = rw (blocks_spans s) (low_blocks (map (line_text s) (spans s)) (numbers s 1 0 0 s (omega arith)))

pub sections_low : (s : List ℕ) → length s ≤ 65536 → Each LowBlock (section_blocks (blocks_of s))
unfolding section_blocks
sections_low s h =
    each_gather LowBlock (λ b. section_if (block_kind b) b) (λ b p. low_section b p (block_kind b)) (blocks_of s) (text_low s h)

-- The law of stage 2: the walk over the lines of a text says which complaint goes first.
pub stage_walked : (s : List ℕ) → length s ≤ 65536
    → refusal_at (walked at_first (map (line_text s) (spans s))) ≡ earliest (text_faults (blocks_of s))
unfolding spans text_faults
stage_walked s h =
    let ls = map (line_text s) (spans s) in
    rw (blocks_spans s)
    (ap refusal_at (walked_least ls) ∙ or_no_section_lem (block_faults (blocks ls)) (section_blocks (blocks ls))
    (faults_small (blocks ls) (low_blocks ls (numbers s 1 0 0 s (omega arith)))))

-- Where stage 2 refuses nothing it complains of nothing.
pub stage_clear : (s : List ℕ) → length s ≤ 65536 → earliest (text_faults (blocks_of s)) ≡ none → text_faults (blocks_of s) ≡ []
unfolding text_faults spans
stage_clear s h e =
    let bs = blocks (map (line_text s) (spans s)) in
    let small = faults_small bs (low_blocks (map (line_text s) (spans s)) (numbers s 1 0 0 s (omega arith))) in
    rw (blocks_spans s) (clear_faults (block_faults bs) (section_blocks bs) small (rw (blocks_spans s) at e))
