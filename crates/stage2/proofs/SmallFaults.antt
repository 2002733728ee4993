-- Every complaint of stage 2 has a small number, and the line of one of the lines.
use Prim.Native.Nat.{ℕ, suc, max}
use mathlib.Core.List.{List, [], ◌∷◌, ◌++◌, map, flat_map}
use mathlib.Core.Bool.{not, ◌||◌}
use native.Mathlib.Omega.{arith}
use lib.Dec.{leb, ltb}
use Rattle.songcode.specs.Lists.{left, is_some}
use Rattle.songcode.specs.Answer.Lines.{Line, Block}
use Rattle.songcode.specs.Complaints.{Complaint, complain_if}
use Rattle.songcode.specs.Answer.Sections.{is_pattern_line, not_pattern_line, twice, key_said, modifier_said, faults, order, pattern_run, pattern_faults}
use Rattle.songcode.specs.Answer.Sections.{header_faults, not_dashes, lyric_faults, body, from_dashes, section_faults}
use Rattle.songcode.specs.Answer.SongText.{BlockKind, metadata, definition, section, block_kind, turn, block_order, lines_if, metadata_lines, metadata_fault}
use Rattle.songcode.specs.Answer.SongText.{metadata_faults, head_in, definition_if, section_if, definition_blocks, section_blocks, heads_faults, first_line}
use Rattle.songcode.specs.Answer.SongText.{definition_faults, definitions_faults}
use Rattle.songcode.proofs.ListLaws.{Each, each_append}
use Rattle.settings.specs.Phrases.{is_header}
use Rattle.refusals.specs.Ranks.{Small}
use Rattle.stage2.proofs.TextWalk.{block_faults}
use Rattle.stage2.proofs.SmallLineFaults.{Low, LowBlock, Fine, fine_if, fine_gather, each_gather, each_taken, each_left, fine_twice}
use Rattle.stage2.proofs.SmallLineFaults.{fine_faults, fine_metadata, fine_order, fine_pattern, fine_definition, fine_lyrics}

fine_header : (l : Line) → Low l → Fine (header_faults l)
unfolding header_faults is_header
fine_header l h = fine_if (not (is_header l.text)) 8 l (omega arith, omega arith) h

all_seven : (h o k m f p l : List Complaint) → Fine h → Fine o → Fine k → Fine m → Fine f → Fine p → Fine l → Fine (h ++ o ++ k ++ m ++ f ++ p ++ l)
all_seven h o k m f p l a b c d e g i =
    let two = each_append Small h o a b in
    let three = each_append Small (h ++ o) k two c in
    let four = each_append Small (h ++ o ++ k) m three d in
    let five = each_append Small (h ++ o ++ k ++ m) f four e in
    each_append Small (h ++ o ++ k ++ m ++ f ++ p) l (each_append Small (h ++ o ++ k ++ m ++ f) p five g) i

-- A section.
fine_section : (b : Block) → LowBlock b → Fine (section_faults b)
unfolding section_faults LowBlock pattern_run body from_dashes
fine_section b h =
    let low = each_taken Low not_dashes b.others h.1 in
    let run = each_taken Low is_pattern_line (left not_pattern_line (body b)) (each_left Low not_pattern_line (body b) low) in
    all_seven
    (header_faults b.first)
    (order [] (body b))
    (twice 4 key_said [] (body b))
    (twice 8 modifier_said [] (body b))
    (flat_map faults (body b))
    (pattern_faults b.first.number (pattern_run (body b)))
    (lyric_faults (from_dashes b))
    (fine_header b.first h.0)
    (fine_order [] (body b) low)
    (fine_twice 4 (omega arith, omega arith) key_said [] (body b) low)
    (fine_twice 8 (omega arith, omega arith) modifier_said [] (body b) low)
    (fine_gather faults fine_faults (body b) low)
    (fine_pattern b.first (pattern_run (body b)) h.0 run)
    (fine_lyrics (from_dashes b) (each_left Low not_dashes b.others h.1))

-- Blocks.
fine_blocks_order : (t : ℕ) (bs : List Block) → Each LowBlock bs → Fine (block_order t bs)
unfolding block_order Each LowBlock
fine_blocks_order t [] h = tt
fine_blocks_order t (b ∷ bs) h =
    each_append Small (complain_if (ltb (turn (block_kind b)) t) 3 b.first.number) (block_order (max t (turn (block_kind b))) bs)
    (fine_if (ltb (turn (block_kind b)) t) 3 b.first (omega arith, omega arith) h.0.0)
    (fine_blocks_order (max t (turn (block_kind b))) bs h.1)

fine_heads : (n : ℕ) (bs : List Block) → Each LowBlock bs → Fine (heads_faults n bs)
unfolding heads_faults Each LowBlock
fine_heads n [] h = tt
fine_heads n (b ∷ bs) h =
    each_append Small (complain_if (not (is_some (head_in b.first)) || leb 26 n) 6 b.first.number) (heads_faults (suc n) bs)
    (fine_if (not (is_some (head_in b.first)) || leb 26 n) 6 b.first (omega arith, omega arith) h.0.0) (fine_heads (suc n) bs h.1)

low_firsts : (bs : List Block) → Each LowBlock bs → Each Low (map first_line bs)
unfolding Each LowBlock first_line
low_firsts [] h = tt
low_firsts (b ∷ bs) h = (h.0.0, low_firsts bs h.1)

module _ (b : Block) (h : LowBlock b) where
  low_lines : (k : BlockKind) → Each Low (lines_if k b)
  unfolding lines_if LowBlock Each
  low_lines metadata = h
  low_lines definition = tt
  low_lines section = tt

  low_definition : (k : BlockKind) → Each LowBlock (definition_if k b)
  unfolding definition_if Each
  low_definition metadata = tt
  low_definition definition = (h, tt)
  low_definition section = tt

  pub low_section : (k : BlockKind) → Each LowBlock (section_if k b)
  unfolding section_if Each
  low_section metadata = tt
  low_section definition = tt
  low_section section = (h, tt)

pub faults_small : (bs : List Block) → Each LowBlock bs → Each Small (block_faults bs)
unfolding metadata_faults definitions_faults metadata_lines definition_blocks section_blocks LowBlock
faults_small bs h =
    let ls = metadata_lines bs in
    let ds = definition_blocks bs in
    let lines = each_gather Low (λ b. lines_if (block_kind b) b) (λ b p. low_lines b p (block_kind b)) bs h in
    let definitions = each_gather LowBlock (λ b. definition_if (block_kind b) b) (λ b p. low_definition b p (block_kind b)) bs h in
    let sections = each_gather LowBlock (λ b. section_if (block_kind b) b) (λ b p. low_section b p (block_kind b)) bs h in
    let m1 = twice 4 key_said [] ls in
    let m2 = flat_map metadata_fault ls in
    let d1 = heads_faults 0 ds in
    let d2 = twice 6 head_in [] (map first_line ds) in
    let d3 = flat_map (λ b. definition_faults b.others) ds in
    let m = each_append Small m1 m2 (fine_twice 4 (omega arith, omega arith) key_said [] ls lines) (fine_gather metadata_fault fine_metadata ls lines) in
    let d = each_append Small d1 d2 (fine_heads 0 ds definitions) (fine_twice 6 (omega arith, omega arith) head_in [] (map first_line ds)
    (low_firsts ds definitions)) in
    let e = each_append Small (d1 ++ d2) d3 d (fine_gather (λ b. definition_faults b.others) (λ b p. fine_definition b.others p.1) ds definitions) in
    let o = each_append Small (block_order 0 bs) (m1 ++ m2) (fine_blocks_order 0 bs h) m in
    each_append Small (block_order 0 bs ++ (m1 ++ m2) ++ (d1 ++ d2 ++ d3)) (flat_map section_faults (section_blocks bs))
    (each_append Small (block_order 0 bs ++ (m1 ++ m2)) (d1 ++ d2 ++ d3) o e) (fine_gather section_faults fine_section (section_blocks bs) sections)
