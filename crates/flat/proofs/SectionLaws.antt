-- The block of a section on a sheet, part by part, and the blocks of all sections, one by one.
use Prim.Native.Nat.{ℕ, ◌+◌, ◌<◌, ◌≤◌}
use native.Mathlib.Omega.{arith}
use mathlib.Core.Path.{◌≡◌, refl, sym, ap, ◌∙◌}
use mathlib.Core.List.{List, ◌∷◌, ◌++◌, map, flat_map}
use lib.ListN.{length}
use Rattle.songcode.specs.Lists.{taken, left}
use Rattle.songcode.specs.Answer.Lines.{Block, blocks}
use Rattle.songcode.specs.Answer.Sections.{is_key_line, body, from_dashes, section_in}
use Rattle.songcode.specs.Answer.Playing.{time_of, played}
use Rattle.songcode.specs.Answer.Answer.{song_of}
use Rattle.songcode.specs.Answer.Flat.{text_of, end_line, flat_pattern, section_rows, flat_section}
use Rattle.songcode.proofs.ListLaws.{gather_append}
use Rattle.text.specs.declared.lines.Line.{Line}
use Rattle.text.specs.Spans.{part, Found}
use Rattle.player.specs.Texts.{row_words}
use Rattle.sections.specs.declared.blocks.Place.{Place}
use Rattle.sections.specs.declared.runs.Test.TheVariants.{Full, Body}
use Rattle.sections.specs.Runs.{text_lines, passing}
use Rattle.sections.specs.BlockParts.{block_at, lines_past, NextAt}
use Rattle.sections.specs.Onward.{Onward, sections_from, section_at}
use Rattle.sections.proofs.MeetLaws.{block_opened, onward_next}
use Rattle.sections.proofs.NextLaws.{blocks_over}
use Rattle.flat.specs.Sheets.{Sheet, puts}
use Rattle.flat.specs.Taken.{line_bytes, Reaches}
use Rattle.flat.specs.Measures.{pattern_lines, Heard}
use Rattle.flat.specs.Blocks.{parting, block_bytes, flat_from, put_blocks, Leads}
use Rattle.flat.proofs.SheetLaws.{puts_append}
use Rattle.flat.proofs.LineLaws.{keys_taken, ending_taken, header_text, body_left_lem, block_left, lines_past_lem}
use Rattle.flat.proofs.HeardLaws.{pattern_heard}

-- Header, keys, measures and lyrics, one behind the other.
rows_put : (h : List ℕ) (keys row lyrics : List (List ℕ)) (at : ℕ) (x : Sheet) → puts (block_bytes at (h ∷ (keys ++ (row ++ lyrics)))) x
    ≡ puts (flat_map end_line lyrics) (puts (flat_map end_line row) (puts (flat_map end_line keys) (puts (end_line h) (puts (parting at) x))))
unfolding block_bytes flat_map
rows_put h keys row lyrics at x =
    let further : flat_map end_line (keys ++ (row ++ lyrics)) ≡ flat_map end_line keys ++ (flat_map end_line row ++ flat_map end_line lyrics) =
    gather_append end_line keys (row ++ lyrics) ∙ ap (λ (z : List ℕ). flat_map end_line keys ++ z) (gather_append end_line row lyrics) in
    puts_append (parting at) (end_line h ++ flat_map end_line (keys ++ (row ++ lyrics))) x
    ∙ puts_append (end_line h) (flat_map end_line (keys ++ (row ++ lyrics))) (puts (parting at) x)
    ∙ ap (λ (z : List ℕ). puts z (puts (end_line h) (puts (parting at) x))) further
    ∙ puts_append (flat_map end_line keys) (flat_map end_line row ++ flat_map end_line lyrics) (puts (end_line h) (puts (parting at) x))
    ∙ puts_append (flat_map end_line row) (flat_map end_line lyrics) (puts (flat_map end_line keys) (puts (end_line h) (puts (parting at) x)))

same_puts : {a b c d e f g h : List ℕ} (x : Sheet) → a ≡ e → b ≡ f → c ≡ g → d ≡ h → puts d (puts c (puts b (puts a x))) ≡ puts h (puts g (puts f (puts e x)))
same_puts x p q r s = rw (p, q, r, s) refl

-- The section whose block begins at a place, where its header is found.
module _ (s : List ℕ) (p : Place) {h : Line} (f : Found s p.number p.at h) (n : ℕ) (row : List (List ℕ))
    (meter : n ≡ time_of (song_of s) (section_at s p)) (is : row ≡ row_words (played (song_of s) (section_at s p)))
    (heard : Heard s (played (song_of s) (section_at s p))) where
  pattern_put : flat_map end_line (flat_pattern (time_of (song_of s) (section_at s p)) (played (song_of s) (section_at s p))) ≡ pattern_lines s n row
  pattern_put = rw (meter, is) (sym (pattern_heard s (time_of (song_of s) (section_at s p)) (played (song_of s) (section_at s p)) heard))

  pub section_put : (at : ℕ) (x : Sheet) → puts (block_bytes at (flat_section (song_of s) (block_at s p.number p.at))) x
      ≡ puts (line_bytes (taken (passing Full) (left (passing Body) (text_lines s (p.number + 1) h.next))))
      (puts (pattern_lines s n row)
      (puts (line_bytes (taken is_key_line (text_lines s (p.number + 1) h.next))) (puts (end_line (part h.start h.stop s)) (puts (parting at) x))))
  unfolding flat_section section_rows line_bytes section_at
  section_put at x =
      let b = block_at s p.number p.at in
      rows_put (text_of b.first) (map text_of (taken is_key_line (body b)))
      (flat_pattern (time_of (song_of s) (section_in b)) (played (song_of s) (section_in b)))
      (map text_of (from_dashes b)) at x
      ∙ same_puts (puts (parting at) x) (ap end_line (header_text s p.number p.at f))
      (ap (λ ls. flat_map end_line (map text_of ls)) (keys_taken s p.number p.at f)) pattern_put
      (ap (λ ls. flat_map end_line (map text_of ls)) (ending_taken s p.number p.at f))

  -- The same, call by call, where the ending is found behind the keys.
  module _ {k : Place} (r : Reaches s h.next (left is_key_line (text_lines s (p.number + 1) h.next)) k) where
    pub section_done : (at : ℕ) (x a b c d e : Sheet) → a ≡ puts (parting at) x → b ≡ puts (end_line (part h.start h.stop s)) a
        → c ≡ puts (line_bytes (taken is_key_line (text_lines s (p.number + 1) h.next))) b → d ≡ puts (pattern_lines s n row) c
        → e ≡ puts (line_bytes (taken (passing Full) (left (passing Body) (text_lines s k.number k.at)))) d
        → e ≡ puts (block_bytes at (flat_section (song_of s) (block_at s p.number p.at))) x
    section_done at x a b c d e i j m l o =
        o
        ∙ ap (λ ls. puts (line_bytes (taken (passing Full) ls)) d) (body_left_lem s (p.number + 1) h.next r)
        ∙ ap (puts (line_bytes (taken (passing Full) (left (passing Body) (text_lines s (p.number + 1) h.next)))))
        (l ∙ ap (puts (pattern_lines s n row))
        (m ∙ ap (puts (line_bytes (taken is_key_line (text_lines s (p.number + 1) h.next)))) (j ∙ ap (puts (end_line (part h.start h.stop s))) i)))
        ∙ sym (section_put at x)

-- Behind the ending stands the next block.
module _ (s : List ℕ) (p : Place) {h : Line} (f : Found s p.number p.at h) (o : Onward s p) (inside : p.at < length s) {k e q : Place}
    (r : Reaches s h.next (left is_key_line (text_lines s (p.number + 1) h.next)) k)
    (t : Reaches s k.at (left (passing Full) (left (passing Body) (text_lines s k.number k.at))) e)
    (v : NextAt s e.number e.at q) where
  past : text_lines s e.number e.at ≡ lines_past s p.number p.at
  unfolding lines_past
  past = t.lines ∙ block_left s (p.number + 1) h.next r ∙ ap (left (passing Full)) (lines_past_lem s p.number p.at f)

  pub section_leads : Leads s p q
  section_leads =
      let a = f.onward in
      let b = r.onward in
      let c = t.onward in
      let d = v.onward in
      record {
        opened = block_opened s p q _ _ o inside past v;
        onward = onward_next s p q _ _ o inside past v;
        further = omega arith;
      }

pub section_first : {s : List ℕ} {p : Place} → Onward s p → p.at < length s
    → sections_from s p ≡ section_at s p ∷ map section_in (blocks (lines_past s p.number p.at))
unfolding sections_from section_at
section_first o h = ap (map section_in) (o.opens h)

pub leads_first : {s : List ℕ} {p q : Place} → Leads s p q → sections_from s p ≡ section_at s p ∷ sections_from s q
unfolding sections_from section_at
leads_first l = ap (map section_in) l.opened

-- The blocks of the sections from a place on.
pub blocks_next : (s : List ℕ) (p q : Place) (x : Sheet)
    → blocks (text_lines s p.number p.at) ≡ block_at s p.number p.at ∷ blocks (text_lines s q.number q.at)
    → put_blocks (flat_from s p) x ≡ put_blocks (flat_from s q) (puts (block_bytes x.at (flat_section (song_of s) (block_at s p.number p.at))) x)
unfolding put_blocks
blocks_next s p q x e = ap (λ (bs : List Block). put_blocks (map (flat_section (song_of s)) bs) x) e

pub none_left : (s : List ℕ) (p : Place) (x : Sheet) → length s ≤ p.at → put_blocks (flat_from s p) x ≡ x
unfolding put_blocks
none_left s p x h = ap (λ (bs : List Block). put_blocks (map (flat_section (song_of s)) bs) x) (blocks_over s p.number p.at h)
