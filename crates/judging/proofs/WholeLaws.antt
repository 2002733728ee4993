-- Where the row begins with the whole song, its definitions are ready, and its sections stand one behind the other.
use Prim.Native.Nat.{ℕ, ◌+◌, ◌-◌, ◌≤◌}
use mathlib.Core.Path.{◌≡◌, refl, sym, ap, ◌∙◌}
use mathlib.Core.List.{List, [], ◌∷◌, ◌++◌, append_assoc}
use native.Mathlib.Omega.{arith}
use borrow.Rule.Slice.PartMut.{put_mid}
use lib.ListN.{length, take, drop, length-append, length-drop, take-append-drop}
use lib.Seq.{sets, take-take, take_at, drop_at}
use Rattle.songcode.specs.Answer.Answer.{song_of}
use Rattle.songcode.specs.Answer.Tables.{key_order, key_words}
use Rattle.songcode.proofs.MemoryLaws.{sets_sets, sets_there, sets_same, sets_lent}
use Rattle.score.specs.declared.stretches.Stretch.{Stretch}
use Rattle.score.specs.Sections.{sections_row}
use Rattle.score.specs.Seen.{RowFrom}
use Rattle.outlines.specs.Rows.{definitions_row, blocks_row, score_of}
use Rattle.laying.specs.Scores.{Ready}
use Rattle.judging.specs.Charts.{Sized, Laid}

module _ {s ws : List ℕ} {rows : Stretch} (l : Laid s ws rows) where
  abbrev front : List ℕ
  front = definitions_row (song_of s).definitions (song_of s).definitions

  abbrev sections : List ℕ
  sections = sections_row (song_of s) (song_of s).sections

  -- The blocks, then the keys, then what stands behind.
  split : ws ≡ blocks_row (song_of s) ++ (key_words (song_of s) ++ drop (length (score_of (song_of s))) ws)
  unfolding score_of
  split =
      sym (take-append-drop (length (score_of (song_of s))) ws)
      ∙ ap (λ (ys : List ℕ). ys ++ drop (length (score_of (song_of s))) ws) l.whole
      ∙ append_assoc (blocks_row (song_of s)) (key_words (song_of s)) (drop (length (score_of (song_of s))) ws)

  row_is : take rows.to ws ≡ (front ++ (0 ∷ [])) ++ sections
  unfolding blocks_row
  row_is =
      ap (take rows.to) split
      ∙ take_at (blocks_row (song_of s)) (key_words (song_of s) ++ drop (length (score_of (song_of s))) ws) rows.to (sym l.sized.to)
      ∙ sym (append_assoc front (0 ∷ []) sections)

  behind : drop rows.to ws ≡ key_words (song_of s) ++ drop (length (score_of (song_of s))) ws
  behind =
      ap (drop rows.to) split
      ∙ drop_at (blocks_row (song_of s)) (key_words (song_of s) ++ drop (length (score_of (song_of s))) ws) rows.to (sym l.sized.to)

  eight_keys : length (key_words (song_of s)) ≡ 8
  unfolding key_words key_order
  eight_keys = refl

  -- The words of the keys stand behind the sections.
  pub laid_keys : take 8 (drop rows.to ws) ≡ key_words (song_of s)
  laid_keys =
      ap (take 8) behind ∙ take_at (key_words (song_of s)) (drop (length (score_of (song_of s))) ws) 8 eight_keys

  pub keys_inside : rows.to + 8 ≤ length ws
  keys_inside =
      let a = ap (λ (ys : List ℕ). length ys) behind in
      let b = length-drop rows.to ws in
      let c = length-append (key_words (song_of s)) (drop (length (score_of (song_of s))) ws) in
      let d = eight_keys in
      omega arith

  front_long : length (front ++ (0 ∷ [])) ≡ length front + 1
  front_long = length-append front (0 ∷ [])

  all_long : rows.to ≡ length front + 1 + length sections
  unfolding blocks_row
  all_long =
      let a = l.sized.to in
      let b = length-append front (0 ∷ sections) in
      omega arith

  pub laid_ready : Ready s ws (length front)
  laid_ready =
      let a = all_long in
      record {
        small = l.sized.small;
        room = l.sized.room;
        front =
            record {
              words = sym (take-take (length front + 1) rows.to ws (omega arith))
                  ∙ ap (take (length front + 1)) row_is ∙ take_at (front ++ (0 ∷ [])) sections (length front + 1) front_long;
              size = omega arith;
              few = l.sized.few;
              fits = l.sized.defined;
            };
      }

  pub laid_row : RowFrom (song_of s) ws rows.from rows.to (song_of s).sections
  laid_row =
      let a = all_long in
      let b = front_long in
      let from = l.sized.from in
      let parts : ws ≡ (front ++ (0 ∷ [])) ++ (sections ++ drop rows.to ws) =
      sym (take-append-drop rows.to ws) ∙ ap (λ (ys : List ℕ). ys ++ drop rows.to ws) row_is
      ∙ append_assoc (front ++ (0 ∷ [])) sections (drop rows.to ws) in
      record {
        words = ap (drop rows.from) parts ∙ drop_at (front ++ (0 ∷ [])) (sections ++ drop rows.to ws) rows.from (omega arith);
        size = omega arith;
        few =
            let c = l.sized.short in
            let d = l.sized.small in
            omega arith;
      }

-- The keys are laid behind the blocks.
pub keys_added : {s ws vs ys : List ℕ} {rows : Stretch} → Sized s ws rows → take rows.to ws ≡ blocks_row (song_of s)
    → ys ≡ sets (take (length ws - rows.to) (drop rows.to ws)) 0 (key_words (song_of s)) → vs ≡ put_mid rows.to (length ws - rows.to) ws ys
    → vs ≡ sets ws 0 (score_of (song_of s))
unfolding score_of
keys_added {s} {ws} {vs} {ys} {rows} z blocks y v =
    let row = blocks_row (song_of s) in
    let keys = key_words (song_of s) in
    let to = z.to in
    let there : take (length row) ws ≡ row = rw (← to) blocks in
    v ∙ rw y (sets_lent rows.to keys ws) ∙ ap (λ (l : List ℕ). sets l rows.to keys) (sym (sets_same row ws there))
    ∙ sets_sets 0 rows.to row keys ws (omega arith)

pub whole_there : {s ws old : List ℕ} {rows : Stretch} → Sized s old rows → length s + 16 ≤ length old → ws ≡ sets old 0 (score_of (song_of s))
    → take (length (score_of (song_of s))) ws ≡ score_of (song_of s)
unfolding score_of key_words key_order
whole_there {s} {ws} {old} z room e =
    let row = blocks_row (song_of s) in
    let keys = key_words (song_of s) in
    let to = z.to in
    let short = z.short in
    let l = length-append row keys in
    rw e (sets_there 0 (row ++ keys) old (omega arith))

pub sized_kept : {s ws vs : List ℕ} {rows : Stretch} → length vs ≡ length ws → Sized s ws rows → Sized s vs rows
sized_kept e z =
    let r = z.room in
    record {
      small = z.small;
      room = omega arith;
      from = z.from;
      to = z.to;
      short = z.short;
      few = z.few;
      defined = z.defined;
      fits = z.fits;
    }
