-- The sections that are passed stand in the row, and those ahead have room behind them, where what is kept is right.
use Prim.Native.Nat.{ℕ, ◌+◌, ◌<◌, ◌≤◌}
use mathlib.Core.Path.{◌≡◌, sym, ap, ◌∙◌, subst}
use mathlib.Core.List.{List, [], ◌∷◌, ◌++◌, append_assoc, append-nil}
use native.Mathlib.Omega.{arith}
use lib.ListN.{length, take, drop, length-append, take-append-drop}
use lib.Seq.{take_at}
use Rattle.songcode.specs.Song.{Section}
use Rattle.songcode.specs.Answer.Answer.{song_of}
use Rattle.songcode.proofs.MemoryLaws.{sets_before}
use Rattle.tokens.specs.Kept.{KeptFrom}
use Rattle.score.specs.Sections.{section_row, sections_row}
use Rattle.score.specs.Fitting.{SectionsFit}
use Rattle.score.specs.Seen.{RowFrom}
use Rattle.score.proofs.RowLaws.{fits_append, row_start, row_grows}
use Rattle.outlines.specs.Rows.{definitions_row, blocks_row}
use Rattle.sections.specs.declared.blocks.Place.{Place}
use Rattle.sections.specs.declared.values.Keys.{Keys}
use Rattle.sections.specs.Onward.{sections_from, section_at}
use Rattle.sections.proofs.MeetLaws.{sections_over}
use Rattle.laying.specs.declared.texts.Opened.{Opened}
use Rattle.laying.specs.Scores.{Ready, Begins}
use Rattle.laying.specs.Rows.{RoomFor, Before, Lays}
use Rattle.judging.specs.Charts.{Sized}
use Rattle.laying.proofs.KeptRowLaws.{kept_on}
use Rattle.laying.proofs.BulkLaws.{room_start}
use Rattle.laying.proofs.SectionLaidLaws.{ready_kept}

pub record RowIs (s ws : List ℕ) (mark at : ℕ) (p : Place) : Type 0 where
  pub ready : Ready s ws mark
  pub below : mark < at
  pub kept : KeptFrom s ws at
  pub room : RoomFor s p at
  pub done : List Section
  pub row : RowFrom (song_of s) ws (mark + 1) at done
  pub fits : SectionsFit (song_of s) done
  pub all : done ++ sections_from s p ≡ (song_of s).sections

pub row_is_start : {s ws : List ℕ} {mark : ℕ} {p : Place} → Begins s p → Ready s ws mark → mark ≤ p.at → KeptFrom s ws (mark + 1)
    → RowIs s ws mark (mark + 1) p
unfolding SectionsFit
row_is_start {s} {ws} {mark} {p} b r low k =
    let i = b.onward.inside in
    let z = r.small in
    record {
      ready = r;
      below = omega arith;
      kept = k;
      room = room_start s p mark i low;
      done = [];
      row = row_start (song_of s) ws (mark + 1) (omega arith);
      fits = tt;
      all = b.sections;
    }

-- The definitions stand before the place, and what is laid from there on has room.
pub row_before : {s ws : List ℕ} {mark at : ℕ} {p : Place} → RowIs s ws mark at p → Before s ws at
row_before {mark = mark} i = record { mark = mark; ready = i.ready; below = i.below }

pub row_is_next : {s old new : List ℕ} {mark at : ℕ} {p : Place} {song : Keys} (r : Opened) → RowIs s old mark at p → Lays s p song at old new r
    → length new ≡ length old → RowIs s new mark r.end r.next
unfolding RoomFor
row_is_next {s} {old} {new} {mark} {at} {p} r i l same =
    let x = section_at s p in
    let a = i.room in
    let b = l.room in
    let c = i.below in
    let e = l.end in
    let big = i.kept.room in
    let kept : take at new ≡ take at old = ap (take at) l.words ∙ sets_before at at (section_row (song_of s) x) old (omega arith) in
    record {
      ready = ready_kept i.ready c kept same;
      below = omega arith;
      kept = rw l.words (kept_on at (section_row (song_of s) x) e (omega arith) i.kept);
      room = b;
      done = i.done ++ (x ∷ []);
      row = row_grows (song_of s) old new (mark + 1) at r.end i.done x i.row l.words e (omega arith) (omega arith);
      fits = fits_append (song_of s) i.done x i.fits l.fits;
      all = append_assoc i.done (x ∷ []) (sections_from s r.next)
          ∙ ap (λ (xs : List Section). i.done ++ xs) (sym l.opens.met.first) ∙ i.all;
    }

-- Behind the last section all definitions and sections of the song stand there.
module _ {s ws : List ℕ} {mark at : ℕ} {p : Place} (i : RowIs s ws mark at p) (over : length s ≤ p.at) where
  all_done : i.done ≡ (song_of s).sections
  all_done = sym (append-nil i.done) ∙ ap (λ (xs : List Section). i.done ++ xs) (sym (sections_over s p over)) ∙ i.all

  all_row : RowFrom (song_of s) ws (mark + 1) at (song_of s).sections
  all_row = subst (λ (xs : List Section). RowFrom (song_of s) ws (mark + 1) at xs) all_done i.row

  abbrev front : List ℕ
  front = definitions_row (song_of s).definitions (song_of s).definitions

  abbrev rows : List ℕ
  rows = sections_row (song_of s) (song_of s).sections

  row_long : length (blocks_row (song_of s)) ≡ at
  unfolding blocks_row
  row_long =
      let a = all_row.size in
      let b = i.ready.front.size in
      let c = length-append front (0 ∷ rows) in
      omega arith

  pub row_is_blocks : take at ws ≡ blocks_row (song_of s)
  unfolding blocks_row
  row_is_blocks =
      let split : ws ≡ (front ++ (0 ∷ rows)) ++ drop at ws =
      sym (take-append-drop (mark + 1) ws)
      ∙ ap (λ (l : List ℕ). l ++ drop (mark + 1) ws) i.ready.front.words
      ∙ ap (λ (l : List ℕ). (front ++ (0 ∷ [])) ++ l) all_row.words
      ∙ append_assoc front (0 ∷ []) (rows ++ drop at ws)
      ∙ sym (append_assoc front (0 ∷ rows) (drop at ws)) in
      ap (take at) split ∙ take_at (front ++ (0 ∷ rows)) (drop at ws) at row_long

  pub row_is_sized : Sized s ws (record { from = mark + 1; to = at })
  unfolding RoomFor
  row_is_sized =
      record {
        small = i.ready.small;
        room = i.ready.room;
        from = ap (λ (n : ℕ). n + 1) i.ready.front.size;
        to = sym row_long;
        short = let a = i.room in omega arith;
        few = i.ready.front.few;
        defined = i.ready.front.fits;
        fits = subst (SectionsFit (song_of s)) all_done i.fits;
      }
