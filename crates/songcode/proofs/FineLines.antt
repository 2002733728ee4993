-- Request 1: the lines of a chart have no line end in them, no blank at either end, are whole characters and stand in its
-- file; those of its blocks are not empty.
use Prim.Native.Nat.{ℕ, ◌<◌}
use mathlib.Core.Path.{◌≡◌, refl, subst}
use mathlib.Core.List.{List, [], ◌∷◌, ◌++◌, append-nil}
use mathlib.Core.Bool.{true, false}
use native.Mathlib.Omega.{arith}
use lib.Dec.{eqb}
use borrow.Author.Tests.{eqb-true}
use Rattle.songcode.specs.Lists.{provided◌then◌else◌}
use Rattle.songcode.specs.Bytes.{Byte, values, is_blank}
use Rattle.songcode.specs.Answer.Lines.{lf, cr, inside, ending, Line, Block}
use Rattle.songcode.specs.Description.WrittenText.{All, Solid, Inside, Characters, Cuts, last_line, ends_lf, ends_cr, ends_crlf, Trims}
use Rattle.songcode.specs.Description.WrittenText.{Counts, no_line, a_line, WrittenLines, is_blank_line, NotBlank, WrittenBlocks, no_block, a_blank}
use Rattle.songcode.specs.Description.WrittenText.{a_block}
use Rattle.songcode.proofs.ListLaws.{by_cases, Each, append_each}
use Rattle.songcode.proofs.ByteLaws.{values_append}
use Rattle.songcode.proofs.Stretches.{Stands, stands_itself, stands_parts, stands_more}
use Rattle.songcode.proofs.CharacterPieces.{characters_at, characters_behind}

ending_ascii : (b : Byte) → (ending b ≡ inside → ⊥) → b.value < 128
unfolding ending provided◌then◌else◌
ending_ascii b h =
    by_cases (eqb b.value 10)
    (λ e. let v = eqb-true b.value 10 e in omega arith)
    (λ e. by_cases (eqb b.value 13)
    (λ f. let v = eqb-true b.value 13 f in omega arith)
    (λ f. absurd (h (rw (e, f)))))

lf_ascii : (b : Byte) → ending b ≡ lf → b.value < 128
lf_ascii b e = ending_ascii b (λ h. let z : ◌≡◌ {A = ℕ} 0 1 = cc in absurd (omega arith))

cr_ascii : (b : Byte) → ending b ≡ cr → b.value < 128
cr_ascii b e = ending_ascii b (λ h. let z : ◌≡◌ {A = ℕ} 0 1 = cc in absurd (omega arith))

pub blank_ascii : (b : Byte) → is_blank b ≡ true → b.value < 128
unfolding is_blank
blank_ascii b h =
    by_cases (eqb b.value 32)
    (λ e. let v = eqb-true b.value 32 e in omega arith)
    (λ e. let f : eqb b.value 9 ≡ true = rw e at h in
    let v = eqb-true b.value 9 f in omega arith)

pub cut_at : (l ts : List Byte) (b : Byte) → b.value < 128 → Characters (values (l ++ (b ∷ ts))) → Characters (values l) × Characters (values ts)
unfolding values
cut_at l ts b h c = characters_at b.value (values l) (values ts) h (subst (λ w. Characters w) (values_append l (b ∷ ts)) c)

pub inside_append : (a b : List Byte) → Inside (a ++ b) → Inside a × Inside b
unfolding Inside
inside_append [] b i = (tt, i)
inside_append (x ∷ a) b i = let h = inside_append a b i.1 in ((i.0, h.0), h.1)

pub blanks_off : (front rest : List Byte) → All is_blank front → Characters (values (front ++ rest)) → Characters (values rest)
unfolding All values
blanks_off [] rest a c = c
blanks_off (b ∷ front) rest a c =
    blanks_off front rest a.1 (characters_behind b.value (values (front ++ rest)) (values ((b ∷ front) ++ rest)) (blank_ascii b a.0) c refl)

blanks_end : (text back : List Byte) → All is_blank back → Characters (values (text ++ back)) → Characters (values text)
unfolding All
blanks_end text [] a c = rw append-nil at c
blanks_end text (b ∷ back) a c = (cut_at text back b (blank_ascii b a.0) c).0

module _ (file : List Byte) where
  pub record Fine (text : List Byte) : Type 0 where
    pub within : Inside text
    pub solid : Solid text
    pub whole : Characters (values text)
    pub stands : Stands file text

  unfoldable pub FineLine : Line → Type 0
  FineLine l = Fine l.text

  -- A raw line: inside, whole characters, in the file.
  unfoldable Raw : List Byte → Type 0
  Raw l = Inside l × Characters (values l) × Stands file l

  cuts_raw : {bs : List Byte} {ls : List (List Byte)} → Cuts bs ls → Characters (values bs) → Stands file bs → Each Raw ls
  unfolding Each Raw values
  cuts_raw (last_line i) c s = ((i, c, s), tt)
  cuts_raw (ends_lf {l} {ts} b i e k z) c s =
      let h = cut_at l ts b (lf_ascii b e) (rw z at c) in
      let q = stands_parts l (b ∷ ts) (rw z at s) in
      ((i, h.0, q.0), cuts_raw k h.1 (stands_more b ts q.1))
  cuts_raw (ends_cr {l} {ts} b i e n k z) c s =
      let h = cut_at l ts b (cr_ascii b e) (rw z at c) in
      let q = stands_parts l (b ∷ ts) (rw z at s) in
      ((i, h.0, q.0), cuts_raw k h.1 (stands_more b ts q.1))
  cuts_raw (ends_crlf {l} {ts} b d i e f k z) c s =
      let h = cut_at l (d ∷ ts) b (cr_ascii b e) (rw z at c) in
      let q = stands_parts l (b ∷ (d ∷ ts)) (rw z at s) in
      let r = characters_behind d.value (values ts) (values (d ∷ ts)) (lf_ascii d f) h.1 refl in
      ((i, h.0, q.0), cuts_raw k r (stands_more d ts (stands_more b (d ∷ ts) q.1)))

  trims_fine : {raw text : List Byte} → Trims raw text → Raw raw → Fine text
  unfolding Raw
  trims_fine {raw} {text} t r =
      let i = (inside_append t.front (text ++ t.back) (subst (λ w. Inside w) t.written r.0)).1 in
      let c = blanks_off t.front (text ++ t.back) t.blanks_before (subst (λ w. Characters (values w)) t.written r.1) in
      let q = (stands_parts t.front (text ++ t.back) (subst (λ w. Stands file w) t.written r.2)).1 in
      record {
        within = (inside_append text t.back i).0;
        solid = t.solid;
        whole = blanks_end text t.back t.blanks_behind c;
        stands = (stands_parts text t.back q).0;
      }

  counts_fine : {n : ℕ} {raws : List (List Byte)} {ls : List Line} → Counts n raws ls → Each Raw raws → Each FineLine ls
  unfolding Each FineLine
  counts_fine no_line r = tt
  counts_fine (a_line t c) r = (trims_fine t r.0, counts_fine c r.1)

  pub lines_fine : {ls : List Line} → Characters (values file) → WrittenLines file ls → Each FineLine ls
  lines_fine c w = counts_fine w.counts (cuts_raw w.cuts c (stands_itself file))

  -- A line of a block: fine and not blank.
  unfoldable pub BlockLine : Line → Type 0
  unfolding FineLine
  BlockLine l = FineLine l × (is_blank_line l ≡ false)

  unfoldable pub BlockFine : Block → Type 0
  unfolding BlockLine
  BlockFine b = BlockLine b.first × Each BlockLine b.others

  not_blank_each : (ls : List Line) → Each FineLine ls → NotBlank ls → Each BlockLine ls
  unfolding Each NotBlank BlockLine
  not_blank_each [] f n = tt
  not_blank_each (l ∷ ls) f n = ((f.0, n.0), not_blank_each ls f.1 n.1)

  pub blocks_fine : {ls : List Line} {bs : List Block} → WrittenBlocks ls bs → Each FineLine ls → Each BlockFine bs
  unfolding Each BlockFine BlockLine
  blocks_fine no_block f = tt
  blocks_fine (a_blank e w) f = blocks_fine w f.1
  blocks_fine (a_block {l} {w} {ls} e n s z k) f =
      let h = append_each FineLine w ls (subst (λ x. Each FineLine x) z f.1) in
      (((f.0, e), not_blank_each w h.0 n), blocks_fine k h.1)
