-- Lines of the text, taken over into the copy one by one: those of a run, the key lines of a section, and the lines from its `--` on.
use Prim.Native.Nat.{ℕ, zero, suc, ◌+◌, ◌-◌, ◌<◌, ◌≤◌}
use Prim.Native.Char.{code}
use mathlib.Core.Path.{◌≡◌, refl, sym, ap, ◌∙◌}
use mathlib.Core.List.{List, [], ◌∷◌, flat_map}
use mathlib.Core.Bool.{Bool, true, false, not}
use native.Mathlib.Omega.{arith}
use lib.ListN.{length, take}
use borrow.Author.Tests.{eqb-true}
use Rattle.songcode.specs.Lists.{provided◌then◌else◌, is_empty, taken, left}
use Rattle.songcode.specs.Bytes.{Byte, placed, values, ascii, same, is, is_byte}
use Rattle.songcode.specs.Answer.Lines as songcode
use Rattle.songcode.specs.Answer.Sections.{is_key_line, Kind, key_line, modifier_line, pattern_line, kind_of, kind_of_line, not_dashes, body, from_dashes}
use Rattle.songcode.specs.Description.WrittenSong.{BeginsWith}
use Rattle.songcode.specs.Answer.Flat.{text_of, end_line}
use Rattle.songcode.proofs.ListLaws.{by_cases, true_is_not_false, both_pass, pass_both}
use Rattle.songcode.proofs.ByteLaws.{values_placed}
use Rattle.songcode.proofs.LineAgree.{key_at}
use Rattle.songcode.proofs.ChoiceLaws.{zero_is_not_one}
use Rattle.settings.specs.declared.kinds.Kind as settings
use Rattle.settings.specs.declared.kinds.Kind.TheVariants.{Key, Modifier, Pattern}
use Rattle.settings.specs.Kinds.{kind_is}
use Rattle.settings.proofs.ValueLaws.{kind_of_placeless}
use Rattle.text.specs.declared.lines.Line.{Line}
use Rattle.text.specs.Spans.{part, line_at, line_text, Found}
use Rattle.sections.specs.declared.runs.Test.TheVariants.{Full, Body}
use Rattle.sections.specs.declared.blocks.Place.{Place}
use Rattle.sections.specs.Runs.{text_lines, passing, passes, in_body}
use Rattle.sections.specs.BlockParts.{block_at}
use Rattle.sections.proofs.RunLaws.{lines_found, lines_over}
use Rattle.sections.proofs.PartLaws.{ending_is}
use Rattle.flat.specs.Sheets.{Sheet, puts}
use Rattle.flat.specs.Taken.{line_bytes, is_key, Reaches}
use Rattle.flat.proofs.SheetLaws.{puts_append}

-- A line and those behind it.
pub line_first : (s : List ℕ) (l : Line) (ls : List songcode.Line) (x : Sheet)
    → puts (line_bytes (line_text s l ∷ ls)) x ≡ puts (line_bytes ls) (puts (end_line (part l.start l.stop s)) x)
unfolding line_bytes flat_map text_of
line_first s l ls x =
    puts_append (end_line (values (placed l.start (part l.start l.stop s)))) (line_bytes ls) x
    ∙ ap (λ (t : List ℕ). puts (line_bytes ls) (puts (end_line t) x)) (values_placed l.start (part l.start l.stop s))

-- So many lines from a place on.
module _ (s : List ℕ) (n at left : ℕ) (x : Sheet) where
  pub lines_none : left ≡ 0 → puts (line_bytes (take left (text_lines s n at))) x ≡ x
  unfolding line_bytes flat_map puts
  lines_none e = rw e

  pub none_over : length s ≤ at → puts (line_bytes (take left (text_lines s n at))) x ≡ x
  unfolding line_bytes flat_map puts
  none_over h = rw (lines_over s n at h) (nil left)
    where
      nil : (k : ℕ) → puts (line_bytes (take k [])) x ≡ x
      nil zero = refl
      nil (suc k) = refl

  lines_more : {l : Line} → Found s n at l → at < length s → (left ≡ 0 → ⊥)
      → puts (line_bytes (take left (text_lines s n at))) x
      ≡ puts (line_bytes (take (left - 1) (text_lines s (n + 1) l.next))) (puts (end_line (part l.start l.stop s)) x)
  lines_more {l} f h some_left =
      let e : left ≡ suc (left - 1) = omega arith in
      ap (λ (k : ℕ). puts (line_bytes (take k (text_lines s n at))) x) e
      ∙ rw (lines_found f h) (line_first s l (take (left - 1) (text_lines s (n + 1) l.next)) x)

  pub lines_step : (y goal : Sheet) {l : Line} → Found s n at l → at < length s → (left ≡ 0 → ⊥) → y ≡ puts (end_line (part l.start l.stop s)) x
      → puts (line_bytes (take left (text_lines s n at))) x ≡ goal → puts (line_bytes (take (left - 1) (text_lines s (n + 1) l.next))) y ≡ goal
  lines_step y goal {l} f h some_left e g = ap (puts (line_bytes (take (left - 1) (text_lines s (n + 1) l.next)))) e ∙ sym (lines_more f h some_left) ∙ g

-- A key line is neither blank nor `--`.
key_kind : (l : songcode.Line) → is_key_line l ≡ true → kind_of l.text ≡ key_line
unfolding is_key_line kind_of_line
key_kind l e = go (kind_of l.text) e
  where
    go : (k : Kind) → elim k [ key_line ↦ true | modifier_line ↦ false | pattern_line ↦ false ] ≡ true → k ≡ key_line
    go key_line e = refl
    go modifier_line e = true_is_not_false e refl
    go pattern_line e = true_is_not_false e refl

key_text : (bs : List Byte) → kind_of bs ≡ key_line → (not (is_empty bs) ≡ true) × (not (is "--" bs) ≡ true)
unfolding BeginsWith is_byte is_empty is same ascii values
key_text bs e = go bs (key_at bs e)
  where
    go : (bs : List Byte) → BeginsWith (code "@") bs → (not (is_empty bs) ≡ true) × (not (is "--" bs) ≡ true)
    go [] h = absurd h
    go (b ∷ bs) h = let v : b.value ≡ 64 = eqb-true b.value 64 h in (refl, rw v)

key_body : (l : songcode.Line) → is_key_line l ≡ true → (passing Full l ≡ true) × (not_dashes l ≡ true)
unfolding passing passes not_dashes
key_body l e = key_text l.text (key_kind l e)

module _ {A : Type 0} (p q : A → Bool) (h : (x : A) → p x ≡ true → q x ≡ true) where
  taken_within : (xs : List A) → taken p (taken q xs) ≡ taken p xs
  unfolding taken provided◌then◌else◌
  taken_within [] = refl
  taken_within (x ∷ xs) =
      by_cases (p x)
      (λ e. rw (h x e) (rw e (ap (λ ys. x ∷ ys) (taken_within xs))))
      (λ e. by_cases (q x) (λ f. rw f (rw e)) (λ f. rw (f, e)))

  left_within : (xs : List A) → left q (left p xs) ≡ left q xs
  unfolding left provided◌then◌else◌
  left_within [] = refl
  left_within (x ∷ xs) = by_cases (p x) (λ e. rw (h x e) (rw e (left_within xs))) (λ e. rw e)

-- A key line stands before the `--`, and so does no blank line.
key_passes : (l : songcode.Line) → is_key_line l ≡ true → passing Body l ≡ true
unfolding passing passes in_body
key_passes l e = let k = key_text l.text (key_kind l e) in pass_both k.0 k.1

body_full : (l : songcode.Line) → passing Body l ≡ true → passing Full l ≡ true
unfolding passing passes in_body
body_full l e = (both_pass (not (is_empty l.text)) (not (is "--" l.text)) e).0

-- What is left behind the keys has the same ending.
module _ (s : List ℕ) (n at : ℕ) {p : Place} {from : ℕ} (r : Reaches s from (left is_key_line (text_lines s n at)) p) where
  pub body_left_lem : left (passing Body) (text_lines s p.number p.at) ≡ left (passing Body) (text_lines s n at)
  body_left_lem = ap (left (passing Body)) r.lines ∙ left_within is_key_line (passing Body) key_passes (text_lines s n at)

  pub block_left : left (passing Full) (left (passing Body) (text_lines s p.number p.at)) ≡ left (passing Full) (text_lines s n at)
  block_left = ap (left (passing Full)) body_left_lem ∙ left_within (passing Body) (passing Full) body_full (text_lines s n at)

-- The key lines of a section's block, and its lines from the `--` on, where its header is found.
module _ (s : List ℕ) (n at : ℕ) {h : Line} (f : Found s n at h) where
  pub keys_taken : taken is_key_line (body (block_at s n at)) ≡ taken is_key_line (text_lines s (n + 1) h.next)
  unfolding body block_at
  keys_taken =
      let ls = text_lines s (n + 1) (line_at s n at).next in
      taken_within is_key_line not_dashes (λ l e. (key_body l e).1) (taken (passing Full) ls)
      ∙ taken_within is_key_line (passing Full) (λ l e. (key_body l e).0) ls
      ∙ ap (λ (l : Line). taken is_key_line (text_lines s (n + 1) l.next)) (sym f.is)

  pub ending_taken : from_dashes (block_at s n at) ≡ taken (passing Full) (left (passing Body) (text_lines s (n + 1) h.next))
  unfolding from_dashes block_at
  ending_taken =
      ending_is (text_lines s (n + 1) (line_at s n at).next)
      ∙ ap (λ (l : Line). taken (passing Full) (left (passing Body) (text_lines s (n + 1) l.next))) (sym f.is)

  pub lines_past_lem : text_lines s (n + 1) h.next ≡ text_lines s (n + 1) (line_at s n at).next
  lines_past_lem = ap (λ (l : Line). text_lines s (n + 1) l.next) f.is

  pub next_places : n ≤ at + 1 → at < length s → (1 ≤ n + 1) × (n + 1 ≤ h.next + 1) × (h.next ≤ length s)
  next_places few inside =
      let a = f.onward in
      let b = f.over in
      (omega arith, omega arith, omega arith)

  pub header_text : text_of (block_at s n at).first ≡ part h.start h.stop s
  unfolding text_of block_at
  header_text = rw (← f.is) (values_placed h.start (part h.start h.stop s))

-- A line by the kind that the code finds.
is_key_lem : (l : songcode.Line) → Key ≡ kind_is (kind_of_line l) → is_key_line l ≡ true
unfolding is_key_line kind_is
is_key_lem l e = go (kind_of_line l) e
  where
    go : (k : Kind) → Key ≡ kind_is k → elim k [ key_line ↦ true | modifier_line ↦ false | pattern_line ↦ false ] ≡ true
    go key_line h = refl
    go modifier_line h = zero_is_not_one cc
    go pattern_line h = zero_is_not_one cc

not_key : (l : songcode.Line) (c : settings.Kind) → (c ≡ Key → ⊥) → c ≡ kind_is (kind_of_line l) → is_key_line l ≡ false
unfolding is_key_line kind_is
not_key l c n e = go (kind_of_line l) e
  where
    go : (k : Kind) → c ≡ kind_is k → elim k [ key_line ↦ true | modifier_line ↦ false | pattern_line ↦ false ] ≡ false
    go key_line h = absurd (n h)
    go modifier_line h = refl
    go pattern_line h = refl

pub no_key : (k : settings.Kind) → is_key k ≡ false → k ≡ Key → ⊥
no_key k f z = true_is_not_false (ap is_key z) f

pub some_key : (k : settings.Kind) → is_key k ≡ true → Key ≡ k
some_key Key e = refl
some_key Modifier e = true_is_not_false e refl
some_key Pattern e = true_is_not_false e refl

kind_here : (s : List ℕ) (l : Line) {k : settings.Kind} → k ≡ kind_is (kind_of (placed 0 (part l.start l.stop s)))
    → k ≡ kind_is (kind_of_line (line_text s l))
unfolding kind_of_line
kind_here s l e = e ∙ ap kind_is (sym (kind_of_placeless l.start (part l.start l.stop s)))

-- The lines that are left behind the key lines from a line on.
module _ (s : List ℕ) (n at : ℕ) where
  pub left_over : length s ≤ at → text_lines s n at ≡ left is_key_line (text_lines s n at)
  unfolding left
  left_over h = rw (lines_over s n at h)

  module _ {l : Line} (f : Found s n at l) (h : at < length s) where
    pub left_step : Key ≡ kind_is (kind_of (placed 0 (part l.start l.stop s)))
        → left is_key_line (text_lines s (n + 1) l.next) ≡ left is_key_line (text_lines s n at)
    unfolding left provided◌then◌else◌
    left_step e =
        let k : is_key_line (line_text s l) ≡ true = is_key_lem (line_text s l) (kind_here s l e) in
        rw (lines_found f h) (rw k)

    pub left_end : (k : settings.Kind) → (k ≡ Key → ⊥) → k ≡ kind_is (kind_of (placed 0 (part l.start l.stop s)))
        → text_lines s n at ≡ left is_key_line (text_lines s n at)
    unfolding left provided◌then◌else◌
    left_end k m e =
        let z : is_key_line (line_text s l) ≡ false = not_key (line_text s l) k m (kind_here s l e) in
        rw (lines_found f h) (rw z)

-- The key lines from a line on.
module _ (s : List ℕ) (n at : ℕ) (x : Sheet) where
  pub keys_over : length s ≤ at → puts (line_bytes (taken is_key_line (text_lines s n at))) x ≡ x
  unfolding line_bytes flat_map puts taken
  keys_over h = rw (lines_over s n at h)

  module _ {l : Line} (f : Found s n at l) (h : at < length s) where
    keys_more : Key ≡ kind_is (kind_of (placed 0 (part l.start l.stop s)))
        → puts (line_bytes (taken is_key_line (text_lines s n at))) x
        ≡ puts (line_bytes (taken is_key_line (text_lines s (n + 1) l.next))) (puts (end_line (part l.start l.stop s)) x)
    unfolding taken provided◌then◌else◌
    keys_more e =
        let k : is_key_line (line_text s l) ≡ true = is_key_lem (line_text s l) (kind_here s l e) in
        rw (lines_found f h) (rw k (line_first s l (taken is_key_line (text_lines s (n + 1) l.next)) x))

    pub keys_step : (y goal : Sheet) → Key ≡ kind_is (kind_of (placed 0 (part l.start l.stop s))) → y ≡ puts (end_line (part l.start l.stop s)) x
        → puts (line_bytes (taken is_key_line (text_lines s n at))) x ≡ goal → puts (line_bytes (taken is_key_line (text_lines s (n + 1) l.next))) y ≡ goal
    keys_step y goal k e g = ap (puts (line_bytes (taken is_key_line (text_lines s (n + 1) l.next)))) e ∙ sym (keys_more k) ∙ g

    pub keys_end : (k : settings.Kind) → (k ≡ Key → ⊥) → k ≡ kind_is (kind_of (placed 0 (part l.start l.stop s)))
        → puts (line_bytes (taken is_key_line (text_lines s n at))) x ≡ x
    unfolding taken provided◌then◌else◌ line_bytes flat_map puts
    keys_end k m e =
        let z : is_key_line (line_text s l) ≡ false = not_key (line_text s l) k m (kind_here s l e) in
        rw (lines_found f h) (rw z)
