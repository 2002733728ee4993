-- Request 1: the blocks of a copy are a song again.
use Prim.Native.Nat.{ℕ, suc, ◌+◌, ◌≤◌}
use Prim.Native.Char.{code}
use mathlib.Core.Path.{◌≡◌, refl, ap, ◌∙◌}
use mathlib.Core.List.{List, [], ◌∷◌, ◌++◌, map, append-nil}
use mathlib.Core.Bool.{Bool, true, false}
use mathlib.Core.Option.{none}
use native.Mathlib.Omega.{arith}
use lib.ListN.{length}
use borrow.Author.Tests.{eq-eqb}
use Rattle.songcode.specs.Lists.{is_empty, when, any}
use Rattle.songcode.specs.Bytes.{Byte, placed, values, ascii, is_byte}
use Rattle.songcode.specs.Answer.Numbers.{is_digit, digits, is_decimal, value_from}
use Rattle.songcode.specs.Answer.Lines.{Line, Block}
use Rattle.songcode.specs.Song.{Key, Definition, Section, Song}
use Rattle.songcode.specs.Description.WrittenPattern.{Number}
use Rattle.songcode.specs.Description.WrittenSection.{Each, none_each, and_each, Distinct, Absent, KeyLine, WrittenSection}
use Rattle.songcode.specs.Description.WrittenSong.{BeginsWith, BeginsWithout, lines_of, Metadata, DefinitionHead, DefinitionLines, WrittenDefinition, id_of}
use Rattle.songcode.specs.Description.WrittenSong.{SectionBlock, WrittenSong}
use Rattle.songcode.specs.Description.Performance.{Parts, joined}
use Rattle.songcode.specs.Answer.Flat.{text_of, flat_pattern, section_rows, key_block, empty_block}
use Rattle.songcode.specs.FlatDemands.{Within}
use Rattle.songcode.specs.Description.WrittenFlat.{rows_of, rows_of_all, silent_part, blocks_copied}
use Rattle.songcode.proofs.ByteLaws.{values_placed}
use Rattle.songcode.proofs.CopyLines.{behind, behind_all, row_lines, blocks_at}
use Rattle.songcode.proofs.CopyPattern.{SpeltRow, row_heads}
use Rattle.songcode.proofs.CopyHeads.{pattern_heads, empty_heads}
use Rattle.songcode.proofs.Alike.{alike, byte_alike, AlikeKey, keys_alike, numbers_alike}
use Rattle.songcode.proofs.CopySection.{rows_text, FlatSection, section_again}

-- Blocks behind blocks begin at some line and place.
record BlocksSplit (n at : ℕ) (a b : List (List (List ℕ))) : Type 0 where
  line : ℕ
  place : ℕ
  joins : blocks_at n at (a ++ b) ≡ blocks_at n at a ++ blocks_at line place b

blocks_split : (n at : ℕ) (a b : List (List (List ℕ))) → BlocksSplit n at a b
unfolding blocks_at
blocks_split n at [] b = record { line = n; place = at; joins = refl }
blocks_split n at ([] ∷ a) b = let s = blocks_split n at a b in record { line = s.line; place = s.place; joins = s.joins }
blocks_split n at ((r ∷ rs) ∷ a) b =
    let s = blocks_split (suc (n + length (r ∷ rs))) (suc (behind_all at (r ∷ rs))) a b in
    record {
      line = s.line;
      place = s.place;
      joins = ap (λ x. record { first = record { number = n; text = placed at r }; others = row_lines (suc n) (behind at r) rs } ∷ x) s.joins;
    }

-- A section that can be copied: what it plays fits N, and its chords are spelled.
unfoldable pub Ready : List Parts → Type 0
unfolding Within SpeltRow
Ready [] = Unit {0}
Ready (p ∷ ps) = (Within p.meter (joined p) × SpeltRow (joined p)) × Ready ps

pub data FlatSections : List Section → List Parts → List Section → Type 0 where
  no_flat : FlatSections [] [] []
  a_flat : {x y : Section} {p : Parts} {xs ys : List Section} {ps : List Parts} (at : ℕ) → FlatSection x p.meter at (joined p) y
      → FlatSections xs ps ys → FlatSections (x ∷ xs) (p ∷ ps) (y ∷ ys)

-- What the copy of a section plays.
unfoldable pub parts_at : Parts → ℕ → Parts
unfolding joined row_heads
parts_at p at =
    record { meter = p.meter; tempo = p.tempo; lead_in = []; pass = row_heads p.meter at (joined p); middle = row_heads p.meter at (joined p); tail = [] }

unfoldable pub flat_parts : {xs : List Section} {ps : List Parts} {ys : List Section} → FlatSections xs ps ys → List Parts
unfolding parts_at
flat_parts no_flat = []
flat_parts (a_flat {p} at f fs) = parts_at p at ∷ flat_parts fs

without_alike : (c : ℕ) (a b : List Byte) → values a ≡ values b → BeginsWithout c b → BeginsWithout c a
unfolding BeginsWithout
without_alike c a b e = alike (λ a b. BeginsWithout c b → BeginsWithout c a) (λ h. tt) (λ x y a b v w f h. byte_alike c x y v ∙ h) a b e

with_alike : (c : ℕ) (a b : List Byte) → values a ≡ values b → BeginsWith c b → BeginsWith c a
unfolding BeginsWith
with_alike c a b e = alike (λ a b. BeginsWith c b → BeginsWith c a) (λ h. h) (λ x y a b v w f h. byte_alike c x y v ∙ h) a b e

-- The rows of a section's copy, copied again, are the same.
pub joined_at : (p : Parts) (at : ℕ) → joined (parts_at p at) ≡ row_heads p.meter at (joined p)
unfolding joined parts_at
joined_at p at = append-nil (row_heads p.meter at (joined p))

rows_again : (d b : Block) (y x : Section) (v : WrittenSection d y) (w : WrittenSection b x) (p : Parts) (at : ℕ) → Within p.meter (joined p)
    → text_of d.first ≡ text_of b.first → map text_of v.key_lines ≡ map text_of w.key_lines
    → map text_of v.last_lines ≡ map text_of w.last_lines → rows_of v (parts_at p at) ≡ rows_of w p
unfolding rows_of section_rows parts_at
rows_again d b y x v w p at i h k l =
    let e = ap (λ r. flat_pattern p.meter r) (joined_at p at) ∙ pattern_heads p.meter at (joined p) i in
    rw (h, k, l) (ap (λ r. text_of b.first ∷ (map text_of w.key_lines ++ (r ++ map text_of w.last_lines))) e)

cons_same : {A : Type 0} {x y : A} {xs ys : List A} → x ≡ y → xs ≡ ys → x ∷ xs ≡ y ∷ ys
cons_same e f = cc

pub sections_again : {bs : List Block} {xs : List Section} (ws : Each SectionBlock bs xs) (ps : List Parts) (n at : ℕ) → length xs ≡ length ps → Ready ps
    → (ys : List Section) × (vs : Each SectionBlock (blocks_at n at (rows_of_all ws ps)) ys) × (g : FlatSections xs ps ys)
    × (rows_of_all vs (flat_parts g) ≡ rows_of_all ws ps)
unfolding rows_of_all rows_of section_rows blocks_at Ready text_of flat_parts
sections_again none_each [] n at e r = ([], none_each, no_flat, refl)
sections_again none_each (p ∷ ps) n at e r = absurd (omega arith)
sections_again (and_each w ws) [] n at e r = absurd (omega arith)
sections_again (and_each {x = b} {y = x} w ws) (p ∷ ps) n at e r =
    let rows = rows_of w.section p in
    let s = section_again b x w.section p n at r.0.0 r.0.1 in
    let t = sections_again ws ps (suc (n + length rows)) (suc (behind_all at rows)) (omega arith) r.1 in
    let h = values_placed at (values b.first.text) in
    let key = without_alike (code "@") _ b.first.text h w.no_key in (
      s.0 ∷ t.0,
      and_each (record { no_key = key; no_head = without_alike (code "$") _ b.first.text h w.no_head; section = s.1 }) t.1,
      a_flat _ s.2 t.2,
      cons_same (rows_again _ b s.0 x s.1 w.section p _ r.0.0 h s.3 s.4) t.3,
    )

-- The empty definition, where it is needed.
unfoldable pub empty_definition : Bool → ℕ → List Definition
unfolding when
empty_definition needed n = when needed (record { head = n; id = 1; items = none })

definition_again : (needed : Bool) (n at : ℕ) → Each WrittenDefinition (blocks_at n at (empty_block needed)) (empty_definition needed n)
unfolding blocks_at empty_block empty_definition when row_lines ascii placed DefinitionLines is_decimal is_digit digits value_from
definition_again true n at =
    let k : Number 1 9999 (record { place = suc at; value = 49 } ∷ []) 1 =
    record { decimal = refl; says = refl; at_least = omega arith; at_most = omega arith } in
    let d : DefinitionHead (placed at (ascii "$1")) 1 =
    record { dollar = record { place = at; value = 36 }; digits = record { place = suc at; value = 49 } ∷ []; written = refl; signs = refl; number = k } in
    and_each (record { head = d; head_number = refl; text = tt }) none_each
definition_again false n at = none_each

-- Keys.
key_begins : {l : Line} {k : Key} → KeyLine l k → BeginsWith (code "@") l.text
unfolding BeginsWith is_byte
key_begins w = rw w.written.written (eq-eqb w.written.first.value (code "@") w.written.signs)

record KeysAgain (n at : ℕ) (ls : List Line) (ks : List Key) : Type 0 where
  keys : List Key
  metadata : Metadata (blocks_at n at (key_block (map text_of ls)))
  written : Each KeyLine (lines_of (blocks_at n at (key_block (map text_of ls)))) keys
  same : Each AlikeKey keys ks
  rows : map text_of (lines_of (blocks_at n at (key_block (map text_of ls)))) ≡ map text_of ls

keys_again : (n at : ℕ) (ls : List Line) (ks : List Key) → Each KeyLine ls ks → KeysAgain n at ls ks
unfolding blocks_at key_block lines_of Metadata text_of row_lines
keys_again n at ls ks none_each = record { keys = []; metadata = tt; written = none_each; same = none_each; rows = refl }
keys_again n at ls ks (and_each {x = l} {y = k} {xs = ms} w ws) =
    let first : Line = record { number = n; text = placed at (values l.text) } in
    let more = row_lines (suc n) (behind at (values l.text)) (map text_of ms) in
    let a = keys_alike (first ∷ more) (l ∷ ms) ks (rows_text n at (map text_of (l ∷ ms))) (and_each w ws) in
    record {
      keys = a.0;
      metadata = (with_alike (code "@") (placed at (values l.text)) l.text (values_placed at (values l.text)) (key_begins w), tt);
      written = rw append-nil a.1;
      same = a.2;
      rows = ap (map text_of) (append-nil (first ∷ more)) ∙ rows_text n at (map text_of (l ∷ ms));
    }

-- A song and its copy.
pub record FlatSong (s : Song) (ps : List Parts) (t : Song) : Type 0 where
  pub keys : Each AlikeKey t.keys s.keys
  pub head : ℕ
  pub definitions : t.definitions ≡ empty_definition (any silent_part ps) head
  pub sections : FlatSections s.sections ps t.sections

flat_length : {xs : List Section} {ps : List Parts} {ys : List Section} → FlatSections xs ps ys → length ys ≡ length xs
flat_length no_flat = refl
flat_length (a_flat at f fs) = ap suc (flat_length fs)

empty_once : (needed : Bool) (n : ℕ) → Distinct (map id_of (empty_definition needed n)) × (length (empty_definition needed n) ≤ 26)
unfolding empty_definition when Distinct Absent
empty_once true n = ((tt, tt), omega arith)
empty_once false n = (tt, omega arith)

silent_alike : (p : Parts) (at : ℕ) → Within p.meter (joined p) → silent_part (parts_at p at) ≡ silent_part p
unfolding silent_part
silent_alike p at w = ap is_empty (joined_at p at) ∙ empty_heads p.meter at (joined p) w

any_silent : {xs : List Section} {ps : List Parts} {ys : List Section} (g : FlatSections xs ps ys) → Ready ps
    → any silent_part (flat_parts g) ≡ any silent_part ps
unfolding flat_parts any Ready
any_silent no_flat r = refl
any_silent (a_flat {p} at f fs) r = rw (silent_alike p at r.0.0, any_silent fs r.1)

pub copied_alike : {k l : List (List ℕ)} {a b : Bool} {r s : List (List (List ℕ))} → k ≡ l → a ≡ b → r ≡ s
    → key_block k ++ (empty_block a ++ r) ≡ key_block l ++ (empty_block b ++ s)
copied_alike e f g = cc

pub song_again : {bs : List Block} {s : Song} (w : WrittenSong bs s) (ps : List Parts) → length s.sections ≡ length ps → Ready ps
    → (t : Song) × (v : WrittenSong (blocks_at 1 0 (blocks_copied w ps)) t) × (g : FlatSong s ps t)
    × (blocks_copied v (flat_parts g.sections) ≡ blocks_copied w ps)
unfolding blocks_copied
song_again {bs} {s} w ps e r =
    let keyRows = key_block (map text_of (lines_of w.metadata)) in
    let needed = any silent_part ps in
    let a = blocks_split 1 0 keyRows (empty_block needed ++ rows_of_all w.sections ps) in
    let b = blocks_split a.line a.place (empty_block needed) (rows_of_all w.sections ps) in
    let k = keys_again 1 0 (lines_of w.metadata) s.keys w.keys in
    let x = sections_again w.sections ps b.line b.place e r in
    let o = empty_once needed a.line in (
      record { keys = k.keys; definitions = empty_definition needed a.line; sections = x.0 },
      record {
        metadata = blocks_at 1 0 keyRows;
        definition_blocks = blocks_at a.line a.place (empty_block needed);
        section_blocks = blocks_at b.line b.place (rows_of_all w.sections ps);
        written = a.joins ∙ ap (λ y. blocks_at 1 0 keyRows ++ y) b.joins;
        of_metadata = k.metadata;
        keys = k.written;
        keys_once = rw (numbers_alike k.same) w.keys_once;
        definitions = definition_again needed a.line a.place;
        definitions_once = o.0;
        at_most = o.1;
        sections = x.1;
        at_least = rw (flat_length x.2) w.at_least;
      },
      record { keys = k.same; head = a.line; definitions = refl; sections = x.2 },
      copied_alike k.rows (any_silent x.2 r) x.3,
    )
