-- Names and phrases are whole characters: they end, or begin, beside a byte that is a character of its own.
use Prim.Native.Nat.{ℕ, ◌≤◌}
use Prim.Native.Char.{code}
use mathlib.Core.Path.{sym, subst}
use mathlib.Core.List.{List, [], ◌∷◌, ◌++◌, append-nil, Memᴰ}
use native.Mathlib.Omega.{arith}
use lib.ListN.{length}
use borrow.Author.Tests.{eqb-true}
use Rattle.songcode.specs.Bytes.{Byte, placed, values, is_blank, is_byte}
use Rattle.songcode.specs.Answer.Characters.{characters}
use Rattle.songcode.specs.Answer.Lines.{Line}
use Rattle.songcode.specs.Description.WrittenText.{All, Characters, WrittenLines}
use Rattle.songcode.specs.Description.WrittenSection.{Signed, Phrase, CommentMarked}
use Rattle.songcode.specs.WholeCharacters.{Long, WholeCharacters}
use Rattle.songcode.proofs.ListLaws.{each_at}
use Rattle.songcode.proofs.ByteLaws.{values_placed}
use Rattle.songcode.proofs.CharacterCounts.{characters_count}
use Rattle.songcode.proofs.FineLines.{FineLine, lines_fine, cut_at, blanks_off, blank_ascii}

line_whole : (bs : List ℕ) (ls : List Line) (l : Line) → Characters bs → WrittenLines (placed 0 bs) ls → Memᴰ l ls → Characters (values l.text)
unfolding FineLine
line_whole bs ls l c w m =
    (each_at (FineLine (placed 0 bs)) (lines_fine (placed 0 bs) (subst (λ x. Characters x) (sym (values_placed 0 bs)) c) w) m).whole

-- Whole characters are counted as they are.
counted : (bs : List Byte) (least most : ℕ) → Characters (values bs) → least ≤ characters bs → characters bs ≤ most → Long least most bs
unfolding Long
counted bs least most c low high = let e = characters_count bs c in (c, omega arith, omega arith)

-- A name ends before a `!` or with its line.
title_whole : (title comment : List Byte) → CommentMarked comment → Characters (values (title ++ comment)) → Characters (values title)
unfolding CommentMarked is_byte
title_whole title [] m c = rw append-nil at c
title_whole title (b ∷ comment) m c = let v = eqb-true b.value (code "!") m in (cut_at title comment b (omega arith) c).0

-- A setting begins behind a blank.
setting_whole : {sign : ℕ} {spelling : List ℕ} {bs setting : List Byte} → Signed sign spelling bs setting → Characters (values bs) → Characters (values setting)
unfolding All
setting_whole {setting} s c = go s.gap s.parted s.blanks (subst (λ x. Characters (values x)) s.written c)
  where
    go : (gap : List Byte) → 1 ≤ length gap → All is_blank gap → Characters (values ((s.first ∷ s.word) ++ (gap ++ setting))) → Characters (values setting)
    go [] h a c = absurd (omega arith)
    go (g ∷ gap) h a c = blanks_off gap setting a.1 (cut_at (s.first ∷ s.word) (gap ++ setting) g (blank_ascii g a.0) c).1

pub whole_characters : WholeCharacters
unfolding Phrase
whole_characters =
    record {
      line = line_whole;
      name = λ bs ls l c w m h.
          let whole = subst (λ x. Characters (values x)) h.written (line_whole bs ls l c w m) in
          counted h.title 1 50 (title_whole h.title h.comment h.marked whole) h.long h.short;
      phrase = λ bs ls l k c w m h p. counted k.setting 1 100 (setting_whole h.written (line_whole bs ls l c w m)) p.0 p.1;
    }
