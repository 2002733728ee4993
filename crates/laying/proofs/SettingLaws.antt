-- A setting of metadata that stage 2 accepts is short.
use Prim.Native.Nat.{ℕ, ◌+◌, ◌<◌, ◌≤◌}
use Prim.Native.Char.{code}
use mathlib.Core.Path.{◌≡◌, refl, sym, ap, ◌∙◌}
use mathlib.Core.List.{List, [], ◌∷◌, ◌++◌, flat_map}
use mathlib.Core.Logic.{inl, inr}
use mathlib.Core.Bool.{Bool, true, false, not, ◌&&◌}
use mathlib.Core.Option.{Option, none, some}
use native.Mathlib.Omega.{arith}
use lib.Dec.{eqb, leb}
use lib.ListN.{length, length-append}
use borrow.Author.Tests.{leb-true, eqb-true, eqb-false, not-false}
use Rattle.songcode.specs.Lists.{provided◌then◌else◌, any, every, taken, left, is_some}
use Rattle.songcode.specs.Bytes.{Byte, values, ascii, same, is, is_byte}
use Rattle.songcode.specs.Answer.Characters.{characters}
use Rattle.songcode.specs.Answer.Numbers.{is_decimal, value_from, number_in}
use Rattle.songcode.specs.Answer.Chords.{rows, spellings, bases, is_base}
use Rattle.songcode.specs.Answer.Lines.{Line, Block}
use Rattle.songcode.specs.Complaints.{Complaint, complaint, complain_if}
use Rattle.songcode.specs.Song.{KeyName, name, artist, original, capo, bpm, time, warning, end}
use Rattle.songcode.specs.Answer.Keys.{is_phrase, bpm_in, time_in, is_setting, of_metadata}
use Rattle.songcode.specs.Answer.Sections.{kind_of_line, key_name_of, setting_of, key_faults_by, key_faults, twice, key_said}
use Rattle.songcode.specs.Answer.SongText.{block_order, metadata_lines, metadata_fault, metadata_faults, definitions_faults, definition_blocks}
use Rattle.songcode.specs.Answer.SongText.{section_blocks, or_no_section, text_faults}
use Rattle.songcode.specs.Answer.Sections.{section_faults}
use Rattle.songcode.proofs.ByteLaws.{length_values}
use Rattle.songcode.proofs.NumbersAgree.{decimal_short}
use Rattle.songcode.proofs.ListLaws.{by_cases, true_is_not_false, nil_is_not_cons, both_pass, append_is_nil, complain_if_nil, taken_left}
use Rattle.settings.proofs.PartLaws.{same_lengths}
use Rattle.sections.specs.Slots.{slot_of, setting_among}
use Rattle.songcode.proofs.LineAgree.{by_kind}
use Rattle.laying.specs.Keys.{ShortText, ShortSetting}
use Rattle.laying.proofs.GoodLaws.{characters_le}

same_length : (v w : List ℕ) → same v w ≡ true → length w ≡ length v
same_length v w e =
    by_cases (eqb (length w) (length v))
    (λ t. eqb-true (length w) (length v) t)
    (λ t. true_is_not_false e (same_lengths v w (eqb-false (length w) (length v) t)))

some_if : {A : Type 0} (t : Bool) (x : A) → is_some (provided t then some x else none) ≡ true → t ≡ true
unfolding is_some provided◌then◌else◌
some_if true x e = refl
some_if false x e = true_is_not_false e refl

number_short : (low high : ℕ) (bs : List Byte) → is_some (number_in low high bs) ≡ true → (0 < length bs) × (length bs ≤ 1 + high)
unfolding number_in
number_short low high bs e =
    let v = value_from 0 bs in
    let a = both_pass (is_decimal bs && leb low v) (leb v high) (some_if (is_decimal bs && leb low v && leb v high) v e) in
    let d = decimal_short bs (both_pass (is_decimal bs) (leb low v) a.0).0 in
    let h = leb-true v high a.1 in
    let l = d.1 in
    (d.0, omega arith)

time_short : (bs : List Byte) → is_some (time_in bs) ≡ true → (0 < length bs) × (length bs ≤ 35)
unfolding time_in is ascii is_some provided◌then◌else◌
time_short bs e =
    let q : Byte → Bool = λ b. not (is_byte (code "/") b) in
    by_cases (is "/4" (left q bs))
    (λ t.
    let n = number_short 1 32 (taken q bs) (rw t at e) in
    let l = same_length (ascii "/4") (values (left q bs)) t ∙ refl in
    let m = length_values (left q bs) in
    let w = ap (λ (x : List Byte). length x) (taken_left q bs) in
    let a = length-append (taken q bs) (left q bs) in
    let f = n.1 in
    let g = n.0 in
    (omega arith, omega arith))
    (λ t. let z : false ≡ true = rw t at e in true_is_not_false z refl)

bases_short : every (λ s. leb 1 (length s) && leb (length s) 3) bases ≡ true
unfolding every bases flat_map spellings rows ascii
bases_short = refl

among_short : (ss : List (List ℕ)) (w : List ℕ) → every (λ s. leb 1 (length s) && leb (length s) 3) ss ≡ true
    → any (λ s. same s w) ss ≡ true → (1 ≤ length w) × (length w ≤ 3)
unfolding every any
among_short [] w e f = true_is_not_false f refl
among_short (s ∷ ss) w e f =
    let h = both_pass (leb 1 (length s) && leb (length s) 3) (every (λ s. leb 1 (length s) && leb (length s) 3) ss) e in
    let g = both_pass (leb 1 (length s)) (leb (length s) 3) h.0 in
    by_cases (same s w)
    (λ t. let l = same_length s w t in
    let a = leb-true 1 (length s) g.0 in
    let b = leb-true (length s) 3 g.1 in (omega arith, omega arith))
    (λ t. among_short ss w h.1 (rw t at f))

base_short : (bs : List Byte) → is_base bs ≡ true → (1 ≤ length bs) × (length bs ≤ 3)
unfolding is_base
base_short bs e =
    let l = length_values bs in
    let h = among_short bases (values bs) bases_short e in
    let a = h.0 in
    let b = h.1 in
    (omega arith, omega arith)

phrase_short : (bs : List Byte) → is_phrase bs ≡ true → ShortText bs
unfolding is_phrase
phrase_short bs e =
    let h = both_pass (leb 1 (characters bs)) (leb (characters bs) 100) e in
    let a = leb-true 1 (characters bs) h.0 in
    let l = characters_le bs in
    (omega arith, inr (leb-true (characters bs) 100 h.1))

few : (bs : List Byte) {n : ℕ} → n < 512 → (0 < length bs) × (length bs ≤ n) → ShortText bs
few bs h p = let l = p.1 in (p.0, inl (omega arith))

pub setting_short : (k : KeyName) (bs : List Byte) → is_setting k bs ≡ true → ShortText bs
unfolding is_setting bpm_in
setting_short name bs e = phrase_short bs e
setting_short artist bs e = phrase_short bs e
setting_short original bs e = few bs {n = 3} (omega arith) (base_short bs e)
setting_short capo bs e = few bs {n = 21} (omega arith) (number_short 1 20 bs e)
setting_short bpm bs e = few bs {n = 401} (omega arith) (number_short 0 400 bs e)
setting_short time bs e = few bs {n = 35} (omega arith) (time_short bs e)
setting_short warning bs e = phrase_short bs e
setting_short end bs e = phrase_short bs e

-- A metadata line of which nothing is complained says a setting of its key.
by_name : {X : Type 0} (o : Option KeyName) → (o ≡ none → X) → ((k : KeyName) → o ≡ some k → X) → X
by_name none f g = f refl
by_name (some k) f g = g k refl

line_short : (l : Line) → metadata_fault l ≡ [] → ShortText (setting_of l)
unfolding metadata_fault key_faults key_faults_by
line_short l e =
    by_kind (kind_of_line l)
    (λ k. by_name (key_name_of l)
    (λ n. let z : metadata_fault l ≡ complaint 4 l.number ∷ [] = rw (k, metadata_fault, n) in nil_is_not_cons (sym e ∙ z))
    (λ j n.
    let here = complain_if (not (of_metadata j)) 4 l.number in
    let there = complain_if (not (is_setting j (setting_of l))) 5 l.number in
    let z : metadata_fault l ≡ here ++ there = rw (k, metadata_fault, n) in
    setting_short j (setting_of l) (not-false _ (complain_if_nil (not (is_setting j (setting_of l))) 5 l.number (append_is_nil here there (sym z ∙ e)).1))))
    (λ k. let z : metadata_fault l ≡ complaint 8 l.number ∷ [] = rw (k, metadata_fault) in nil_is_not_cons (sym e ∙ z))
    (λ k. let z : metadata_fault l ≡ complaint 8 l.number ∷ [] = rw (k, metadata_fault) in nil_is_not_cons (sym e ∙ z))

settings_short : (k : ℕ) (ls : List Line) → flat_map metadata_fault ls ≡ [] → ShortSetting (setting_among k ls)
unfolding flat_map setting_among ShortSetting provided◌then◌else◌
settings_short k [] e = tt
settings_short k (l ∷ ls) e =
    let h = append_is_nil (metadata_fault l) (flat_map metadata_fault ls) e in
    by_cases (eqb (slot_of l) k) (λ t. rw t (line_short l h.0)) (λ t. rw t (settings_short k ls h.1))

no_complaint : (cs : List Complaint) (bs : List Block) → or_no_section cs bs ≡ [] → cs ≡ []
unfolding or_no_section
no_complaint [] bs e = refl
no_complaint (c ∷ cs) bs e = nil_is_not_cons (sym e)

pub metadata_short : (k : ℕ) (bs : List Block) → text_faults bs ≡ [] → ShortSetting (setting_among k (metadata_lines bs))
unfolding text_faults metadata_faults
metadata_short k bs e =
    let a = block_order 0 bs ++ metadata_faults bs in
    let b = a ++ definitions_faults (definition_blocks bs) in
    let n = no_complaint (b ++ flat_map section_faults (section_blocks bs)) (section_blocks bs) e in
    let h = append_is_nil b (flat_map section_faults (section_blocks bs)) n in
    let i = append_is_nil a (definitions_faults (definition_blocks bs)) h.0 in
    let j = append_is_nil (block_order 0 bs) (metadata_faults bs) i.0 in
    settings_short k (metadata_lines bs) (append_is_nil (twice 4 key_said [] (metadata_lines bs)) (flat_map metadata_fault (metadata_lines bs)) j.1).1
