-- The words of the keys table, from the settings that the code finds.
use Prim.Native.Nat.{ℕ, zero, suc, ◌+◌, ◌-◌, ◌*◌, ◌^◌, ◌<◌, ◌≤◌}
use mathlib.Core.Path.{◌≡◌, refl, sym, ap, ◌∙◌, subst}
use mathlib.Core.List.{List, [], ◌∷◌, ◌++◌, map, filter_map}
use mathlib.Core.Logic.{⊎_elim}
use mathlib.Core.Option.{Option, none, some, bind}
use native.Mathlib.Omega.{arith}
use native.Mathlib.Numerals.{add-one}
use lib.ListN.{length, drop, get_or}
use lib.Seq.{sets, drop-cons}
use Rattle.std.specs.Prelude as std
use Rattle.songcode.specs.Bytes.{Byte, placed}
use Rattle.songcode.specs.Answer.Lines.{Line}
use Rattle.songcode.specs.Song.{KeyName, name, artist, original, capo, bpm, time, warning, end}
use Rattle.songcode.specs.Answer.Keys.{key_place}
use Rattle.songcode.specs.Answer.Sections.{key_in}
use Rattle.songcode.specs.Answer.Playing.{setting_named}
use Rattle.songcode.specs.Answer.SongText.{metadata_lines, song_in}
use Rattle.songcode.specs.Answer.Tables.{key_word, key_order, key_words}
use Rattle.songcode.specs.Answer.Answer.{input_faults, blocks_of, song_of}
use Rattle.songcode.proofs.MemoryLaws.{first_sets}
use Rattle.text.specs.Spans.{part}
use Rattle.text.proofs.WalkLaws.{part_length}
use Rattle.sections.specs.declared.slots.Said.{Said}
use Rattle.sections.specs.Slots.{Setting, setting_among, setting_at}
use Rattle.sections.proofs.SaidLaws.{key_among}
use Rattle.sections.proofs.SlotLaws.{setting_some}
use Rattle.laying.proofs.LyricRowLaws.{offset_part, length_part}
use Rattle.laying.specs.Keys.{word_of_setting, ShortText, ShortSetting}
use Rattle.laying.proofs.GoodLaws.{part_short, input_good}

module _ (s : List ℕ) {o : std.Option Said} {r : Said} where
  module _ (there : o ≡ std.Some r) where
    abbrev text : List Byte
    text = placed r.start (part r.start r.stop s)

    is_there : setting_at s o ≡ some (record { line = r.line; text = text })
    is_there = ap (setting_at s) there ∙ setting_some s r

    -- The setting's place and length fit the fields of its word.
    pub key_fits : r.stop ≤ length s → length s ≤ 65536 → input_faults s ≡ [] → ShortSetting (setting_at s o)
        → (r.start < r.stop) × (r.start < 65536) × (r.stop - r.start < 512)
    unfolding ShortSetting
    key_fits inside small good short =
        let h : ShortText text = subst ShortSetting is_there short in
        let l = length_part s r.start r.stop inside in
        let m = part_length s r.start r.stop inside in
        let some_byte = h.0 in
        let p = part_short s r.start r.stop (input_good s small good) in
        (omega arith, omega arith, ⊎_elim (λ a. omega arith) (λ a. omega arith) h.1)

    pub key_word_is : r.start < r.stop → r.stop ≤ length s → 2 ^ 31 + r.start * 2 ^ 15 + (r.stop - r.start) * 2 ^ 6 ≡ word_of_setting (setting_at s o)
    unfolding word_of_setting key_word
    key_word_is h inside = rw (is_there, offset_part s r.start r.stop h inside, length_part s r.start r.stop inside)

-- A key's setting among the keys of lines is the first setting of its number among the lines.
same_word : (o : Option (List Byte)) (p : Option Setting) → bind o some ≡ bind p (λ x. some x.text) → key_word o ≡ word_of_setting p
unfolding bind word_of_setting
same_word none none e = refl
same_word none (some x) e = let z : ◌≡◌ {A = ℕ} 0 1 = cc in absurd (let y : ⊥ = omega arith in y)
same_word (some bs) none e = let z : ◌≡◌ {A = ℕ} 0 1 = cc in absurd (let y : ⊥ = omega arith in y)
same_word (some bs) (some x) e = ap key_word e

word_of : (k : KeyName) (ls : List Line) → key_word (setting_named k (filter_map key_in ls)) ≡ word_of_setting (setting_among (key_place k) ls)
word_of k ls = same_word (setting_named k (filter_map key_in ls)) (setting_among (key_place k) ls) (key_among some k ls)

eight : (P : ℕ → Type 0) → P 0 → P 1 → P 2 → P 3 → P 4 → P 5 → P 6 → P 7 → (k : ℕ) → k < 8 → P k
eight P a b c d e f g h zero l = a
eight P a b c d e f g h (suc zero) l = b
eight P a b c d e f g h (suc (suc zero)) l = c
eight P a b c d e f g h (suc (suc (suc zero))) l = d
eight P a b c d e f g h (suc (suc (suc (suc zero)))) l = e
eight P a b c d e f g h (suc (suc (suc (suc (suc zero))))) l = f
eight P a b c d e f g h (suc (suc (suc (suc (suc (suc zero)))))) l = g
eight P a b c d e f g h (suc (suc (suc (suc (suc (suc (suc zero))))))) l = h
eight P a b c d e f g h (suc (suc (suc (suc (suc (suc (suc (suc k)))))))) l = absurd (let y : ⊥ = omega arith in y)

-- The words of the keys from a place of the table on.
abbrev words_from : List Line → ℕ → List ℕ
words_from ls k = map (λ j. key_word (setting_named j (filter_map key_in ls))) (drop k key_order)

words_more : (ls : List Line) (k : ℕ) → k < 8 → words_from ls k ≡ word_of_setting (setting_among k ls) ∷ words_from ls (k + 1)
unfolding key_order key_place
words_more ls k h =
    eight (λ k. words_from ls k ≡ word_of_setting (setting_among k ls) ∷ words_from ls (k + 1))
    (first name 1) (first artist 2) (first original 3) (first capo 4) (first bpm 5) (first time 6) (first warning 7) (first end 8)
    k
    h
  where
    first : (j : KeyName) (n : ℕ) → key_word (setting_named j (filter_map key_in ls)) ∷ words_from ls n
        ≡ word_of_setting (setting_among (key_place j) ls) ∷ words_from ls n
    first j n = ap (λ (w : ℕ). w ∷ words_from ls n) (word_of j ls)

words_over : (ls : List Line) (k : ℕ) → k ≡ 8 → words_from ls k ≡ []
unfolding key_order
words_over ls k e = rw e

-- Where each key's word is that of its setting, the words of the keys table stand at the front.
module _ (s ws : List ℕ) (long : 8 ≤ length ws)
    (words : (k : ℕ) → k < 8 → get_or ws k 0 ≡ word_of_setting (setting_among k (metadata_lines (blocks_of s)))) where
  abbrev lines : List Line
  lines = metadata_lines (blocks_of s)

  from : (j k : ℕ) → j + k ≡ 8 → drop k ws ≡ words_from lines k ++ drop 8 ws
  from zero k e = let z : k ≡ 8 = omega arith in rw (words_over lines k z) (ap (λ (n : ℕ). drop n ws) z)
  from (suc j) k e =
      drop-cons ws k 0 (omega arith)
      ∙ rw (words k (omega arith), words_more lines k (omega arith), ← (add-one k))
      (ap (λ (l : List ℕ). word_of_setting (setting_among k lines) ∷ l) (from j (k + 1) (omega arith)))

  pub keys_written : (old : List ℕ) → 8 ≤ length old → drop 8 ws ≡ drop 8 old → ws ≡ sets old 0 (key_words (song_of s))
  unfolding key_words key_order song_of song_in
  keys_written old room same =
      from 8 0 (omega arith) ∙ ap (λ (l : List ℕ). words_from lines 0 ++ l) same ∙ sym (first_sets (words_from lines 0) old room)
