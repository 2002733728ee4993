-- The keys of a copy have the original's words, but for where the settings stand; a setting fits its field.
use Prim.Native.Nat.{ℕ, suc, ◌+◌, ◌*◌, ◌<◌, ◌≤◌}
use mathlib.Core.Path.{◌≡◌, refl, ap, sym, subst, ◌∙◌}
use mathlib.Core.List.{List, [], ◌∷◌, map}
use mathlib.Core.Bool.{true}
use mathlib.Core.Option.{Option, none, some}
use native.Mathlib.Omega.{arith}
use lib.Dec.{eqb, leb}
use lib.ListN.{length, length-append}
use borrow.Author.Tests.{leb-true}
use Rattle.songcode.specs.Lists.{provided◌then◌else◌, every}
use Rattle.songcode.specs.Bytes.{Byte, placed, values, ascii}
use Rattle.songcode.specs.Answer.Characters.{good_bytes, characters}
use Rattle.songcode.specs.Answer.Chords.{bases}
use Rattle.songcode.specs.Answer.Lines.{Line}
use Rattle.songcode.specs.Song.{KeyName, name, artist, original, capo, bpm, time, warning, end, Key, Song}
use Rattle.songcode.specs.Answer.Keys.{key_place}
use Rattle.songcode.specs.Answer.Playing.{setting_named}
use Rattle.songcode.specs.Answer.Tables.{offset, key_word}
use Rattle.songcode.specs.Description.WrittenText.{Characters}
use Rattle.songcode.specs.Description.WrittenPattern.{Number}
use Rattle.songcode.specs.Description.WrittenSection.{Phrase, Setting, KeyLine}
use Rattle.songcode.specs.Description.WrittenSection.{none_each, and_each}
use Rattle.songcode.specs.Description.WrittenSection as Written
use Rattle.songcode.specs.Description.WrittenSong.{WrittenChart}
use Rattle.songcode.specs.Description.Layout.{field, without}
use Rattle.songcode.specs.Description.WrittenFlat.{stretch_at}
use Rattle.songcode.proofs.ListLaws.{by_cases, Each}
use Rattle.songcode.proofs.ByteLaws.{values_placed, length_values}
use Rattle.songcode.proofs.NumbersAgree.{decimal_short}
use Rattle.songcode.proofs.CharactersAgree.{good_text}
use Rattle.songcode.proofs.CharacterBytes.{stretch_short}
use Rattle.songcode.proofs.Alike.{AlikeKey, characters_alike, length_alike}
use Rattle.songcode.proofs.Stretches.{Stands, written_out, stretch_of_lem, stands_within}
use Rattle.songcode.proofs.FineLines.{FineLine, BlockLine}
use Rattle.songcode.proofs.CopySection.{get_every}
use Rattle.songcode.proofs.CopyReady.{setting_stands, chart_fine}
use Rattle.songcode.proofs.CopyRows.{block_lines}
use Rattle.songcode.proofs.CopyFits.{OptAlike, setting_of_lem}
use Rattle.songcode.proofs.CopyWords.{key_offset, key_length, key_without}

-- A number has no more digits than its value and one.
number_few : {low high n : ℕ} (ds : List Byte) → Number low high ds n → length ds ≤ suc high
number_few ds s =
    let l = (decimal_short ds s.decimal).1 in
    let e = s.says in
    let h = s.at_most in
    omega arith

bases_short : every (λ b. leb (length b) 3) bases ≡ true
unfolding every bases
bases_short = refl

module _ (bs : List ℕ) (whole : Characters bs) where
  stands_short : (text : List Byte) → Stands (placed 0 bs) text → length text ≤ 3 + 4 * characters text
  stands_short text s =
      let w = written_out bs text s.front s.rest s.written in
      let g = subst (λ x. good_bytes 0 x ≡ length x) w ((good_text bs).1 whole) in
      let h = stretch_short (values s.front) (values text) (values s.rest) 0 g in
      let l = length_values text in
      let c = characters_alike (placed 0 (values text)) text (values_placed 0 (values text)) in
      omega arith

  phrase_short : (text : List Byte) → Stands (placed 0 bs) text → Phrase text → length text < 512
  unfolding Phrase
  phrase_short text s p =
      let h = stands_short text s in
      let m = p.1 in
      omega arith

  setting_short : (k : KeyName) (text : List Byte) → Stands (placed 0 bs) text → Setting k text → length text < 512
  unfolding Setting ascii
  setting_short name text s h = phrase_short text s h
  setting_short artist text s h = phrase_short text s h
  setting_short original text s (n, e) =
      let b = leb-true (length (values text)) 3 (get_every (λ b. leb (length b) 3) bases n (values text) bases_short e) in
      let l = length_values text in
      omega arith
  setting_short capo text s (n, h) = let l = number_few text h in omega arith
  setting_short bpm text s (n, h) = let l = number_few text h in omega arith
  setting_short time text s (n, h) =
      let l = number_few h.above h.number in
      let u : length h.under ≡ 2 = sym (length_values h.under) ∙ ap length h.quarters in
      rw (h.written, length-append) (omega arith)
  setting_short warning text s h = phrase_short text s h
  setting_short end text s h = phrase_short text s h

-- A key whose setting stands in a file and fits its field.
pub record KeyStands (bs : List ℕ) (k : Key) : Type 0 where
  pub stands : Stands (placed 0 bs) k.setting
  pub short : length k.setting < 512

keys_stand : (bs : List ℕ) → Characters bs → {ls : List Line} {ks : List Key} → Written.Each KeyLine ls ks → Each (BlockLine (placed 0 bs)) ls
    → Each (KeyStands bs) ks
unfolding Each BlockLine FineLine
keys_stand bs c none_each f = tt
keys_stand bs c (and_each {y = k} w ws) f =
    let s = setting_stands (placed 0 bs) w.written f.0.0.stands in
    (record { stands = s; short = setting_short bs c k.key k.setting s w.allowed }, keys_stand bs c ws f.1)

pub chart_keys : {bs : List ℕ} {s : Song} → WrittenChart bs s → Each (KeyStands bs) s.keys
chart_keys {bs} w =
    keys_stand bs w.characters w.song.keys (block_lines (placed 0 bs) w.song.metadata (chart_fine w).metadata)

-- What a key says stands there too.
unfoldable pub SaidStands : List ℕ → Option (List Byte) → Type 0
SaidStands bs none = Unit {0}
SaidStands bs (some text) = Stands (placed 0 bs) text × (length text < 512)

pub said_stands : (bs : List ℕ) (k : KeyName) (ks : List Key) → Each (KeyStands bs) ks → SaidStands bs (setting_named k ks)
unfolding setting_named Each SaidStands provided◌then◌else◌
said_stands bs k [] f = tt
said_stands bs k (j ∷ ks) f =
    by_cases (eqb (key_place j.key) (key_place k)) (λ e. rw e (f.0.stands, f.0.short)) (λ e. rw e (said_stands bs k ks f.1))

pub place_fits : (bs : List ℕ) (text : List Byte) → length bs ≤ 65536 → Stands (placed 0 bs) text → offset text < 65536
unfolding offset
place_fits bs [] l s = omega arith
place_fits bs (b ∷ text) l s = let w = stands_within bs (b ∷ text) s in omega arith

module _ (bs copy : List ℕ) (small : length bs ≤ 65536) (brief : length copy ≤ 65536) where
  keeps_key : (a b : Option (List Byte)) → OptAlike a b → SaidStands copy a → SaidStands bs b → without 15 16 (key_word a) ≡ without 15 16 (key_word b)
  unfolding OptAlike SaidStands key_word
  keeps_key none none o p q = refl
  keeps_key none (some b) o p q = absurd o
  keeps_key (some a) none o p q = absurd o
  keeps_key (some a) (some b) o p q =
      key_without (offset a) (length a) (place_fits copy a brief p.0) p.1
      ∙ rw (length_alike a b o) (sym (key_without (offset b) (length b) (place_fits bs b small q.0) q.1))

  setting_at_lem : (file : List ℕ) (text : List Byte) → length file ≤ 65536 → Stands (placed 0 file) text → length text < 512
      → stretch_at 15 16 6 9 file (key_word (some text)) ≡ values text
  unfolding stretch_at key_word
  setting_at_lem file text l s h =
      let o = place_fits file text l s in
      rw (key_length (offset text) (length text) o h, key_offset (offset text) (length text) o h) (stretch_of_lem file text s)

  no_setting : (file : List ℕ) → stretch_at 15 16 6 9 file (key_word none) ≡ []
  unfolding stretch_at key_word field
  no_setting file = refl

  same_setting : (a b : Option (List Byte)) → OptAlike a b → SaidStands copy a → SaidStands bs b
      → stretch_at 15 16 6 9 copy (key_word a) ≡ stretch_at 15 16 6 9 bs (key_word b)
  unfolding OptAlike SaidStands
  same_setting none none o p q = no_setting copy ∙ sym (no_setting bs)
  same_setting none (some b) o p q = absurd o
  same_setting (some a) none o p q = absurd o
  same_setting (some a) (some b) o p q = setting_at_lem copy a brief p.0 p.1 ∙ o ∙ sym (setting_at_lem bs b small q.0 q.1)

  keys_by : {X : Type 0} (f g : ℕ → X) → ((a b : Option (List Byte)) → OptAlike a b → SaidStands copy a → SaidStands bs b → f (key_word a) ≡ g (key_word b))
      → {js ks : List Key} → Written.Each AlikeKey js ks → Each (KeyStands copy) js → Each (KeyStands bs) ks → (order : List KeyName)
      → map f (map (λ k. key_word (setting_named k js)) order) ≡ map g (map (λ k. key_word (setting_named k ks)) order)
  keys_by f g h a p q [] = refl
  keys_by f g h {js} {ks} a p q (k ∷ order) =
      rw (h (setting_named k js) (setting_named k ks) (setting_of_lem k a) (said_stands copy k js p) (said_stands bs k ks q), keys_by f g h a p q order)

  module _ {js ks : List Key} (a : Written.Each AlikeKey js ks) (p : Each (KeyStands copy) js) (q : Each (KeyStands bs) ks) (order : List KeyName) where
    pub keys_kept : map (without 15 16) (map (λ k. key_word (setting_named k js)) order) ≡ map (without 15 16) (map (λ k. key_word (setting_named k ks)) order)
    keys_kept = keys_by _ _ keeps_key a p q order

    pub settings_kept : map (stretch_at 15 16 6 9 copy) (map (λ k. key_word (setting_named k js)) order)
        ≡ map (stretch_at 15 16 6 9 bs) (map (λ k. key_word (setting_named k ks)) order)
    settings_kept = keys_by _ _ same_setting a p q order
