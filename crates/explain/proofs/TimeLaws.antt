-- The time that is found for a line is the N of its section.
use Prim.Native.Nat.{ℕ, ◌≤◌}
use mathlib.Core.Path.{◌≡◌, sym, ap, ◌∙◌, subst}
use mathlib.Core.Logic.{⊎_elim}
use mathlib.Core.List.Memᴰ
use mathlib.Core.List.{List, [], Memᴰ}
use mathlib.Core.Option.{Option, get_or, bind}
use native.Mathlib.Omega.{arith}
use lib.ListN.{length}
use Rattle.songcode.specs.Song as song
use Rattle.songcode.specs.Answer.Lines.{Line, Block}
use Rattle.songcode.specs.Answer.Keys.{key_place, time_in}
use Rattle.songcode.specs.Answer.Sections.{body, section_faults, section_in}
use Rattle.songcode.specs.Answer.SongText.{section_blocks, text_faults}
use Rattle.songcode.specs.Answer.Playing.{time_among}
use Rattle.songcode.specs.Answer.Answer.{blocks_of, song_of}
use Rattle.songcode.specs.Description.WrittenSection.{Each, none_each, and_each}
use Rattle.songcode.specs.Description.WrittenSong.{WrittenSong}
use Rattle.songcode.proofs.SectionAgree.{section_exact}
use Rattle.songcode.proofs.SongAgree.{sections_are, song_exact}
use Rattle.sections.specs.declared.blocks.Place.{Place}
use Rattle.sections.specs.declared.blocks.Parts.{Parts}
use Rattle.sections.specs.declared.values.Keys.{Keys}
use Rattle.sections.specs.Runs.{lines_of}
use Rattle.sections.specs.Slots.{Setting}
use Rattle.sections.specs.Values.{time_said, KeysAre}
use Rattle.sections.specs.BlockParts.{early_lines, PartsAt}
use Rattle.sections.proofs.OrderLaws.{keys_early}
use Rattle.sections.proofs.SaidLaws.{key_among}
use Rattle.sections.proofs.SectionLaws.{clean_order}
use Rattle.laying.specs.Rows.{SongKeys, meter_of}
use Rattle.laying.proofs.MeterLaws.{meter_is}
use Rattle.slips.specs.BlocksMet.{BlockOf}
use Rattle.explain.specs.Times.{TimeAt}
use Rattle.explain.proofs.VerdictLines.{block_among}

each_left : {A B : Type 0} {R : A → B → Type 0} {xs : List A} {ys : List B} {x : A} → Each R xs ys → Memᴰ x xs → (y : B) × R x y
each_left none_each m = absurd (Memᴰ.not-nil m)
each_left {R = R} (and_each {x} {y} h hs) m =
    ⊎_elim (λ e. (y, subst (λ z. R z y) (sym e) h)) (λ i. each_left hs i) (Memᴰ.cases_cons m)

-- The keys of a section without fault.
own_time : (b : Block) → section_faults b ≡ [] → (k : Keys) → KeysAre (early_lines (body b)) k → k.time ≡ get_or (time_among (section_in b).keys) 0
unfolding section_in time_among time_said key_place
own_time b clean k w =
    let ls = body b in
    let early = ap (λ (o : Option Setting). bind o (λ x. time_in x.text)) (keys_early song.time ls (clean_order b clean).0) in
    w.time ∙ ap (λ (o : Option ℕ). get_or o 0) (early ∙ sym (key_among time_in song.time ls))

module _ (s : List ℕ) (clean : text_faults (blocks_of s) ≡ []) (line : ℕ) {p : Place} (o : BlockOf s line p) where
  written : (w : song.Song) × WrittenSong (blocks_of s) w
  written = (song_exact (blocks_of s)).0 clean

  among : (b : Block) → Memᴰ b (section_blocks (blocks_of s)) → Memᴰ b (blocks_of s) × (section_faults b ≡ [])
  among b m =
      let w = written.1 in
      let i = subst (λ (bs : List Block). Memᴰ b bs) (sections_are w) m in
      let y = each_left w.sections i in (
        block_among s written.0 w b m,
        (section_exact b).1 (y.0, y.1.section),
      )

  pub time_past : length s ≤ p.at → (r : ℕ) → TimeAt s line r
  time_past h r = record {
    is = λ b m i. let k = (o.holds b (among b m).0 i).0 in
        let z : ⊥ = omega arith in absurd z;
  }

  pub time_found : {k : Keys} → SongKeys (song_of s) k → {x : Parts} → PartsAt s p.number p.at x → {own : Keys} → KeysAre (lines_of s x.early) own
      → {r : ℕ} → r ≡ meter_of own.time k.time → TimeAt s line r
  time_found {k} song {x} parts {own} keys {r} e =
      record {
        is = λ b m i.
            let a = among b m in
            let here = (o.holds b a.0 i).1 in
            let early = subst (λ (ls : List Line). KeysAre ls own) (parts.early ∙ ap (λ (c : Block). early_lines (body c)) (sym here)) keys in
            e ∙ meter_is (song_of s) (section_in b) (own_time b a.1 own early) song.time;
      }
