-- What is gathered of the lines before the metadata's end is what the song says of itself.
use Prim.Native.Nat.{ℕ, ◌+◌, ◌<◌, ◌≤◌}
use mathlib.Core.Path.{◌≡◌, refl, sym, ap, ◌∙◌, subst}
use mathlib.Core.List.{List, []}
use native.Mathlib.Omega.{arith}
use borrow.Author.Tests.{eqb-true, eqb-false}
use lib.Dec.{eqb}
use lib.ListN.{length, drop, get_or, set, length-set}
use lib.Seq.{sets, get_or-set_same, get_or-set_other, drop-set-lt}
use Rattle.songcode.specs.Answer.SongText.{metadata_lines, text_faults}
use Rattle.songcode.specs.Answer.Tables.{key_words}
use Rattle.songcode.specs.Answer.Answer.{blocks_of, song_of}
use Rattle.songcode.proofs.ListLaws.{by_cases}
use Rattle.std.specs.Prelude as std
use Rattle.sections.specs.declared.slots.Said.{Said}
use Rattle.sections.specs.Slots.{setting_among, setting_at}
use Rattle.sections.specs.Gathering.{FirstSaid}
use Rattle.laying.specs.Keys.{word_of_setting, ShortSetting}
use Rattle.laying.proofs.SettingLaws.{metadata_short}
use Rattle.laying.proofs.KeyLaws.{keys_written}

-- A key's setting is short, where stage 2 complains of nothing.
pub said_short : {s : List ℕ} {k : ℕ} {r : std.Option Said} → text_faults (blocks_of s) ≡ [] → FirstSaid s (metadata_lines (blocks_of s)) k r
    → ShortSetting (setting_at s r)
said_short {s} {k} clean x = subst ShortSetting (sym x.setting) (metadata_short k (blocks_of s) clean)

-- The words of the keys up to one of them.
pub record KeysUpTo (s ws old : List ℕ) (k : ℕ) : Type 0 where
  pub long : length ws ≡ length old
  pub behind : drop 8 ws ≡ drop 8 old
  pub words : (j : ℕ) → j < k → get_or ws j 0 ≡ word_of_setting (setting_among j (metadata_lines (blocks_of s)))

pub keys_none : (s old : List ℕ) → KeysUpTo s old old 0
keys_none s old = record { long = refl; behind = refl; words = λ j h. absurd (let z : ⊥ = omega arith in z) }

pub keys_more : (s ws old : List ℕ) (k w : ℕ) {r : std.Option Said} → k < 8 → 8 ≤ length old → FirstSaid s (metadata_lines (blocks_of s)) k r
    → w ≡ word_of_setting (setting_at s r) → KeysUpTo s ws old k → KeysUpTo s (set ws k w) old (k + 1)
keys_more s ws old k w below room x e up =
    let long = up.long in
    record {
      long = length-set ws k w ∙ up.long;
      behind = drop-set-lt 8 ws k w below ∙ up.behind;
      words =
          λ j h.
          by_cases (eqb j k)
          (λ t. let i = eqb-true j k t in
          rw i (get_or-set_same ws k w 0 (omega arith) ∙ e ∙ ap word_of_setting x.setting))
          (λ t. let n = eqb-false j k t in
          get_or-set_other ws k j w 0 n ∙ up.words j (omega arith));
    }

pub keys_all : (s ws old : List ℕ) (k : ℕ) → 8 ≤ k → 8 ≤ length old → KeysUpTo s ws old k → ws ≡ sets old 0 (key_words (song_of s))
keys_all s ws old k over room up =
    let long = up.long in
    keys_written s ws (omega arith) (λ j h. up.words j (omega arith)) old room up.behind
