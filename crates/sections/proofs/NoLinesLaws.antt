-- A run of no lines says nothing.
use Prim.Native.Nat.{ℕ}
use mathlib.Core.Path.{◌≡◌, refl}
use mathlib.Core.List.{List, []}
use mathlib.Core.Option.{bind}
use native.Mathlib.Omega.{arith}
use Rattle.std.specs.Prelude.{None}
use Rattle.settings.specs.Cuts.{cut_is, CutFits}
use Rattle.sections.specs.declared.runs.Run.{Run}
use Rattle.sections.specs.Runs.{lines_of}
use Rattle.sections.specs.Slots.{setting_among, setting_at}
use Rattle.sections.specs.Values.{time_said, bpm_said, repeat_said, cut_said, KeysAre, ModifiersAre}

no_lines : (s : List ℕ) (run : Run) → run.lines ≡ 0 → lines_of s run ≡ []
unfolding lines_of
no_lines s run e = rw e refl

pub no_keys : (s : List ℕ) (run : Run) → run.lines ≡ 0 → KeysAre (lines_of s run) (record { time = 0; bpm = 511 })
unfolding time_said bpm_said setting_among bind
no_keys s run e =
    rw (no_lines s run e) (record { time = refl; bpm = refl; time_fits = omega arith; bpm_fits = omega arith })

pub no_modifiers : (s : List ℕ) (run : Run) → run.lines ≡ 0
    → ModifiersAre s (lines_of s run) (record { repeat = 1; front = None; back = None; before = None; after = None })
unfolding repeat_said cut_said setting_among setting_at bind cut_is CutFits
no_modifiers s run e =
    rw (no_lines s run e)
    (record {
      repeat = refl;
      repeat_fits = (omega arith, omega arith);
      front = refl;
      front_fits = Prim.tt;
      back = refl;
      back_fits = Prim.tt;
      before = refl;
      before_inside = Prim.tt;
      after = refl;
      after_inside = Prim.tt;
    })
