-- What the code sees of a section at a place of the row, whatever the row holds.
use Rattle.std.specs.Prelude.{ℕ, ◌+◌, ◌-◌, ◌*◌, ◌/◌, ◌%◌, List, Bool, true, false, eqb, get_or}
use Rattle.cuts.specs.declared.Cut.{Cut}
use Rattle.cuts.specs.Cuts.{cut_of}
use Rattle.score.specs.declared.stretches.Stretch.{Stretch}
use Rattle.score.specs.declared.views.View.{View}

-- A cut of measures 14, beats 14.
unfoldable pub cut_in : ℕ → Cut
cut_in w = cut_of (w / 262144) (w / 16 % 16384)

-- The word at a place if the section is cut, else 0: no cut.
unfoldable pub cut_at : List ℕ → Bool → ℕ → Cut
unfolding cut_in
cut_at ws true at = cut_in (get_or ws at 0)
cut_at ws false at = cut_in 0

-- How many words the cuts take.
unfoldable pub cuts_length : Bool → ℕ
cuts_length true = 2
cuts_length false = 0

abbrev pub stretch : ℕ → ℕ → Stretch
stretch a b = record { from = a; to = b }

-- From the section's four words: its texts stand behind the cuts, one behind the other, and the lyrics at its end.
unfoldable pub view_by : List ℕ → ℕ → ℕ → ℕ → ℕ → ℕ → View
unfolding cut_at cuts_length
view_by ws at a b c d =
    let cut = eqb (b / 2 % 2) 1 in
    let first = at + 4 + cuts_length cut in
    let next = at + a / 32768 in
    let last = next - 2 * (d / 65536) in
    record {
      next = next;
      meter = a / 512 % 64;
      tempo = a % 512;
      header = b / 65536 + 1;
      repeat = b / 4 % 16384;
      even = d % 65536;
      front = cut_at ws cut (at + 4);
      back = cut_at ws cut (at + 4 + 1);
      lead = stretch first (first + c / 65536);
      pattern = stretch (first + c / 65536) (last - c % 65536);
      tail = stretch (last - c % 65536) last;
      lyrics = stretch last next;
    }

unfoldable pub view_of : List ℕ → ℕ → View
unfolding view_by
view_of ws at = view_by ws at (get_or ws at 0) (get_or ws (at + 1) 0) (get_or ws (at + 2) 0) (get_or ws (at + 3) 0)
