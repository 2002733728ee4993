-- What settings say, as numbers: of a section's keys and modifiers, where they are said, and otherwise.
use Rattle.std.specs.Prelude.{ℕ, ◌≤◌, ◌≡◌, List}
use Rattle.std.proofs.Math.Option.{Option, get_or, bind}
use Rattle.songcode.specs.Answer.Keys.{time_in, bpm_in}
use Rattle.songcode.specs.Answer.Numbers.{repeat_in}
use Rattle.songcode.specs.Answer.Modifiers.{cut_in}
use Rattle.songcode.specs.Answer.Lines.{Line}
use Rattle.std.specs.Prelude as std
use Rattle.cuts.specs.declared.Cut.{Cut}
use Rattle.settings.specs.Cuts.{cut_is, CutFits}
use Rattle.sections.specs.declared.values.Keys.{Keys}
use Rattle.sections.specs.declared.values.Modifiers.{Modifiers}
use Rattle.sections.specs.Slots.{Setting, Inside, setting_among, setting_at}

-- 0 is no time, 511 no bpm; a section without a repeat is played once.
unfoldable pub time_said : Option Setting → ℕ
unfolding bind time_in
time_said o = get_or (bind o (λ x. time_in x.text)) 0

unfoldable pub bpm_said : Option Setting → ℕ
unfolding bind bpm_in
bpm_said o = get_or (bind o (λ x. bpm_in x.text)) 511

unfoldable pub repeat_said : Option Setting → ℕ
unfolding bind repeat_in
repeat_said o = get_or (bind o (λ x. repeat_in x.text)) 1

unfoldable pub cut_said : Option Setting → std.Option Cut
unfolding cut_is bind cut_in
cut_said o = cut_is (bind o (λ x. cut_in x.text))

-- The keys and the modifiers that lines say.
pub record KeysAre (ls : List Line) (r : Keys) : Type 0 where
  pub time : r.time ≡ time_said (setting_among 5 ls)
  pub bpm : r.bpm ≡ bpm_said (setting_among 4 ls)
  pub time_fits : r.time ≤ 32
  pub bpm_fits : r.bpm ≤ 511

pub record ModifiersAre (s : List ℕ) (ls : List Line) (r : Modifiers) : Type 0 where
  pub repeat : r.repeat ≡ repeat_said (setting_among 8 ls)
  pub repeat_fits : (1 ≤ r.repeat) × (r.repeat ≤ 9999)
  pub front : r.front ≡ cut_said (setting_among 9 ls)
  pub front_fits : CutFits r.front
  pub back : r.back ≡ cut_said (setting_among 10 ls)
  pub back_fits : CutFits r.back
  pub before : setting_at s r.before ≡ setting_among 11 ls
  pub before_inside : Inside s r.before
  pub after : setting_at s r.after ≡ setting_among 12 ls
  pub after_inside : Inside s r.after
