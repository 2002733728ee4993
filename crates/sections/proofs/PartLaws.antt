-- The parts of a section, by the runs that its lines are passed over in.
use mathlib.Core.Path.{◌≡◌, ap, ◌∙◌}
use mathlib.Core.List.{List}
use Rattle.songcode.specs.Lists.{taken, left}
use Rattle.songcode.specs.Answer.Lines.{Line}
use Rattle.songcode.specs.Answer.Sections.{kind_of_line, is_pattern_line, not_pattern_line, not_dashes, pattern_run}
use Rattle.sections.specs.declared.runs.Test.TheVariants.{Full, Body, Early, Pattern}
use Rattle.sections.specs.Runs.{passing, passes, in_body, is_pattern_text, is_pattern_kind}
use Rattle.sections.specs.BlockParts.{early_lines, late_lines}
use Rattle.sections.proofs.ListLaws.{taken_taken, left_taken, left_left}

module _ (ls : List Line) where
  pub body_is : taken not_dashes (taken (passing Full) ls) ≡ taken (passing Body) ls
  unfolding passing passes in_body not_dashes
  body_is = taken_taken (passing Full) not_dashes ls

  pub ending_is : left not_dashes (taken (passing Full) ls) ≡ taken (passing Full) (left (passing Body) ls)
  unfolding passing passes in_body not_dashes
  ending_is = left_taken (passing Full) not_dashes ls

  pub past_is : left (passing Full) (left (passing Body) ls) ≡ left (passing Full) ls
  unfolding passing passes in_body not_dashes
  past_is = left_left (passing Full) not_dashes ls

  pub early_is : early_lines (taken (passing Body) ls) ≡ taken (passing Early) ls
  unfolding early_lines passing passes is_pattern_text is_pattern_kind not_pattern_line is_pattern_line kind_of_line
  early_is = taken_taken (passing Body) not_pattern_line ls

  behind_early : left not_pattern_line (taken (passing Body) ls) ≡ taken (passing Body) (left (passing Early) ls)
  unfolding passing passes is_pattern_text is_pattern_kind not_pattern_line is_pattern_line kind_of_line
  behind_early = left_taken (passing Body) not_pattern_line ls

  early_left : left (passing Body) (left (passing Early) ls) ≡ left (passing Body) ls
  unfolding passing passes is_pattern_text is_pattern_kind not_pattern_line is_pattern_line kind_of_line
  early_left = left_left (passing Body) not_pattern_line ls

module _ (ls : List Line) where
  run_is : taken is_pattern_line (taken (passing Body) ls) ≡ taken (passing Pattern) ls
  unfolding passing passes is_pattern_text is_pattern_kind is_pattern_line kind_of_line
  run_is = taken_taken (passing Body) is_pattern_line ls

  behind_run : left is_pattern_line (taken (passing Body) ls) ≡ taken (passing Body) (left (passing Pattern) ls)
  unfolding passing passes is_pattern_text is_pattern_kind is_pattern_line kind_of_line
  behind_run = left_taken (passing Body) is_pattern_line ls

  run_left : left (passing Body) (left (passing Pattern) ls) ≡ left (passing Body) ls
  unfolding passing passes is_pattern_text is_pattern_kind is_pattern_line kind_of_line
  run_left = left_left (passing Body) is_pattern_line ls

module _ (ls : List Line) where
  pub pattern_is : pattern_run (taken (passing Body) ls) ≡ taken (passing Pattern) (left (passing Early) ls)
  unfolding pattern_run
  pattern_is = ap (taken is_pattern_line) (behind_early ls) ∙ run_is (left (passing Early) ls)

  pub late_is : late_lines (taken (passing Body) ls) ≡ taken (passing Body) (left (passing Pattern) (left (passing Early) ls))
  unfolding late_lines
  late_is = ap (left is_pattern_line) (behind_early ls) ∙ behind_run (left (passing Early) ls)

  pub all_left : left (passing Body) (left (passing Pattern) (left (passing Early) ls)) ≡ left (passing Body) ls
  all_left = run_left (left (passing Early) ls) ∙ early_left ls
