-- Key by key the setting is a phrase, a base or a number that is there, as the definition wants it.
use mathlib.Core.Logic.{inl, inr}
use mathlib.Core.Path.{◌∙◌}
use Rattle.songcode.specs.Bytes.{placed}
use Rattle.songcode.specs.Answer.Numbers.{number_in}
use Rattle.songcode.specs.Answer.Keys.{bpm_in, time_in, is_setting}
use Rattle.settings.specs.KeySettings.{is_setting_of}
use Rattle.settings.proofs.ReadLaws.{number_there}
use Rattle.settings.proofs.keys.is_setting.Goals as goal

pub returns-in-Name : goal.returns-in-Name
unfolding is_setting_of is_setting
returns-in-Name c =
    elim c.in-Name.is [
      | inl e ↦ c.is_phrase.ensures ∙ rw e
      | inr f ↦ elim f [ inl e ↦ c.is_phrase.ensures ∙ rw e | inr g ↦ elim g [ inl e ↦ c.is_phrase.ensures ∙ rw e | inr e ↦ c.is_phrase.ensures ∙ rw e ] ]
    ]

pub returns-in-Original : goal.returns-in-Original
unfolding is_setting_of is_setting
returns-in-Original c = c.is_base.ensures ∙ rw c.in-Original.is

pub returns-in-Capo : goal.returns-in-Capo
unfolding is_setting_of is_setting
returns-in-Capo c = let w = c.args.w.now in
    number_there (number_in 1 20 (placed 0 w)) c.is_some.ensures c.number_in.ensures ∙ rw c.in-Capo.is

pub returns-in-Bpm : goal.returns-in-Bpm
unfolding is_setting_of is_setting
returns-in-Bpm c = let w = c.args.w.now in
    number_there (bpm_in (placed 0 w)) c.is_some-in-Bpm.ensures c.bpm_in.ensures ∙ rw c.in-Bpm.is

pub returns-in-Time : goal.returns-in-Time
unfolding is_setting_of is_setting
returns-in-Time c = let w = c.args.w.now in
    number_there (time_in (placed 0 w)) c.is_some-in-Time.ensures c.time_in.ensures ∙ rw c.in-Time.is
