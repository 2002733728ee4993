-- The laws that the proof of the call cites.
pub mod ExplainLaws
pub mod PatternStage
pub mod StoppedLaws
pub mod StageLaws
pub mod VerdictLines
pub mod PutTokens
pub mod SoundLaws
pub mod PlayedText
pub mod StrayThere
pub mod SizeLaws
pub mod MisfitThere
pub mod TimeLaws
pub mod SumLaws
pub mod ZeroLaws
pub mod FirstLaws
pub mod MisfitFirst
