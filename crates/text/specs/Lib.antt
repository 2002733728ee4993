-- What the contracts on a chart's text say, over the definitions of songcode.
pub mod Leads
pub mod Ends
pub mod Spans
