pub mod AloneLemmas
pub mod EndLemmas
pub mod SourceLemmas
pub mod MonitoredLemmas
pub mod Statuses
pub mod TextRuns
pub mod MadeRuns
