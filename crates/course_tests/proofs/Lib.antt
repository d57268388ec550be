mod LackingLemmas
pub mod DiskLemmas
