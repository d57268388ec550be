pub mod ListLemmas
pub mod LotLemmas
pub mod CacheLemmas
pub mod BootLemmas
