pub mod OftenLemmas
pub mod RandomLemmas
pub mod TickLemmas
