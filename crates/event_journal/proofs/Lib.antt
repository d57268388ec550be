pub mod CountLemmas
pub mod PartLemmas
