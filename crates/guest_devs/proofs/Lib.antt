pub mod Calling
pub mod ShowingLemmas
pub mod QuietLemmas
