pub mod Notes
pub mod BurstLemmas
pub mod GuestLemmas
pub mod Crossing
pub mod ReceivingLemmas
pub mod FailLemmas
