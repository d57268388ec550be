pub mod GuestView
pub mod Trapped
pub mod Emulation
pub mod AtHand
pub mod Requests
pub mod Deeds
pub mod Decisions
