pub mod Planned
pub mod Stops
pub mod Failures
pub mod Slices
pub mod PlanDue
pub mod Dealt
pub mod Leftover
