pub mod Alignment
pub mod Turns
pub mod VcpuLists
mod TickLemmas
mod WorkedGuests
mod WorkedRuns
mod WorkedFaults
mod WorkedDevices
