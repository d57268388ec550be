pub mod DeviceState
pub mod DeviceCalls
pub mod Shown
pub mod Arrivals
pub mod Quiet
