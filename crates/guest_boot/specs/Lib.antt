pub mod Starting
pub mod Booting
