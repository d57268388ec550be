pub mod DiskView
pub mod DiskParts
pub mod DiskCalls
pub mod IndexView
pub mod IndexParts
pub mod IndexCalls
pub mod Giving
