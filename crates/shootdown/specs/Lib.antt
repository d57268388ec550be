pub mod Notes
pub mod Board
pub mod Steps
pub mod Making
pub mod TokenPlace
pub mod SeatPlace
