pub mod Lines
pub mod Day
pub mod Stages
pub mod Scripts
pub mod Laws
