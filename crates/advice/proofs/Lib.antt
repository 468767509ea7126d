pub mod Opens
pub mod Fronts
pub mod Turning
pub mod Tells
