mod Pastes
pub mod Held
pub mod Adding
pub mod Narrowing
