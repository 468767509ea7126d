pub mod Making
pub mod Names
pub mod Blamed
pub mod Chosen
pub mod Telling
pub mod ChosenKept
