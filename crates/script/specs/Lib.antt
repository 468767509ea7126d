pub mod Numbers
pub mod Words
pub mod Faults
pub mod Commands
pub mod Answers
pub mod Laws
