pub mod Spans
pub mod Store
