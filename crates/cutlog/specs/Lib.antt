pub mod Cells
pub mod Books
pub mod Quotas
pub mod Kept
