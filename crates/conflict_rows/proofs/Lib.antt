pub mod Rows
pub mod InConflict
pub mod Direct
pub mod Inherited
