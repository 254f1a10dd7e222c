pub use Rattle.renewal.specs.Renewed
pub mod Usage
pub mod Succession
pub mod steps
