pub use Rattle.rules.specs.Limits
pub use Rattle.rules.specs.Records
pub use Rattle.drawing.specs.Shown
pub mod Taking
pub mod Replica
pub mod Kept
pub mod steps
