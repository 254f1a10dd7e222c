pub use Rattle.rules.specs.Limits
pub use Rattle.rules.specs.Records
pub use Rattle.drawing.specs.Room
pub use Rattle.drawing.specs.steps.State
pub mod Answers
pub mod Shown
pub mod steps
