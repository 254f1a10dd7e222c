pub use Rattle.restore.specs.Restoring
pub use Rattle.restore.specs.steps.Files
pub mod steps
