pub use Rattle.record_file.specs.RecordText
pub use Rattle.restore.specs.Restoring
pub mod Kept
pub mod Tails
pub mod Ended
pub mod steps
