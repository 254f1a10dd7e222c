pub use Rattle.record_file.specs.RecordText
pub use Rattle.restore.specs.Records
pub mod Renewing
pub mod Comparing
pub mod steps
