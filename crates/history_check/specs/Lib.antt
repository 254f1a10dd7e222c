pub use Rattle.record_file.specs.RecordText
pub use Rattle.restore.specs.Records
pub mod Migration
pub mod Transcripts
pub mod Verdicts
pub mod steps
