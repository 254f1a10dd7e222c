pub mod Findings
pub mod Replays
