pub mod Lines
pub mod Notes
pub mod Replies
pub mod Form
pub mod Rising
pub mod Entering
pub mod Texts
pub mod steps
