pub mod Kept
pub mod Plans
pub mod SiteRequests
