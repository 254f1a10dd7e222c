pub mod Names
pub mod steps
pub mod Service
pub mod Reports
pub mod Checks
pub mod Migrations
pub mod Renewals
