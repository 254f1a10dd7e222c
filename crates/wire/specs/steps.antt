pub mod Equality
pub mod Pages
pub mod OneLine
pub mod Quoting
pub mod Growing
pub mod Forms
pub mod Lists
