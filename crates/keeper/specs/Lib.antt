pub use Rattle.room_lock.specs.Lookups
pub mod Accesses
pub mod Chains
