mod FirstFault
mod Judged
mod Played
mod Timed
mod Told
pub mod Fronted
pub mod OnlyOne
pub mod Parts
