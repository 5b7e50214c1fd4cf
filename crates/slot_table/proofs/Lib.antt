mod Gaps
pub mod Laws
mod Noted
mod Filling
