pub mod Names
pub mod NoImage
