pub mod NoTags
pub mod Ranges
