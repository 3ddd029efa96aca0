pub mod MemoryList
pub mod Entries
pub mod Lending
pub mod Laws
