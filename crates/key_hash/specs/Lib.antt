-- The definitions of key_hash.
pub mod Hashing
pub mod Words
