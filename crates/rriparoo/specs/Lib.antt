pub mod HitBits
pub mod Ageing
pub mod Rriparoo
