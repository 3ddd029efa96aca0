pub mod Records
pub mod Lanes
pub mod LanePages
pub mod Memory
pub mod Wanting
pub mod Faults
pub mod Shapes
