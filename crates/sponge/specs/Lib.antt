pub mod Lanes
pub mod Tables
pub mod Keccak
pub mod Sponge
pub mod Rules
pub mod Values
