pub mod Told
pub mod Demands
pub mod Forgery
pub mod Hiding
