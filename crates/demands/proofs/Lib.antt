pub mod Demands
pub mod Forgery
pub mod ToldLaws
pub mod Hiding
