pub mod Spare
