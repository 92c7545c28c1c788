pub mod Shown
pub mod Readings
pub mod Slices
pub mod Deep
pub mod Read
