mod Asking
mod Celled
mod Differing
mod Filling
mod Halving
mod Judged
mod Making
mod Measuring
mod OnePass
mod Rising
mod Showing
mod Sorted
mod Vouching
pub mod Common
pub mod Comparing
pub mod Steps
pub mod Walking
