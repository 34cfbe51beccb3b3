pub mod Schedule
pub mod Federation
