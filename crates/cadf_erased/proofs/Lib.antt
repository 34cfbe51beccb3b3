pub mod Common
pub mod LeftPlaces
pub mod LeftSets
