pub mod Reading
pub mod StampFault
pub mod Time
pub mod WrittenView
