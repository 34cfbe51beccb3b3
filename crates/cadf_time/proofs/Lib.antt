pub mod Common
pub mod TimeLaws
pub mod TimeReading
