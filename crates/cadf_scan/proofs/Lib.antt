pub mod BodyInstants
pub mod Common
pub mod CutMembers
pub mod PlainBytes
pub mod ScannedValues
pub mod SpelledNames
pub mod TextValues
