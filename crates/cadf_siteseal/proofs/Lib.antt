mod JudgedParts
mod NameForms
mod PartProofs
mod PartsKept
mod SealedItems
mod SiteLemmas
mod TreeItems
mod Words
pub mod Common
