mod AlikeLines
mod AskedDigests
mod EqualSeals
mod GrownSets
mod KeyFiles
mod KeyLemmas
mod LeafSets
mod MadeProofs
mod MarkedLemmas
mod ProofForm
mod ProofLineLemmas
mod SealLemmas
mod SetsOfDigests
mod ToldFacts
pub mod Common
