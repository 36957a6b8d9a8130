pub mod Tangents
pub mod Chords
pub mod FactorChords
pub mod Straights
pub mod NearLines
pub mod FlowParts
pub mod Mapping
