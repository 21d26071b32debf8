pub mod Rungs
pub mod LadderLaws
