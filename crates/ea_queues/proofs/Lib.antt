pub mod AlikeNodes
pub mod ChainLaws
pub mod ListSums
pub mod QueueMoves
