pub mod AlikeNodes
