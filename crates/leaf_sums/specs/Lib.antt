pub mod LeafSums
