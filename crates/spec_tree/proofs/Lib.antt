pub mod SizesLemmas
pub mod TreeLemmas
