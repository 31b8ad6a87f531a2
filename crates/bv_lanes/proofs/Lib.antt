pub mod LaneLemmas
mod PieceLemmas
mod RotationLemmas
mod RowLemmas
