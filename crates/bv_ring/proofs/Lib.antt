pub mod CursorLemmas
pub mod StopLemmas
