pub mod BytesLemmas
pub mod CollisionLemmas
pub mod ExampleLemmas
pub mod MessageLemmas
