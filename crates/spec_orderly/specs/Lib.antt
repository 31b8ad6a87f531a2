-- Sessions that take their adds on in order, and what their slots hold.
pub mod Left
pub mod Named
pub mod Orderly
pub mod Slots
