-- What the results of lines say of a device, by the pages that they came of.
pub mod ByLine
pub mod Held
pub mod Pages
pub mod Published
pub mod Versions
