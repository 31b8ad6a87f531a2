-- What contracts see of a volume behind the lock.
pub mod Answers
pub mod Entries
pub mod KeptPages
pub mod Moments
pub mod ServeLaws
pub mod Since
