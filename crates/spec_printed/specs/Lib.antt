-- What is printed of a history, read again, and that it fixes the history.
pub mod Reading
pub mod Printed
