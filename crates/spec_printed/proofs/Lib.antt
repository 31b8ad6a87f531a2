pub mod EventWords
pub mod Histories
