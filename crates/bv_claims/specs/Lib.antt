-- Reservations of blocks: their rule, what each step tells, and what callers say of tokens.
pub mod Blocks
pub mod Views
pub mod Rule
pub mod Steps
pub mod Search
pub mod Laws
pub mod Tokens
