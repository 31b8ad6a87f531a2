-- A lock whose users know their own history: its rule, its steps, and what callers say of shares.
pub mod Entries
pub mod Kinds
pub mod Rule
pub mod Tokens
pub mod Views
