-- The state machine of a volume: its state, its steps, its histories, and what these leave.
pub mod Change
pub mod Choice
pub mod Deeds
pub mod History
pub mod Laws
pub mod Log
pub mod Order
pub mod Room
pub mod State
pub mod Step
pub mod Synced
pub mod SyncedLaws
