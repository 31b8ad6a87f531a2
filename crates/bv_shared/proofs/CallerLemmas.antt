-- For callers: a value's entries are the events of its volume; and what one event more leaves.
pub use Rattle.bv_shared.specs.ServeLaws.{history_is}
pub use Rattle.bv_shared.proofs.GainLemmas.{own_is}
pub use Rattle.bv_shared.proofs.SinceLemmas.{caused_more, one_disk_more}
