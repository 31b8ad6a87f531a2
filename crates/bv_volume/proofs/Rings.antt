-- What an answer says of the ring.
use Rattle.std.proofs.Common.{◌≡◌, ℕ, Option, Some, None, Result, Ok, Err, refl}
use Rattle.spec_core.specs.declared.reply.Reply.TheVariants.{Published}
use Rattle.bv_ledger.specs.Answers.{device_reply, refusal_reply}
use Rattle.bv_ledger.specs.declared.faults.Refusal.{Refusal}
use Rattle.bv_ledger.specs.declared.faults.Refusal.TheVariants.{Stopped, NumberEnd}
use Rattle.bv_store.specs.Stored.{Stored, TakesRing}
use Rattle.bv_volume.specs.Answers.{settle_reply}
use Rattle.bv_volume.specs.Wrote.{RingFalls}
use Rattle.bv_volume.specs.declared.settling.SettleFault.{SettleFault}

-- a settle that is Ok wrote its entry
pub ring_settled : (r : Result (Unit {0}) SettleFault) (failed : Option ℕ) (old new : Stored) → settle_reply r ≡ Some (device_reply Published failed) → (failed ≡ None → RingFalls old new) → TakesRing r old new
ring_settled (Ok v) None old new is falls = falls refl
ring_settled (Ok v) (Some f) old new is falls = absurd cc
ring_settled (Err x) failed old new is falls = tt

-- a settle that is refused is not Ok
pub ring_refused : (r : Result (Unit {0}) SettleFault) (refusal : Refusal) (old new : Stored) → settle_reply r ≡ Some (refusal_reply refusal) → TakesRing r old new
ring_refused (Ok v) (Stopped f) old new is = absurd cc
ring_refused (Ok v) NumberEnd old new is = absurd cc
ring_refused (Err x) refusal old new is = tt
