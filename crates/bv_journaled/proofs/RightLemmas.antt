-- Blocks that are read as the disk has them, from run to run.
use Rattle.std.proofs.Common.{◌≡◌, ℕ, ◌≤◌, ◌<◌, ◌+◌, ◌^◌, ◌%◌, List, [], ◌∷◌, ◌++◌, ◌⊎◌, length, drop, Bool, true, false, cond, eqb, Option, Some, None, IfSome, Result, Ok, Err, OnOk, OnErr, refl, ap, sym, ◌∙◌, subst, inl, inr, arith}
use Rattle.std.specs.Prelude.{Contains, option_map}
use Rattle.spec_tree.specs.declared.Digest.{Digest}
use Rattle.spec_disk.specs.declared.event.Event.{Event}
use Rattle.spec_disk.specs.declared.event.Event.TheVariants.{Write, Sync}
use Rattle.spec_disk.specs.Disk.{Blocks, reads_right, reads_right_from}
use Rattle.spec_disk.specs.Images.{written_to}
use Rattle.spec_disk.proofs.ImageLemmas.{written_to-other}
use Rattle.spec_disk.proofs.ReadLemmas.{reads_right_from-append}
use Rattle.spec_record.specs.declared.geometry.Geometry.{Geometry}
use Rattle.spec_record.specs.declared.info.Info.{Info}
use Rattle.spec_record.specs.Geometry.{block_at, ring_slots, total_blocks}
use Rattle.bv_device.specs.Plan.{Follows, IsPlan, a_write}
use Rattle.bv_device.specs.Reads.{ReadsRight}
use Rattle.bv_device.specs.Seen.{Seen, Performs}
use Rattle.bv_device.specs.Told.{Disk}
use Rattle.bv_journal.specs.Plans.{checkpoint_plan, ring_writes}
use Rattle.bv_ring.specs.Answers.{Appends}
use Rattle.bv_ring.specs.Cursor.{Cursor, IsCursor, emptied, past}
use Rattle.bv_ring.specs.declared.ring_fault.RingFault.{RingFault}
use Rattle.bv_ring.specs.declared.ring_fault.RingFault.TheVariants.{DeviceFault, NumberEnd}
use Rattle.bv_store.specs.Stored.{blocks_in}
use Rattle.bv_txn.specs.declared.change.Change.{Change}
use Rattle.bv_journaled.specs.declared.prepared.Prepared.{Prepared}
use Rattle.bv_journaled.specs.Since.{since}
use Rattle.bv_journaled.specs.Standing.{IsHeld, IsPrepared, IsStanding, PlacedRight, Standing, placed_at}
use Rattle.bv_journaled.proofs.QuietLemmas.{checkpoint_spares, ring_spares, written_other}
use Rattle.bv_journaled.proofs.RowLemmas.{some_since}
use Rattle.bv_journaled.proofs.RunLemmas.{run_came}
use Rattle.bv_device.proofs.PlanLemmas.{Follows-none}

-- ---- one block

-- events that write nothing to a block leave it right
unwritten_right : (x : ℕ) (q : List Event) → written_to x q ≡ [] → reads_right_from true x q ≡ true
unwritten_right x [] none = refl
unwritten_right x (Write at bytes ok ∷ q) none =
    let other = written_to-other at bytes ok q x none in
    ap (λ (t : Bool). reads_right_from (cond t ok true) x q) other.0 ∙ unwritten_right x q other.1
unwritten_right x (Sync true ∷ q) none = unwritten_right x q none
unwritten_right x (Sync false ∷ q) none = unwritten_right x q none

then_right : (x : ℕ) (p q : List Event) → written_to x q ≡ [] → reads_right p x ≡ true → reads_right (p ++ q) x ≡ true
then_right x p q none right =
    reads_right_from-append true x p q ∙ ap (λ (t : Bool). reads_right_from t x q) right ∙ unwritten_right x q none

either_true : (t : Bool) → cond t true true ≡ true
either_true true = refl
either_true false = refl

-- a plan that is done leaves right what was
pub plan_right : (x : ℕ) (plan : List Event) → IsPlan plan → reads_right_from true x plan ≡ true
plan_right x [] planned = refl
plan_right x (Write at bytes true ∷ plan) planned =
    ap (λ (t : Bool). reads_right_from t x plan) (either_true (eqb at x)) ∙ plan_right x plan planned
plan_right x (Write at bytes false ∷ plan) planned = absurd planned
plan_right x (Sync true ∷ plan) planned = plan_right x plan planned
plan_right x (Sync false ∷ plan) planned = absurd planned

-- an Ok sync makes all blocks right, and a plan that is done leaves them so
synced_right : (x : ℕ) (p plan : List Event) → IsPlan plan → reads_right (p ++ (Sync true ∷ plan)) x ≡ true
synced_right x p plan planned = reads_right_from-append true x p (Sync true ∷ plan) ∙ plan_right x plan planned

-- ---- the blocks of blobs

-- a run leaves them right where its plan writes to none of them
pub right_run : {T E : Type 0} (r : Result T E) (plan : List Event) (g : Geometry) (placed : List (Digest × List ℕ)) (n : ℕ) (o new : Option Disk) → IfSome o (λ d. n ≤ length d.trace) → Follows r plan o new
    → ((b : ℕ) → Contains (blocks_in placed) b → written_to (block_at g b) plan ≡ []) → IfSome (option_map (since n) o) (PlacedRight g placed) → IfSome (option_map (since n) new) (PlacedRight g placed)
right_run r plan g placed n None new long f spares right =
    subst (λ (x : Option Disk). IfSome (option_map (since n) x) (PlacedRight g placed)) (sym (Follows-none r plan new f)) tt
right_run r plan g placed n (Some d) new long f spares right =
    let came = run_came r plan d new f in
    subst (λ (x : Option Disk). IfSome x (PlacedRight g placed)) (sym (some_since n d came.events new long came.is))
    (λ b of. then_right (block_at g b) (drop n d.trace) came.events (came.spared (block_at g b) (spares b of)) (right b of))

-- a run that began with a sync and did all of its plan leaves every block right
pub right_synced : {T E : Type 0} (r : Result T E) (v : T) (plan : List Event) (n : ℕ) (o new : Option Disk) → IfSome o (λ d. n ≤ length d.trace) → IsPlan plan → Follows r (Sync true ∷ plan) o new → r ≡ Ok v
    → IfSome (option_map (since n) new) ReadsRight
right_synced r v plan n None new long planned f ok =
    subst (λ (x : Option Disk). IfSome (option_map (since n) x) ReadsRight) (sym (Follows-none r (Sync true ∷ plan) new f)) tt
right_synced {T} {E} r v plan n (Some d) new long planned f ok =
    let came = run_came r (Sync true ∷ plan) d new f in
    let all : came.events ≡ Sync true ∷ plan = subst (λ (x : Result T E). OnOk x (came.events ≡ Sync true ∷ plan)) ok came.ok in
    subst (λ (x : Option Disk). IfSome x ReadsRight) (sym (some_since n d came.events new long came.is))
    (λ b. ap (λ (q : List Event). reads_right (drop n d.trace ++ q) b) all ∙ synced_right b (drop n d.trace) plan planned)

-- where every block is right, so are those of blobs
pub right_all : (g : Geometry) (placed : List (Digest × List ℕ)) (o : Option Disk) → IfSome o ReadsRight → IfSome o (PlacedRight g placed)
right_all g placed None h = tt
right_all g placed (Some d) h = λ b of. h (block_at g b)

-- a block that is none of a blob is written
pub put_spares : (s : Standing) (at : ℕ) (bytes : List ℕ) → ¬ IsHeld s at → (b : ℕ) → Contains (blocks_in (placed_at s.meta.geometry s.meta.blocks)) b → written_to (block_at s.meta.geometry b) (a_write (block_at s.meta.geometry at) bytes) ≡ []
put_spares s at bytes free b of =
    written_other (block_at s.meta.geometry at) (block_at s.meta.geometry b) bytes [] (λ e.
    let same : b ≡ at = omega (arith, e) in free (inl (subst (Contains (blocks_in (placed_at s.meta.geometry s.meta.blocks))) same of)))

-- how many events were told before
pub long_enough : (o : Option Disk) (n calls : ℕ) → n ≤ calls → IfSome o (λ d. length d.trace ≡ calls) → IfSome o (λ d. n ≤ length d.trace)
long_enough None n calls le is = tt
long_enough (Some d) n calls le is = omega (arith, le, is)

-- ---- a store over a run

-- what stays where the device has moved on
pub moved : (s : Standing) (dev : Seen) (gone : List Change) → IsStanding s → dev.block_count ≡ s.device.block_count → s.device.calls_made ≤ dev.calls_made → IfSome dev.told (λ d. length d.trace ≡ dev.calls_made)
    → IfSome (option_map (since s.opened) dev.told) (PlacedRight s.meta.geometry (placed_at s.meta.geometry s.meta.blocks)) → IsStanding (record s { device = dev; gone = gone })
moved s dev gone is blocks calls told right = record {
  lawful = is.lawful;
  cursor = is.cursor;
  same = is.same;
  total = subst (λ (n : ℕ). total_blocks s.meta.geometry ≤ n) (sym blocks) is.total;
  count = is.count;
  formed = is.formed;
  opened = omega (arith, is.opened, calls);
  told = told;
  prepared = is.prepared;
  right = right;
}

-- a run that writes to no block of a blob
pub ran : {T E : Type 0} (r : Result T E) (plan : List Event) (s : Standing) (dev : Seen) (gone : List Change) → IsStanding s → Performs r plan s.device dev → IfSome dev.told (λ d. length d.trace ≡ dev.calls_made)
    → ((b : ℕ) → Contains (blocks_in (placed_at s.meta.geometry s.meta.blocks)) b → written_to (block_at s.meta.geometry b) plan ≡ []) → IsStanding (record s { device = dev; gone = gone })
ran r plan s dev gone is performs told spares =
    moved s dev gone is performs.blocks performs.calls.later told
    (right_run r plan s.meta.geometry (placed_at s.meta.geometry s.meta.blocks) s.opened s.device.told dev.told (long_enough s.device.told s.opened s.device.calls_made is.opened is.told) performs.plan spares is.right)

-- the ring moves on, too
pub ring_moved : (s : Standing) (c : Cursor) → IsStanding s → IsCursor c → c.geometry ≡ s.cursor.geometry → (c.number ≡ s.cursor.number) ⊎ (s.planned ≡ None) → IsStanding (record s { cursor = c })
ring_moved s c is cursor geometry number = record {
  lawful = is.lawful;
  cursor = cursor;
  same = geometry ∙ is.same;
  total = is.total;
  count = is.count;
  formed = is.formed;
  opened = is.opened;
  told = is.told;
  prepared = elim number [
    | inl same ↦ subst (λ (n : ℕ). IfSome s.planned (IsPrepared s.meta.geometry s.meta.blocks n)) (sym same) is.prepared
    | inr none ↦ subst (λ (o : Option Prepared). IfSome o (IsPrepared s.meta.geometry s.meta.blocks c.number)) (sym none) tt
  ];
  right = is.right;
}

emptied_cursor : (c : Cursor) → IsCursor c → IsCursor (emptied c)
emptied_cursor c is = record { lawful = is.lawful; slot = is.slot; number = is.number; room = omega arith }

past_cursor : (c : Cursor) (n : ℕ) → IsCursor c → c.number < 2 ^ 62 → IsCursor (past c n)
past_cursor c n is low =
    let some : 0 < ring_slots c.geometry = omega (arith, is.lawful.journal.from_low) in
    let within : (c.slot + n) % ring_slots c.geometry < ring_slots c.geometry = omega arith in
    record { lawful = is.lawful; slot = within; number = record { from_low = omega arith; to_high = omega (arith, low) }; room = omega (arith, is.room) }

-- a checkpoint
pub in_place_stands : {T E : Type 0} (r : Result T E) (s : Standing) (dev : Seen) (c : Cursor) (g : Geometry) (blocks : Blocks) (next : Info) → IsStanding s → Performs r (checkpoint_plan g blocks next) s.device dev → g ≡ s.meta.geometry → blocks ≡ s.meta.blocks
    → IfSome dev.told (λ d. length d.trace ≡ dev.calls_made) → (c ≡ emptied s.cursor) ⊎ (c ≡ s.cursor) → IsStanding (record s { device = dev; cursor = c })
in_place_stands r s dev c g blocks next is performs geometry same told ends =
    let first : IsStanding (record s { device = dev }) =
    ran r (checkpoint_plan g blocks next) s dev s.gone is performs told (λ b of.
    subst (λ (x : Geometry). written_to (block_at s.meta.geometry b) (checkpoint_plan x blocks next) ≡ []) (sym geometry)
    (checkpoint_spares s.meta.geometry is.lawful blocks next (ap (length {A = List ℕ}) same ∙ is.count) b)) in
    elim ends [
      | inl empty ↦ subst (λ (x : Cursor). IsStanding (record s { device = dev; cursor = x })) (sym empty) (ring_moved (record s { device = dev }) (emptied s.cursor) first (emptied_cursor s.cursor is.cursor) refl (inl refl))
      | inr stays ↦ subst (λ (x : Cursor). IsStanding (record s { device = dev; cursor = x })) (sym stays) first
    ]

-- the blocks of an entry
pub append_stands : {T E : Type 0} (r : Result T E) (s : Standing) (dev : Seen) (c : Cursor) (g : Geometry) (slot : ℕ) (blocks : Blocks) → IsStanding s → g ≡ s.meta.geometry → Performs r (ring_writes g slot blocks) s.device dev
    → IfSome dev.told (λ d. length d.trace ≡ dev.calls_made) → (c ≡ past s.cursor (length blocks)) ⊎ (c ≡ s.cursor) → s.planned ≡ None → s.cursor.number < 2 ^ 62 → IsStanding (record s { device = dev; cursor = c })
append_stands r s dev c g slot blocks is geometry performs told ends none low =
    let first : IsStanding (record s { device = dev }) =
    ran r (ring_writes g slot blocks) s dev s.gone is performs told (λ b of.
    subst (λ (x : Geometry). written_to (block_at s.meta.geometry b) (ring_writes x slot blocks) ≡ []) (sym geometry) (ring_spares s.meta.geometry is.lawful slot blocks b)) in
    elim ends [
      | inl on ↦ subst (λ (x : Cursor). IsStanding (record s { device = dev; cursor = x })) (sym on) (ring_moved (record s { device = dev }) (past s.cursor (length blocks)) first (past_cursor s.cursor (length blocks) is.cursor low) refl (inr none))
      | inr stays ↦ subst (λ (x : Cursor). IsStanding (record s { device = dev; cursor = x })) (sym stays) first
    ]

-- an append whose number isn't the last did its plan, or a beginning of it
pub appended : (r : Result (Unit {0}) RingFault) (n : ℕ) (plan : List Event) (old new : Seen) → Appends r n plan old new → n < 2 ^ 62 → Performs r plan old new
appended (Ok v) n plan old new h low = h.1
appended (Err NumberEnd) n plan old new h low = absurd (omega (arith, h.0, low))
appended (Err (DeviceFault f)) n plan old new h low = h.2

-- one of two, by the answer
pub by_answer : {T E : Type 0} (r : Result T E) (P Q : Type 0) → OnOk r P → OnErr r Q → P ⊎ Q
by_answer (Ok v) P Q ok err = inl ok
by_answer (Err e) P Q ok err = inr err
