-- What a device tells since a mount began: the recovery, and nothing else.
use Rattle.std.proofs.Common.{◌≡◌, ◌≤◌, ℕ, List, [], length, Option, Some, None, Result, IfSome, ap, sym, ◌∙◌, subst, arith}
use Rattle.std.proofs.Math.Seq.{take-append_seam, drop-append_seam}
use Rattle.std.specs.Prelude.{option_map}
use Rattle.spec_disk.specs.declared.event.Event.{Event}
use Rattle.spec_disk.specs.Disk.{Blocks, now_after}
use Rattle.spec_disk.specs.Images.{IsSettled}
use Rattle.spec_disk.proofs.EventLemmas.{length-now_after}
use Rattle.spec_record.specs.declared.info.Info.{Info}
use Rattle.spec_record.specs.Geometry.{ring_slots, total_blocks}
use Rattle.spec_image.specs.Blobs.{blob_map}
use Rattle.spec_image.specs.Volume.{blobs}
use Rattle.spec_inspect.specs.declared.mount_fault.MountFault.{MountFault}
use Rattle.spec_core.specs.History.{opening_map}
use Rattle.spec_crash.specs.Crash.{HoldsWhole, CrashPrefix}
use Rattle.spec_rest.specs.Rest.{Map}
use Rattle.bv_device.specs.Reads.{ReadsRight}
use Rattle.bv_device.specs.Told.{Disk, now_of, disk_with}
use Rattle.bv_device.specs.Plan.{with_events, Follows}
use Rattle.bv_device.specs.Seen.{Seen}
use Rattle.bv_device.proofs.PlanLemmas.{with_events-some, with_events-none}
use Rattle.bv_journal.specs.Rests.{AtRest}
use Rattle.bv_mount.specs.declared.inspected.Inspected.{Inspected}
use Rattle.bv_mount.specs.Inspects.{inspection, IsInspected}
use Rattle.bv_mount.specs.Recovers.{plan_for, next_for, KeepsVolume}
use Rattle.bv_mount.proofs.RunLemmas.{planned, recovery_keeps, run_keeps}
use Rattle.bv_ring.specs.Cursor.{Cursor, cursor_at, StandsBehind}
use Rattle.bv_journaled.specs.Kept.{map_at, KeepsMap}
use Rattle.bv_journaled.specs.Since.{began_at, since}
use Rattle.bv_journaled.specs.Standing.{Standing, stored_of, Both}
use Rattle.bv_journaled.proofs.RightLemmas.{plan_right}
use Rattle.bv_volume.specs.Seen.{Opened}
use Rattle.bv_mounted.specs.Mounts.{records_in, history_of, recovered, first_standing, WasRecovered}
use Rattle.bv_mounted.proofs.SafeLemmas.{opening_is, stands, recovery_safe, rests_after, kept_after, image_blobs}

-- ---- the disk before and since

began_seam : (d : Disk) (p : List Event) → began_at (length d.trace) (disk_with d p) ≡ d
began_seam d p = let front = take-append_seam d.trace p in λ k. record { base = d.base; trace = front k }

since_seam : (d : Disk) (p : List Event) → since (length d.trace) (disk_with d p) ≡ record { base = now_of d; trace = p }
since_seam d p =
    let front = take-append_seam d.trace p in
    let back = drop-append_seam d.trace p in
    λ k. record { base = now_after d.base (front k); trace = back k }

began_then : (n : ℕ) (d : Disk) (p : List Event) → length d.trace ≡ n → began_at n (disk_with d p) ≡ d
began_then n d p long = subst (λ (k : ℕ). began_at k (disk_with d p) ≡ d) long (began_seam d p)

since_then : (i : Inspected) (n : ℕ) (d : Disk) → length d.trace ≡ n → since n (disk_with d (plan_for (inspection i))) ≡ recovered i d
since_then i n d long = subst (λ (k : ℕ). since k (disk_with d (plan_for (inspection i))) ≡ recovered i d) long (since_seam d (plan_for (inspection i)))

module _ (i : Inspected) (n : ℕ) where
  abbrev plan : List Event
  plan = plan_for (inspection i)

  -- what is told after the plan
  pub told_began : (old new : Option Disk) → IfSome old (λ d. length d.trace ≡ n) → new ≡ with_events old plan → option_map (began_at n) new ≡ old
  told_began None new long is = ap (option_map (began_at n)) (is ∙ with_events-none plan)
  told_began (Some d) new long is = ap (option_map (began_at n)) (is ∙ with_events-some d plan) ∙ ap (λ (x : Disk). Some x) (began_then n d plan long)

  pub told_since : (old new : Option Disk) → IfSome old (λ d. length d.trace ≡ n) → new ≡ with_events old plan → option_map (since n) new ≡ option_map (recovered i) old
  told_since None new long is = ap (option_map (since n)) (is ∙ with_events-none plan)
  told_since (Some d) new long is = ap (option_map (since n)) (is ∙ with_events-some d plan) ∙ ap (λ (x : Disk). Some x) (since_then i n d long)

  pub told_was : (old new : Option Disk) → IfSome old (λ d. length d.trace ≡ n) → IfSome old (λ d. IsSettled d.trace → IsInspected (now_of d) i) → new ≡ with_events old plan → IfSome new (WasRecovered i n)
  told_was None new long gives is = subst (λ (o : Option Disk). IfSome o (WasRecovered i n)) (sym (is ∙ with_events-none plan)) tt
  told_was (Some d) new long gives is =
      let began : began_at n (disk_with d plan) ≡ d = began_then n d plan long in
      subst (λ (o : Option Disk). IfSome o (WasRecovered i n)) (sym (is ∙ with_events-some d plan))
      (record {
        is = since_then i n d long ∙ ap (recovered i) (sym began);
        gives = subst (λ (x : Disk). IsSettled x.trace → IsInspected (now_of x) i) (sym began) gives;
      })

  -- ---- the theorem of stops, and a store that can go on

  settled_safe : (d : Disk) (c : Cursor) (Both : Map → Map → Type 0) (blocks : ℕ) → length d.base ≡ blocks → total_blocks i.geometry ≤ blocks → WasRecovered i n d
      → c ≡ cursor_at i.geometry i.replay.next_slot i.replay.next_number (ring_slots i.geometry)
      → ((x : Info) → AtRest i.meta.geometry x [] None i.meta.blocks (since n d) → StandsBehind c x [] → KeepsMap i.meta.geometry (since n d) i.meta.blocks (map_at i.meta.geometry i.meta.blocks)
      → Both (map_at i.meta.geometry i.meta.blocks) (map_at i.meta.geometry i.meta.blocks))
      → IsSettled (began_at n d).trace → HoldsWhole (now_of (began_at n d)) (opening_map (history_of i))
      → CrashPrefix (since n d).base (since n d).trace (history_of i) × Both (opening_map (history_of i)) (opening_map (history_of i))
  settled_safe d c Both blocks long total was ring both settled holds =
      let base : Blocks = now_of (began_at n d) in
      let is : IsInspected base i = was.gives settled in
      let room : total_blocks i.geometry ≤ length base = omega (arith, long, total, length-now_after d.base (began_at n d).trace) in
      let opens = opening_is (blob_map (records_in i)) in
      let whole : HoldsWhole base (blob_map (records_in i)) = subst (HoldsWhole base) opens holds in
      let behind : StandsBehind c (next_for (inspection i)) [] =
      subst (λ (x : Cursor). StandsBehind x (next_for (inspection i)) []) (sym ring) (stands i.geometry i.replay.next_slot i.replay.next_number i.lawful.within.slot) in (
        subst (λ (x : Disk). CrashPrefix x.base x.trace (history_of i)) (sym was.is) (recovery_safe i base is room whole),
        subst (λ (m : Map). Both m m) (sym opens)
            (both (next_for (inspection i))
            (subst (λ (x : Disk). AtRest i.meta.geometry (next_for (inspection i)) [] None i.meta.blocks x) (sym was.is) (rests_after i base is room whole))
            behind
            (subst (λ (x : Disk). KeepsMap i.meta.geometry x i.meta.blocks (map_at i.meta.geometry i.meta.blocks)) (sym was.is) (kept_after i base is room whole))),
      )

  pub told_safe : (o : Option Disk) (c : Cursor) (Both : Map → Map → Type 0) (blocks : ℕ) → IfSome o (λ d. length d.base ≡ blocks) → total_blocks i.geometry ≤ blocks → IfSome o (WasRecovered i n)
      → c ≡ cursor_at i.geometry i.replay.next_slot i.replay.next_number (ring_slots i.geometry)
      → IfSome (option_map (since n) o) (λ d. (x : Info) → AtRest i.meta.geometry x [] None i.meta.blocks d → StandsBehind c x [] → KeepsMap i.meta.geometry d i.meta.blocks (map_at i.meta.geometry i.meta.blocks)
      → Both (map_at i.meta.geometry i.meta.blocks) (map_at i.meta.geometry i.meta.blocks))
      → IfSome (option_map (began_at n) o) (λ d. IsSettled d.trace × HoldsWhole (now_of d) (opening_map (history_of i)))
      → IfSome (option_map (since n) o) (λ d. CrashPrefix d.base d.trace (history_of i) × Both (opening_map (history_of i)) (opening_map (history_of i)))
  told_safe None c Both blocks long total was ring both opened = tt
  told_safe (Some d) c Both blocks long total was ring both opened = settled_safe d c Both blocks long total was ring both opened.0 opened.1

-- so a store that begins on such a device is safe
pub store_safe : (i : Inspected) (n : ℕ) (dev : Seen) (ring : Cursor) (s : Standing) → s ≡ first_standing dev n i.meta ring → IfSome dev.told (λ d. length d.base ≡ dev.block_count) → total_blocks i.geometry ≤ dev.block_count
    → IfSome dev.told (WasRecovered i n) → ring ≡ cursor_at i.geometry i.replay.next_slot i.replay.next_number (ring_slots i.geometry)
    → IfSome (stored_of s).told (λ d. (x : Info) → AtRest i.meta.geometry x [] None i.meta.blocks d → StandsBehind ring x [] → KeepsMap i.meta.geometry d i.meta.blocks (map_at i.meta.geometry i.meta.blocks)
    → Both s (map_at i.meta.geometry i.meta.blocks) (map_at i.meta.geometry i.meta.blocks))
    → Opened (stored_of s) (history_of i) → IfSome (stored_of s).told (λ d. CrashPrefix d.base d.trace (history_of i) × Both s (opening_map (history_of i)) (opening_map (history_of i)))
store_safe i n dev ring s is long total was at =
    subst (λ (x : Standing). IfSome (stored_of x).told (λ d. (y : Info) → AtRest i.meta.geometry y [] None i.meta.blocks d → StandsBehind ring y [] → KeepsMap i.meta.geometry d i.meta.blocks (map_at i.meta.geometry i.meta.blocks)
    → Both x (map_at i.meta.geometry i.meta.blocks) (map_at i.meta.geometry i.meta.blocks))
    → Opened (stored_of x) (history_of i) → IfSome (stored_of x).told (λ d. CrashPrefix d.base d.trace (history_of i) × Both x (opening_map (history_of i)) (opening_map (history_of i)))) (sym is)
    (λ both opened. told_safe i n dev.told ring (Both (first_standing dev n i.meta ring)) dev.block_count long total was at both opened)

-- ---- what the mount answers of a settled device

pub told_blobs : (i : Inspected) (old : Option Disk) → IfSome old (λ d. IsSettled d.trace → IsInspected (now_of d) i) → IfSome old (λ d. IsSettled d.trace → blobs (now_of d) ≡ Some (opening_map (history_of i)))
told_blobs i None gives = tt
told_blobs i (Some d) gives = λ settled. image_blobs i (now_of d) (gives settled) ∙ ap (λ (m : Map). Some m) (sym (opening_is (blob_map (records_in i))))

-- a recovery that failed keeps the blobs too
pub told_keeps : (i : Inspected) (r : Result ℕ MountFault) (old new : Option Disk) (count : ℕ) → IfSome old (λ d. length d.base ≡ count) → total_blocks i.geometry ≤ count
    → IfSome old (λ d. IsSettled d.trace → IsInspected (now_of d) i) → Follows r (plan_for (inspection i)) old new → IfSome old (λ d. IsSettled d.trace → KeepsVolume d new)
told_keeps i r None new count long total gives follows = tt
told_keeps i r (Some d) new count long total gives follows =
    λ settled. run_keeps d (plan_for (inspection i))
    (recovery_keeps i (now_of d) (gives settled) (omega (arith, long, total, length-now_after d.base d.trace))) r new follows

-- every block reads right since then: what a recovery writes was Ok
pub told_right : (i : Inspected) (n : ℕ) (o : Option Disk) → IfSome o (WasRecovered i n) → IfSome (option_map (since n) o) ReadsRight
told_right i n None was = tt
told_right i n (Some d) was = subst ReadsRight (sym was.is) (λ b. plan_right b (plan_for (inspection i)) (planned (inspection i)))
