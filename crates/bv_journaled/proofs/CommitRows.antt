-- The row of a commit, over what the store shows.
use Rattle.std.proofs.Common.{◌≡◌, ◌≤◌, ◌⊎◌, ℕ, ◌+◌, ◌-◌, ◌%◌, List, [], ◌∷◌, ◌++◌, length, Bool, true, false, cond, leb, Option, Some, None, Result, Ok, Err, refl, ap, sym, ◌∙◌, subst, inl, inr, arith, length-append}
use Rattle.std.proofs.lemmas.Bool.Decides.{nat_tests}
use Rattle.std.proofs.lemmas.List.Sums.{sum_by-append, sum_by-cons}
use Rattle.std.specs.Prelude.{Contains, option_map, IfSome, IsSomeAnd, is_some, OnOk, OnErr}
use Rattle.spec_disk.specs.declared.event.Event.{Event}
use Rattle.spec_record.specs.declared.geometry.Geometry.{Geometry}
use Rattle.spec_record.specs.declared.info.Info.{Info}
use Rattle.spec_record.specs.Geometry.{block_at, meta_blocks, ring_slots}
use Rattle.spec_record.specs.Entry.{Entry}
use Rattle.spec_record.specs.EntryBlocks.{entry_slots}
use Rattle.spec_image.specs.Chain.{BlobRecord}
use Rattle.spec_image.specs.Metadata.{Metadata}
use Rattle.spec_image.specs.Replay.{slots_of_all}
use Rattle.spec_image.specs.WellFormed.{records_of, is_well_formed}
use Rattle.spec_image.proofs.TornLemmas.{mod_shift}
use Rattle.spec_image.proofs.WellFormedLemmas.{well_formed_parts}
use Rattle.spec_core.specs.Log.{changed}
use Rattle.spec_meta.specs.Blocks.{metadata_at, patched}
use Rattle.spec_meta.specs.Change.{Change as MetaChange, Purge as Purged, after_all}
use Rattle.spec_meta.proofs.ChangeLemmas.{changes_keep}
use Rattle.spec_rest.specs.Rest.{Map}
use Rattle.bv_device.specs.Plan.{a_sync}
use Rattle.bv_device.specs.Told.{Disk}
use Rattle.bv_device.specs.Seen.{Seen, Performs}
use Rattle.bv_journal.specs.Plans.{ring_writes, checkpoint_plan}
use Rattle.bv_ring.specs.Cursor.{Cursor, StandsBehind, past, emptied, info_at_cursor}
use Rattle.bv_store.specs.declared.publication.Publication.{Publication}
use Rattle.bv_store.specs.Stored.{Entry as Asked, Counts, Grows, SameData, LeavesThird, TakesRing, IsThere, HasBlob, blocks_on, blocks_in, entry_changes, nodes_taken, placed_after, taken_by}
use Rattle.bv_txn.specs.Metas.{MetaBlocks}
use Rattle.bv_journaled.specs.declared.prepared.Prepared.{Prepared}
use Rattle.bv_journaled.specs.Kept.{records_at, IsOf, Keeps}
use Rattle.bv_journaled.specs.Standing.{Standing, placed_of, placed_at, stored_of, asked, IsHeld, IsStanding, IsRecordOf, IsPrepared, Both}
use Rattle.bv_journaled.specs.Entering.{with_room, entry_plan, StopsShort}
use Rattle.bv_journaled.proofs.CommitLemmas.{entry_is_plan, entry_spares, entry_stops, entry_done, roomy, enough, long}
use Rattle.bv_journaled.proofs.EntryLemmas.{of_changes}
use Rattle.bv_journaled.proofs.PatchLemmas.{patched_same, all_stay, purge_frees, freed_of, freed_known}
use Rattle.bv_journaled.proofs.PlacedLemmas.{placed_blocks, placed_known}
use Rattle.bv_journaled.proofs.RowLemmas.{run_counts, run_calls, run_grows, told_rests, rests_told, more_leaves, more_spares, ok_from, on_ok, on_ok_at, on_ok_from, on_err_from, either}

-- ---- the ring behind one entry more

behind_one : (c : Cursor) (i : Info) (es : List Entry) (e : Entry) (n : ℕ) → n ≡ entry_slots e → n ≤ c.room → StandsBehind c i es → StandsBehind (past c n) i (es ++ e ∷ [])
behind_one c i es e n size fits stands =
    let one : slots_of_all (e ∷ []) ≡ entry_slots e + 0 = sum_by-cons entry_slots e [] in
    let sum : slots_of_all (es ++ e ∷ []) ≡ slots_of_all es + n = omega (arith, sum_by-append entry_slots es (e ∷ []), one, size) in
    let all : i.start + (slots_of_all es + n) ≡ i.start + slots_of_all (es ++ e ∷ []) = omega (arith, sum) in
    record {
      slot = ap (λ (x : ℕ). (x + n) % ring_slots c.geometry) stands.slot ∙ shift ∙ ap (λ (x : ℕ). x % ring_slots c.geometry) all;
      number = omega (arith, stands.number, length-append es (e ∷ []));
      room = omega (arith, sum, stands.room, fits);
    }
  where
    shift : ((i.start + slots_of_all es) % ring_slots c.geometry + n) % ring_slots c.geometry ≡ (i.start + (slots_of_all es + n)) % ring_slots c.geometry
    shift = mod_shift i.start (slots_of_all es) n (ring_slots c.geometry)

module _ (s : Standing) (is : IsStanding s) (p : Prepared) (prep : IsPrepared s.meta.geometry s.meta.blocks s.cursor.number p) where
  abbrev g : Geometry
  g = s.meta.geometry

  abbrev m : Metadata
  m = metadata_at s.meta.geometry s.meta.blocks

  abbrev plan : List Event
  plan = entry_plan s.meta.geometry s.cursor s.meta.blocks p.blocks.items

  abbrev n : ℕ
  n = length p.blocks.items

  abbrev new_cursor : Cursor
  new_cursor = past (with_room s.cursor n) n

  -- the store after the entry
  abbrev pub after : Seen → Standing
  after dev = record s {
    device = dev;
    meta = record s.meta { blocks = patched p.entry.targets s.meta.blocks };
    cursor = past (with_room s.cursor (length p.blocks.items)) (length p.blocks.items);
    gone = p.changes.items;
    planned = None;
  }

  -- ---- the blocks that are held

  made_formed : is_well_formed (after_all m prep.changes) ≡ true
  made_formed = changes_keep m prep.changes is.formed prep.fit

  taken_of : (o : Option Publication) (r : BlobRecord) (x : ℕ) → IsSomeAnd o (IsRecordOf r) → IsOf r x → Contains (taken_by o) x
  taken_of None r x is of = absurd is
  taken_of (Some q) r x is of = subst (λ (l : List ℕ). Contains l x) is.blocks of

  old_or_taken : (dev : Seen) (x : ℕ) → IsHeld (after dev) x → IsHeld s x ⊎ Contains (taken_by p.published) x
  old_or_taken dev x held = elim held [
    | inl placed ↦
        let known = placed_known (records_at g (patched p.entry.targets s.meta.blocks)) x placed in
        let there : Contains (records_of (after_all m prep.changes)) known.0 = subst (λ (y : Metadata). Contains (records_of y) known.0) prep.plans.says known.1 in
        elim (of_changes m prep.changes known.0 is.formed prep.fit there) [
          | inl published ↦ inr (taken_of p.published known.0 x (prep.published known.0 published) known.2)
          | inr old ↦ inl (inl (placed_blocks m known.0 x (well_formed_parts m is.formed) old known.2))
        ]
    | inr gone ↦
        let found = freed_of p.changes.items x gone in
        let among : Contains prep.changes (Purged found.0 found.1) = subst (λ (l : List MetaChange). Contains l (Purged found.0 found.1)) (sym prep.changes_are) found.2 in
        elim (freed_known m prep.changes found.0 found.1 x is.formed prep.fit among found.3) [
          | inl old ↦ inl (inl (placed_blocks m old.0 x (well_formed_parts m is.formed) old.1 old.2))
          | inr new ↦ inr (taken_of p.published new.0 x (prep.published new.0 new.1) new.2)
        ]
  ]

  short_held : (new : Standing) (x : ℕ) → StopsShort s new → IsHeld new x → IsHeld s x
  short_held new x short held = elim held [
    | inl placed ↦ inl (subst (λ (y : MetaBlocks). Contains (blocks_in (placed_at y.geometry y.blocks)) x) short.meta placed)
    | inr gone ↦ inr (short.gone x gone)
  ]

  pub commit_held : {T E : Type 0} (r : Result T E) (new : Standing) → OnOk r (new ≡ after new.device) → OnErr r (StopsShort s new) → (x : ℕ) → IsHeld new x → IsHeld s x ⊎ Contains (taken_by p.published) x
  commit_held (Ok v) new ok err x held = old_or_taken new.device x (subst (λ (y : Standing). IsHeld y x) ok held)
  commit_held (Err y) new ok err x held = inl (short_held new x err held)

  -- the blocks of what was durable are held after the entry
  old_held : (dev : Seen) (r : BlobRecord) (x : ℕ) → Contains (records_at g s.meta.blocks) r → IsOf r x → IsHeld (after dev) x
  old_held dev r x c of = elim (all_stay m prep.changes r is.formed prep.fit c) [
    | inl purged ↦ inr (purge_frees p.changes.items r.nodes r.extents x (subst (λ (l : List MetaChange). Contains l (Purged r.nodes r.extents)) prep.changes_are purged) of)
    | inr stays ↦
        inl (subst (λ (y : Metadata). Contains (blocks_in (placed_of (records_of y))) x) (sym prep.plans.says)
        (placed_blocks (after_all m prep.changes) r x (well_formed_parts (after_all m prep.changes) made_formed) stays of))
  ]

  -- ---- the disk

  there_on : (told : Option Disk) (d : Disk) → told ≡ Some d → IsThere g told p.published → IfSome p.published (λ q. HasBlob q.root q.blob (blocks_on g d q.blocks.items))
  there_on told d is there = subst (λ (o : Option Disk). IsThere g o p.published) is there

  abbrev pub CommitGrows : Disk → List Event → Type 0
  CommitGrows d more = SameData s.meta.geometry d more × ((a b : Map) → Both s a b → LeavesThird d more a b (changed b (entry_changes b (asked p))))

  pub commit_grows : {T E : Type 0} (r : Result T E) (new : Standing) → new.meta.geometry ≡ s.meta.geometry → new.opened ≡ s.opened → IsThere s.meta.geometry (stored_of s).told p.published
      → Performs r plan s.device new.device → Grows (stored_of s).told (stored_of new).told CommitGrows
  commit_grows r new geometry opened there performs = run_grows r plan s new is geometry opened performs CommitGrows (λ d more told f. (
    λ b. more_spares r d plan more (block_at g b) (entry_spares s is p prep b) f,
    λ a b both.
        let rests = told_rests s d a b told both in
        more_leaves r d plan more _ (entry_is_plan s is p prep) (entry_stops s is p prep d a b rests (there_on (stored_of s).told d told there)) f,
  ))

  pub commit_both : {T E : Type 0} (r : Result T E) (v : T) (dev : Seen) → Performs r plan s.device dev → r ≡ Ok v → IsThere s.meta.geometry (stored_of s).told p.published
      → (a b : Map) → Both s a b → Both (after dev) b (changed b (entry_changes b (asked p)))
  commit_both r v dev performs ok there a b both =
      let made : Map = changed b (entry_changes b (asked p)) in
      rests_told (after dev) b made (stored_of (after dev)).told refl (λ d' e.
      let from = ok_from r v plan s (after dev) is refl refl performs ok d' e in
      let d : Disk = from.0 in
      let rests = told_rests s d a b from.1 both in
      let has = there_on (stored_of s).told d from.1 there in
      let way = roomy s is p prep d a b rests has in
      record {
        info = way.info;
        entries = way.entries;
        more = Some p.entry;
        durable = s.meta.blocks;
        keeps = subst (λ (x : Disk). Keeps g way.info way.entries (Some p.entry) s.meta.blocks x b made) (sym from.2) (entry_done s is p prep d a b rests has);
        newest = patched_same p.entry.targets s.meta.blocks;
        stands = behind_one (with_room s.cursor n) way.info way.entries p.entry n (long s is p prep) (enough s is p prep d a b rests has (leb n s.cursor.room) refl) way.stands;
        older = λ x k c of. old_held dev x k c of;
      })

  -- ---- what else the store shows

  pub commit_number : (dev : Seen) → (after dev).cursor.number ≡ s.cursor.number + 1
  commit_number dev = ap (λ (x : ℕ). x + 1) (each (leb n s.cursor.room))
    where
      each : (t : Bool) → (cond t s.cursor (emptied s.cursor)).number ≡ s.cursor.number
      each true = refl
      each false = refl

-- ---- a commit that was done or failed

at_some : {A : Type 0} (o : Option A) (x : A) (Q : A → Type 0) → o ≡ Some x → IfSome o Q → Q x
at_some o x Q e h = subst (λ y. IfSome y Q) e h

if_asked : (o : Option Prepared) (p : Prepared) (Q : Asked → Type 0) → o ≡ Some p → Q (asked p) → IfSome (option_map asked o) Q
if_asked o p Q e h = subst (λ y. IfSome (option_map asked y) Q) (sym e) h

planned_of : (o : Option Prepared) (e : Asked) → option_map asked o ≡ Some e → (p : Prepared) × (o ≡ Some p) × (asked p ≡ e)
planned_of None e is = absurd cc
planned_of (Some p) e is = (p, refl, cc)

pub some_of : (o : Option Prepared) (e : Asked) → option_map asked o ≡ Some e → is_some o ≡ true
some_of None e is = absurd cc
some_of (Some p) e is = refl

grows_weaker : (old new : Option Disk) (P Q : Disk → List Event → Type 0) → ((d : Disk) (more : List Event) → P d more → Q d more) → Grows old new P → Grows old new Q
grows_weaker None new P Q f h = h
grows_weaker (Some d) new P Q f h = (h.0, h.1, f d h.0 h.2)

abbrev At : Standing → Prepared → Type 0
At s p = IsPrepared s.meta.geometry s.meta.blocks s.cursor.number p

pub record Done {T E : Type 0} (r : Result T E) (s new : Standing) (e : Asked) : Type 0 where
  pub p : Prepared
  pub planned : s.planned ≡ Some p
  pub asks : asked p ≡ e
  pub is : IsStanding s
  pub prep : IsPrepared s.meta.geometry s.meta.blocks s.cursor.number p
  pub performs : Performs r (entry_plan s.meta.geometry s.cursor s.meta.blocks p.blocks.items) s.device new.device
  pub ok : OnOk r (new ≡ after s is p prep new.device)
  pub err : OnErr r (StopsShort s new)

abbrev Makes : Standing → Standing → Prepared → Type 0
Makes s new p = new ≡ record s {
  device = new.device;
  meta = record s.meta { blocks = patched p.entry.targets s.meta.blocks };
  cursor = past (with_room s.cursor (length p.blocks.items)) (length p.blocks.items);
  gone = p.changes.items;
  planned = None;
}

pub done : {T E : Type 0} (r : Result T E) (s new : Standing) (e : Asked) → option_map asked s.planned ≡ Some e → IsStanding s
    → IfSome s.planned (λ p. Performs r (entry_plan s.meta.geometry s.cursor s.meta.blocks p.blocks.items) s.device new.device)
    → OnOk r (IfSome s.planned (Makes s new)) → OnErr r (StopsShort s new) → Done r s new e
done r s new e asks is performs ok err =
    let found = planned_of s.planned e asks in
    record {
      p = found.0;
      planned = found.1;
      asks = found.2;
      is = is;
      prep = at_some s.planned found.0 (At s) found.1 is.prepared;
      performs = at_some s.planned found.0 (λ p. Performs r (entry_plan s.meta.geometry s.cursor s.meta.blocks p.blocks.items) s.device new.device) found.1 performs;
      ok = on_ok_from r (IfSome s.planned (Makes s new)) (Makes s new found.0) ok (λ h. at_some s.planned found.0 (Makes s new) found.1 h);
      err = err;
    }

module _ {T E : Type 0} (r : Result T E) (s new : Standing) (e : Asked) (c : Done r s new e) where
  abbrev p : Prepared
  p = c.p

  geometry : new.meta.geometry ≡ s.meta.geometry
  geometry = either r (new ≡ after s c.is p c.prep new.device) (StopsShort s new) (new.meta.geometry ≡ s.meta.geometry) c.ok c.err (λ h. ap (λ (x : Standing). x.meta.geometry) h) (λ h. ap (λ (x : MetaBlocks). x.geometry) h.meta)

  opened : new.opened ≡ s.opened
  opened = either r (new ≡ after s c.is p c.prep new.device) (StopsShort s new) (new.opened ≡ s.opened) c.ok c.err (λ h. ap (λ (x : Standing). x.opened) h) (λ h. h.opened)

  pub done_counts : Counts r (stored_of s) (stored_of new)
  done_counts = run_counts r (entry_plan s.meta.geometry s.cursor s.meta.blocks p.blocks.items) s new c.is geometry opened c.performs

  pub done_grows : IsThere s.meta.geometry (stored_of s).told e.published → Grows (stored_of s).told (stored_of new).told (λ d more. SameData s.meta.geometry d more
      × IfSome (option_map asked s.planned) (λ x. (a b : Map) → Both s a b → LeavesThird d more a b (changed b (entry_changes b x))))
  done_grows there =
      grows_weaker (stored_of s).told (stored_of new).told (CommitGrows s c.is p c.prep) _ (λ d more h. (h.0, if_asked s.planned p (λ x. (a b : Map) → Both s a b → LeavesThird d more a b (changed b (entry_changes b x))) c.planned h.1))
      (commit_grows s c.is p c.prep r new geometry opened (subst (λ (x : Asked). IsThere s.meta.geometry (stored_of s).told x.published) (sym c.asks) there) c.performs)

  pub done_placed : OnOk r (IfSome (option_map asked s.planned) (λ x. placed_at new.meta.geometry new.meta.blocks ≡ placed_after (placed_at s.meta.geometry s.meta.blocks) x))
  done_placed = on_ok_from r (new ≡ after s c.is p c.prep new.device) _ c.ok (λ h.
      if_asked s.planned p (λ x. placed_at new.meta.geometry new.meta.blocks ≡ placed_after (placed_at s.meta.geometry s.meta.blocks) x) c.planned
      (ap (λ (x : Standing). placed_at x.meta.geometry x.meta.blocks) h ∙ ap (λ (y : Metadata). placed_of (records_of y)) c.prep.plans.says ∙ c.prep.placed))

  pub done_kept : OnErr r (placed_at new.meta.geometry new.meta.blocks ≡ placed_at s.meta.geometry s.meta.blocks)
  done_kept = on_err_from r (StopsShort s new) _ c.err (λ h. ap (λ (x : MetaBlocks). placed_at x.geometry x.blocks) h.meta)

  pub done_number : OnOk r (new.cursor.number ≡ s.cursor.number + 1)
  done_number = on_ok_from r (new ≡ after s c.is p c.prep new.device) _ c.ok (λ h. ap (λ (x : Standing). x.cursor.number) h ∙ commit_number s c.is p c.prep new.device)

  abbrev used : Standing → ℕ
  used x = (metadata_at x.meta.geometry x.meta.blocks).super.used_nodes

  -- ---- the ring

  writes : (g : Geometry) (slot : ℕ) (blocks : List (List ℕ)) → length (ring_writes g slot blocks) ≡ length blocks
  writes g slot [] = refl
  writes g slot (b ∷ rest) = omega (arith, writes g (slot + 1) rest)

  fits_in : (n k : ℕ) → n ≤ k → leb n k ≡ true
  fits_in n k h = grind (arith, nat_tests, h)

  abbrev size : ℕ
  size = length p.blocks.items

  -- an entry has a header, a payload at least and a commit
  three : 3 ≤ size
  three = omega (arith, long s c.is p c.prep, c.prep.plans.lawful.count.from_low)

  most : size ≤ meta_blocks s.meta.geometry + 2
  most = omega (arith, long s c.is p c.prep, c.prep.plans.lawful.count.to_high)

  in_room : size ≤ s.cursor.room → length (entry_plan s.meta.geometry s.cursor s.meta.blocks p.blocks.items) ≡ size + 1
  in_room fits =
      ap (λ (t : Bool). length (a_sync ++ (cond t [] (checkpoint_plan s.meta.geometry s.meta.blocks (info_at_cursor s.cursor)) ++ ring_writes s.cursor.geometry s.cursor.slot p.blocks.items))) (fits_in size s.cursor.room fits)
      ∙ omega (arith, writes s.cursor.geometry s.cursor.slot p.blocks.items)

  pub done_ring : TakesRing r (stored_of s) (stored_of new)
  done_ring = on_ok r _ (λ v ok roomy.
      let fits : size ≤ s.cursor.room = omega (arith, roomy, most) in
      let calls = run_calls r (entry_plan s.meta.geometry s.cursor s.meta.blocks p.blocks.items) s new c.is geometry opened c.performs v ok in
      let room : new.cursor.room ≡ s.cursor.room - size =
      ap (λ (x : Standing). x.cursor.room) (on_ok_at r v (new ≡ after s c.is p c.prep new.device) ok c.ok)
      ∙ ap (λ (t : Bool). (past (cond t s.cursor (emptied s.cursor)) size).room) (fits_in size s.cursor.room fits) in
      (omega (arith, calls, in_room fits, most), omega (arith, room, three, fits), omega (arith, room, most, fits)))

  pub done_nodes : OnOk r (IfSome (option_map asked s.planned) (λ x. (metadata_at new.meta.geometry new.meta.blocks).super.used_nodes ≤ (metadata_at s.meta.geometry s.meta.blocks).super.used_nodes + nodes_taken x.published))
  done_nodes = on_ok_from r (new ≡ after s c.is p c.prep new.device) _ c.ok (λ h.
      if_asked s.planned p (λ x. used new ≤ used s + nodes_taken x.published) c.planned
      (let same : used new ≡ (after_all (metadata_at s.meta.geometry s.meta.blocks) c.prep.changes).super.used_nodes = ap used h ∙ ap (λ (y : Metadata). y.super.used_nodes) c.prep.plans.says in
      subst (λ (k : ℕ). k ≤ used s + nodes_taken p.published) (sym same) c.prep.nodes))

  pub done_nodes_kept : OnErr r ((metadata_at new.meta.geometry new.meta.blocks).super.used_nodes ≡ (metadata_at s.meta.geometry s.meta.blocks).super.used_nodes)
  done_nodes_kept = on_err_from r (StopsShort s new) _ c.err (λ h. ap (λ (x : MetaBlocks). (metadata_at x.geometry x.blocks).super.used_nodes) h.meta)

  pub done_both : IsThere s.meta.geometry (stored_of s).told e.published → OnOk r (IfSome (option_map asked s.planned) (λ x. (a b : Map) → Both s a b → Both new b (changed b (entry_changes b x))))
  done_both there = on_ok r _ (λ v ok.
      if_asked s.planned p (λ x. (a b : Map) → Both s a b → Both new b (changed b (entry_changes b x))) c.planned (λ a b both.
      subst (λ (x : Standing). Both x b (changed b (entry_changes b (asked p)))) (sym (on_ok_at r v (new ≡ after s c.is p c.prep new.device) ok c.ok))
      (commit_both s c.is p c.prep r v new.device c.performs ok (subst (λ (x : Asked). IsThere s.meta.geometry (stored_of s).told x.published) (sym c.asks) there) a b both)))

  pub done_held : IfSome (option_map asked s.planned) (λ x. (b : ℕ) → IsHeld new b → IsHeld s b ⊎ Contains (taken_by x.published) b)
  done_held = if_asked s.planned p (λ x. (b : ℕ) → IsHeld new b → IsHeld s b ⊎ Contains (taken_by x.published) b) c.planned (commit_held s c.is p c.prep r new c.ok c.err)
