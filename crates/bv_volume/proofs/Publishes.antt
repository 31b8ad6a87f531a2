-- A publication, from the token to the entry: what the plan and the commit ask, and what follows.
use Rattle.std.proofs.Common.{◌≡◌, ◌≤◌, ◌<◌, ◌^◌, ◌⊎◌, ℕ, ◌+◌, ◌++◌, ◌∷◌, [], true, false, is_some, List, length, Option, Some, None, IfSome, refl, ap, sym, ◌∙◌, subst, arith}
use Rattle.std.specs.Global.{Vec}
use Rattle.std.specs.List.{Contains}
use Rattle.spec_tree.specs.Tree.{need_of}
use Rattle.spec_tree.specs.declared.Digest.{Digest}
use Rattle.spec_tree.specs.declared.blob.Blob.{Blob}
use Rattle.spec_core.specs.Change.{blob_of}
use Rattle.spec_core.specs.History.{setting_of, last_state}
use Rattle.std.specs.BTreeMap.{insert_entry}
use Rattle.spec_tree.specs.Order.{digest_cmp}
use Rattle.spec_core.specs.Log.{changed, purges}
use Rattle.spec_core.specs.State.{State, find}
use Rattle.spec_core.specs.declared.act.Act.TheVariants.{Settle}
use Rattle.spec_core.specs.declared.map_change.MapChange.{MapChange}
use Rattle.spec_core.specs.declared.map_change.MapChange.TheVariants.{Publish}
use Rattle.spec_core.specs.declared.reply.Reply.TheVariants.{Published}
use Rattle.spec_core.specs.declared.setting.Setting.{Setting}
use Rattle.spec_core.specs.declared.who.Who.{Who}
use Rattle.spec_image.specs.Leaves.{Leaves}
use Rattle.spec_rest.specs.Rest.{Map, HoldsEither}
use Rattle.bv_claims.specs.Blocks.{times}
use Rattle.bv_device.specs.Told.{Disk}
use Rattle.bv_model.specs.Noted.{Noted, with_noted}
use Rattle.bv_space.specs.Owned.{Owned}
use Rattle.bv_ledger.specs.Answers.{device_reply}
use Rattle.bv_ledger.specs.Entries.{MayPublish}
use Rattle.bv_ledger.specs.Tables as L
use Rattle.bv_ledger.specs.Tables.{Tables}
use Rattle.bv_ledger.proofs.Sums.{sum_less}
use Rattle.bv_store.specs.Stored.{Stored, Entry, CanWrite, HasBlob, IsThere, blocks_on, entry_changes, nodes_taken, placed_after, placed_without, taken_by, LeavesThird}
use Rattle.bv_writer.specs.Blocks.{IsBlobOf}
use Rattle.bv_fetch.proofs.Written.{written_blobs_verify}
use Rattle.bv_volume.specs.Adding.{IsAdmitted, IsPut}
use Rattle.bv_volume.specs.Events.{event_of}
use Rattle.bv_volume.specs.Kept.{Kept, seen_of}
use Rattle.bv_volume.specs.Publishing.{MayLieAt, Planned}
use Rattle.bv_volume.specs.Spaced.{Handed, nodes_at, HasSpace, NodesAt, Spaced}
use Rattle.bv_volume.specs.Wrote.{Enters}
use Rattle.bv_volume.specs.declared.tokens.Admitted.{Admitted}
use Rattle.bv_volume.proofs.Adds.{adds_are_sole, same_version, sum_entries, tabled_add}
use Rattle.bv_volume.proofs.Calls.{settle_call}
use Rattle.bv_volume.proofs.Counting.{grows_so}
use Rattle.bv_volume.proofs.Freed.{counted, map_is_sole, spaced_planned}
use Rattle.bv_volume.proofs.Placed.{taken_from}
use Rattle.bv_volume.proofs.Settles.{lies_none, settled_tables, unsettled_tables, spaced_settled, spaced_unsettled}
use Rattle.bv_volume.proofs.Silent.{CallDone}
use Rattle.bv_volume.proofs.SortedMaps.{is_new, may_publish, not_queued}
use Rattle.bv_volume.proofs.Ties.{kept_planned}

module _ (n : Noted) (next : ℕ) (t new : Tables) (o o' : Owned) (s z w : Stored) (Both Mid New : Map → Map → Type 0) (Held MidHeld NewHeld : ℕ → Type 0) (who : Who) (kept : Kept n next t s Both) (spaced : Spaced t o s Held) (a : Admitted) (old : IsAdmitted (seen_of n next t o s) a) (going : t.stopped ≡ None) (number : t.next < 2 ^ 62) where
  under : find t.adds a.root ≡ Some a.size
  under = tabled_add n next t s Both kept a.root a.size old.under_way

  abbrev pub blob : Blob
  blob = record { size = a.size; version = t.setting.version }

  need : length old.blocks.items ≡ need_of t.setting.version a.size
  need = old.need ∙ ap (λ (v : ℕ). need_of v a.size) (sym (same_version n next t s Both kept))

  pub may : MayPublish t a.root
  may = may_publish n next t s Both kept a.root a.size under (record { going = going; number = number })

  its_space : HasSpace t.setting a.size old.blocks.items
  its_space = rw (under, old.has) at (spaced.adds a.root)

  nodes_are : find o.nodes a.root ≡ Some (nodes_at old.blocks.items)
  nodes_are = go (find o.nodes a.root) refl
    where
      go : (k : Option ℕ) → find o.nodes a.root ≡ k → find o.nodes a.root ≡ Some (nodes_at old.blocks.items)
      go None is = let none : false ≡ true = ap (λ (x : Option ℕ). is_some x) (sym is) ∙ old.nodes in cc
      go (Some k) is = let at : NodesAt t.setting (Some a.size) (Some old.blocks) (Some k) = rw (under, old.has, is) at (spaced.nodes.at a.root) in is ∙ ap (λ (x : ℕ). Some x) at.0

  -- the blocks that were put are the blob's
  pub whole_blob : IsPut (seen_of n next t o s) a → IfSome s.told (λ d. HasBlob a.root blob (blocks_on s.geometry d old.blocks.items))
  whole_blob put = go s.told put.there
    where
      go : (d : Option Disk) → IfSome d (λ x. IfSome (find o.adds a.root) (λ v. IsBlobOf n.history.version a.root a.size (blocks_on s.geometry x v.items))) → IfSome d (λ x. HasBlob a.root blob (blocks_on s.geometry x old.blocks.items))
      go None h = tt
      go (Some d) h =
          let written = rw (old.has) at h in
          subst (λ (v : ℕ). HasBlob a.root (record { size = a.size; version = v }) (blocks_on s.geometry d old.blocks.items)) (sym (same_version n next t s Both kept)) (written_blobs_verify n.history.version a.size a.root _ written)

  -- what the plan asks
  pub may_lie : MayLieAt s Held a.root blob old.blocks.items
  may_lie =
      let e = spaced.exactly going in
      record {
        new = lies_none (find t.map a.root) (find s.placed a.root) (e.lie a.root) (is_new n next t s Both kept a.root a.size under);
        version = sym spaced.geometry.1;
        need = need;
        few = omega (arith, need, its_space.few);
        rising = rw (spaced.geometry.0) its_space.rising;
        free = λ b has held. omega (arith, e.held b held, e.owned b, spaced.once b, counted b old.blocks.items has, sum_less (λ (v : Vec ℕ). times b v.items) o.adds a.root old.blocks old.has);
        nodes = omega (arith, spaced.nodes.room, spaced.nodes.count, sum_entries o.nodes, sum_less (λ (x : ℕ). x) o.nodes a.root (nodes_at old.blocks.items) nodes_are);
      }

  module _ (p : Planned s z t.queue a.root blob old.blocks.items) (mid : (x y : Map) → Both x y → Mid x y) (mid_held : (b : ℕ) → MidHeld b → Held b) where
    abbrev pub entry : Entry
    entry = record { purged = t.queue; published = Some (record { root = a.root; blob = blob; blocks = p.copy }) }

    pub planned : z.planned ≡ Some entry
    planned = ap (λ (x : Stored). x.planned) p.is

    pub can_write : CanWrite z.geometry z.placed entry
    can_write = rw (p.is) (record {
      new = may_lie.new;
      version = may_lie.version;
      blocks = rw (p.same) may_lie.need;
      few = rw (p.same) may_lie.few;
      rising = rw (p.same) may_lie.rising;
    })

    pub taken_free : (b : ℕ) → Contains (taken_by entry.published) b → MidHeld b → ⊥
    taken_free b has held = may_lie.free b (subst (λ (xs : List ℕ). Contains xs b) p.same has) (mid_held b held)

    there : (d : Option Disk) → IfSome d (λ x. IfSome (find o.adds a.root) (λ v. IsBlobOf n.history.version a.root a.size (blocks_on s.geometry x v.items))) → IsThere s.geometry d entry.published
    there None h = tt
    there (Some d) h =
        let written = rw (old.has) at h in
        let at = written_blobs_verify n.history.version a.size a.root _ written in
        subst (λ (v : ℕ). HasBlob a.root (record { size = a.size; version = v }) (blocks_on s.geometry d p.copy.items)) (sym (same_version n next t s Both kept))
        (subst (λ (xs : List ℕ). HasBlob a.root (record { size = a.size; version = n.history.version }) (blocks_on s.geometry d xs)) (sym p.same) at)

    pub is_there : IsPut (seen_of n next t o s) a → IsThere z.geometry z.told entry.published
    is_there put = rw (p.is) (there s.told put.there)

    pub mid_kept : Kept n next t z Mid
    mid_kept = kept_planned n next t s z Both Mid (Some entry) p.is mid kept

    mid_spaced : Spaced t o z MidHeld
    mid_spaced = spaced_planned t o s z Held MidHeld (Some entry) p.is mid_held spaced

    -- the entry's changes are those of the settle
    abbrev changes : Map → List MapChange
    changes m = purges m (last_state n.history next).queue ++ Publish a.root (blob_of (setting_of n.history) (find (last_state n.history next).adds a.root)) ∷ []

    same_changes : (m : Map) → entry_changes m entry ≡ changes m
    same_changes m =
        let queue : t.queue ≡ (last_state n.history next).queue = sym (ap (λ (x : State). x.queue) kept.state) in
        let its : blob ≡ blob_of (setting_of n.history) (find (last_state n.history next).adds a.root) = ap (λ (g : Setting). blob_of g (Some a.size)) kept.setting ∙ ap (λ (x : Option ℕ). blob_of (setting_of n.history) x) (sym old.under_way) in
        ap (λ (q : List Digest). purges m q ++ Publish a.root blob ∷ []) queue ∙ ap (λ (b : Blob). purges m (last_state n.history next).queue ++ Publish a.root b ∷ []) its

    enters_so : (failed : Option ℕ) → Enters z w Mid New (λ m. entry_changes m entry) failed → Enters z w Mid New changes failed
    enters_so failed e = record {
      moves = e.moves;
      grows = grows_so _ _ _ _ (λ d more h x y both. subst (λ (cs : List MapChange). LeavesThird d more x y (changed y cs)) (same_changes y) (h x y both)) e.grows;
      both = λ none x y h. subst (λ (cs : List MapChange). New y (changed y cs)) (same_changes y) (e.both none x y h);
      shown = e.shown;
      number = e.number;
    }

    pub publish_call : (same : o'.claims ≡ o.claims) (counted : IfSome w.told (λ d. length d.trace ≡ w.calls)) (holds : (x y : Map) → New x y → IfSome w.told (λ d. Leaves d.base d.trace (HoldsEither x y))) (room : length t.adds + 1 ≤ n.spare) (failed : Option ℕ) (n' : Noted) → n' ≡ with_noted n (event_of who (Settle a.root) (device_reply Published failed) w.calls) → L.Does t new who (Settle a.root) (Some (device_reply Published failed)) → Enters z w Mid New (λ m. entry_changes m entry) failed
        → CallDone n n' next t new o o' z w New who (Settle a.root) (Some (device_reply Published failed))
    publish_call same counted holds room failed n' is does enters = settle_call n next t new o o' same z w Mid New who mid_kept going counted holds room a.root failed n' is does (enters_so failed enters)

    -- the blob then lies at the add's blocks
    pub publish_placed : (failed : Option ℕ) → (failed ≡ None → w.placed ≡ placed_after z.placed entry) → failed ≡ None → w.placed ≡ insert_entry digest_cmp (placed_without s.placed t.queue) a.root old.blocks.items
    publish_placed failed placed none =
        placed none ∙ ap (λ (xs : List ℕ). insert_entry digest_cmp (placed_without z.placed t.queue) a.root xs) p.same
        ∙ ap (λ (x : Stored). insert_entry digest_cmp (placed_without x.placed t.queue) a.root old.blocks.items) p.is

    pub publish_spaced : (failed : Option ℕ) → L.Does t new who (Settle a.root) (Some (device_reply Published failed)) → w.geometry ≡ z.geometry → (failed ≡ None → w.placed ≡ placed_after z.placed entry) → (failed ≡ None → w.used_nodes ≤ z.used_nodes + nodes_taken entry.published)
        → ((f : ℕ) → failed ≡ Some f → (w.placed ≡ z.placed) × (w.used_nodes ≡ z.used_nodes)) → ((b : ℕ) → NewHeld b → MidHeld b ⊎ Contains (taken_by entry.published) b)
        → (purged : List ℕ) → purged ≡ taken_from s.placed t.queue → (failed ≡ None → Handed o o' a.root purged) → ((f : ℕ) → failed ≡ Some f → Handed o o' a.root []) → Spaced new o' w NewHeld
    publish_spaced None does geometry placed nodes same held purged are done back =
        let at : z.placed ≡ s.placed = ap (λ (x : Stored). x.placed) p.is in
        spaced_settled t new o o' z w MidHeld NewHeld a.root a.size old.blocks mid_spaced under old.has need (adds_are_sole n next t s Both kept) geometry going
        (map_is_sole n next t t o o s s Both Held Held who kept spaced going) (is_new n next t s Both kept a.root a.size under) (not_queued n next t s Both kept a.root a.size under)
        (settled_tables t new _ _ who a.root a.size kept.accounts going under does)
        (placed refl ∙ ap (λ (xs : List ℕ). insert_entry digest_cmp (placed_without z.placed t.queue) a.root xs) p.same)
        (λ b h. subst (λ (xs : List ℕ). MidHeld b ⊎ Contains xs b) p.same (held b h))
        (omega (arith, nodes refl, ap (λ (xs : List ℕ). nodes_at xs) p.same)) nodes_are
        (subst (λ (bs : List ℕ). Handed o o' a.root bs) (are ∙ ap (λ (x : List (Digest × List ℕ)). taken_from x t.queue) (sym at)) (done refl))
    publish_spaced (Some f) does geometry placed nodes same held purged are done back =
        let kept_all = same f refl in
        spaced_unsettled t new o o' z w MidHeld NewHeld a.root a.size old.blocks mid_spaced under old.has need (adds_are_sole n next t s Both kept) geometry
        (unsettled_tables t new _ _ who a.root f kept.accounts does) kept_all.0 (omega (arith, kept_all.1)) (back f refl)

-- what memory there is spare is no part of the invariant
pub spaced_spare : (t : Tables) (o : Owned) (k : ℕ) (s : Stored) (Held : ℕ → Type 0) → Spaced t o s Held → Spaced t (record o { spare = k }) s Held
spaced_spare t o k s Held x = record {
  table = x.table;
  blocks = x.blocks;
  geometry = x.geometry;
  once = x.once;
  within = x.within;
  adds = x.adds;
  sole = x.sole;
  lie = x.lie;
  nodes = record { count = x.nodes.count; room = x.nodes.room; at = x.nodes.at; sole = x.nodes.sole };
  exactly = λ none. let e = x.exactly none in record { owned = e.owned; room = e.room; gone = e.gone; held = e.held; lie = e.lie; sole = e.sole };
}

pub handed_spare : (o o' : Owned) (k : ℕ) (r : Digest) (bs : List ℕ) → Handed (record o { spare = k }) o' r bs → Handed o o' r bs
handed_spare o o' k r bs h = record { owned = h.owned; room = h.room; adds = h.adds; nodes = h.nodes; claims = h.claims; gone = h.gone }
