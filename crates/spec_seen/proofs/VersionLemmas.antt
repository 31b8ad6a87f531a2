-- The version of a blob of the map, event by event.
use Rattle.std.proofs.Common.{◌≡◌, ◌≤◌, ℕ, ◌+◌, Bool, true, false, cond, Option, Some, None, List, [], ◌∷◌, ◌++◌, refl, ap, sym, ◌∙◌, subst, arith}
use Rattle.std.specs.Prelude.{if◌then◌else◌, option_map}
use Rattle.std.specs.Cmp.{eq_by_cmp_equiv}
use Rattle.std.specs.List.{IsDistinct, count_by}
use Rattle.std.specs.List.Sorted.{IsStrictlySortedBy}
use Rattle.std.specs.Ordering.{eq_by_cmp}
use Rattle.std.specs.BTreeMap.{insert_entry, is_at}
use Rattle.std.specs.Map.{keys_of}
use Rattle.std.proofs.lemmas.Map.{lookup-none}
use Rattle.std.proofs.lemmas.Map.Entries.{none_past_head}
use Rattle.std.proofs.lemmas.Map.Keys.{IsDistinct-from_sorted, IsDistinct-tail}
use Rattle.spec_disk.specs.Disk.{Blocks}
use Rattle.spec_tree.specs.declared.Digest.{Digest}
use Rattle.spec_tree.specs.declared.blob.Blob.{Blob}
use Rattle.spec_tree.specs.Order.{digest_cmp, same_digest}
use Rattle.spec_image.specs.Blobs.{blob_map, value_of}
use Rattle.spec_image.specs.Chain.{BlobRecord}
use Rattle.spec_image.specs.Metadata.{Metadata}
use Rattle.spec_image.specs.Volume.{blob_in, blobs, metadata_of}
use Rattle.spec_image.specs.WellFormed.{records_of}
use Rattle.spec_image.proofs.MapLemmas.{map_has}
use Rattle.spec_core.proofs.Counting.{count-cons, none-counted, none-left}
use Rattle.spec_core.proofs.Deeds.{alike, by_deed}
use Rattle.spec_core.proofs.EntryLemmas.{lookup-insert_entry, lookup-remove_other}
use Rattle.spec_core.proofs.Holding.{changed-append, digest_total, one_digest}
use Rattle.spec_core.specs.Change.{blob_of, change}
use Rattle.spec_core.specs.Choice.{choice}
use Rattle.spec_core.specs.Deeds.{deed_of, settle_deed, sync_deed, unmount_deed, unlink_deed}
use Rattle.spec_core.specs.History.{History, Legal, first_state, last_state, opening_map, setting_of}
use Rattle.spec_core.specs.Log.{changed, purge_of, purges, without}
use Rattle.spec_core.specs.State.{State, find, held}
use Rattle.spec_core.specs.Step.{Chosen, Steps, after, state_after}
use Rattle.spec_core.specs.declared.act.Act.{Act}
use Rattle.spec_core.specs.declared.act.Act.TheVariants.{Settle, Open, Close, Unlink, Sync, Unmount}
use Rattle.spec_core.specs.declared.deed.Deed.{Deed}
use Rattle.spec_core.specs.declared.deed.Deed.TheVariants.{Nothing, Opens, Closes, Unlinks, Publishes, Purges, Empties}
use Rattle.spec_core.specs.declared.event.CoreEvent.{CoreEvent}
use Rattle.spec_core.specs.declared.map_change.MapChange.TheVariants.{Publish}
use Rattle.spec_core.specs.declared.reply.Reply.{Reply}
use Rattle.spec_core.specs.declared.reply.Reply.TheVariants.{Opened, Closed, Published, Unlinked, Synced, Unmounted}
use Rattle.spec_core.specs.declared.setting.Setting.{Setting}
use Rattle.spec_core.specs.declared.who.Who.{Who}
use Rattle.spec_orderly.proofs.Adding.{Fresh, Once, emptied_map, fresh_change, none_purged, once_insert, once_remove, settles_new, unlinked_map}
use Rattle.spec_served.specs.Places.{image_version, publisher, publisher_after, record_version, version_by}
use Rattle.spec_seen.specs.Versions.{MapHasVersions}

abbrev pub Map : Type 0
Map = List (Digest × Blob)

-- ---- maps in which each root stands once

one_more : (b : Bool) (n : ℕ) → n ≤ 1 → (b ≡ true → n ≡ 0) → cond b 1 0 + n ≤ 1
one_more true n h f = omega (arith, f refl)
one_more false n h f = omega (arith, h)

once_distinct : (es : Map) → IsDistinct (eq_by_cmp digest_cmp) (keys_of es) → Once digest_cmp es
once_distinct [] d r = omega arith
once_distinct (e ∷ es) d r =
    rw (count-cons (λ (x : Digest × Blob). is_at (digest_cmp r) x.0) e es)
    (one_more (same_digest r e.0) (count_by (λ x. is_at (digest_cmp r) x.0) es) (once_distinct es (IsDistinct-tail (eq_by_cmp digest_cmp) e.0 (keys_of es) d) r)
    (λ same. none-counted (is_at (digest_cmp r)) es (lookup-none (is_at (digest_cmp r)) es (none_past_head (eq_by_cmp_equiv digest_total) r e es d same))))

once_sorted : (es : Map) → IsStrictlySortedBy digest_cmp (keys_of es) → Once digest_cmp es
once_sorted es sorted = once_distinct es (IsDistinct-from_sorted digest_cmp (keys_of es) sorted)

-- what a purge leaves was there
was_there : (m : Map) (x r : Digest) (blob : Blob) → Once digest_cmp m → find (without m x) r ≡ Some blob → find m r ≡ Some blob
was_there m x r blob once is = go (same_digest x r) refl where
  go : (b : Bool) → same_digest x r ≡ b → find m r ≡ Some blob
  go true same =
      let none : find (without m x) r ≡ None = ap (find (without m x)) (sym (one_digest x r same)) ∙ none-left (is_at (digest_cmp x)) m (once x) in
      absurd (differ (sym none ∙ is)) where
        differ : None ≡ Some blob → ⊥
        differ e = cc
  go false other = sym (lookup-remove_other digest_total m x r other) ∙ is

once_purge : (o : Option Blob) (m : Map) (x : Digest) → Once digest_cmp m → Once digest_cmp (changed m (purge_of o x))
once_purge None m x once = once
once_purge (Some b) m x once = once_remove digest_cmp m x once

was_purge : (o : Option Blob) (m : Map) (x r : Digest) (blob : Blob) → Once digest_cmp m → find (changed m (purge_of o x)) r ≡ Some blob → find m r ≡ Some blob
was_purge None m x r blob once is = is
was_purge (Some b) m x r blob once is = was_there m x r blob once is

once_purges : (from m : Map) (rs : List Digest) → Once digest_cmp m → Once digest_cmp (changed m (purges from rs))
once_purges from m [] once = once
once_purges from m (x ∷ rs) once =
    subst (λ (es : Map). Once digest_cmp es) (sym (changed-append m (purge_of (find from x) x) (purges (without from x) rs)))
    (once_purges (without from x) (changed m (purge_of (find from x) x)) rs (once_purge (find from x) m x once))

was_purged : (from m : Map) (rs : List Digest) (r : Digest) (blob : Blob) → Once digest_cmp m → find (changed m (purges from rs)) r ≡ Some blob → find m r ≡ Some blob
was_purged from m [] r blob once is = is
was_purged from m (x ∷ rs) r blob once is =
    was_purge (find from x) m x r blob once
    (was_purged (without from x) (changed m (purge_of (find from x) x)) rs r blob (once_purge (find from x) m x once)
    (ap (λ es. find es r) (sym (changed-append m (purge_of (find from x) x) (purges (without from x) rs))) ∙ is))

-- ---- a deed that publishes nothing

abbrev pub IsSilent : Deed → Type 0
IsSilent (Publishes x) = ⊥
IsSilent d = Unit {0}

-- the map has nothing new, and each root once
record Less (old new : Map) : Type 0 where
  once : Once digest_cmp new
  was : (r : Digest) (blob : Blob) → find new r ≡ Some blob → find old r ≡ Some blob

less_same : (old new : Map) → new ≡ old → Once digest_cmp old → Less old new
less_same old new same once = record { once = subst (λ (es : Map). Once digest_cmp es) (sym same) once; was = λ r blob is. ap (λ es. find es r) (sym same) ∙ is }

less_purged : (m : Map) (rs : List Digest) → Once digest_cmp m → Less m (changed m (purges m rs ++ []))
less_purged m rs once = record {
  once = subst (λ (es : Map). Once digest_cmp es) (sym (changed-append m (purges m rs) [])) (once_purges m m rs once);
  was = λ r blob is. was_purged m m rs r blob once (ap (λ es. find es r) (sym (changed-append m (purges m rs) [])) ∙ is);
}

less_deed : (g : Setting) (s : State) (d : Deed) → IsSilent d → Once digest_cmp s.map → Less s.map (by_deed g s d).map
less_deed g s Nothing silent once = less_same s.map s.map refl once
less_deed g s (Opens p x) silent once = less_same s.map s.map refl once
less_deed g s (Closes p) silent once = less_same s.map (by_deed g s (Closes p)).map (emptied_map s p (held s.slots p)) once
less_deed g s (Unlinks x) silent once = less_same s.map (by_deed g s (Unlinks x)).map (unlinked_map s x Unlinked) once
less_deed g s (Publishes x) silent once = absurd silent
less_deed g s Purges silent once = less_purged s.map s.queue once
less_deed g s (Empties true) silent once = less_purged s.map (s.queue ++ s.leaving) once
less_deed g s (Empties false) silent once = less_same s.map s.map refl once

-- ---- acts that publish nothing

abbrev pub PublishesNone : Act → Reply → Type 0
PublishesNone (Settle x) Published = ⊥
PublishesNone a q = Unit {0}

settle_silent : (x : Digest) (q : Reply) → PublishesNone (Settle x) q → IsSilent (settle_deed x q)
settle_silent x Published none = none
settle_silent x _ none = tt

open_silent : (w : Who) (slot : ℕ) (x : Digest) (q : Reply) → IsSilent (deed_of w (Open slot x) q)
open_silent w slot x (Opened n) = tt
open_silent w slot x _ = tt

close_silent : (w : Who) (slot : ℕ) (q : Reply) → IsSilent (deed_of w (Close slot) q)
close_silent w slot Closed = tt
close_silent w slot _ = tt

unlink_silent : (x : Digest) (q : Reply) → IsSilent (unlink_deed x q)
unlink_silent x Unlinked = tt
unlink_silent x _ = tt

sync_silent : (q : Reply) → IsSilent (sync_deed q)
sync_silent Synced = tt
sync_silent _ = tt

unmount_silent : (q : Reply) → IsSilent (unmount_deed q)
unmount_silent Unmounted = tt
unmount_silent _ = tt

pub silent : (w : Who) (a : Act) (q : Reply) → PublishesNone a q → IsSilent (deed_of w a q)
silent w (Settle x) q none = settle_silent x q none
silent w (Open slot x) q none = open_silent w slot x q
silent w (Close slot) q none = close_silent w slot q
silent w (Unlink x) q none = unlink_silent x q
silent w Sync q none = sync_silent q
silent w Unmount q none = unmount_silent q
silent w _ q none = tt

-- ---- the version of one root's blob

-- by who published it last: the volume's version, or the opening's blob
abbrev pub IsOf : ℕ → Map → Digest → Blob → Option Who → Type 0
IsOf version opening r blob None = find opening r ≡ Some blob
IsOf version opening r blob (Some w) = blob.version ≡ version

pub record Versioned (version : ℕ) (opening : Map) (r : Digest) (last : Option Who) (s : State) : Type 0 where
  pub fresh : Fresh s
  pub once : Once digest_cmp s.map
  pub told : (blob : Blob) → find s.map r ≡ Some blob → IsOf version opening r blob last

blob_version : (g : Setting) (o : Option ℕ) → (blob_of g o).version ≡ g.version
blob_version g None = refl
blob_version g (Some n) = refl

module _ (g : Setting) (opening : Map) (r : Digest) (last : Option Who) (s : State) (k : Versioned g.version opening r last s) (w : Who) where
  versioned_quiet : (a : Act) (q : Reply) → PublishesNone a q → publisher_after r last w a q ≡ last → Chosen (choice g s w a) q → Versioned g.version opening r (publisher_after r last w a q) (change g s w a q)
  versioned_quiet a q none same c =
      let map = (alike g s w a q).map in
      let less = less_deed g s (deed_of w a q) (silent w a q none) k.once in
      subst (λ (o : Option Who). Versioned g.version opening r o (change g s w a q)) (sym same) (record {
        fresh = fresh_change g s w a q k.fresh c;
        once = subst (λ (es : Map). Once digest_cmp es) (sym map) less.once;
        told = λ blob is. k.told blob (less.was r blob (ap (λ es. find es r) (sym map) ∙ is));
      })

  versioned_published : (x : Digest) → Chosen (choice g s w (Settle x)) Published → Versioned g.version opening r (publisher_after r last w (Settle x) Published) (change g s w (Settle x) Published)
  versioned_published x c =
      let new : Blob = blob_of g (find s.adds x) in
      let left : Map = changed s.map (purges s.map s.queue) in
      let joined : changed s.map (purges s.map s.queue ++ Publish x new ∷ []) ≡ insert_entry digest_cmp left x new = changed-append s.map (purges s.map s.queue) (Publish x new ∷ []) in
      record {
        fresh = fresh_change g s w (Settle x) Published k.fresh c;
        once = subst (λ (es : Map). Once digest_cmp es) (sym joined) (once_insert digest_cmp one_digest left x new (none_purged s.map s.map s.queue x (settles_new g s w x Published k.fresh c)) (once_purges s.map s.map s.queue k.once));
        told = λ blob is. found x blob (same_digest r x) (sym (lookup-insert_entry digest_total left x new r) ∙ ap (λ es. find es r) (sym joined) ∙ is);
      } where
        found : (x : Digest) (blob : Blob) (b : Bool) → cond b (Some (blob_of g (find s.adds x))) (find (changed s.map (purges s.map s.queue)) r) ≡ Some blob → IsOf g.version opening r blob (if b then Some w else last)
        found x blob true is = let same : blob_of g (find s.adds x) ≡ blob = cc in ap (λ (y : Blob). y.version) (sym same) ∙ blob_version g (find s.adds x)
        found x blob false is = k.told blob (was_purged s.map s.map s.queue r blob k.once is)

  versioned_settled : (x : Digest) (q : Reply) → Chosen (choice g s w (Settle x)) q → Versioned g.version opening r (publisher_after r last w (Settle x) q) (change g s w (Settle x) q)
  versioned_settled x Published c = versioned_published x c
  versioned_settled x q c = versioned_quiet (Settle x) q tt refl c

  versioned_after : (a : Act) (q : Reply) → Chosen (choice g s w a) q → Versioned g.version opening r (publisher_after r last w a q) (change g s w a q)
  versioned_after (Settle x) q c = versioned_settled x q c
  versioned_after a q c = versioned_quiet a q tt refl c

versioned_all : (g : Setting) (opening : Map) (r : Digest) (last : Option Who) (s : State) (es : List CoreEvent) → Versioned g.version opening r last s → Steps g s es → Versioned g.version opening r (publisher r last es) (state_after g s es)
versioned_all g opening r last s [] k steps = k
versioned_all g opening r last s (e ∷ es) k steps =
    versioned_all g opening r (publisher_after r last e.who e.act e.reply) (after g s e) es (versioned_after g opening r last s k e.who e.act e.reply steps.0) steps.1

pub versioned_last : (h : History) (next : ℕ) (r : Digest) → Legal h next → Versioned h.version (opening_map h) r (publisher r None h.events) (last_state h next)
versioned_last h next r legal =
    versioned_all (setting_of h) (opening_map h) r None (first_state (opening_map h) next) h.events
    (record {
      fresh = record { once = λ x. omega arith; new = λ x e. cc };
      once = once_sorted (opening_map h) legal.sorted;
      told = λ blob is. is;
    }) legal.steps

-- ---- the image's blob

record_is : (o : Option BlobRecord) (blob : Blob) → option_map value_of o ≡ Some blob → record_version o ≡ blob.version
record_is None blob is = absurd (cc)
record_is (Some b) blob is = let same : value_of b ≡ blob = cc in ap (λ (y : Blob). y.version) same

image_is : (o : Option Metadata) (r : Digest) (opening : Map) (blob : Blob) → option_map (λ m. blob_map (records_of m)) o ≡ Some opening → find opening r ≡ Some blob → image_version r o ≡ blob.version
image_is None r opening blob is found = absurd (cc)
image_is (Some m) r opening blob is found =
    let same : blob_map (records_of m) ≡ opening = cc in
    record_is (blob_in m r) blob (sym (map_has (records_of m) r) ∙ ap (λ es. find es r) same ∙ found)

by_publisher : (base : Blocks) (h : History) (r : Digest) (blob : Blob) (o : Option Who) → blobs base ≡ Some (opening_map h) → IsOf h.version (opening_map h) r blob o → blob.version ≡ version_by base h r o
by_publisher base h r blob None is of = sym (image_is (metadata_of base) r (opening_map h) blob is of)
by_publisher base h r blob (Some w) is of = of

pub map_versions : MapHasVersions
map_versions base h next r blob legal is found = by_publisher base h r blob (publisher r None h.events) is ((versioned_last h next r legal).told blob found)
