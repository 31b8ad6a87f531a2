-- Published blobs stay sound: what an event makes of them.
use Rattle.std.proofs.Common.{◌≡◌, ◌⊎◌, inl, inr, ℕ, ◌∷◌, ◌++◌, [], Bool, true, false, cond, List, map, Option, None, Some, IfSome, refl, ap, sym, ◌∙◌, subst}
use Rattle.std.specs.BTreeMap.{insert_entry}
use Rattle.std.proofs.lemmas.List.{append-nil}
use Rattle.spec_disk.specs.Disk.{block}
use Rattle.spec_disk.specs.declared.event.Event.{Event}
use Rattle.spec_record.specs.Geometry.{block_at}
use Rattle.spec_record.specs.declared.geometry.Geometry.{Geometry}
use Rattle.spec_tree.specs.Order.{digest_cmp, same_digest}
use Rattle.spec_tree.specs.declared.Digest.{Digest}
use Rattle.spec_tree.specs.declared.blob.Blob.{Blob}
use Rattle.spec_core.proofs.EntryLemmas.{lookup-insert_entry}
use Rattle.spec_core.proofs.Holding.{digest_total, one_digest}
use Rattle.spec_core.specs.History.{History, with_event}
use Rattle.spec_core.specs.Log.{changed, purges, without}
use Rattle.spec_core.specs.State.{State, find}
use Rattle.spec_core.specs.declared.act.Act.{Act}
use Rattle.spec_core.specs.declared.act.Act.TheVariants as acts
use Rattle.spec_core.specs.declared.event.CoreEvent.{CoreEvent}
use Rattle.spec_core.specs.declared.map_change.MapChange.{MapChange}
use Rattle.spec_core.specs.declared.reply.Reply.{Reply}
use Rattle.spec_core.specs.declared.reply.Reply.TheVariants as replies
use Rattle.spec_core.specs.declared.who.Who.{Who}
use Rattle.spec_rest.specs.Rest.{Map}
use Rattle.spec_served.specs.Adds.{was_published}
use Rattle.spec_served.specs.Places.{publisher}
use Rattle.bv_device.specs.Told.{Disk, disk_with, now_of}
use Rattle.bv_model.specs.Noted.{Noted}
use Rattle.bv_model.specs.Sole.{Sole}
use Rattle.bv_model.proofs.Adds.{find-without, sole-without}
use Rattle.bv_model.proofs.Flush.{changed_by_one}
use Rattle.bv_ledger.specs.Answers.{device_reply, look_act}
use Rattle.bv_ledger.specs.declared.opening.Look.{Look}
use Rattle.bv_ledger.specs.declared.opening.Look.TheVariants as look
use Rattle.bv_ledger.specs.Tables as L
use Rattle.bv_ledger.specs.Tables.{Tables, Accounts}
use Rattle.bv_store.specs.Stored.{Stored, Grows, HasBlob, SameData, blocks_on, placed_without}
use Rattle.bv_volume.specs.Events.{event_of, noted}
use Rattle.bv_volume.specs.Sound.{PublishedAreSound}
use Rattle.bv_volume.proofs.Freed.{failed_tables, synced_tables}
use Rattle.bv_volume.proofs.Located.{placed_sub, publisher_push, unpublished}
use Rattle.bv_volume.proofs.Sessions.{SameAt, same_all, same_nil}
use Rattle.bv_volume.proofs.Settles.{Settled, settled_tables, unsettled_tables}
use Rattle.bv_volume.proofs.Still.{still}
use Rattle.bv_volume.proofs.Quiet.{silent_quiet}
use Rattle.bv_volume.proofs.Syncs.{in_disk}
use Rattle.bv_volume.proofs.Ties.{IsSilent}

-- blocks that are as they were
blocks_same : (g : Geometry) (d : Disk) (more : List Event) (bs : List ℕ) → SameAt g d more bs → blocks_on g (disk_with d more) bs ≡ blocks_on g d bs
blocks_same g d more [] same = refl
blocks_same g d more (b ∷ bs) same = ap (λ (x : List ℕ). x ∷ blocks_on g (disk_with d more) bs) same.0 ∙ ap (λ (xs : List (List ℕ)). block (now_of d) (block_at g b) ∷ xs) (blocks_same g d more bs same.1)

-- a published blob was one before, at the same blocks, which are as they were; or it has its blocks now
abbrev pub Lasts : History → CoreEvent → Map → Stored → Disk → List Event → Digest → Blob → List ℕ → Type 0
Lasts h e map s d more r blob places =
    (publisher r None (h.events ++ e ∷ []) ≡ publisher r None h.events) × (find map r ≡ Some blob) × (find s.placed r ≡ Some places) × SameAt s.geometry d more places
    ⊎ HasBlob r blob (blocks_on s.geometry (disk_with d more) places)

module _ (h : History) (m m' : Map) (s s' : Stored) (e : CoreEvent) (P : Disk → List Event → Type 0) (geometry : s'.geometry ≡ s.geometry) (grows : Grows s.told s'.told P) where
  one : (d : Disk) (more : List Event) (r : Digest) (blob : Blob) (places : List ℕ) (w : Who) → ((x : Digest) (b : Blob) (ps : List ℕ) (v : Who) → publisher x None h.events ≡ Some v → find m x ≡ Some b → find s.placed x ≡ Some ps → HasBlob x b (blocks_on s.geometry d ps))
      → publisher r None (h.events ++ e ∷ []) ≡ Some w → Lasts h e m s d more r blob places → HasBlob r blob (blocks_on s'.geometry (disk_with d more) places)
  one d more r blob places w old is (inl x) =
      subst (λ (g : Geometry). HasBlob r blob (blocks_on g (disk_with d more) places)) (sym geometry)
      (subst (λ (bs : List (List ℕ)). HasBlob r blob bs) (sym (blocks_same s.geometry d more places x.3)) (old r blob places w (sym x.0 ∙ is) x.1 x.2))
  one d more r blob places w old is (inr x) = subst (λ (g : Geometry). HasBlob r blob (blocks_on g (disk_with d more) places)) (sym geometry) x

  pub sound_after : ((d : Disk) (more : List Event) → s.told ≡ Some d → P d more → (r : Digest) (blob : Blob) (places : List ℕ) → find m' r ≡ Some blob → find s'.placed r ≡ Some places → Lasts h e m s d more r blob places) → PublishedAreSound h m s → PublishedAreSound (with_event h e) m' s'
  sound_after lasts old = go s.told refl old
    where
      go : (o : Option Disk) → s.told ≡ o → PublishedAreSound h m s → PublishedAreSound (with_event h e) m' s'
      go None is x = let gone = rw is at grows in rw gone tt
      go (Some d) is x =
          let g = rw is at grows in
          let was = rw is at x in
          in_disk (λ y. (r : Digest) (blob : Blob) (places : List ℕ) (w : Who) → publisher r None (h.events ++ e ∷ []) ≡ Some w → find m' r ≡ Some blob → find s'.placed r ≡ Some places → HasBlob r blob (blocks_on s'.geometry y places)) s'.told (disk_with d g.0) g.1
          (λ r blob places w by has lies. one d g.0 r blob places w was by (lasts d g.0 is g.2 r blob places has lies))

  -- an event that publishes nothing, and writes no block of a blob
  pub sound_quiet : was_published e.act e.reply ≡ false → ((r : Digest) (blob : Blob) → find m' r ≡ Some blob → find m r ≡ Some blob) → ((r : Digest) (places : List ℕ) → find s'.placed r ≡ Some places → find s.placed r ≡ Some places)
      → ((d : Disk) (more : List Event) → P d more → (r : Digest) (places : List ℕ) → find s.placed r ≡ Some places → SameAt s.geometry d more places) → PublishedAreSound h m s → PublishedAreSound (with_event h e) m' s'
  sound_quiet none fewer less same old =
      sound_after (λ d more is p r blob places has lies. inl (publisher_push r None h.events e ∙ unpublished r (publisher r None h.events) e.who e.act e.reply none, fewer r blob has, less r places lies, same d more p r places (less r places lies))) old

-- ---- calls that write nothing

grows_nothing : (o : Option Disk) → Grows o o (λ d more. more ≡ [])
grows_nothing None = refl
grows_nothing (Some d) = ([], ap (λ (p : List Event). Some (record { base = d.base; trace = p })) (sym (append-nil d.trace)), refl)

pub same_map : (t new : Tables) (log : List MapChange) (durable : ℕ) (who : Who) (act : Act) (q : Option Reply) → Accounts t log durable → L.Does t new who act q → IsSilent q → new.map ≡ t.map
same_map t new log durable who act None accounts does silent = ap (λ (x : Tables). x.map) does
same_map t new log durable who act (Some q) accounts does silent = (still t new log durable who act q accounts does (silent_quiet q silent.0)).map

pub never_published : (act : Act) (q : Option Reply) → ((x : Reply) → was_published act x ≡ false) → IfSome q (λ x. was_published act x ≡ false)
never_published act None each = tt
never_published act (Some x) each = each x

pub sound_silent : (n n' : Noted) (m m' : Map) (s : Stored) (who : Who) (act : Act) (q : Option Reply) (calls : ℕ) → n' ≡ noted n who act q calls → m' ≡ m → IfSome q (λ x. was_published act x ≡ false) → PublishedAreSound n.history m s → PublishedAreSound n'.history m' s
sound_silent n n' m m' s who act None calls is same none old = subst (λ (k : Noted). PublishedAreSound k.history m' s) (sym is) (subst (λ (x : Map). PublishedAreSound n.history x s) (sym same) old)
sound_silent n n' m m' s who act (Some q) calls is same none old =
    subst (λ (k : Noted). PublishedAreSound k.history m' s) (sym is)
    (sound_quiet n.history m m' s s (event_of who act q calls) (λ d more. more ≡ []) refl (grows_nothing s.told) none
    (λ r blob has. ap (λ (x : Map). find x r) (sym same) ∙ has) (λ r places lies. lies)
    (λ d more nil r places lies. subst (λ (p : List Event). SameAt s.geometry d p places) (sym nil) (same_nil s.geometry d places)) old)

pub look_unpublished : (slot : ℕ) (what : Look) (q : Reply) → was_published (look_act slot what) q ≡ false
look_unpublished slot (look.Read off len) q = refl
look_unpublished slot look.Scan q = refl

-- ---- a sync

-- purges take blobs away alone
pub map_sub : (m : Map) (rs : List Digest) → Sole m → (r : Digest) (blob : Blob) → find (changed m (purges m rs)) r ≡ Some blob → find m r ≡ Some blob
map_sub m [] sole r blob is = is
map_sub m (x ∷ rs) sole r blob is =
    let one : changed m (purges m (x ∷ rs)) ≡ changed (without m x) (purges (without m x) rs) = changed_by_one m x (find m x) (purges (without m x) rs) refl in
    let rest : find (without m x) r ≡ Some blob = map_sub (without m x) rs (sole-without m x sole) r blob (ap (λ (k : Map). find k r) (sym one) ∙ is) in
    go (same_digest r x) (sym (find-without m x r sole) ∙ rest)
  where
    go : (b : Bool) → cond b None (find m r) ≡ Some blob → find m r ≡ Some blob
    go true never = absurd (cc)
    go false there = there

synced_map : (t new : Tables) (log : List MapChange) (durable : ℕ) (who : Who) (failed : Option ℕ) → Accounts t log durable → t.stopped ≡ None → Sole t.map → L.Does t new who acts.Sync (Some (device_reply replies.Synced failed)) → (r : Digest) (blob : Blob) → find new.map r ≡ Some blob → find t.map r ≡ Some blob
synced_map t new log durable who None accounts going sole does r blob is = map_sub t.map t.queue sole r blob (ap (λ (k : Map). find k r) (sym (synced_tables t new log durable who accounts going does).map) ∙ is)
synced_map t new log durable who (Some f) accounts going sole does r blob is = ap (λ (k : Map). find k r) (sym (failed_tables t new log durable who f accounts does).map) ∙ is

pub sound_sync : (n n' : Noted) (t new : Tables) (s s' : Stored) (log : List MapChange) (durable : ℕ) (who : Who) (failed : Option ℕ) (calls : ℕ) → n' ≡ noted n who acts.Sync (Some (device_reply replies.Synced failed)) calls → s'.geometry ≡ s.geometry → Grows s.told s'.told (λ d more. SameData s.geometry d more)
    → Accounts t log durable → t.stopped ≡ None → Sole t.map → L.Does t new who acts.Sync (Some (device_reply replies.Synced failed)) → ((r : Digest) (places : List ℕ) → find s'.placed r ≡ Some places → find s.placed r ≡ Some places) → PublishedAreSound n.history t.map s → PublishedAreSound n'.history new.map s'
sound_sync n n' t new s s' log durable who failed calls is geometry stays accounts going sole does less old =
    subst (λ (k : Noted). PublishedAreSound k.history new.map s') (sym is)
    (sound_quiet n.history t.map new.map s s' (event_of who acts.Sync (device_reply replies.Synced failed) calls) (λ d more. SameData s.geometry d more) geometry stays refl
    (synced_map t new log durable who failed accounts going sole does) less (λ d more same r places lies. same_all s.geometry d more places same) old)

-- ---- a settle

pub sound_publish : (n n' : Noted) (t new : Tables) (s s' : Stored) (log : List MapChange) (durable : ℕ) (who : Who) (root : Digest) (size : ℕ) (mine : List ℕ) (failed : Option ℕ) (calls : ℕ) → n' ≡ noted n who (acts.Settle root) (Some (device_reply replies.Published failed)) calls → s'.geometry ≡ s.geometry → Grows s.told s'.told (λ d more. SameData s.geometry d more)
    → Accounts t log durable → t.stopped ≡ None → Sole t.map → Sole s.placed → find t.adds root ≡ Some size → L.Does t new who (acts.Settle root) (Some (device_reply replies.Published failed))
    → (failed ≡ None → s'.placed ≡ insert_entry digest_cmp (placed_without s.placed t.queue) root mine) → ((f : ℕ) → failed ≡ Some f → s'.placed ≡ s.placed) → IfSome s.told (λ d. HasBlob root (record { size = size; version = t.setting.version }) (blocks_on s.geometry d mine))
    → PublishedAreSound n.history t.map s → PublishedAreSound n'.history new.map s'
sound_publish n n' t new s s' log durable who root size mine (Some f) calls is geometry stays accounts going sole placed_sole under does placed kept there old =
    subst (λ (k : Noted). PublishedAreSound k.history new.map s') (sym is)
    (sound_quiet n.history t.map new.map s s' (event_of who (acts.Settle root) (replies.DeviceFault f) calls) (λ d more. SameData s.geometry d more) geometry stays refl
    (λ r blob has. ap (λ (k : Map). find k r) (sym (unsettled_tables t new log durable who root f accounts does).map) ∙ has)
    (λ r places lies. ap (λ (es : List (Digest × List ℕ)). find es r) (sym (kept f refl)) ∙ lies) (λ d more same r places lies. same_all s.geometry d more places same) old)
sound_publish n n' t new s s' log durable who root size mine None calls is geometry stays accounts going sole placed_sole under does placed kept there old =
    subst (λ (k : Noted). PublishedAreSound k.history new.map s') (sym is)
    (sound_after n.history t.map new.map s s' e (λ d more. SameData s.geometry d more) geometry stays
    (λ d more told same r blob places has lies.
    from d more same (there_on d told) r blob places (same_digest r root) refl
    (sym (lookup-insert_entry digest_total (changed t.map (purges t.map t.queue)) root its r) ∙ ap (λ (k : Map). find k r) (sym tables.map) ∙ has)
    (sym (lookup-insert_entry digest_total (placed_without s.placed t.queue) root mine r) ∙ ap (λ (es : List (Digest × List ℕ)). find es r) (sym (placed refl)) ∙ lies))
    old)
  where
    e : CoreEvent
    e = event_of who (acts.Settle root) replies.Published calls

    its : Blob
    its = record { size = size; version = t.setting.version }

    tables : Settled t new root its
    tables = settled_tables t new log durable who root size accounts going under does

    there_on : (d : Disk) → s.told ≡ Some d → HasBlob root its (blocks_on s.geometry d mine)
    there_on d told = rw told at there

    from : (d : Disk) (more : List Event) → SameData s.geometry d more → HasBlob root its (blocks_on s.geometry d mine) → (r : Digest) (blob : Blob) (places : List ℕ) (b : Bool) → same_digest r root ≡ b → cond b (Some its) (find (changed t.map (purges t.map t.queue)) r) ≡ Some blob → cond b (Some mine) (find (placed_without s.placed t.queue) r) ≡ Some places
        → Lasts n.history e t.map s d more r blob places
    from d more same whole r blob places true is has lies =
        let one : its ≡ blob = cc in
        let where_it_lies : mine ≡ places = cc in
        inr (subst (λ (x : Blob). HasBlob r x (blocks_on s.geometry (disk_with d more) places)) one
        (subst (λ (ps : List ℕ). HasBlob r its (blocks_on s.geometry (disk_with d more) ps)) where_it_lies
        (subst (λ (x : Digest). HasBlob x its (blocks_on s.geometry (disk_with d more) mine)) (sym (one_digest r root is))
        (subst (λ (bs : List (List ℕ)). HasBlob root its bs) (sym (blocks_same s.geometry d more mine (same_all s.geometry d more mine same))) whole))))
    from d more same whole r blob places false is has lies =
        inl (
          publisher_push r None n.history.events e ∙ ap (λ (b : Bool). cond b (Some who) (publisher r None n.history.events)) is,
          map_sub t.map t.queue sole r blob has,
          placed_sub s.placed t.queue placed_sole r places lies,
          same_all s.geometry d more places same,
        )

-- ---- a put

pub put_map : (t new : Tables) (log : List MapChange) (durable : ℕ) (who : Who) (index : ℕ) (failed : Option ℕ) → Accounts t log durable → L.Does t new who (acts.Put index) (Some (device_reply replies.Written failed)) → new.map ≡ t.map
put_map t new log durable who index None accounts does = sym (ap (λ (x : State). x.map) (does.1 log durable accounts).state)
put_map t new log durable who index (Some f) accounts does = sym (ap (λ (x : State). x.map) (does.1 log durable accounts).state)

-- as a mount begins nothing was published
pub sound_fresh : (h : History) (m : Map) (s : Stored) → h.events ≡ [] → PublishedAreSound h m s
sound_fresh h m s none = go s.told
  where
    go : (o : Option Disk) → IfSome o (λ d. (r : Digest) (blob : Blob) (places : List ℕ) (w : Who) → publisher r None h.events ≡ Some w → find m r ≡ Some blob → find s.placed r ≡ Some places → HasBlob r blob (blocks_on s.geometry d places))
    go None = tt
    go (Some d) = λ r blob places w by has lies. let never : None ≡ Some w = sym (ap (λ (es : List CoreEvent). publisher r None es) none) ∙ by in absurd (cc)
