-- What an event changes, given its reply: what a row doesn't name stays (this project's profile).
--
-- | event, reply                  | change                                                     |
-- |-------------------------------|------------------------------------------------------------|
-- | begin, granted                | the adds gain the root with its size                       |
-- | admit, stopped or no-nodes    | the add ends                                               |
-- | put, device-fault             | stopped                                                    |
-- | settle, published             | flush; log and map gain the blob; next rises; the add ends |
-- | settle, device-fault          | log gains the purges and the blob; stopped; the add ends   |
-- | settle, stopped or number-end | the add ends                                               |
-- | retire, retired               | the add ends                                               |
-- | open, opened                  | the slot holds the root                                    |
-- | close, closed                 | the slot is empty; a leaving root not held now is queued   |
-- | unlink, unlinked              | leaving where a slot holds it, else queued                 |
-- | sync, synced                  | next rises if the queue has a root; flush; log durable     |
-- | sync, device-fault            | log gains the queue's purges; stopped                      |
-- | unmount, any                  | slots emptied; leaving roots queued in order; as sync      |
use Rattle.std.specs.Prelude.{ℕ, cond, not, ◌+◌, ◌&&◌, [], ◌∷◌, ◌++◌, length, Option, Some, None}
use Rattle.std.specs.BTreeMap.{insert_entry, is_at}
use Rattle.std.specs.BTreeSet.{insert_key}
use Rattle.std.specs.Map.{remove_entry}
use Rattle.std.specs.Set.{remove_key}
use Rattle.spec_tree.specs.declared.Digest.{Digest}
use Rattle.spec_core.specs.Choice.{place_of, is_empty}
use Rattle.spec_core.specs.Log.{without, flushed, failed}
use Rattle.spec_tree.specs.Order.{digest_cmp}
use Rattle.spec_core.specs.Order.{place_cmp}
use Rattle.spec_core.specs.State.{State, find, held, among, is_held}
use Rattle.spec_core.specs.declared.act.Act.{Act}
use Rattle.spec_core.specs.declared.act.Act.TheVariants.{Begin, Admit, Put, Settle, Retire, Open, Fetch, Read, Scan, Close, Unlink, Sync, List as ListAll, Unmount}
use Rattle.spec_tree.specs.declared.blob.Blob.{Blob}
use Rattle.spec_core.specs.declared.map_change.MapChange.TheVariants.{Publish}
use Rattle.spec_core.specs.declared.place.Place.{Place}
use Rattle.spec_core.specs.declared.reply.Reply.{Reply}
use Rattle.spec_core.specs.declared.reply.Reply.TheVariants.{Granted, Admitted, Published, Opened, Closed, Unlinked, Synced, Unmounted, DeviceFault}
use Rattle.spec_core.specs.declared.setting.Setting.{Setting}
use Rattle.spec_core.specs.declared.who.Who.{Who}

-- the add of a root ends
abbrev pub add_ends : State → Digest → State
add_ends s r = record s { adds = without s.adds r }

-- row granted of begin
abbrev pub begun : State → Digest → ℕ → Reply → State
begun s r n Granted = record s { adds = insert_entry digest_cmp s.adds r n }
begun s r n _ = s

-- rows stopped and no-nodes of admit
abbrev pub admitted : State → Digest → Reply → State
admitted s r Admitted = s
admitted s r _ = add_ends s r

-- row device-fault of put
abbrev pub put_done : State → Reply → State
put_done s (DeviceFault f) = record s { stopped = Some f }
put_done s _ = s

-- the blob of an add of this size, with the volume's version (without an add there is no size, and
-- 0 stands for it; no such settle comes)
abbrev pub blob_of : Setting → Option ℕ → Blob
blob_of g (Some n) = record { size = n; version = g.version }
blob_of g None = record { size = 0; version = g.version }

-- rows published, device-fault, and stopped and number-end of settle
abbrev pub settled : State → Digest → Blob → Reply → State
settled s r blob Published =
    record (add_ends (flushed s (Publish r blob ∷ [])) r) { next = s.next + 1 }
settled s r blob (DeviceFault f) = add_ends (failed s (Publish r blob ∷ []) f) r
settled s r blob _ = add_ends s r

-- row opened of open
abbrev pub opened : State → Place → Digest → Reply → State
opened s p r (Opened n) = record s { slots = insert_entry place_cmp s.slots p r }
opened s p r _ = s

-- a leaving root that no slot holds goes to the queue's end
abbrev pub let_go : State → Digest → State
let_go s r =
    cond (among s.leaving r && not (is_held s.slots r))
    (record s { leaving = remove_key (is_at (digest_cmp r)) s.leaving; queue = s.queue ++ r ∷ [] })
    s

-- the slot at this place, which held this, is empty
abbrev pub emptied : State → Place → Option Digest → State
emptied s p (Some r) = let_go (record s { slots = remove_entry (is_at (place_cmp p)) s.slots }) r
emptied s p None = s

-- row closed of close
abbrev pub closed : State → Place → Reply → State
closed s p Closed = emptied s p (held s.slots p)
closed s p _ = s

-- row unlinked of unlink
abbrev pub unlinked : State → Digest → Reply → State
unlinked s r Unlinked =
    cond (is_held s.slots r)
    (record s { leaving = insert_key digest_cmp s.leaving r })
    (record s { queue = s.queue ++ r ∷ [] })
unlinked s r _ = s

-- rows synced and unmounted: next rises by one where the queue isn't empty, the queue is purged,
-- and the whole log is durable
abbrev pub made_durable : State → State
made_durable s =
    let flush : State = flushed s [] in
    record flush { durable = length flush.log; next = cond (is_empty s.queue) s.next (s.next + 1) }

-- rows synced and device-fault of sync
abbrev pub sync_done : State → Reply → State
sync_done s Synced = made_durable s
sync_done s (DeviceFault f) = failed s [] f
sync_done s _ = s

-- every slot is emptied, and the leaving roots go to the queue's end in the order of their bytes
abbrev pub slots_emptied : State → State
slots_emptied s = record s { slots = []; leaving = []; queue = s.queue ++ s.leaving }

-- rows unmounted and device-fault of unmount, in the state with every slot emptied
abbrev pub unmount_done : State → Reply → State
unmount_done s Unmounted = made_durable s
unmount_done s (DeviceFault f) = failed s [] f
unmount_done s _ = s

-- the state after an event with this reply (of a reply outside the choice it says nothing)
abbrev pub change : Setting → State → Who → Act → Reply → State
change g s who (Begin r n) reply = begun s r n reply
change g s who (Admit r) reply = admitted s r reply
change g s who (Put index) reply = put_done s reply
change g s who (Settle r) reply = settled s r (blob_of g (find s.adds r)) reply
change g s who (Retire r) reply = add_ends s r
change g s who (Open slot r) reply = opened s (place_of who slot) r reply
change g s who (Fetch slot window) reply = s
change g s who (Read slot off len) reply = s
change g s who (Scan slot) reply = s
change g s who (Close slot) reply = closed s (place_of who slot) reply
change g s who (Unlink r) reply = unlinked s r reply
change g s who Sync reply = sync_done s reply
change g s who ListAll reply = s
change g s who Unmount reply = unmount_done (slots_emptied s) reply
