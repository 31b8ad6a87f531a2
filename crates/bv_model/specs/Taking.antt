-- What one event does to the blocks that are taken: the steps of the call that goes over a history
-- for its room without memory, each proved to be the core's own.
use Rattle.std.specs.Prelude.{◌≡◌, ℕ, Bool, true, false, cond, ◌+◌, ◌-◌, ◌==◌, Some, None}
use Rattle.std.specs.Option.{option_map, unwrap_or}
use Rattle.spec_tree.specs.Tree.{need_of}
use Rattle.spec_tree.specs.declared.Digest.{Digest}
use Rattle.spec_tree.specs.declared.blob.Blob.{Blob}
use Rattle.spec_tree.specs.Order.{same_digest}
use Rattle.spec_core.specs.Deeds.{deed_of, fails}
use Rattle.bv_model.specs.Rescan.{goes_with}
use Rattle.spec_core.specs.Room.{blob_need}
use Rattle.spec_core.specs.State.{State, find, held}
use Rattle.spec_core.specs.declared.act.Act.{Act}
use Rattle.spec_core.specs.declared.act.Act.TheVariants.{Begin, Admit, Settle, Retire}
use Rattle.bv_model.specs.declared.adding.AddEffect.{AddEffect}
use Rattle.bv_model.specs.declared.adding.AddEffect.TheVariants.{Nothing, Begins, Ends, Publishes}
use Rattle.spec_core.specs.declared.deed.Deed.{Deed}
use Rattle.spec_core.specs.declared.deed.Deed.TheVariants as deeds
use Rattle.spec_core.specs.declared.reply.Reply.{Reply}
use Rattle.spec_core.specs.declared.reply.Reply.TheVariants.{Granted, Admitted, Published}
use Rattle.bv_model.specs.declared.rescan.Standing.{Standing}
use Rattle.bv_model.specs.declared.room.Known.{Known}
use Rattle.bv_model.specs.declared.room.Taken.{Taken}
use Rattle.spec_core.specs.declared.setting.Setting.{Setting}
use Rattle.spec_core.specs.declared.who.Who.{Who}

-- ---- what an event does to the adds

-- a begin that was granted puts an add under way
abbrev pub begin_adding : Digest → ℕ → Reply → AddEffect
begin_adding r n Granted = Begins r n
begin_adding r n _ = Nothing

-- an admit that was refused ends the add
abbrev pub admit_adding : Digest → Reply → AddEffect
admit_adding r Admitted = Nothing
admit_adding r _ = Ends r

-- a settle ends the add, and may publish it
abbrev pub settle_adding : Digest → Reply → AddEffect
settle_adding r Published = Publishes r
settle_adding r _ = Ends r

-- what an event does to the adds, by its act and reply
abbrev pub adding_of : Act → Reply → AddEffect
adding_of (Begin r n) reply = begin_adding r n reply
adding_of (Admit r) reply = admit_adding r reply
adding_of (Settle r) reply = settle_adding r reply
adding_of (Retire r) reply = Ends r
adding_of _ reply = Nothing

-- ---- what is known of a root

-- the root's add ended, if it is this one
abbrev pub add_ended : Digest → Known → Digest → Known
add_ended r was x = cond (same_digest r x) (record was { adding = false }) was

-- what is known of a root after an event, where new blobs get this version
abbrev pub known_next : Digest → Known → ℕ → AddEffect → Known
known_next r was version (Begins x n) =
    cond (same_digest r x)
    (record { blob = record { size = n; version = version }; adding = true })
    was
known_next r was version (Ends x) = add_ended r was x
known_next r was version (Publishes x) = add_ended r was x
known_next r was version Nothing = was

-- it is known whether an add of the root is under way, and which blob it or the map has there
pub record Knows (g : Setting) (s : State) (r : Digest) (k : Known) : Type 0 where
  pub adds : find s.adds r ≡ cond k.adding (Some k.blob.size) None
  pub version : k.adding ≡ true → k.blob.version ≡ g.version
  pub map : (blob : Blob) → find s.map r ≡ Some blob → k.blob ≡ blob

-- ---- the blocks that an event is about

-- the blocks of a root's add, or none
abbrev pub add_need : Setting → State → Digest → ℕ
add_need g s r = unwrap_or (option_map (need_of g.version) (find s.adds r)) 0

-- these are the blocks of a root's blob in the map, if it has one
abbrev pub NeedsAt : State → Digest → ℕ → Type 0
NeedsAt s r need = (blob : Blob) → find s.map r ≡ Some blob → need ≡ blob_need blob

-- these are the blocks of the blob that a deed unlinks, or closes a place of
abbrev pub NeedsFor : State → Deed → ℕ → Type 0
NeedsFor s (deeds.Closes p) need = (r : Digest) → held s.slots p ≡ Some r → NeedsAt s r need
NeedsFor s (deeds.Unlinks r) need = NeedsAt s r need
NeedsFor s _ need = Unit {0}

-- these are the blocks of an add that begins or ends, or else of the blob that the deed is about
abbrev pub NeedsBy : Setting → State → AddEffect → Deed → ℕ → Type 0
NeedsBy g s (Begins r n) deed need = need ≡ need_of g.version n
NeedsBy g s (Ends r) deed need = need ≡ add_need g s r
NeedsBy g s _ deed need = NeedsFor s deed need

-- these are the blocks that an event is about
abbrev pub NeedsOf : Setting → State → Who → Act → Reply → ℕ → Type 0
NeedsOf g s who act reply need = NeedsBy g s (adding_of act reply) (deed_of who act reply) need

-- ---- how many blocks

-- all of them together
abbrev pub in_all : Taken → ℕ
in_all t = t.all + t.purged + t.queued + t.leaving

-- all purges are durable, those of the queue among them
abbrev pub all_freed : Taken → Taken
all_freed t = record t { all = t.all - (t.purged + t.queued); purged = 0; queued = 0 }

-- what leaves is queued
abbrev pub all_let_go : Taken → Taken
all_let_go t = record t { queued = t.queued + t.leaving; leaving = 0 }

-- the blocks after a deed, before which the root that it closes or unlinks stood so, with a blob of
-- so many blocks
abbrev pub by_deed : Taken → Standing → ℕ → Deed → Taken
by_deed t root need (deeds.Closes p) =
    cond (goes_with root) (record t { leaving = t.leaving - need; queued = t.queued + need }) t
by_deed t root need (deeds.Unlinks r) =
    cond (root.holders == 0)
    (record t { queued = t.queued + need })
    (record t { leaving = t.leaving + need })
by_deed t root need (deeds.Publishes r) = record t { purged = t.purged + t.queued; queued = 0 }
by_deed t root need deeds.Purges = all_freed t
by_deed t root need (deeds.Empties purges) = cond purges (all_freed (all_let_go t)) (all_let_go t)
by_deed t root need _ = t

-- the blocks after what an event does to the adds, or else by its deed
abbrev pub by_adding : Taken → Standing → ℕ → AddEffect → Deed → Taken
by_adding t root need (Begins r n) deed = record t { all = t.all + need }
by_adding t root need (Ends r) deed = record t { all = t.all - need }
by_adding t root need _ deed = by_deed t root need deed

-- the queue's purges are then in the log, and their blobs still in the map
abbrev pub counted_again : Bool → Taken → Taken
counted_again true t = record t { again = t.queued }
counted_again false t = t

-- the blocks after an event
abbrev pub taken_next : Taken → Standing → ℕ → Who → Act → Reply → Taken
taken_next t root need who act reply =
    counted_again (fails act reply)
    (by_adding t root need (adding_of act reply) (deed_of who act reply))
