-- The journal of an opened disk is what reads give: nothing of it is pending.
use Rattle.std.proofs.Common.{◌≡◌, ◌<◌, ◌+◌, ◌%◌, ℕ, List, length, Option, Some, ap, sym, ◌∙◌, subst, arith}
use Rattle.spec_disk.specs.Disk.{Blocks}
use Rattle.spec_disk.proofs.EventLemmas.{length-now_after}
use Rattle.spec_record.specs.declared.geometry.Geometry.{Geometry}
use Rattle.spec_record.specs.declared.info.Info.{Info}
use Rattle.spec_record.specs.Geometry.{ring_slots, ring_in, info_at}
use Rattle.spec_record.specs.Entry.{Entry}
use Rattle.spec_image.specs.Same.{SameJournal}
use Rattle.spec_image.specs.Journal.{Journal, journal_of}
use Rattle.spec_image.specs.Replay.{slots_of_all, replay, next_slot, next_number, stale_slots}
use Rattle.spec_image.proofs.SameLemmas.{journal_same, length-whole_ring}
use Rattle.bv_device.specs.Told.{Disk, now_of}
use Rattle.bv_journal.specs.Rests.{Opened, synced, slot_behind, number_behind}
use Rattle.bv_journal.proofs.DiskLemmas.{now-quiet, length-synced}
use Rattle.bv_journal.proofs.HoldLemmas.{info_read}
use Rattle.bv_replay.specs.declared.replay.Replay.{Replay}
use Rattle.bv_replay.specs.Found.{IsReplayOf}
use Rattle.bv_replay.specs.Stops.{MayRecover}

some_same : (a b : Info) (o : Option Info) → o ≡ Some a → o ≡ Some b → a ≡ b
some_same a b o e f = cc

module _ (g : Geometry) (i : Info) (es : List Entry) (meta : Blocks) (d : Disk) (r : Replay) (o : Opened g i es meta d) (is : IsReplayOf g (now_of d) r) where
  same : SameJournal g (now_of d) (synced d)
  same = record {
    first_whole = omega (arith, o.durable.room, length-synced d, length-now_after d.base d.trace);
    second_whole = o.durable.room;
    info = now-quiet d (info_at g) (o.quiet (info_at g) (omega (arith, o.durable.lawful.journal.from_low)));
    slots = λ s lt. now-quiet d _ (o.quiet _ (omega (arith, lt)));
  }

  -- what reads give has the journal of the synced disk
  journal : journal_of g (now_of d) ≡ journal_of g (synced d)
  journal = journal_same g (now_of d) (synced d) same

  info : is.info ≡ i
  info =
      some_same is.info i (journal_of g (synced d)).info (ap (λ (j : Journal). j.info) (sym journal) ∙ info_read g is.info (now_of d) o.durable.lawful is.spelled)
      (info_read g i (synced d) o.durable.lawful o.durable.info)

  entries : r.entries.items ≡ es
  entries = is.entries ∙ ap replay journal ∙ o.durable.entries

  -- what follows the entries, as it follows those of the synced disk
  slot_is : next_slot (journal_of g (now_of d)) is.info ≡ slot_behind g i es
  unfolding journal_of
  slot_is =
      ap (λ (j : Journal). next_slot j is.info) journal ∙ ap (next_slot (journal_of g (synced d))) info
      ∙ ap (λ (l : List Entry). (i.start + slots_of_all l) % length (ring_in g (synced d))) o.durable.entries
      ∙ ap (λ (n : ℕ). (i.start + slots_of_all es) % n) (length-whole_ring g (synced d) o.durable.room)

  number_is : next_number (journal_of g (now_of d)) is.info ≡ number_behind i es
  number_is =
      ap (λ (j : Journal). next_number j is.info) journal ∙ ap (next_number (journal_of g (synced d))) info
      ∙ ap (λ (l : List Entry). i.number + length l) o.durable.entries

  pub may_recover : MayRecover g i meta d r
  may_recover = record {
    opened = subst (λ (l : List Entry). Opened g i l meta d) (sym entries) o;
    slot = is.slot ∙ slot_is ∙ ap (slot_behind g i) (sym entries);
    number = is.number ∙ number_is ∙ ap (number_behind i) (sym entries);
    stale = is.stale ∙ ap (λ (j : Journal). stale_slots j is.info) journal ∙ ap (stale_slots (journal_of g (synced d))) info;
  }
