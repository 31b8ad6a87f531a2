-- What the history of a mounted volume opens with.
use Rattle.std.proofs.Common.{◌≡◌, ◌⊎◌, inl, inr, ℕ, List, map, Option, Some, None, refl, ap, sym, ◌∙◌, subst}
use Rattle.std.specs.Prelude.{IfSome, IsSomeAnd}
use Rattle.spec_disk.specs.Disk.{Blocks}
use Rattle.spec_disk.specs.Images.{IsSettled}
use Rattle.spec_disk.specs.declared.event.Event.{Event}
use Rattle.spec_image.specs.Blobs.{blob_map}
use Rattle.spec_rest.specs.Rest.{Map}
use Rattle.spec_inspect.specs.declared.mount_fault.MountFault.TheVariants as mount
use Rattle.bv_mount.specs.Recovers.{KeepsVolume}
use Rattle.spec_record.specs.declared.geometry.Geometry.{Geometry}
use Rattle.spec_record.specs.declared.superblock.Super.{Super}
use Rattle.spec_record.specs.declared.info.Info.{Info}
use Rattle.spec_tree.specs.declared.Digest.{Digest}
use Rattle.spec_tree.specs.declared.blob.Blob.{Blob}
use Rattle.spec_image.specs.Journal.{journal_of}
use Rattle.spec_image.specs.Replay.{next_number}
use Rattle.spec_image.specs.Volume.{blobs, image_super}
use Rattle.spec_core.specs.History.{History, opening_map}
use Rattle.spec_crash.specs.Crash.{CrashPrefix, HoldsWhole}
use Rattle.spec_headline.specs.Headline.{Survives}
use Rattle.spec_headline.specs.Run.{HasWholeBlobs, OpensWith}
use Rattle.bv_claims.specs.declared.claims.Claims.{Claims}
use Rattle.bv_device.specs.Seen.{Seen}
use Rattle.bv_device.specs.Told.{Disk, disk_with, now_of}
use Rattle.bv_mount.specs.declared.inspected.Inspected.{Inspected}
use Rattle.bv_mount.specs.Inspects.{IsInspected, inspection}
use Rattle.bv_volume.specs.Seen.{IsSafe, Seen as Volume}
use Rattle.bv_mounted.specs.Mounts.{Mounts, history_of, records_in}
use Rattle.bv_mounted.specs.Opens.{GoesOn, OpensWithItsImage, RefusedMountsSurvive, SurvivesFromItsImage}
use Rattle.bv_mounted.proofs.SafeLemmas.{image_blobs, kept_theorem, opening_is}
use Rattle.bv_mounted.proofs.ImageLemmas.{HasHead, found_head, holds_whole}

-- counts and next number of a history
abbrev HasCounts : Blocks → ℕ → ℕ → ℕ → ℕ → Type 0
HasCounts base blocks nodes version next =
    IsSomeAnd (image_super base) (λ s.
    (blocks ≡ s.geometry.blocks) × (nodes ≡ s.geometry.nodes) × (version ≡ s.geometry.version)
    × IsSomeAnd (journal_of s.geometry base).info (λ i. next ≡ next_number (journal_of s.geometry base) i))

head_counts : (base : Blocks) (i : Inspected) → HasHead base (inspection i) → HasCounts base i.geometry.blocks i.geometry.nodes i.geometry.version i.replay.next_number
head_counts base i h =
    subst (λ (o : Option Super). IsSomeAnd o (λ s. (i.geometry.blocks ≡ s.geometry.blocks) × (i.geometry.nodes ≡ s.geometry.nodes) × (i.geometry.version ≡ s.geometry.version)
    × IsSomeAnd (journal_of s.geometry base).info (λ n. i.replay.next_number ≡ next_number (journal_of s.geometry base) n)))
    (sym h.super_is) (
      ap (λ (g : Geometry). g.blocks) h.geometry,
      ap (λ (g : Geometry). g.nodes) h.geometry,
      ap (λ (g : Geometry). g.version) h.geometry,
      subst (λ (o : Option Info). IsSomeAnd o (λ n. i.replay.next_number ≡ next_number (journal_of (h.super).geometry base) n)) (sym h.info_is) h.next,
    )

module _ (old : Seen) (i : Inspected) (claims : Claims) (v w : Volume) (m : Mounts old i claims v) (goes : GoesOn v w) where
  opening_same : opening_map w.history ≡ opening_map v.history
  opening_same = ap (λ (es : List (Digest × ℕ × ℕ)). map (λ e. (e.0, record { size = e.1; version = e.2 })) es) goes.opening

  opens : (base : Blocks) → blobs base ≡ Some (opening_map v.history) → IsInspected base i → OpensWith base w.history w.next
  opens base is found =
      let counts = head_counts base i (found_head base (inspection i) found.is) in
      record {
        map = is ∙ ap (λ (es : List (Digest × Blob)). Some es) (sym opening_same);
        geometry = subst (λ (x : ℕ × ℕ × ℕ × ℕ). HasCounts base x.0 x.1 x.2 x.3)
            (λ k. (
              (sym (goes.blocks ∙ ap (λ (h : History). h.blocks) m.history)) k,
              (sym (goes.nodes ∙ ap (λ (h : History). h.nodes) m.history)) k,
              (sym (goes.version ∙ ap (λ (h : History). h.version) m.history)) k,
              (sym (goes.next ∙ m.next)) k,
            )) counts;
      }

  told_opens : (o : Option Disk) → IfSome o (λ d. IsSettled d.trace → blobs (now_of d) ≡ Some (opening_map v.history)) → IfSome o (λ d. IsSettled d.trace → IsInspected (now_of d) i)
      → IfSome o (λ d. IsSettled d.trace → OpensWith (now_of d) w.history w.next)
  told_opens None blobs gives = tt
  told_opens (Some d) blobs gives = λ settled. opens (now_of d) (blobs settled) (gives settled)

  -- the theorem of stops of the image
  survives : (d : Disk) → w.store.began ≡ Some d → IsSettled d.trace → HasWholeBlobs (now_of d) → OpensWith (now_of d) w.history w.next → IsSafe w
      → IsSomeAnd w.store.told (λ e. (e.base ≡ now_of d) × Survives (now_of d) e.trace w.history w.next)
  survives d began settled whole opens safe =
      of_told w.store.told (subst (λ (o : Option Disk). IfSome o (λ b. IsSomeAnd w.store.told (λ e. e.base ≡ now_of b))) began goes.disk)
      (safe (subst (λ (o : Option Disk). IfSome o (λ b. IsSettled b.trace × HoldsWhole (now_of b) (opening_map w.history))) (sym began)
      (settled, record { is = opens.map; whole = holds_whole (now_of d) (opening_map w.history) opens.map whole }))) where
        of_told : (o : Option Disk) → IsSomeAnd o (λ e. e.base ≡ now_of d) → IfSome o (λ e. CrashPrefix e.base e.trace w.history)
            → IsSomeAnd o (λ e. (e.base ≡ now_of d) × Survives (now_of d) e.trace w.history w.next)
        of_told None has crash = has
        of_told (Some e) base crash =
            (base, record { opens = opens; stops = subst (λ (b : Blocks). CrashPrefix b e.trace w.history) base crash })

  told_survives : (o : Option Disk) → w.store.began ≡ o → IfSome o (λ d. IsSettled d.trace → OpensWith (now_of d) w.history w.next) → IsSafe w
      → IfSome o (λ d. IsSettled d.trace → HasWholeBlobs (now_of d) → IsSomeAnd w.store.told (λ e. (e.base ≡ now_of d) × Survives (now_of d) e.trace w.history w.next))
  told_survives None began opens safe = tt
  told_survives (Some d) began opens safe = λ settled whole. survives d began settled whole (opens settled) safe

pub opens_with_its_image : OpensWithItsImage
opens_with_its_image old i claims v w m gives goes = told_opens old i claims v w m goes old.told m.blobs_are gives

pub survives_from_its_image : SurvivesFromItsImage
survives_from_its_image old i claims v w m gives goes safe =
    told_survives old i claims v w m goes old.told (goes.began ∙ m.began) (told_opens old i claims v w m goes old.told m.blobs_are gives) safe

-- ---- a mount that was refused

module _ (i : Inspected) (d : Disk) (is : IsInspected (now_of d) i) (whole : HasWholeBlobs (now_of d)) where
  refused_map : blobs (now_of d) ≡ Some (opening_map (history_of i))
  refused_map = image_blobs i (now_of d) is ∙ ap (λ (m : Map). Some m) (sym (opening_is (blob_map (records_in i))))

  kept_survives : (told : Option Disk) (k : KeepsVolume d told) → Survives (now_of d) k.events (history_of i) i.replay.next_number
  kept_survives told k = record {
    opens = record { map = refused_map; geometry = head_counts (now_of d) i (found_head (now_of d) (inspection i) is.is) };
    stops = kept_theorem d told (history_of i) k refl (record { is = refused_map; whole = holds_whole (now_of d) (opening_map (history_of i)) refused_map whole });
  }

told_refused : (i : Inspected) (o told : Option Disk) → IfSome o (λ d. IsSettled d.trace → IsInspected (now_of d) i) → IfSome o (λ d. IsSettled d.trace → KeepsVolume d told) → (P : Type 0)
    → IfSome o (λ d. IsSettled d.trace → HasWholeBlobs (now_of d) → P ⊎ ((events : List Event) × (told ≡ Some (disk_with d events)) × Survives (now_of d) events (history_of i) i.replay.next_number))
told_refused i None told gives keeps P = tt
told_refused i (Some d) told gives keeps P = λ settled whole. let k = keeps settled in inr (k.events, k.is, kept_survives i d (gives settled) whole told k)

told_same : (i : Inspected) (o told : Option Disk) (P : Type 0) → P
    → IfSome o (λ d. IsSettled d.trace → HasWholeBlobs (now_of d) → P ⊎ ((events : List Event) × (told ≡ Some (disk_with d events)) × Survives (now_of d) events (history_of i) i.replay.next_number))
told_same i None told P same = tt
told_same i (Some d) told P same = λ settled whole. inl same

pub refused_mounts_survive : RefusedMountsSurvive
refused_mounts_survive old i new mount.NoMemory gives r = told_same i old.told new.told (new ≡ old) r
refused_mounts_survive old i new (mount.DeviceFault count) gives r = told_refused i old.told new.told gives r.2 (new ≡ old)
refused_mounts_survive old i new f gives r = absurd r
