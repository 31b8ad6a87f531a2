-- From a settled disk on, what matters of the past is what the disk is now.
use Rattle.std.proofs.Common.{◌≡◌, ℕ, List, [], ◌∷◌, ◌++◌, length, drop, map, Bool, true, false, refl, ap, sym, ◌∙◌, subst}
use Rattle.std.proofs.lemmas.List.{drop-append-le, length-append, map-append}
use Rattle.std.proofs.lemmas.List.Elements.{Contains-append_left}
use Rattle.std.specs.List.{Contains}
use Rattle.std.proofs.Math.Seq.{drop-append-add}
use Rattle.spec_disk.specs.declared.event.Event.{Event}
use Rattle.spec_disk.specs.declared.event.Event.TheVariants.{Write, Sync}
use Rattle.spec_disk.specs.Disk.{block, sector, now_after, has_sync, synced_part, unsynced_part, synced_after}
use Rattle.spec_disk.specs.Images.{written_to, pending, candidates, IsImage, IsSettled}
use Rattle.spec_disk.proofs.EventLemmas.{now_after-append, length-synced_part, length-now_after, written_to-append}
use Rattle.spec_disk.proofs.ImageLemmas.{image-settled, image-now}
use Rattle.spec_disk.proofs.SyncedLemmas.{synced_part-none}

has_sync-append_true : (p q : List Event) → has_sync q ≡ true → has_sync (p ++ q) ≡ true
has_sync-append_true [] q some = some
has_sync-append_true (Write at bytes ok ∷ p) q some = has_sync-append_true p q some
has_sync-append_true (Sync true ∷ p) q some = refl
has_sync-append_true (Sync false ∷ p) q some = has_sync-append_true p q some

has_sync-append_false : (p q : List Event) → has_sync q ≡ false → has_sync (p ++ q) ≡ has_sync p
has_sync-append_false [] q none = none
has_sync-append_false (Write at bytes ok ∷ p) q none = has_sync-append_false p q none
has_sync-append_false (Sync true ∷ p) q none = refl
has_sync-append_false (Sync false ∷ p) q none = has_sync-append_false p q none

synced_part-append_true : (p q : List Event) → has_sync q ≡ true → synced_part (p ++ q) ≡ p ++ synced_part q
synced_part-append_true [] q some = refl
synced_part-append_true (e ∷ p) q some = rw (has_sync-append_true (e ∷ p) q some, synced_part-append_true p q some)

synced_part-append_false : (p q : List Event) → has_sync q ≡ false → synced_part (p ++ q) ≡ synced_part p
synced_part-append_false [] q none = synced_part-none q none
synced_part-append_false (e ∷ p) q none = rw (has_sync-append_false (e ∷ p) q none, synced_part-append_false p q none)

unsynced_part-append_true : (p q : List Event) → has_sync q ≡ true → unsynced_part (p ++ q) ≡ unsynced_part q
unsynced_part-append_true p q some =
    ap (λ (r : List Event). drop (length r) (p ++ q)) (synced_part-append_true p q some)
    ∙ ap (λ (n : ℕ). drop n (p ++ q)) (length-append p (synced_part q))
    ∙ drop-append-add p q (length (synced_part q))

pub unsynced_part-append_false : (p q : List Event) → has_sync q ≡ false → unsynced_part (p ++ q) ≡ unsynced_part p ++ q
unsynced_part-append_false p q none =
    ap (λ (r : List Event). drop (length r) (p ++ q)) (synced_part-append_false p q none)
    ∙ drop-append-le (length (synced_part p)) p q (length-synced_part p)

unsynced_part-none : (q : List Event) → has_sync q ≡ false → unsynced_part q ≡ q
unsynced_part-none q none = ap (λ (r : List Event). drop (length r) q) (synced_part-none q none)

-- the candidates by Synced and what is pending
candidates-by : (base now : List (List ℕ)) (p q : List Event) (b s : ℕ) → synced_after base p ≡ synced_after now q → pending p b ≡ pending q b → candidates base p b s ≡ candidates now q b s
candidates-by base now p q b s synced written =
    ap (λ (d : List (List ℕ)). sector (block d b) s ∷ map (λ w. sector w s) (pending p b)) synced
    ∙ ap (λ (ws : List (List ℕ)). sector (block (synced_after now q) b) s ∷ map (λ w. sector w s) ws) written

candidates-settled_by : (base : List (List ℕ)) (p q : List Event) (b s : ℕ) → IsSettled p → (t : Bool) → has_sync q ≡ t → candidates base (p ++ q) b s ≡ candidates (now_after base p) q b s
candidates-settled_by base p q b s settled true some =
    candidates-by base (now_after base p) (p ++ q) q b s
    (ap (λ (r : List Event). now_after base r) (synced_part-append_true p q some) ∙ now_after-append base p (synced_part q))
    (ap (λ (r : List Event). written_to b r) (unsynced_part-append_true p q some))
candidates-settled_by base p q b s settled false none =
    candidates-by base (now_after base p) (p ++ q) q b s
    (ap (λ (r : List Event). now_after base r) (synced_part-append_false p q none)
    ∙ sym (image-settled base p (now_after base p) settled (image-now base p))
    ∙ ap (λ (r : List Event). now_after (now_after base p) r) (sym (synced_part-none q none)))
    (ap (λ (r : List Event). written_to b r) (unsynced_part-append_false p q none)
    ∙ written_to-append b (unsynced_part p) q
    ∙ ap (λ (ws : List (List ℕ)). ws ++ written_to b q) (settled b)
    ∙ ap (λ (r : List Event). written_to b r) (sym (unsynced_part-none q none)))

-- a settled disk goes on as one that begins as it is now
pub candidates-settled : (base : List (List ℕ)) (p q : List Event) (b s : ℕ) → IsSettled p → candidates base (p ++ q) b s ≡ candidates (now_after base p) q b s
candidates-settled base p q b s settled = candidates-settled_by base p q b s settled (has_sync q) refl

pub image-from_settled : (base j : List (List ℕ)) (p q : List Event) → IsSettled p → IsImage base (p ++ q) j → IsImage (now_after base p) q j
image-from_settled base j p q settled image = record {
  as_long = image.as_long ∙ sym (length-now_after base p);
  each_sector = λ b s. subst (λ cs. Contains cs (sector (block j b) s)) (candidates-settled base p q b s settled) (image.each_sector b s);
}

pub image-to_settled : (base j : List (List ℕ)) (p q : List Event) → IsSettled p → IsImage (now_after base p) q j → IsImage base (p ++ q) j
image-to_settled base j p q settled image = record {
  as_long = image.as_long ∙ length-now_after base p;
  each_sector = λ b s. subst (λ cs. Contains cs (sector (block j b) s)) (sym (candidates-settled base p q b s settled)) (image.each_sector b s);
}

-- an image stays one as long as no sync is Ok
pub image-stays : (base j : List (List ℕ)) (p q : List Event) → has_sync q ≡ false → IsImage base p j → IsImage base (p ++ q) j
image-stays base j p q none image = record {
  as_long = image.as_long;
  each_sector = λ b s.
      let synced : synced_after base (p ++ q) ≡ synced_after base p = ap (λ (r : List Event). now_after base r) (synced_part-append_false p q none) in
      let written : pending (p ++ q) b ≡ pending p b ++ written_to b q = ap (λ (r : List Event). written_to b r) (unsynced_part-append_false p q none) ∙ written_to-append b (unsynced_part p) q in
      let longer : candidates base (p ++ q) b s ≡ candidates base p b s ++ map (λ w. sector w s) (written_to b q) =
      ap (λ (d : List (List ℕ)). sector (block d b) s ∷ map (λ w. sector w s) (pending (p ++ q) b)) synced
      ∙ ap (λ (ws : List (List ℕ)). sector (block (synced_after base p) b) s ∷ map (λ w. sector w s) ws) written
      ∙ ap (λ (cs : List (List ℕ)). sector (block (synced_after base p) b) s ∷ cs) (map-append (λ (w : List ℕ). sector w s) (pending p b) (written_to b q)) in
      subst (λ cs. Contains cs (sector (block j b) s)) (sym longer)
      (Contains-append_left (candidates base p b s) (map (λ w. sector w s) (written_to b q)) (sector (block j b) s) (image.each_sector b s));
}
