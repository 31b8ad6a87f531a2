-- A block that was written once since the last Ok sync, and the sizes of blocks.
use Rattle.std.proofs.Common.{◌≡◌, ◌≢◌, ◌⊎◌, ℕ, ◌-◌, ◌*◌, min, List, [], ◌∷◌, ◌++◌, length, drop, map, Bool, true, false, cond, eqb, ap, sym, ◌∙◌, subst, inl, inr, arith, set, get_or}
use Rattle.std.specs.List.{All, Contains}
use Rattle.std.proofs.lemmas.Bool.{cases_eq}
use Rattle.std.proofs.lemmas.List.{length-take, length-drop, get_or_default}
use Rattle.std.proofs.lemmas.List.Elements.{All-contains, All-map, All-nil, All-cons, All-set}
use Rattle.spec_disk.specs.declared.event.Event.{Event}
use Rattle.spec_disk.specs.declared.event.Event.TheVariants.{Write, Sync}
use Rattle.spec_disk.specs.Disk.{block, sector, now_after, synced_part, unsynced_part, synced_after}
use Rattle.spec_disk.specs.Images.{written_to, pending, candidates, IsImage}
use Rattle.spec_disk.specs.Laws.{AreWhole}
use Rattle.spec_disk.proofs.EventLemmas.{synced-append-unsynced, length-synced_after}
use Rattle.spec_disk.proofs.ImageLemmas.{Contains-head, Contains-cons_cases, Contains-one, same_sectors, IsImageWith-from}

-- a sector of a block that was written once: the synced one, or the one that was written
sector-once : (base : List (List ℕ)) (p : List Event) (j : List (List ℕ)) (b s : ℕ) (bytes : List ℕ) → pending p b ≡ bytes ∷ [] → IsImage base p j
    → (sector (block j b) s ≡ sector (block (synced_after base p) b) s) ⊎ (sector (block j b) s ≡ sector bytes s)
sector-once base p j b s bytes once image =
    let two = subst (λ ws. Contains (sector (block (synced_after base p) b) s ∷ map (λ w. sector w s) ws) (sector (block j b) s)) once (image.each_sector b s) in
    elim (Contains-cons_cases (sector (block (synced_after base p) b) s) (sector bytes s ∷ []) (sector (block j b) s) two) [
      | inl old ↦ inl (sym old)
      | inr new ↦ inr (sym (Contains-one (sector bytes s) (sector (block j b) s) new))
    ]

-- a write that changes one sector is done or not
pub image-one_sector : (base : List (List ℕ)) (p : List Event) (j : List (List ℕ)) (b t : ℕ) (bytes : List ℕ) → pending p b ≡ bytes ∷ []
    → ((s : ℕ) → s ≢ t → sector bytes s ≡ sector (block (synced_after base p) b) s) → IsImage base p j
    → (block j b ≡ block (synced_after base p) b) ⊎ (block j b ≡ bytes)
image-one_sector base p j b t bytes once same image =
    let old : List ℕ = block (synced_after base p) b in
    let rest : (s : ℕ) → s ≢ t → sector (block j b) s ≡ sector old s = λ s ne. elim (sector-once base p j b s bytes once image) [ inl is ↦ is | inr is ↦ is ∙ same s ne ] in
    elim (sector-once base p j b t bytes once image) [
      | inl is ↦ inl (same_sectors (block j b) old (λ s. elim (cases_eq s t) [ inl at ↦ subst (λ k. sector (block j b) k ≡ sector old k) (sym at) is | inr ne ↦ rest s ne ]))
      | inr is ↦ inr (same_sectors (block j b) bytes (λ s. elim (cases_eq s t) [ inl at ↦ subst (λ k. sector (block j b) k ≡ sector bytes k) (sym at) is | inr ne ↦ rest s ne ∙ sym (same s ne) ]))
    ]

-- a write of what Synced has there adds no image
pub image-same_write : (base : List (List ℕ)) (p : List Event) (j : List (List ℕ)) (at : ℕ) (ok : Bool) → IsImage base (p ++ Write at (block (synced_after base p) at) ok ∷ []) j → IsImage base p j
image-same_write base p j at ok image =
    let with = IsImageWith-from base p at (block (synced_after base p) at) ok j image in
    record {
      as_long = with.as_long;
      each_sector = λ b s. elim (with.each_sector b s) [
        | inl before ↦ before
        | inr (here, is) ↦
            subst (λ k. Contains (candidates base p k s) (sector (block j b) s)) (sym here)
            (subst (λ x. Contains (candidates base p at s) x) (sym is) (Contains-head (sector (block (synced_after base p) at) s) (map (λ w. sector w s) (pending p at))))
      ];
    }

-- Sizes of blocks

length-sector : (bytes : List ℕ) (s : ℕ) → length (sector bytes s) ≡ min 512 (length bytes - 512 * s)
length-sector bytes s = length-take 512 (drop (512 * s) bytes) ∙ ap (λ (n : ℕ). min 512 n) (length-drop (512 * s) bytes)

-- a sector is as long as those of whole blocks, where it is one of theirs
length-one_of : (values : List (List ℕ)) (x : List ℕ) (s : ℕ) → AreWhole values → Contains (map (λ w. sector w s) values) (sector x s) → min 512 (length x - 512 * s) ≡ min 512 (8192 - 512 * s)
length-one_of values x s whole one =
    let each : All (λ y. length y ≡ min 512 (8192 - 512 * s)) (map (λ w. sector w s) values) =
    All-map (λ y. length y ≡ min 512 (8192 - 512 * s)) (λ w. sector w s) values
    (λ k d below. length-sector (get_or values k d) s ∙ ap (λ (n : ℕ). min 512 (n - 512 * s)) (whole k d below)) in
    sym (length-sector x s) ∙ All-contains (λ y. length y ≡ min 512 (8192 - 512 * s)) (map (λ w. sector w s) values) (sector x s) each one

-- a block whose last sector is full and that has no further one
length-block : (values : List (List ℕ)) (x : List ℕ) → AreWhole values → ((s : ℕ) → Contains (map (λ w. sector w s) values) (sector x s)) → length x ≡ 8192
length-block values x whole each =
    let last : min 512 (length x - 7680) ≡ 512 = length-one_of values x 15 whole (each 15) in
    let past : min 512 (length x - 8192) ≡ 0 = length-one_of values x 16 whole (each 16) in
    omega (arith, last, past)

pub image-whole : (base j : List (List ℕ)) (p : List Event) (b : ℕ) → length (block (synced_after base p) b) ≡ 8192 → AreWhole (pending p b) → IsImage base p j → length (block j b) ≡ 8192
image-whole base j p b held written image =
    let values : AreWhole (block (synced_after base p) b ∷ pending p b) =
    All-cons (λ w. length w ≡ 8192) (block (synced_after base p) b) (pending p b) held written in
    length-block (block (synced_after base p) b ∷ pending p b) (block j b) values (λ s. image.each_sector b s)
