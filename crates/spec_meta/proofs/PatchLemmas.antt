-- Blocks that are patched, block by block.
use Rattle.std.proofs.Common.{◌≡◌, ◌≢◌, ◌<◌, ℕ, List, [], ◌∷◌, length, take, get_or, map, Bool, true, false, cond, eqb, Option, Some, None, unwrap_or, refl, ap, sym, ◌∙◌, subst, inl, inr, arith}
use Rattle.std.proofs.Math.ListN.{set, length-set}
use Rattle.std.proofs.lemmas.Bool.{cases_eq}
use Rattle.std.proofs.lemmas.List.{ext_get_or, get_or-set_same, get_or-set_other, get_or-take, length-take}
use Rattle.std.proofs.lemmas.List.FromFn.{length-map-range_with_len, get_or-map-range_with_len}
use Rattle.std.specs.Prelude.{is_some}
use Rattle.std.specs.List.{range_with_len}
use Rattle.spec_disk.specs.Disk.{block}
use Rattle.spec_record.specs.Geometry.{meta_blocks}
use Rattle.spec_image.specs.Journal.{journal_of}
use Rattle.spec_image.specs.Replay.{replay}
use Rattle.spec_image.specs.After.{payloads_of, last_naming, after}
use Rattle.spec_meta.specs.Blocks.{patched}
use Rattle.spec_meta.specs.Laws.{ReplayPatches, PatchesJoin}

abbrev Payloads : Type 0
Payloads = List (ℕ × List ℕ)

length_patched : (ps : Payloads) (blocks : List (List ℕ)) → length (patched ps blocks) ≡ length blocks
length_patched [] blocks = refl
length_patched (p ∷ ps) blocks =
    length_patched ps (set blocks p.0 p.1) ∙ length-set blocks p.0 p.1

-- a later payload counts more than this one, which counts more than the block before
chosen : (later : Option (List ℕ)) (named : Bool) (payload before : List ℕ) → unwrap_or (cond (is_some later) later (cond named (Some payload) None)) before ≡ unwrap_or later (cond named payload before)
chosen (Some x) named payload before = refl
chosen None true payload before = refl
chosen None false payload before = refl

one_set : (blocks : List (List ℕ)) (at t : ℕ) (payload : List ℕ) → t < length blocks → get_or (set blocks at payload) t [] ≡ cond (eqb at t) payload (get_or blocks t [])
one_set blocks at t payload lt =
    elim (cases_eq at t) [
      | inl is ↦
          let yes : eqb at t ≡ true = grind (arith, is) in
          let here : get_or (set blocks t payload) t [] ≡ payload = rw get_or-set_same refl in
          subst (λ (k : ℕ). get_or (set blocks k payload) t [] ≡ payload) (sym is) here ∙ sym (ap (λ (b : Bool). cond b payload (get_or blocks t [])) yes)
      | inr ne ↦
          let no : eqb at t ≡ false = grind (arith, ne) in
          let other : t ≢ at = λ e. ne (sym e) in
          let kept : get_or (set blocks at payload) t [] ≡ get_or blocks t [] = rw get_or-set_other refl in
          kept ∙ sym (ap (λ (b : Bool). cond b payload (get_or blocks t [])) no)
    ]

-- a block is the last payload that names it, or else what it was
patched_at : (ps : Payloads) (blocks : List (List ℕ)) (t : ℕ) → t < length blocks → get_or (patched ps blocks) t [] ≡ unwrap_or (last_naming t ps) (get_or blocks t [])
patched_at [] blocks t lt = refl
patched_at (p ∷ ps) blocks t lt =
    patched_at ps (set blocks p.0 p.1) t (omega (arith, lt, length-set blocks p.0 p.1))
    ∙ ap (unwrap_or (last_naming t ps)) (one_set blocks p.0 t p.1 lt)
    ∙ sym (chosen (last_naming t ps) (eqb p.0 t) p.1 (get_or blocks t []))

pub replay_patches : ReplayPatches
unfolding after
replay_patches g image room =
    let ps : Payloads = payloads_of (replay (journal_of g image)) in
    let m : ℕ = meta_blocks g in
    let f : ℕ → List ℕ = λ t. unwrap_or (last_naming t ps) (block image t) in
    let long : length (map f (range_with_len 0 m)) ≡ m = length-map-range_with_len f 0 m in
    let first : length (take m image) ≡ m = omega (arith, length-take m image, room) in
    let same : length (map f (range_with_len 0 m)) ≡ length (patched ps (take m image)) = omega (arith, long, first, length_patched ps (take m image)) in
    ext_get_or [] (map f (range_with_len 0 m)) (patched ps (take m image)) same
    (λ t lt.
    let below : t < m = omega (arith, lt, long) in
    get_or-map-range_with_len f 0 m t t [] below (omega arith)
    ∙ ap (unwrap_or (last_naming t ps)) (sym (get_or-take m image t [] below))
    ∙ sym (patched_at ps (take m image) t (omega (arith, below, first))))

pub patches_join : PatchesJoin
patches_join [] qs blocks = refl
patches_join (p ∷ ps) qs blocks = patches_join ps qs (set blocks p.0 p.1)
