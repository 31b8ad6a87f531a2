-- The blocks that an entry makes, as a replay says them and as a loop over its targets makes them; and
-- what the changes of an entry leave.
use Rattle.std.proofs.Common.{◌≡◌, ◌<◌, ◌⊎◌, ℕ, List, [], ◌∷◌, length, map, set, Bool, true, false, cond, eqb, Option, Some, None, refl, ap, sym, ◌∙◌, subst, inl, inr, arith}
use Rattle.std.proofs.lemmas.List.{get_or-set_same, get_or-set_other, same_lists, get_or_default}
use Rattle.std.proofs.lemmas.List.FromFn.{get_or-map-range_with_len, length-map-range_with_len}
use Rattle.std.proofs.lemmas.Bool.Decides.{eqb_tells}
use Rattle.std.proofs.Math.ListN.{length-set}
use Rattle.std.specs.Option.{is_some, unwrap_or}
use Rattle.std.specs.Prelude.{Contains}
use Rattle.spec_disk.specs.Disk.{Blocks, block}
use Rattle.spec_disk.proofs.ImageLemmas.{Contains-head, Contains-cons, Contains-cons_cases}
use Rattle.spec_record.specs.declared.extent.Extent.{Extent}
use Rattle.spec_image.specs.After.{last_naming}
use Rattle.spec_image.specs.Chain.{BlobRecord}
use Rattle.spec_image.specs.Metadata.{Metadata}
use Rattle.spec_image.specs.Stored.{blocks_of}
use Rattle.spec_image.specs.WellFormed.{records_of, is_well_formed}
use Rattle.spec_image.specs.WellFormedParts.{WellFormed}
use Rattle.spec_image.proofs.WellFormedLemmas.{well_formed_parts}
use Rattle.spec_meta.specs.Blocks.{patched}
use Rattle.spec_meta.specs.Change.{Change as MetaChange, Publish as Published, Purge as Purged, published, purged, after_change, after_all}
use Rattle.spec_meta.specs.Fits.{FitsPublish, FitsPurge, Fits, AllFit}
use Rattle.spec_meta.proofs.ChangeLemmas.{changes_keep}
use Rattle.spec_meta.proofs.Counting.{Inserted}
use Rattle.spec_meta.proofs.PublishLemmas.{publish_records}
use Rattle.spec_meta.proofs.PurgeLemmas.{read_at, purge_records}
use Rattle.bv_journal.specs.Holds.{patched as replayed}
use Rattle.bv_txn.specs.declared.change.Change.{Change}
use Rattle.bv_txn.specs.declared.change.Change.TheVariants.{Publish, Purge}
use Rattle.bv_txn.specs.Changes.{change_of}
use Rattle.bv_journaled.specs.Standing.{freed_by}
use Rattle.bv_journaled.proofs.EntryLemmas.{more_in_front, one_or_other, no_nodes, of_change}
use Rattle.bv_journaled.proofs.PlacedLemmas.{in_first, in_second, in_either}

-- ---- blocks

pub length-patched : (ps : List (ℕ × List ℕ)) (meta : Blocks) → length (patched ps meta) ≡ length meta
length-patched [] meta = refl
length-patched (p ∷ ps) meta = length-patched ps (set meta p.0 p.1) ∙ length-set meta p.0 p.1

chosen : (later : Option (List ℕ)) (t : Bool) (payload before : List ℕ) → unwrap_or (cond (is_some later) later (cond t (Some payload) None)) before ≡ unwrap_or later (cond t payload before)
chosen (Some x) t payload before = refl
chosen None true payload before = refl
chosen None false payload before = refl

set_at : (meta : Blocks) (at t : ℕ) (bytes : List ℕ) → t < length meta → block (set meta at bytes) t ≡ cond (eqb at t) bytes (block meta t)
set_at meta at t bytes lt = elim (eqb_tells at t) [
  | inl is ↦ ap (block (set meta at bytes)) (sym is.1) ∙ get_or-set_same meta at bytes [] (omega (arith, is.1, lt)) ∙ sym (ap (λ (b : Bool). cond b bytes (block meta t)) is.0)
  | inr other ↦ get_or-set_other meta at t bytes [] (λ e. other.1 (sym e)) ∙ sym (ap (λ (b : Bool). cond b bytes (block meta t)) other.0)
]

patched_at : (ps : List (ℕ × List ℕ)) (meta : Blocks) (t : ℕ) → t < length meta → block (patched ps meta) t ≡ unwrap_or (last_naming t ps) (block meta t)
patched_at [] meta t lt = refl
patched_at (p ∷ ps) meta t lt =
    patched_at ps (set meta p.0 p.1) t (omega (arith, lt, length-set meta p.0 p.1))
    ∙ ap (unwrap_or (last_naming t ps)) (set_at meta p.0 t p.1 lt)
    ∙ sym (chosen (last_naming t ps) (eqb p.0 t) p.1 (block meta t))

pub patched_same : (ps : List (ℕ × List ℕ)) (meta : Blocks) → replayed ps meta ≡ patched ps meta
patched_same ps meta =
    let f : ℕ → List ℕ = λ t. unwrap_or (last_naming t ps) (block meta t) in
    let long : length (replayed ps meta) ≡ length meta = length-map-range_with_len f 0 (length meta) in
    same_lists (replayed ps meta) (patched ps meta) (long ∙ sym (length-patched ps meta)) (λ k e lt.
    let below : k < length meta = omega (arith, lt, long) in
    get_or_default (replayed ps meta) k e [] lt
    ∙ get_or-map-range_with_len f 0 (length meta) k k [] below (omega arith)
    ∙ sym (patched_at ps meta k below)
    ∙ sym (get_or_default (patched ps meta) k e [] (omega (arith, below, length-patched ps meta))))

-- ---- changes

pub same_geometry : (m : Metadata) (cs : List MetaChange) → (after_all m cs).super.geometry ≡ m.super.geometry
same_geometry m [] = refl
same_geometry m (Published b ∷ cs) = same_geometry (published m b) cs
same_geometry m (Purged ks es ∷ cs) = same_geometry (purged m ks es) cs

stays_published : (m : Metadata) (b r : BlobRecord) → WellFormed m → FitsPublish m b → Contains (records_of m) r → Contains (records_of (published m b)) r
stays_published m b r w fit c = with_nodes b.nodes refl
  where
    with_nodes : (ns : List ℕ) → b.nodes ≡ ns → Contains (records_of (published m b)) r
    with_nodes [] is = absurd (no_nodes (length b.extents) (ap (length {A = ℕ}) (sym is) ∙ fit.node_count))
    with_nodes (k ∷ ks) is =
        let i : Inserted b (records_of m) (records_of (published m b)) = publish_records m b fit w k ks is in
        subst (λ (l : List BlobRecord). Contains l r) (sym i.after) (more_in_front i.front i.back b r (subst (λ (l : List BlobRecord). Contains l r) i.before c))

stays_purged : (m : Metadata) (b r : BlobRecord) → WellFormed m → Contains (records_of m) b → Contains (records_of m) r → (r ≡ b) ⊎ Contains (records_of (purged m b.nodes b.extents)) r
stays_purged m b r w has c =
    let p = read_at m.nodes m.super.geometry.blocks m.nodes.count b has in
    let i : Inserted b (records_of (purged m b.nodes b.extents)) (records_of m) = purge_records m b w p.0 p.1 p.2 in
    elim (one_or_other i.front i.back b r (subst (λ (l : List BlobRecord). Contains l r) i.after c)) [
      | inl is ↦ inl is
      | inr stays ↦ inr (subst (λ (l : List BlobRecord). Contains l r) (sym i.before) stays)
    ]

-- a blob stays over a change that fits, or the change is its purge
one_stays : (m : Metadata) (c : MetaChange) (r : BlobRecord) → WellFormed m → Fits m c → Contains (records_of m) r → (c ≡ Purged r.nodes r.extents) ⊎ Contains (records_of (after_change m c)) r
one_stays m (Published b) r w fit has = inr (stays_published m b r w fit has)
one_stays m (Purged ks es) r w fit has =
    elim (stays_purged m fit.blob r w fit.present has) [
      | inl is ↦ inl (ap (λ (x : List ℕ). Purged x es) (fit.nodes ∙ ap (λ (x : BlobRecord). x.nodes) (sym is)) ∙ ap (λ (x : List Extent). Purged r.nodes x) (fit.extents ∙ ap (λ (x : BlobRecord). x.extents) (sym is)))
      | inr stays ↦
          let with_extents = subst (λ (x : List Extent). Contains (records_of (purged m (fit.blob).nodes x)) r) (sym fit.extents) stays in
          inr (subst (λ (x : List ℕ). Contains (records_of (purged m x es)) r) (sym fit.nodes) with_extents)
    ]

pub all_stay : (m : Metadata) (cs : List MetaChange) (r : BlobRecord) → is_well_formed m ≡ true → AllFit m cs → Contains (records_of m) r → Contains cs (Purged r.nodes r.extents) ⊎ Contains (records_of (after_all m cs)) r
all_stay m [] r formed fit has = inr has
all_stay m (c ∷ cs) r formed fit has =
    elim (one_stays m c r (well_formed_parts m formed) fit.0 has) [
      | inl here ↦ inl (subst (λ (x : MetaChange). Contains (c ∷ cs) x) here (Contains-head c cs))
      | inr stays ↦ elim (all_stay (after_change m c) cs r (changes_keep m (c ∷ []) formed (fit.0, tt)) fit.1 stays) [
        | inl later ↦ inl (Contains-cons c cs (Purged r.nodes r.extents) later)
        | inr there ↦ inr there
      ]
    ]

-- the blocks of a purge are freed
pub purge_frees : (cs : List Change) (nodes : List ℕ) (extents : List Extent) (x : ℕ) → Contains (map change_of cs) (Purged nodes extents) → Contains (blocks_of extents) x → Contains (freed_by cs) x
purge_frees [] nodes extents x (k, below, is) c = absurd (omega (arith, below))
purge_frees (Publish root size version es ns ∷ cs) nodes extents x among c =
    elim (Contains-cons_cases (change_of (Publish root size version es ns)) (map change_of cs) (Purged nodes extents) among) [
      | inl is ↦ absurd cc
      | inr later ↦ purge_frees cs nodes extents x later c
    ]
purge_frees (Purge ns es ∷ cs) nodes extents x among c =
    elim (Contains-cons_cases (Purged ns.items es.items) (map change_of cs) (Purged nodes extents) among) [
      | inl is ↦ let same : es.items ≡ extents = cc in in_first (blocks_of es.items) (freed_by cs) x (subst (λ (l : List Extent). Contains (blocks_of l) x) (sym same) c)
      | inr later ↦ in_second (blocks_of es.items) (freed_by cs) x (purge_frees cs nodes extents x later c)
    ]

-- and what is freed was a block of a purge
pub freed_of : (cs : List Change) (x : ℕ) → Contains (freed_by cs) x → (nodes : List ℕ) × (extents : List Extent) × Contains (map change_of cs) (Purged nodes extents) × Contains (blocks_of extents) x
freed_of [] x (k, below, is) = absurd (omega (arith, below))
freed_of (Publish root size version es ns ∷ cs) x c =
    let rest = freed_of cs x c in
    (rest.0, rest.1, Contains-cons (change_of (Publish root size version es ns)) (map change_of cs) (Purged rest.0 rest.1) rest.2, rest.3)
freed_of (Purge ns es ∷ cs) x c =
    elim (in_either (blocks_of es.items) (freed_by cs) x c) [
      | inl here ↦ (ns.items, es.items, Contains-head (Purged ns.items es.items) (map change_of cs), here)
      | inr later ↦ let rest = freed_of cs x later in (rest.0, rest.1, Contains-cons (Purged ns.items es.items) (map change_of cs) (Purged rest.0 rest.1) rest.2, rest.3)
    ]

-- a block that a purge frees is one of a blob that was there, or of one that is published
pub freed_known : (m : Metadata) (cs : List MetaChange) (ks : List ℕ) (es : List Extent) (x : ℕ) → is_well_formed m ≡ true → AllFit m cs → Contains cs (Purged ks es) → Contains (blocks_of es) x
    → ((r : BlobRecord) × Contains (records_of m) r × Contains (blocks_of r.extents) x) ⊎ ((r : BlobRecord) × Contains cs (Published r) × Contains (blocks_of r.extents) x)
freed_known m [] ks es x formed fit (k, below, is) of = absurd (omega (arith, below))
freed_known m (c ∷ cs) ks es x formed fit among of =
    elim (Contains-cons_cases c cs (Purged ks es) among) [
      | inl is ↦
          let here : FitsPurge m ks es = subst (λ (y : MetaChange). Fits m y) is fit.0 in
          inl (here.blob, here.present, subst (λ (l : List Extent). Contains (blocks_of l) x) here.extents of)
      | inr later ↦ elim (freed_known (after_change m c) cs ks es x (changes_keep m (c ∷ []) formed (fit.0, tt)) fit.1 later of) [
        | inl old ↦ elim (of_change m c old.0 (well_formed_parts m formed) fit.0 old.1) [
          | inl published ↦ inr (old.0, subst (λ (y : MetaChange). Contains (c ∷ cs) y) published (Contains-head c cs), old.2)
          | inr there ↦ inl (old.0, there, old.2)
        ]
        | inr new ↦ inr (new.0, Contains-cons c cs (Published new.0) new.1, new.2)
      ]
    ]
