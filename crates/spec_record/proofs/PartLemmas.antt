-- The laws of the parts of a record.
use Rattle.std.proofs.Common.{◌≡◌, ◌≢◌, ◌≤◌, ◌<◌, ℕ, zero, suc, ◌+◌, ◌-◌, ◌%◌, List, [], ◌∷◌, ◌++◌, length, take, drop, get_or, Bool, true, false, cond, eqb, refl, ap, sym, ◌∙◌, subst, inl, inr, arith, lit<}
use Rattle.std.proofs.lemmas.Bool.{cases_eq, cases_lt}
use Rattle.std.proofs.lemmas.List.{length-take, length-drop, length-append, get_or-take, get_or-drop, get_or_append_left, get_or-append_right}
use Rattle.std.proofs.lemmas.Nat.{mod_below}
use Rattle.std.proofs.Math.Nat.{mod-eq_of_lt, mod-eq-sub-mod, mod-add-mod}
use Rattle.spec_record.specs.Field.{number_of, bytes_of, field}
use Rattle.spec_record.specs.Tests.{zeros_in_front, first_set}
use Rattle.spec_record.specs.Geometry.{most_blocks, most_nodes}
use Rattle.spec_record.specs.Places.{entry_magic}
use Rattle.spec_record.specs.EntryBlocks.{stored}
use Rattle.spec_record.specs.PartLaws.{MagicsAreBytes, FaultNamesFirstSet, StoredHidesMagic, PayloadComesBack, GeometryFitsEntries, RegionsFollow, RingIsCyclic, RingIsWhole}
use Rattle.spec_record.proofs.FieldLemmas.{field-first}
use Rattle.spec_record.proofs.TestLemmas.{eqb_same}
use Rattle.spec_record.proofs.SuperLemmas.{most_blocks-le, most_nodes-le}
use Rattle.spec_record.proofs.PayloadLemmas.{restored-stored}

pub magics_are_bytes : MagicsAreBytes
unfolding bytes_of
magics_are_bytes = record { first = refl; second = refl; entry = refl }

not_before : (byte : ℕ) (bytes : List ℕ) (i : ℕ) → byte ≢ 0 → i < zeros_in_front (byte ∷ bytes) → ⊥
not_before byte bytes i ne lt =
    let t : eqb byte 0 ≡ false = grind (arith, ne) in
    let lt' : i < 0 = subst (λ (b : Bool). i < cond b (1 + zeros_in_front bytes) 0) t lt in
    omega (arith, lt')

zeros_before : (bytes : List ℕ) (i : ℕ) → i < zeros_in_front bytes → get_or bytes i 0 ≡ 0
zeros_before [] i lt = absurd (omega (arith, lt))
zeros_before (byte ∷ bytes) zero lt =
    elim (cases_eq byte 0) [
      | inl is ↦ is
      | inr ne ↦ absurd (not_before byte bytes 0 ne lt)
    ]
zeros_before (byte ∷ bytes) (suc i) lt =
    elim (cases_eq byte 0) [
      | inl is ↦
          let t : eqb byte 0 ≡ true = eqb_same byte 0 is in
          let lt' : suc i < 1 + zeros_in_front bytes = subst (λ (b : Bool). suc i < cond b (1 + zeros_in_front bytes) 0) t lt in
          zeros_before bytes i (omega (arith, lt'))
      | inr ne ↦ absurd (not_before byte bytes (suc i) ne lt)
    ]

first_found : (bytes : List ℕ) (width : ℕ) → number_of (take width bytes) ≢ 0 → (zeros_in_front bytes < width) × (get_or bytes (zeros_in_front bytes) 0 ≢ 0)
unfolding number_of
first_found bytes zero ne = absurd (ne refl)
first_found [] (suc width) ne = absurd (ne refl)
first_found (byte ∷ bytes) (suc width) ne =
    elim (cases_eq byte 0) [
      | inl is ↦
          let t : eqb byte 0 ≡ true = eqb_same byte 0 is in
          let rest = first_found bytes width (λ e. ne (omega (arith, e, is))) in
          let next : 1 + zeros_in_front bytes ≡ suc (zeros_in_front bytes) = omega arith in
          subst (λ (b : Bool). (cond b (1 + zeros_in_front bytes) 0 < suc width) × (get_or (byte ∷ bytes) (cond b (1 + zeros_in_front bytes) 0) 0 ≢ 0)) (sym t)
          (subst (λ (k : ℕ). (k < suc width) × (get_or (byte ∷ bytes) k 0 ≢ 0)) (sym next) (omega (arith, rest.0), rest.1))
      | inr not_zero ↦
          let t : eqb byte 0 ≡ false = grind (arith, not_zero) in
          subst (λ (b : Bool). (cond b (1 + zeros_in_front bytes) 0 < suc width) × (get_or (byte ∷ bytes) (cond b (1 + zeros_in_front bytes) 0) 0 ≢ 0)) (sym t) (omega arith, not_zero)
    ]

pub fault_names_first_set : FaultNamesFirstSet
unfolding first_set field
fault_names_first_set bytes offset width ne =
    let found = first_found (drop offset bytes) width ne in
    let z : ℕ = zeros_in_front (drop offset bytes) in
    record {
      from_offset = omega arith;
      within = omega (arith, found.0);
      set = λ e. found.1 (get_or-drop offset bytes z 0 ∙ e);
      zeros = λ i le lt.
          let same : offset + (i - offset) ≡ i = omega arith in
          ap (λ (k : ℕ). get_or bytes k 0) (sym same) ∙ sym (get_or-drop offset bytes (i - offset) 0) ∙ zeros_before (drop offset bytes) (i - offset) (omega (arith, le, lt));
    }

pub stored_hides_magic : StoredHidesMagic
unfolding stored
stored_hides_magic payload =
    elim (cases_eq (field payload 0 8) entry_magic) [
      | inl is ↦
          let t : eqb (field payload 0 8) entry_magic ≡ true = eqb_same (field payload 0 8) entry_magic is in
          let front : field (bytes_of 8 0 ++ drop 8 payload) 0 8 ≡ 0 = field-first 8 0 (drop 8 payload) (lit< tt) in
          rw t (rw front refl)
      | inr ne ↦
          let t : eqb (field payload 0 8) entry_magic ≡ false = grind (arith, ne) in
          rw t (rw t refl)
    ]

pub payload_comes_back : PayloadComesBack
payload_comes_back = restored-stored

pub geometry_fits_entries : GeometryFitsEntries
geometry_fits_entries g l =
    let blocks : g.blocks ≤ 4194304 = omega (arith, l.blocks.to_high, most_blocks-le g.version) in
    let nodes : g.nodes ≤ 65536 = omega (arith, l.nodes.to_high, most_nodes-le g.version) in
    record {
      most_meta = omega arith;
      most_meta_1 = λ one.
          let blocks_1 : g.blocks ≤ 1048576 = subst (λ (v : ℕ). g.blocks ≤ most_blocks v) one l.blocks.to_high in
          let nodes_1 : g.nodes ≤ 32768 = subst (λ (v : ℕ). g.nodes ≤ most_nodes v) one l.nodes.to_high in
          omega arith;
      in_ring = omega (arith, l.journal.from_low);
    }

pub regions_follow : RegionsFollow
regions_follow g slot block s_lt b_lt = record { info_first = omega arith; then_slots = omega arith; then_blocks = omega arith }

pub ring_is_whole : RingIsWhole
ring_is_whole ring slot = omega (arith, length-append (drop (slot % length ring) ring) (take (slot % length ring) ring), length-drop (slot % length ring) ring, length-take (slot % length ring) ring)

pub ring_is_cyclic : RingIsCyclic
ring_is_cyclic ring slot i lt =
    let n : ℕ = length ring in
    let s : ℕ = slot % n in
    let s_lt : s < n = mod_below slot n (omega arith) in
    let place : (s + i) % n ≡ (slot + i) % n = mod-add-mod slot n i in
    elim (cases_lt i (n - s)) [
      | inl before ↦
          let small_lt : s + i < n = omega arith in
          let small : (s + i) % n ≡ s + i = mod-eq_of_lt small_lt in
          get_or_append_left (drop s ring) (take s ring) [] i (omega (arith, length-drop s ring, before))
          ∙ get_or-drop s ring i []
          ∙ ap (λ (k : ℕ). get_or ring k []) (sym small ∙ place)
      | inr le ↦
          let over : n ≤ s + i = omega arith in
          let rest_lt : s + i - n < n = omega arith in
          let less : (s + i) % n ≡ (s + i - n) % n = mod-eq-sub-mod over in
          let rest : (s + i - n) % n ≡ s + i - n = mod-eq_of_lt rest_lt in
          let back : (s + i) % n ≡ s + i - n = less ∙ rest in
          let there : i - (n - s) ≡ s + i - n = omega arith in
          get_or-append_right (drop s ring) (take s ring) (n - s) i [] (length-drop s ring) le
          ∙ get_or-take s ring (i - (n - s)) [] (omega arith)
          ∙ ap (λ (k : ℕ). get_or ring k []) (there ∙ sym back ∙ place)
    ]
