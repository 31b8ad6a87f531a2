-- A node is read from its spelling alone.
use Rattle.std.proofs.Common.{◌≡◌, ◌≤◌, ◌<◌, ℕ, zero, suc, ◌+◌, ◌-◌, ◌*◌, ◌/◌, ◌%◌, ◌^◌, List, [], ◌∷◌, length, take, drop, map, get_or, replicate, true, false, cond, eqb, Result, Ok, Err, refl, ap, sym, ◌∙◌, subst, inl, inr, arith}
use Rattle.std.specs.Result.{result_ok}
use Rattle.std.proofs.lemmas.Bool.{cases_eq}
use Rattle.std.proofs.lemmas.Option.{same_Some}
use Rattle.std.proofs.lemmas.List.{get_or-map, get_or-drop, length-drop}
use Rattle.spec_record.specs.declared.extent.Extent.{Extent}
use Rattle.spec_record.specs.declared.inode.Inode.{Inode}
use Rattle.spec_record.specs.declared.container.Container.{Container}
use Rattle.spec_record.specs.declared.node.Node.{Node}
use Rattle.spec_record.specs.declared.node.Node.TheVariants as nodes
use Rattle.spec_record.specs.declared.node_fault.NodeFault.{NodeFault}
use Rattle.spec_record.specs.declared.node_fault.NodeFault.TheVariants as faults
use Rattle.spec_record.specs.Field.{number_of, field, fields, spelled, AllFit}
use Rattle.spec_record.specs.Tests.{value_or_fault}
use Rattle.spec_record.specs.Extent.{extent_in, extent_number, FitsExtent}
use Rattle.spec_record.specs.Node.{inode_in, container_in, version_test, zero_test, inode_tests, container_tests, node_or_fault}
use Rattle.spec_record.specs.NodeBytes.{IsPlace, IsInode, IsContainer, inode_widths, container_widths, inode_rows, container_rows, node_bytes}
use Rattle.spec_record.specs.Laws.{NodeIsRead, NodeIsPlace, NodeIsOne, SpellsNode}
use Rattle.spec_record.proofs.FieldLemmas.{spelled-all, fields-whole, length-spelled, IsBytes-spelled, field_below, IsBytes-part, length-part, same_numbers, number_of_below}
use Rattle.spec_record.proofs.TestLemmas.{Passed, value_passed, passed_value, some_ok, equal, eqb_same, between, is_between-true}
use Rattle.spec_record.proofs.ExtentLemmas.{extent_number-extent_in, extent_in-extent_number, extent_in-fits, extent_number-below, extents_back, extents-fit}
use Rattle.spec_record.proofs.ZeroLemmas.{zero_bytes, zero_field}

-- the widths of a container's extents
abbrev places : List ℕ
places = 8 ∷ 8 ∷ 8 ∷ 8 ∷ 8 ∷ 8 ∷ []

-- the number at a place
number_at : (bytes : List ℕ) (i : ℕ) → i < 6 → get_or (fields 16 places bytes) i 0 ≡ field bytes (16 + 8 * i) 8
number_at bytes zero lt = refl
number_at bytes (suc zero) lt = refl
number_at bytes (suc (suc zero)) lt = refl
number_at bytes (suc (suc (suc zero))) lt = refl
number_at bytes (suc (suc (suc (suc zero)))) lt = refl
number_at bytes (suc (suc (suc (suc (suc zero))))) lt = refl
number_at bytes (suc (suc (suc (suc (suc (suc i)))))) lt = absurd (omega (arith, lt))

-- the places past the count are zero where each of them is
wide_zero : (bytes : List ℕ) (count : ℕ) → ((i : ℕ) → count ≤ i → i < 6 → field bytes (16 + 8 * i) 8 ≡ 0) → field bytes (64 - 8 * (6 - count)) (8 * (6 - count)) ≡ 0
wide_zero bytes count zeros =
    zero_field bytes (64 - 8 * (6 - count)) (8 * (6 - count)) (λ j lt.
    let i : ℕ = count + j / 8 in
    let here : get_or bytes (16 + 8 * i + j % 8) 0 ≡ 0 = zero_bytes bytes (16 + 8 * i) 8 (j % 8) (zeros i (omega arith) (omega arith)) (omega arith) in
    let same : 64 - 8 * (6 - count) + j ≡ 16 + 8 * i + j % 8 = omega arith in
    ap (λ (k : ℕ). get_or bytes k 0) same ∙ here)

-- and each of them is where they all are
zero_place : (bytes : List ℕ) (count i : ℕ) → count ≤ i → i < 6 → field bytes (64 - 8 * (6 - count)) (8 * (6 - count)) ≡ 0 → field bytes (16 + 8 * i) 8 ≡ 0
zero_place bytes count i le lt e =
    zero_field bytes (16 + 8 * i) 8 (λ j j_lt.
    let same : 16 + 8 * i + j ≡ 64 - 8 * (6 - count) + (8 * (i - count) + j) = omega arith in
    ap (λ (k : ℕ). get_or bytes k 0) same ∙ zero_bytes bytes (64 - 8 * (6 - count)) (8 * (6 - count)) (8 * (i - count) + j) e (omega arith))

-- an inode's fields, read with flags 1 and every test, are a lawful inode's
inode_spelled : (bytes : List ℕ) (volume : ℕ) → IsPlace bytes → field bytes 0 2 ≡ 1 → Passed (version_test bytes volume ∷ inode_tests bytes) → SpellsNode bytes volume (nodes.Inode (inode_in bytes))
unfolding field
inode_spelled bytes volume place flags t =
    let fit = place.bytes_fit in
    let len = place.length_is in
    let i = inode_in bytes in
    let reserved : field bytes 54 2 ≡ 0 = equal (field bytes 54 2) 0 t.1.0 in
    let first : extent_number (extent_in (field bytes 56 8)) ≡ field bytes 56 8 = extent_number-extent_in (field bytes 56 8) in
    let rows : fields 0 inode_widths bytes ≡ inode_rows i = rw (flags, reserved, first) refl in
    record {
      lawful = record {
        version = between 1 (field bytes 2 2) volume t.0;
        next = field_below bytes 4 4 fit (omega arith);
        root_length = length-part 8 32 bytes (omega arith);
        root_bytes = IsBytes-part 8 32 bytes fit;
        size = field_below bytes 40 8 fit (omega arith);
        blocks = field_below bytes 48 4 fit (omega arith);
        extents = field_below bytes 52 2 fit (omega arith);
        first = extent_in-fits (field bytes 56 8) (field_below bytes 56 8 fit (omega arith));
        unused = λ none.
            let no : eqb (field bytes 52 2) 0 ≡ true = eqb_same (field bytes 52 2) 0 none in
            let zero_first : field bytes 56 8 ≡ 0 = equal (field bytes 56 8) 0 (rw no at t.1.1.0) in
            ap extent_in zero_first;
      };
      bytes_are = spelled-all inode_widths bytes fit len ∙ ap (spelled inode_widths) rows;
    }

numbers_back : (numbers : List ℕ) → numbers ≡ map extent_number (map extent_in numbers)
numbers_back [] = refl
numbers_back (number ∷ numbers) = rw (extent_number-extent_in number, sym (numbers_back numbers)) refl

-- the extent at a place
extent_at : (bytes : List ℕ) (i : ℕ) (d : Extent) → i < 6 → get_or (map extent_in (fields 16 places bytes)) i d ≡ extent_in (field bytes (16 + 8 * i) 8)
extent_at bytes i d lt = get_or-map extent_in (fields 16 places bytes) i 0 d lt ∙ ap extent_in (number_at bytes i lt)

-- a container's fields, read with flags 9 and every test, are a lawful container's
container_spelled : (bytes : List ℕ) (volume : ℕ) → IsPlace bytes → field bytes 0 2 ≡ 9 → Passed (version_test bytes volume ∷ container_tests bytes) → SpellsNode bytes volume (nodes.Container (container_in bytes))
container_spelled bytes volume place flags t =
    let fit = place.bytes_fit in
    let len = place.length_is in
    let c = container_in bytes in
    let count : ℕ = field bytes 12 2 in
    let reserved : field bytes 14 2 ≡ 0 = equal (field bytes 14 2) 0 t.1.0 in
    let rest : field bytes (64 - 8 * (6 - count)) (8 * (6 - count)) ≡ 0 = equal (field bytes (64 - 8 * (6 - count)) (8 * (6 - count))) 0 t.1.1.0 in
    let rows : fields 0 container_widths bytes ≡ container_rows c =
    rw (flags, reserved) (ap (λ (tail : List ℕ). 9 ∷ field bytes 2 2 ∷ field bytes 4 4 ∷ field bytes 8 4 ∷ field bytes 12 2 ∷ 0 ∷ tail) (numbers_back (fields 16 places bytes))) in
    record {
      lawful = record {
        version = between 1 (field bytes 2 2) volume t.0;
        next = field_below bytes 4 4 fit (omega arith);
        previous = field_below bytes 8 4 fit (omega arith);
        count = field_below bytes 12 2 fit (omega arith);
        places = refl;
        extents = λ k d lt. subst FitsExtent (sym (extent_at bytes k d lt)) (extent_in-fits (field bytes (16 + 8 * k) 8) (field_below bytes (16 + 8 * k) 8 fit (omega (arith, lt))));
        unused = λ k d lt.
            let within : count + k < 6 = omega (arith, lt, length-drop count c.extents) in
            get_or-drop count c.extents k d ∙ extent_at bytes (count + k) d within ∙ ap extent_in (zero_place bytes count (count + k) (omega arith) within rest);
      };
      bytes_are = spelled-all container_widths bytes fit len ∙ ap (spelled container_widths) rows;
    }

-- the reading by flags
abbrev by_flags : ℕ → List ℕ → ℕ → Result Node NodeFault
by_flags flags bytes volume =
    cond (eqb flags 0) (value_or_fault (zero_test bytes 0 64 ∷ []) nodes.Free)
    (cond (eqb flags 1) (value_or_fault (version_test bytes volume ∷ inode_tests bytes) (nodes.Inode (inode_in bytes)))
    (cond (eqb flags 9) (value_or_fault (version_test bytes volume ∷ container_tests bytes) (nodes.Container (container_in bytes)))
    (Err (faults.Flags flags))))

free_spelled : (bytes : List ℕ) (volume : ℕ) → IsPlace bytes → field bytes 0 64 ≡ 0 → SpellsNode bytes volume nodes.Free
free_spelled bytes volume place e = record {
  lawful = tt;
  bytes_are = spelled-all (64 ∷ []) bytes place.bytes_fit place.length_is ∙ ap (λ (n : ℕ). spelled (64 ∷ []) (n ∷ [])) e;
}

other : (flags : ℕ) (bytes : List ℕ) (volume : ℕ) (node : Node) → eqb flags 0 ≡ false → eqb flags 1 ≡ false → eqb flags 9 ≡ false → by_flags flags bytes volume ≡ Ok node → ⊥
other flags bytes volume node a b c e =
    let wrong : Err (faults.Flags flags) ≡ Ok node = sym (rw (a, b, c) refl) ∙ e in
    absurd (cc wrong)

-- what is read is spelled so
read_spelled : (flags : ℕ) (bytes : List ℕ) (volume : ℕ) (node : Node) → IsPlace bytes → field bytes 0 2 ≡ flags → by_flags flags bytes volume ≡ Ok node → SpellsNode bytes volume node
read_spelled flags bytes volume node place is_flags e =
    let at_flags : (f : ℕ) → flags ≡ f → by_flags f bytes volume ≡ Ok node = λ f is. subst (λ (g : ℕ). by_flags g bytes volume ≡ Ok node) is e in
    elim (cases_eq flags 0) [
      | inl is ↦
          let passed = value_passed (zero_test bytes 0 64 ∷ []) nodes.Free node (at_flags 0 is) in
          subst (SpellsNode bytes volume) passed.1 (free_spelled bytes volume place (equal (field bytes 0 64) 0 passed.0.0))
      | inr not_free ↦ elim (cases_eq flags 1) [
        | inl is ↦
            let passed = value_passed (version_test bytes volume ∷ inode_tests bytes) (nodes.Inode (inode_in bytes)) node (at_flags 1 is) in
            subst (SpellsNode bytes volume) passed.1 (inode_spelled bytes volume place (is_flags ∙ is) passed.0)
        | inr not_inode ↦ elim (cases_eq flags 9) [
          | inl is ↦
              let passed = value_passed (version_test bytes volume ∷ container_tests bytes) (nodes.Container (container_in bytes)) node (at_flags 9 is) in
              subst (SpellsNode bytes volume) passed.1 (container_spelled bytes volume place (is_flags ∙ is) passed.0)
          | inr not_container ↦ absurd (other flags bytes volume node (grind (arith, not_free)) (grind (arith, not_inode)) (grind (arith, not_container)) e)
        ]
      ]
    ]

inode_rows-fit : (volume : ℕ) (i : Inode) → IsInode volume i → volume ≤ 2 → AllFit inode_widths (inode_rows i)
inode_rows-fit volume i l low =
    let root : number_of i.root.0 < 256 ^ 32 = subst (λ (n : ℕ). number_of i.root.0 < 256 ^ n) l.root_length (number_of_below i.root.0 l.root_bytes) in
    let first : extent_number i.first < 256 ^ 8 = extent_number-below i.first l.first in
    let version : i.version ≤ 2 = omega (arith, l.version.to_high) in
    (omega arith, (omega arith, (omega arith, (root, (omega arith, (omega arith, (omega arith, (omega arith, (first, tt)))))))))

container_rows-fit : (volume : ℕ) (c : Container) → IsContainer volume c → volume ≤ 2 → AllFit container_widths (container_rows c)
container_rows-fit volume c l low =
    let version : c.version ≤ 2 = omega (arith, l.version.to_high) in
    let extents : AllFit places (map extent_number c.extents) = subst (λ (n : ℕ). AllFit (replicate n 8) (map extent_number c.extents)) l.places (extents-fit c.extents l.extents) in
    (omega arith, (omega arith, (omega arith, (omega arith, (omega arith, (omega arith, extents))))))

-- a lawful inode's spelling is read as it
inode_read : (bytes : List ℕ) (volume : ℕ) (i : Inode) → IsPlace bytes → volume ≤ 2 → SpellsNode bytes volume (nodes.Inode i) → by_flags (field bytes 0 2) bytes volume ≡ Ok (nodes.Inode i)
unfolding field
inode_read bytes volume i place low spells =
    let l = spells.lawful in
    let fit = place.bytes_fit in
    let len = place.length_is in
    let rows : fields 0 inode_widths bytes ≡ inode_rows i = ap (fields 0 inode_widths) spells.bytes_are ∙ fields-whole inode_widths (inode_rows i) (inode_rows-fit volume i l low) in
    let row : (k : ℕ) → get_or (fields 0 inode_widths bytes) k 0 ≡ get_or (inode_rows i) k 0 = λ k. ap (λ (ns : List ℕ). get_or ns k 0) rows in
    let flags : field bytes 0 2 ≡ 1 = row 0 in
    let version : field bytes 2 2 ≡ i.version = row 1 in
    let next : field bytes 4 4 ≡ i.next = row 2 in
    let root_number : number_of (take 32 (drop 8 bytes)) ≡ number_of i.root.0 = row 3 in
    let root : take 32 (drop 8 bytes) ≡ i.root.0 = same_numbers (take 32 (drop 8 bytes)) i.root.0 (length-part 8 32 bytes (omega arith) ∙ sym l.root_length) (IsBytes-part 8 32 bytes fit) l.root_bytes root_number in
    let size : field bytes 40 8 ≡ i.size = row 4 in
    let blocks : field bytes 48 4 ≡ i.blocks = row 5 in
    let extents : field bytes 52 2 ≡ i.extents = row 6 in
    let reserved : field bytes 54 2 ≡ 0 = row 7 in
    let first : field bytes 56 8 ≡ extent_number i.first = row 8 in
    let first_is : extent_in (field bytes 56 8) ≡ i.first = ap extent_in first ∙ extent_in-extent_number i.first l.first.start in
    let same : inode_in bytes ≡ i = rw (version, next, root, size, blocks, extents, first_is) refl in
    let passed : Passed (version_test bytes volume ∷ inode_tests bytes) = (
      is_between-true 1 (field bytes 2 2) volume (rw version l.version),
      (
        eqb_same (field bytes 54 2) 0 reserved,
        (
          elim (cases_eq (field bytes 52 2) 0) [
            | inl none ↦
                let t : eqb (field bytes 52 2) 0 ≡ true = eqb_same (field bytes 52 2) 0 none in
                let e : field bytes 56 8 ≡ 0 = first ∙ ap extent_number (l.unused (sym extents ∙ none)) in
                rw t (eqb_same (field bytes 56 8) 0 e)
            | inr some ↦
                let t : eqb (field bytes 52 2) 0 ≡ false = grind (arith, some) in
                rw t (eqb_same (field bytes 64 0) 0 (zero_field bytes 64 0 (λ k lt. absurd (omega (arith, lt)))))
          ],
          tt,
        ),
      ),
    ) in
    ap (λ (f : ℕ). by_flags f bytes volume) flags ∙ passed_value (version_test bytes volume ∷ inode_tests bytes) (nodes.Inode (inode_in bytes)) passed ∙ ap (λ (v : Inode). Ok (nodes.Inode v)) same

-- a lawful container's spelling is read as it
container_read : (bytes : List ℕ) (volume : ℕ) (c : Container) → IsPlace bytes → volume ≤ 2 → SpellsNode bytes volume (nodes.Container c) → by_flags (field bytes 0 2) bytes volume ≡ Ok (nodes.Container c)
container_read bytes volume c place low spells =
    let l = spells.lawful in
    let rows : fields 0 container_widths bytes ≡ container_rows c = ap (fields 0 container_widths) spells.bytes_are ∙ fields-whole container_widths (container_rows c) (container_rows-fit volume c l low) in
    let row : (k : ℕ) → get_or (fields 0 container_widths bytes) k 0 ≡ get_or (container_rows c) k 0 = λ k. ap (λ (ns : List ℕ). get_or ns k 0) rows in
    let flags : field bytes 0 2 ≡ 9 = row 0 in
    let version : field bytes 2 2 ≡ c.version = row 1 in
    let next : field bytes 4 4 ≡ c.next = row 2 in
    let previous : field bytes 8 4 ≡ c.previous = row 3 in
    let count : field bytes 12 2 ≡ c.count = row 4 in
    let reserved : field bytes 14 2 ≡ 0 = row 5 in
    let numbers : fields 16 places bytes ≡ map extent_number c.extents = ap (drop 6) rows in
    let extents : map extent_in (fields 16 places bytes) ≡ c.extents = ap (map extent_in) numbers ∙ extents_back c.extents l.extents in
    let same : container_in bytes ≡ c = rw (version, next, previous, count, extents) refl in
    let none : Extent = record { start = 0; len = 0 } in
    let zeros : (i : ℕ) → field bytes 12 2 ≤ i → i < 6 → field bytes (16 + 8 * i) 8 ≡ 0 = λ i le lt.
    let k : ℕ = i - c.count in
    let i_is : c.count + k ≡ i = omega arith in
    let inside : k < length (drop c.count c.extents) = omega (arith, length-drop c.count c.extents, l.places) in
    let unused : get_or (drop c.count c.extents) k none ≡ none = l.unused k none inside in
    let here : get_or c.extents i none ≡ none = ap (λ (n : ℕ). get_or c.extents n none) (sym i_is) ∙ sym (get_or-drop c.count c.extents k none) ∙ unused in
    let number : get_or (map extent_number c.extents) i 0 ≡ 0 = get_or-map extent_number c.extents i none 0 (omega (arith, l.places)) ∙ ap extent_number here in
    sym (number_at bytes i lt) ∙ ap (λ (ns : List ℕ). get_or ns i 0) numbers ∙ number in
    let passed : Passed (version_test bytes volume ∷ container_tests bytes) = (
      is_between-true 1 (field bytes 2 2) volume (rw version l.version),
      (
        eqb_same (field bytes 14 2) 0 reserved,
        (
          eqb_same _ 0 (wide_zero bytes (field bytes 12 2) zeros),
          tt,
        ),
      ),
    ) in
    ap (λ (f : ℕ). by_flags f bytes volume) flags ∙ passed_value (version_test bytes volume ∷ container_tests bytes) (nodes.Container (container_in bytes)) passed ∙ ap (λ (v : Container). Ok (nodes.Container v)) same

free_read : (bytes : List ℕ) (volume : ℕ) → SpellsNode bytes volume nodes.Free → by_flags (field bytes 0 2) bytes volume ≡ Ok nodes.Free
free_read bytes volume spells =
    let rows : fields 0 (64 ∷ []) bytes ≡ 0 ∷ [] = ap (fields 0 (64 ∷ [])) spells.bytes_are ∙ fields-whole (64 ∷ []) (0 ∷ []) (omega arith, tt) in
    let all : field bytes 0 64 ≡ 0 = ap (λ (ns : List ℕ). get_or ns 0 0) rows in
    let flags : field bytes 0 2 ≡ 0 = zero_field bytes 0 2 (λ i lt. zero_bytes bytes 0 64 i all (omega arith)) in
    ap (λ (f : ℕ). by_flags f bytes volume) flags ∙ passed_value (zero_test bytes 0 64 ∷ []) nodes.Free (eqb_same (field bytes 0 64) 0 all, tt)

spelled_read : (bytes : List ℕ) (volume : ℕ) (node : Node) → IsPlace bytes → volume ≤ 2 → SpellsNode bytes volume node → by_flags (field bytes 0 2) bytes volume ≡ Ok node
spelled_read bytes volume nodes.Free place low spells = free_read bytes volume spells
spelled_read bytes volume (nodes.Inode i) place low spells = inode_read bytes volume i place low spells
spelled_read bytes volume (nodes.Container c) place low spells = container_read bytes volume c place low spells

pub node_is_read : NodeIsRead
unfolding node_or_fault
node_is_read bytes volume node place low = (
  (λ e. read_spelled (field bytes 0 2) bytes volume node place refl (some_ok (node_or_fault bytes volume) node e)),
  λ spells. ap result_ok (spelled_read bytes volume node place low spells),
)

pub node_is_place : NodeIsPlace
node_is_place volume nodes.Free l low = record { length_is = length-spelled (64 ∷ []) (0 ∷ []) (omega arith, tt); bytes_fit = IsBytes-spelled (64 ∷ []) (0 ∷ []) }
node_is_place volume (nodes.Inode i) l low = record { length_is = length-spelled inode_widths (inode_rows i) (inode_rows-fit volume i l low); bytes_fit = IsBytes-spelled inode_widths (inode_rows i) }
node_is_place volume (nodes.Container c) l low = record { length_is = length-spelled container_widths (container_rows c) (container_rows-fit volume c l low); bytes_fit = IsBytes-spelled container_widths (container_rows c) }

pub node_is_one : NodeIsOne
node_is_one volume m n m_lawful n_lawful low e =
    let place = node_is_place volume m m_lawful low in
    let first = (node_is_read (node_bytes m) volume m place low).1 (record { lawful = m_lawful; bytes_are = refl }) in
    let second = (node_is_read (node_bytes m) volume n place low).1 (record { lawful = n_lawful; bytes_are = e }) in
    same_Some m n (sym first ∙ second)
