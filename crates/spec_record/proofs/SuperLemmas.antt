-- A superblock is read from its spelling alone.
use Rattle.std.proofs.Common.{◌≡◌, ◌≤◌, ℕ, ◌%◌, List, get_or, true, false, cond, eqb, Some, refl, ap, sym, ◌∙◌, subst, arith, lit≤}
use Rattle.std.specs.Result.{result_ok}
use Rattle.spec_record.specs.declared.superblock.Super.{Super}
use Rattle.spec_record.specs.Field.{IsBlock, field, fields, spelled, AllFit}
use Rattle.spec_record.specs.Geometry.{most_blocks, most_nodes, total_blocks, bitmap_blocks, node_blocks}
use Rattle.spec_record.specs.Superblock.{first_magic, second_magic, super_in, super_tests, super_or_fault, IsSuper, super_widths, super_rows, super_bytes}
use Rattle.spec_record.specs.Laws.{SuperIsRead, SuperIsBlock, SuperIsOne, SpellsSuper}
use Rattle.spec_record.proofs.FieldLemmas.{spelled-all, fields-whole, length-spelled, IsBytes-spelled}
use Rattle.spec_record.proofs.TestLemmas.{Passed, value_passed, passed_value, some_ok, equal, at_most, eqb_same, leb_true, both, both_true, between, is_between-true}

pub most_blocks-le : (version : ℕ) → most_blocks version ≤ 4194304
most_blocks-le version = elim (eqb version 1) as (λ b. cond b 1048576 4194304 ≤ 4194304) [ true ↦ lit≤ tt | false ↦ lit≤ tt ]

pub most_nodes-le : (version : ℕ) → most_nodes version ≤ 65536
most_nodes-le version = elim (eqb version 1) as (λ b. cond b 32768 65536 ≤ 65536) [ true ↦ lit≤ tt | false ↦ lit≤ tt ]

-- each number of a superblock fits its width
super_rows-fit : (s : Super) → IsSuper s → AllFit super_widths (super_rows s)
super_rows-fit s l =
    let b : s.geometry.blocks ≤ 4194304 = omega (arith, l.geometry.blocks.to_high, most_blocks-le s.geometry.version) in
    let n : s.geometry.nodes ≤ 65536 = omega (arith, l.geometry.nodes.to_high, most_nodes-le s.geometry.version) in
    (omega arith, (omega arith, (omega arith, (omega arith, (omega arith, (omega arith, (omega arith, (omega arith, (omega arith, (omega arith, (omega arith, (omega arith, (omega arith, tt)))))))))))))

pub super_is_block : SuperIsBlock
super_is_block s l = record {
  length_is = length-spelled super_widths (super_rows s) (super_rows-fit s l);
  bytes_fit = IsBytes-spelled super_widths (super_rows s);
}

-- the tests hold, so the fields are the rows of the value
from_tests : (bytes : List ℕ) (device_blocks : ℕ) → IsBlock bytes → Passed (super_tests bytes device_blocks) → SpellsSuper bytes device_blocks (super_in bytes)
from_tests bytes device_blocks block t =
    let s = super_in bytes in
    let g = s.geometry in
    let magics = both_true (eqb (field bytes 0 8) first_magic) (eqb (field bytes 8 8) second_magic) t.0 in
    let first : field bytes 0 8 ≡ first_magic = equal (field bytes 0 8) first_magic magics.0 in
    let second : field bytes 8 8 ≡ second_magic = equal (field bytes 8 8) second_magic magics.1 in
    let counts = t.1.1 in
    let nodes = both_true _ (eqb (g.nodes % 128) 0) counts.1.0 in
    let derived = counts.1.1.1 in
    let bitmap : field bytes 48 8 ≡ bitmap_blocks g = equal (field bytes 48 8) (bitmap_blocks g) derived.0 in
    let map : field bytes 56 8 ≡ node_blocks g = equal (field bytes 56 8) (node_blocks g) derived.1.0 in
    let used = derived.1.1 in
    let zeros = used.1.1.1 in
    let reserved : field bytes 20 4 ≡ 0 = equal (field bytes 20 4) 0 zeros.0 in
    let rest : field bytes 88 8104 ≡ 0 = equal (field bytes 88 8104) 0 zeros.1.0 in
    let rows : fields 0 super_widths bytes ≡ super_rows s = rw (first, second, bitmap, map, reserved, rest) refl in
    record {
      lawful = record {
        geometry = record {
          version = between 1 g.version 2 t.1.0;
          blocks = between 2 g.blocks (most_blocks g.version) counts.0;
          nodes = between 128 g.nodes (most_nodes g.version) nodes.0;
          whole_node_blocks = equal (g.nodes % 128) 0 nodes.1;
          journal = between _ g.journal 65536 counts.1.1.0;
        };
        blobs = at_most s.blobs g.nodes used.0;
        used_blocks = between 1 s.used_blocks g.blocks used.1.0;
        used_nodes = at_most s.used_nodes g.nodes used.1.1.0;
      };
      room = at_most (total_blocks g) device_blocks zeros.1.1.0;
      bytes_are = spelled-all super_widths bytes block.bytes_fit block.length_is ∙ ap (spelled super_widths) rows;
    }

-- the fields of a spelling are the rows of its value
rows_of : (bytes : List ℕ) (s : Super) → IsSuper s → bytes ≡ super_bytes s → fields 0 super_widths bytes ≡ super_rows s
rows_of bytes s l e = ap (fields 0 super_widths) e ∙ fields-whole super_widths (super_rows s) (super_rows-fit s l)

-- so the value is read
from_rows : (bytes : List ℕ) (s : Super) → fields 0 super_widths bytes ≡ super_rows s → super_in bytes ≡ s
from_rows bytes s rows =
    let row : (k : ℕ) → get_or (fields 0 super_widths bytes) k 0 ≡ get_or (super_rows s) k 0 = λ k. ap (λ (ns : List ℕ). get_or ns k 0) rows in
    let version : field bytes 16 4 ≡ s.geometry.version = row 2 in
    let blocks : field bytes 24 8 ≡ s.geometry.blocks = row 4 in
    let nodes : field bytes 32 8 ≡ s.geometry.nodes = row 5 in
    let journal : field bytes 40 8 ≡ s.geometry.journal = row 6 in
    let blobs : field bytes 64 8 ≡ s.blobs = row 9 in
    let used_blocks : field bytes 72 8 ≡ s.used_blocks = row 10 in
    let used_nodes : field bytes 80 8 ≡ s.used_nodes = row 11 in
    rw (version, blocks, nodes, journal, blobs, used_blocks, used_nodes) refl

-- and each test holds
to_tests : (bytes : List ℕ) (device_blocks : ℕ) (s : Super) → SpellsSuper bytes device_blocks s → Passed (super_tests bytes device_blocks)
to_tests bytes device_blocks s spells =
    let l = spells.lawful in
    let rows = rows_of bytes s l spells.bytes_are in
    let same : super_in bytes ≡ s = from_rows bytes s rows in
    let in_bytes : SpellsSuper bytes device_blocks (super_in bytes) = subst (SpellsSuper bytes device_blocks) (sym same) spells in
    let m = in_bytes.lawful in
    let v = super_in bytes in
    let g = v.geometry in
    let row : (k : ℕ) → get_or (fields 0 super_widths bytes) k 0 ≡ get_or (super_rows v) k 0 = λ k. ap (λ (ns : List ℕ). get_or ns k 0) (rows ∙ ap super_rows (sym same)) in (
      both (eqb (field bytes 0 8) first_magic) (eqb (field bytes 8 8) second_magic) (eqb_same _ _ (row 0)) (eqb_same _ _ (row 1)),
      (
        is_between-true 1 g.version 2 m.geometry.version,
        (
          is_between-true 2 g.blocks (most_blocks g.version) m.geometry.blocks,
          (
            both _ _ (is_between-true 128 g.nodes (most_nodes g.version) m.geometry.nodes) (eqb_same (g.nodes % 128) 0 m.geometry.whole_node_blocks),
            (
              is_between-true _ g.journal 65536 m.geometry.journal,
              (
                eqb_same (field bytes 48 8) (bitmap_blocks g) (row 7),
                (
                  eqb_same (field bytes 56 8) (node_blocks g) (row 8),
                  (
                    leb_true v.blobs g.nodes m.blobs,
                    (
                      is_between-true 1 v.used_blocks g.blocks m.used_blocks,
                      (
                        leb_true v.used_nodes g.nodes m.used_nodes,
                        (
                          eqb_same (field bytes 20 4) 0 (row 3),
                          (
                            eqb_same (field bytes 88 8104) 0 (row 12),
                            (
                              leb_true (total_blocks g) device_blocks in_bytes.room,
                              tt,
                            ),
                          ),
                        ),
                      ),
                    ),
                  ),
                ),
              ),
            ),
          ),
        ),
      ),
    )

pub super_is_read : SuperIsRead
unfolding super_or_fault
super_is_read bytes device_blocks s block = (
  (λ e.
      let passed = value_passed (super_tests bytes device_blocks) (super_in bytes) s (some_ok (super_or_fault bytes device_blocks) s e) in
      subst (SpellsSuper bytes device_blocks) passed.1 (from_tests bytes device_blocks block passed.0)),
  λ spells.
      ap result_ok (passed_value (super_tests bytes device_blocks) (super_in bytes) (to_tests bytes device_blocks s spells))
      ∙ ap (λ (v : Super). Some v) (from_rows bytes s (rows_of bytes s spells.lawful spells.bytes_are)),
)

pub super_is_one : SuperIsOne
super_is_one s t s_lawful t_lawful e =
    sym (from_rows (super_bytes s) s (rows_of (super_bytes s) s s_lawful refl)) ∙ from_rows (super_bytes s) t (rows_of (super_bytes s) t t_lawful e)
