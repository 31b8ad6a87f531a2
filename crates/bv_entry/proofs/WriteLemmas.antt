-- The blocks of an entry, written one after another.
use Rattle.std.proofs.Common.{◌≡◌, ◌≤◌, ◌<◌, ℕ, ◌+◌, List, [], ◌∷◌, ◌++◌, length, take, map, get_or, Ok, refl, ap, ◌∙◌, arith}
use Rattle.std.specs.Prelude.{All}
use Rattle.std.specs.List.{concat}
use Rattle.std.proofs.lemmas.List.{take_all, take_more, map_push}
use Rattle.spec_record.specs.Field.{IsBlock, fields, spelled}
use Rattle.spec_record.specs.Crc.{crc32}
use Rattle.spec_record.specs.Places.{entry_magic}
use Rattle.spec_record.specs.Entry.{Entry, entry_or_fault}
use Rattle.spec_record.specs.EntryBlocks.{IsEntry, stored, entry_front, commit_bytes, entry_blocks, entry_slots}
use Rattle.spec_record.proofs.FieldLemmas.{spelled-all}
use Rattle.spec_record.proofs.TestLemmas.{some_ok}
use Rattle.spec_record.proofs.EntryLemmas.{entry_is_read, entry_takes_slots}
use Rattle.bv_entry.specs.Rows.{commit_widths}
use Rattle.bv_entry.specs.Ranges.{InRanges}

abbrev pub entry_with : ℕ → List (ℕ × List ℕ) → Entry
entry_with number targets = record { number = number; targets = targets }

abbrev pub stored_at : ℕ × List ℕ → List ℕ
stored_at t = stored t.1

-- one stored payload more
pub stored_more : (targets : List (ℕ × List ℕ)) (i : ℕ) (d : ℕ × List ℕ) → i < length targets → map stored_at (take (i + 1) targets) ≡ map stored_at (take i targets) ++ stored (get_or targets i d).1 ∷ []
stored_more targets i d lt = ap (map stored_at) (take_more targets i d lt) ∙ map_push stored_at (take i targets) (get_or targets i d)

-- the header, the stored payloads and the commit are the entry's blocks
pub whole_entry : (e : Entry) (number : ℕ) (targets : List (ℕ × List ℕ)) (front : List (List ℕ)) (commit : List ℕ) (sum : ℕ) → number ≡ e.number → targets ≡ e.targets → front ≡ entry_front (entry_with number targets) → sum ≡ crc32 (concat front) → IsBlock commit → fields 0 commit_widths commit ≡ entry_magic ∷ number ∷ 2 ∷ 0 ∷ sum ∷ 0 ∷ [] → front ++ commit ∷ [] ≡ entry_blocks e
whole_entry e number targets front commit sum number_is targets_are front_is sum_is b rows =
    let written : Entry = entry_with number targets in
    let same : written ≡ e = ap (λ (n : ℕ). entry_with n targets) number_is ∙ ap (entry_with e.number) targets_are in
    let total : sum ≡ crc32 (concat (entry_front written)) = sum_is ∙ ap (λ (bs : List (List ℕ)). crc32 (concat bs)) front_is in
    let commit_is : commit ≡ commit_bytes written =
    spelled-all commit_widths commit b.bytes_fit b.length_is
    ∙ ap (spelled commit_widths) (rows ∙ ap (λ (n : ℕ). entry_magic ∷ number ∷ 2 ∷ 0 ∷ n ∷ 0 ∷ []) total) in
    ap (λ (bs : List (List ℕ)). bs ++ commit ∷ []) front_is
    ∙ ap (λ (block : List ℕ). entry_front written ++ block ∷ []) commit_is
    ∙ ap entry_blocks same

-- they are read as the entry
pub blocks_are_read : (e : Entry) (meta : ℕ) → InRanges meta e → All (λ t. IsBlock t.1) e.targets → meta ≤ 679 → entry_or_fault (entry_blocks e) e.number meta ≡ Ok e
blocks_are_read e meta ranges blocks few =
    let lawful : IsEntry meta e = record {
      number = ranges.number;
      count = ranges.count;
      rising = ranges.rising;
      below = ranges.below;
      blocks = blocks;
    } in
    let takes = entry_takes_slots meta e lawful few in
    some_ok (entry_or_fault (entry_blocks e) e.number meta) e
    ((entry_is_read (entry_blocks e) e.number meta e few).0 (record {
      number_is = refl;
      lawful = lawful;
      blocks_are = take_all (entry_slots e) (entry_blocks e) (omega (arith, takes.slots));
    }))
