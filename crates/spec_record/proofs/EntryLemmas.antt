-- An entry is read from its spelling alone.
use Rattle.std.proofs.Common.{◌≡◌, ◌≤◌, ℕ, List, length, take, Some, refl, ap, sym, ◌∙◌, subst, arith}
use Rattle.std.specs.Prelude.{All}
use Rattle.std.specs.Result.{result_ok}
use Rattle.std.proofs.lemmas.List.{take_all}
use Rattle.spec_record.specs.Field.{IsBlock, field}
use Rattle.spec_record.specs.Places.{block_in}
use Rattle.spec_record.specs.Entry.{Entry, entry_tests, entry_in, entry_or_fault}
use Rattle.spec_record.specs.EntryBlocks.{IsEntry, entry_blocks, entry_slots}
use Rattle.spec_record.specs.Laws.{EntryIsRead, EntryTakesSlots, EntryIsOne, SpellsEntry}
use Rattle.spec_record.proofs.TestLemmas.{value_passed, passed_value, some_ok}
use Rattle.spec_record.proofs.ReadEntry.{own_blocks, read_spelled}
use Rattle.spec_record.proofs.SpelledEntry.{spelled_read, entry_block, length-entry_blocks, header_of_entry}

pub entry_is_read : EntryIsRead
unfolding entry_or_fault
entry_is_read blocks number meta e few = (
  (λ spells.
      let read = spelled_read blocks number meta e few spells in
      ap result_ok (passed_value (entry_tests blocks number meta) (entry_in blocks) read.0) ∙ ap (λ (v : Entry). Some v) read.1),
  λ is own.
      let passed = value_passed (entry_tests blocks number meta) (entry_in blocks) e (some_ok (entry_or_fault blocks number meta) e is) in
      let all : All IsBlock (take (entry_slots (entry_in blocks)) blocks) = subst (λ (x : Entry). All IsBlock (take (entry_slots x) blocks)) (sym passed.1) own in
      subst (SpellsEntry blocks number meta) passed.1 (read_spelled blocks number meta (own_blocks blocks number meta passed.0 all) few passed.0),
)

pub entry_takes_slots : EntryTakesSlots
entry_takes_slots meta e l few = record { slots = length-entry_blocks e; blocks = entry_block meta e l few }

-- the number in the header
number_in : (meta : ℕ) (e : Entry) → IsEntry meta e → meta ≤ 679 → field (block_in (entry_blocks e) 0) 8 8 ≡ e.number
number_in meta e l few = (header_of_entry meta e l few).number_is

pub entry_is_one : EntryIsOne
entry_is_one meta d e d_lawful e_lawful few same =
    let number : e.number ≡ d.number = sym (number_in meta e e_lawful few) ∙ ap (λ (bs : List (List ℕ)). field (block_in bs 0) 8 8) (sym same) ∙ number_in meta d d_lawful few in
    let all : (f : Entry) → entry_blocks d ≡ entry_blocks f → take (entry_slots f) (entry_blocks d) ≡ entry_blocks f = λ f is.
    take_all (entry_slots f) (entry_blocks d) (omega (arith, ap length is, length-entry_blocks f)) ∙ is in
    let d_spells : SpellsEntry (entry_blocks d) d.number meta d = record { number_is = refl; lawful = d_lawful; blocks_are = all d refl } in
    let e_spells : SpellsEntry (entry_blocks d) d.number meta e = record { number_is = number; lawful = e_lawful; blocks_are = all e same } in
    sym (spelled_read (entry_blocks d) d.number meta d few d_spells).1 ∙ (spelled_read (entry_blocks d) d.number meta e few e_spells).1
