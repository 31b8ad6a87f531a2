-- The tests give the count or the fault; the places give the targets.
use Rattle.std.proofs.Common.{◌≡◌, ◌+◌, ◌-◌, ◌∙◌, ℕ, List, Ok, take, drop, refl, ap, sym, subst, arith}
use Rattle.std.proofs.lemmas.List.{length-take, get_or-take}
use Rattle.std.specs.Result.{result_ok}
use Rattle.spec_record.specs.Field.{field, IsBlock}
use Rattle.spec_record.specs.EntryBlocks.{entry_slots}
use Rattle.spec_record.specs.Places.{block_in}
use Rattle.spec_record.specs.Entry.{Entry, entry_tests, entry_in, entry_or_fault, targets_in}
use Rattle.spec_record.proofs.EntryLemmas.{entry_is_read}
use Rattle.bv_entry.proofs.EntryLemmas.{same_fault, passed_entry, faulted, out_of_memory, read_whole}
use Rattle.bv_entry.proofs.read.read_entry.Goals as goal

pub returns-in_err-count-clause-err : goal.returns-in_err-count-clause-err
unfolding entry_or_fault
returns-in_err-count-clause-err c =
    let blocks : List (List ℕ) = c.args.blocks.now in
    faulted _ _ c.from_residual.result (entry_or_fault blocks c.args.number c.args.meta) c.in_err-count.field-0.0 c.from_residual.ensures.1
    (same_fault (entry_tests blocks c.args.number c.args.meta) (field (block_in blocks 0) 32 8) (entry_in blocks) c.in_err-count.field-0.0 (sym c.in_err-count.ensures))

pub returns-in_err-targets_of-clause-err : goal.returns-in_err-targets_of-clause-err
returns-in_err-targets_of-clause-err c =
    let blocks : List (List ℕ) = c.args.blocks.now in
    out_of_memory _ _ c.from_residual-in_err-targets_of.result (entry_or_fault blocks c.args.number c.args.meta) _ c.from_residual-in_err-targets_of.ensures.1
    (passed_entry blocks c.args.number c.args.meta c.in_ok-count.count _ (sym c.in_ok-count.ensures) refl)

pub returns-clause-value : goal.returns-clause-value
returns-clause-value c =
    let blocks : List (List ℕ) = c.args.blocks.now in
    let count : ℕ = c.in_ok-count.count in
    let all : count + 1 - 1 ≡ count = omega arith in
    passed_entry blocks c.args.number c.args.meta count c.in_ok-targets_of.field-0.items (sym c.in_ok-count.ensures)
    (c.in_ok-targets_of.ensures ∙ ap (λ (n : ℕ). targets_in (block_in blocks 0) 0 (take n (drop 1 blocks))) all)
    ∙ ap (λ (e : Entry). Ok e) (sym c.new.ensures)

pub returns-clause-ok : goal.returns-clause-ok
returns-clause-ok c all =
    let blocks : List (List ℕ) = c.args.blocks.now in
    let n : ℕ = entry_slots c.new.result in
    (entry_is_read blocks c.args.number c.args.meta c.new.result c.requires.meta.to_high).1 (ap result_ok (returns-clause-value c)) (λ k d lt.
    let count = length-take n blocks in
    subst IsBlock (sym (get_or-take n blocks k d (omega (arith, lt, count)))) (all k d (omega (arith, lt, count))))

pub returns-clause-err : goal.returns-clause-err
returns-clause-err c fault =
    read_whole _ _ c.new.result (entry_or_fault c.args.blocks.now c.args.number c.args.meta) c.new.result (returns-clause-value c) fault
