-- Header, payloads and commit are the entry's blocks, and are read as the entry.
use Rattle.std.proofs.Common.{◌≡◌, ◌∙◌, ◌∷◌, ℕ, List, map, ap, arith, rules}
use Rattle.std.specs.List.{concat}
use Rattle.std.proofs.lemmas.List.{take_all}
use Rattle.spec_record.specs.Crc.{crc32}
use Rattle.spec_record.specs.EntryBlocks.{header_bytes, entry_front}
use Rattle.bv_entry.proofs.WriteLemmas.{entry_with, stored_at, whole_entry, blocks_are_read}
use Rattle.bv_entry.proofs.write.write_entry.Goals as goal

pub returns-clause-bytes : goal.returns-clause-bytes
returns-clause-bytes c =
    let number : ℕ = c.number-number.result in
    let targets : List (ℕ × List ℕ) = c.targets-targets.result.now in
    let front : List (List ℕ) = c.loop-payload.blocks.items in
    let commit : List ℕ = c.commit_block.result in
    let front_is : front ≡ entry_front (entry_with number targets) =
    c.loop-payload.invariant ∙ ap (λ (ts : List (ℕ × List ℕ)). header_bytes (entry_with number targets) ∷ map stored_at ts) (take_all c.loop-payload.payload-index targets (omega arith)) in
    let sum_is : c.checksum_of-checksum.result ≡ crc32 (concat front) =
    c.checksum_of-checksum.ensures ∙ ap (λ (bs : List (List ℕ)). crc32 (concat bs)) c.deref.ensures.value in
    c.in_ok-push-3.ensures.items
    ∙ whole_entry c.args.entry.now number targets front commit c.checksum_of-checksum.result c.number-number.ensures c.targets-targets.ensures front_is sum_is
    (record { length_is = search rules; bytes_fit = λ i. search rules }) c.commit_block.ensures

pub returns-clause-read : goal.returns-clause-read
returns-clause-read c blocks =
    rw (returns-clause-bytes c) (blocks_are_read c.args.entry.now c.args.meta c.requires.ranges blocks c.requires.meta)
