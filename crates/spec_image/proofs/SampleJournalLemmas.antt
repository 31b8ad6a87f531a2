-- What the journals by hand hold, computed.
use Rattle.std.proofs.Common.{◌≡◌, [], ◌∷◌, refl}
use Rattle.spec_record.specs.Entry.{restored, entry_or_fault}
use Rattle.spec_record.specs.Info.{info_or_fault}
use Rattle.spec_record.specs.Places.{header_places, first_failing}
use Rattle.spec_record.specs.Field.{number_of, bytes_of, field}
use Rattle.spec_record.specs.Crc.{bits_of, crc_step, crc32}
use Rattle.spec_image.specs.Journal.{journal_of}
use Rattle.spec_image.specs.Replay.{entries_from, replay, stale_slots, next_slot, next_number}
use Rattle.spec_image.specs.After.{after}
use Rattle.spec_image.specs.SampleJournals.{journal, entry, info, payload, geometry, image, with_next, with_gap, without_commit, without_payload, without_header}

pub wrapped_entries : replay (journal [] [] []) ≡ entry 7 ∷ []
unfolding restored entry_or_fault header_places first_failing number_of bytes_of field bits_of crc_step crc32 entries_from replay
wrapped_entries = refl

pub wrapped_slot : next_slot (journal [] [] []) info ≡ 2
unfolding restored entry_or_fault header_places first_failing number_of bytes_of field bits_of crc_step crc32 entries_from replay
wrapped_slot = refl

pub wrapped_number : next_number (journal [] [] []) info ≡ 8
unfolding restored entry_or_fault header_places first_failing number_of bytes_of field bits_of crc_step crc32 entries_from replay
wrapped_number = refl

pub wrapped_stale : stale_slots (journal [] [] []) info ≡ []
unfolding restored entry_or_fault header_places first_failing number_of bytes_of field bits_of crc_step crc32 entries_from replay stale_slots
wrapped_stale = refl

pub wrapped_after : after geometry image ≡ (1 ∷ []) ∷ (2 ∷ []) ∷ payload ∷ []
unfolding restored entry_or_fault info_or_fault header_places first_failing number_of bytes_of field bits_of crc_step crc32 entries_from replay journal_of after
wrapped_after = refl

pub next_entries : replay with_next ≡ entry 7 ∷ entry 8 ∷ []
unfolding restored entry_or_fault header_places first_failing number_of bytes_of field bits_of crc_step crc32 entries_from replay
next_entries = refl

pub next_is : next_slot with_next info ≡ 5
unfolding restored entry_or_fault header_places first_failing number_of bytes_of field bits_of crc_step crc32 entries_from replay
next_is = refl

pub gap_entries : replay with_gap ≡ entry 7 ∷ []
unfolding restored entry_or_fault header_places first_failing number_of bytes_of field bits_of crc_step crc32 entries_from replay
gap_entries = refl

pub gap_stale : stale_slots with_gap info ≡ 2 ∷ 4 ∷ []
unfolding restored entry_or_fault header_places first_failing number_of bytes_of field bits_of crc_step crc32 entries_from replay stale_slots
gap_stale = refl

pub no_commit : replay without_commit ≡ entry 7 ∷ []
unfolding restored entry_or_fault header_places first_failing number_of bytes_of field bits_of crc_step crc32 entries_from replay
no_commit = refl

pub no_payload : replay without_payload ≡ entry 7 ∷ []
unfolding restored entry_or_fault header_places first_failing number_of bytes_of field bits_of crc_step crc32 entries_from replay
no_payload = refl

pub no_header : replay without_header ≡ entry 7 ∷ []
unfolding restored entry_or_fault header_places first_failing number_of bytes_of field bits_of crc_step crc32 entries_from replay
no_header = refl

pub no_commit_stale : stale_slots without_commit info ≡ 2 ∷ []
unfolding restored entry_or_fault header_places first_failing number_of bytes_of field bits_of crc_step crc32 entries_from replay stale_slots
no_commit_stale = refl

pub no_header_stale : stale_slots without_header info ≡ 4 ∷ []
unfolding restored entry_or_fault header_places first_failing number_of bytes_of field bits_of crc_step crc32 entries_from replay stale_slots
no_header_stale = refl
