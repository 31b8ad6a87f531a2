-- The rows of a block of zeros.
use Rattle.std.proofs.Common.{◌≡◌, replicate, refl}
use Rattle.spec_record.specs.Field.{field, fields, number_of}
use Rattle.bv_entry.specs.Rows.{header_widths, commit_widths, info_widths}

pub zero_header : fields 0 header_widths (replicate 8192 0) ≡ replicate 6 0
unfolding field number_of
zero_header = refl

pub zero_commit : fields 0 commit_widths (replicate 8192 0) ≡ replicate 6 0
unfolding field number_of
zero_commit = refl

pub zero_info : fields 0 info_widths (replicate 8192 0) ≡ replicate 6 0
unfolding field number_of
zero_info = refl
