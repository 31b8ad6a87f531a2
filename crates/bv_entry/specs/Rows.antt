-- The rows of headers, commits and info blocks as the code has them, and their widths; the last row
-- of each table holds all the bytes behind them.
use Rattle.std.specs.Prelude.{ℕ, List, [], ◌∷◌}
use Rattle.bv_entry.specs.declared.row.Header.{Header}
use Rattle.bv_entry.specs.declared.row.Commit.{Commit}
use Rattle.bv_entry.specs.declared.info.Front.{Front}

-- the rows of a header before its targets
abbrev pub header_numbers : Header → List ℕ
header_numbers h = h.magic ∷ h.number ∷ h.kind ∷ h.reserved ∷ h.count ∷ []

-- the widths of these rows, and what the places take
abbrev pub header_widths : List ℕ
header_widths = 8 ∷ 8 ∷ 8 ∷ 8 ∷ 8 ∷ 8152 ∷ []

-- the rows of a commit before its zeros
abbrev pub commit_numbers : Commit → List ℕ
commit_numbers c = c.magic ∷ c.number ∷ c.kind ∷ c.reserved ∷ c.checksum ∷ []

-- the widths of a commit's rows
abbrev pub commit_widths : List ℕ
commit_widths = 8 ∷ 8 ∷ 8 ∷ 8 ∷ 4 ∷ 8156 ∷ []

-- the rows of an info block before its checksum
abbrev pub front_numbers : Front → List ℕ
front_numbers f = f.magic ∷ f.start ∷ f.reserved ∷ f.number ∷ []

-- the widths of an info block's rows
abbrev pub info_widths : List ℕ
info_widths = 8 ∷ 8 ∷ 8 ∷ 8 ∷ 4 ∷ 8156 ∷ []
