-- Journals by hand, of fifteen slots in a volume of three metadata blocks. Blocks shorter than a
-- device's; the checksums are of these short blocks.
use Rattle.std.specs.Prelude.{ℕ, List, [], ◌∷◌, ◌++◌, replicate, Some}
use Rattle.spec_record.specs.declared.geometry.Geometry.{Geometry}
use Rattle.spec_record.specs.declared.info.Info.{Info}
use Rattle.spec_record.specs.Field.{spelled}
use Rattle.spec_record.specs.Crc.{crc32}
use Rattle.spec_record.specs.Info.{info_front}
use Rattle.spec_record.specs.Places.{entry_magic}
use Rattle.spec_record.specs.Entry.{Entry}
use Rattle.spec_image.specs.Journal.{Journal}

-- the header of an entry of this number with one payload, for block 2
abbrev pub header : ℕ → List ℕ
header number = spelled (8 ∷ 8 ∷ 8 ∷ 8 ∷ 8 ∷ 8 ∷ []) (entry_magic ∷ number ∷ 1 ∷ 0 ∷ 1 ∷ 2 ∷ [])

-- the payload of each entry
abbrev pub payload : List ℕ
payload = 5 ∷ 6 ∷ 7 ∷ []

-- the commit of this number, with this checksum
abbrev pub commit : ℕ → ℕ → List ℕ
commit number checksum =
    spelled (8 ∷ 8 ∷ 8 ∷ 8 ∷ 4 ∷ []) (entry_magic ∷ number ∷ 2 ∷ 0 ∷ checksum ∷ [])

-- the entry that these are of
abbrev pub entry : ℕ → Entry
entry number = record { number = number; targets = (2, payload) ∷ [] }

-- the first entry is to be number 7, in slot 14
abbrev pub info : Info
info = record { start = 14; number = 7 }

-- a ring with entry 7 in the slots 14, 0 and 1, and with these three blocks behind it
abbrev pub ring : List ℕ → List ℕ → List ℕ → List (List ℕ)
ring a b c = payload ∷ commit 7 219377529 ∷ a ∷ b ∷ c ∷ replicate 9 [] ++ header 7 ∷ []

-- the journal with that ring
abbrev pub journal : List ℕ → List ℕ → List ℕ → Journal
journal a b c = record { info = Some info; ring = ring a b c; meta = 3 }

-- entry 8 stands whole behind entry 7
abbrev pub with_next : Journal
with_next = journal (header 8) payload (commit 8 1444222146)

-- entry 9 stands whole behind entry 7
abbrev pub with_gap : Journal
with_gap = journal (header 9) payload (commit 9 285663801)

-- entry 8 without its commit
abbrev pub without_commit : Journal
without_commit = journal (header 8) payload []

-- entry 8 without its payload
abbrev pub without_payload : Journal
without_payload = journal (header 8) [] (commit 8 1444222146)

-- entry 8 without its header
abbrev pub without_header : Journal
without_header = journal [] payload (commit 8 1444222146)

-- the volume that the image is of
abbrev pub geometry : Geometry
geometry = record { blocks = 2; nodes = 128; journal = 16; version = 1 }

-- an image with metadata blocks of one byte each and this ring
abbrev pub image : List (List ℕ)
image =
    (1 ∷ []) ∷ (2 ∷ []) ∷ (3 ∷ [])
    ∷ (info_front info ++ spelled (4 ∷ []) (crc32 (info_front info) ∷ [])) ∷ ring [] [] []
