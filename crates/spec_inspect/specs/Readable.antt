-- The first conditions on an image, before its metadata is surveyed (this project's profile): its
-- superblock, the journal's info block, and the superblock that the journal leaves.
--
-- An image is its list of blocks.
use Rattle.std.specs.Prelude.{ℕ, List, length, Option, Some, None, Result, Ok, Err}
use Rattle.spec_disk.specs.Disk.{block}
use Rattle.spec_record.specs.declared.geometry.Geometry.{Geometry}
use Rattle.spec_record.specs.declared.info.Info.{Info}
use Rattle.spec_record.specs.declared.superblock.Super.{Super}
use Rattle.spec_record.specs.Geometry.{ring_slots, info_at}
use Rattle.spec_record.specs.Info.{info_or_fault}
use Rattle.spec_record.specs.Superblock.{super_or_fault}
use Rattle.spec_image.specs.After.{after}
use Rattle.spec_image.specs.Metadata.{Metadata, metadata_in}
use Rattle.spec_image.specs.Volume.{replayed_super}
use Rattle.spec_inspect.specs.declared.open_fault.OpenFault.{OpenFault}
use Rattle.spec_inspect.specs.declared.open_fault.OpenFault.TheVariants as opening
use Rattle.spec_inspect.specs.Faults.{or_fault, ◌>>=◌}

-- an image whose superblock, info and replayed superblock are read: the last two of them
pub record Readable : Type 0 where
  pub info : Info
  pub super : Super

-- the superblock of an image, or why it isn't read
abbrev pub super_or_why : List (List ℕ) → Result Super OpenFault
super_or_why image =
    or_fault (λ f. opening.Super f) (super_or_fault (block image 0) (length image))

-- the info of an image of this geometry, or why it isn't read
abbrev pub info_or_why : Geometry → List (List ℕ) → Result Info OpenFault
info_or_why g image =
    or_fault (λ f. opening.Replay f) (info_or_fault (block image (info_at g)) (ring_slots g))

-- a superblock that is a valid one of the same geometry, or that it has moved
abbrev pub or_moved : Option Super → Result Super OpenFault
or_moved None = Err opening.Moved
or_moved (Some s) = Ok s

-- an image of this geometry with its journal replayed, whatever its metadata says; or the first
-- condition that fails
abbrev pub readable_with : Geometry → List (List ℕ) → Result Readable OpenFault
readable_with g image = do
  i ← info_or_why g image
  s ← or_moved (replayed_super g image)
  Ok (record { info = i; super = s })

-- an image with its journal replayed, whatever its metadata says; or the first condition that fails
unfoldable pub readable : List (List ℕ) → Result Readable OpenFault
readable image = super_or_why image >>= λ s. readable_with s.geometry image

-- its geometry
abbrev pub geometry_of : Readable → Geometry
geometry_of o = o.super.geometry

-- its metadata with the journal replayed
abbrev pub metadata_after : List (List ℕ) → Readable → Metadata
metadata_after image o = metadata_in o.super (after (geometry_of o) image)
