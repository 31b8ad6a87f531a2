-- A volume of version 1 made one of version 2: block 0 gets the same superblock with the new version,
-- and all else stays (this project's profile).
--
-- Old blobs keep their version, so their blocks stay where they are.
use Rattle.std.specs.Prelude.{◌≡◌, [], length, true, is_some, slice_set}
use Rattle.spec_disk.specs.Disk.{Blocks, block}
use Rattle.spec_record.specs.declared.geometry.Geometry.{Geometry}
use Rattle.spec_record.specs.declared.superblock.Super.{Super}
use Rattle.spec_record.specs.Laws.{SpellsSuper}
use Rattle.spec_record.specs.Superblock.{super_bytes}
use Rattle.spec_image.specs.Journal.{journal_of}
use Rattle.spec_image.specs.Replay.{replay}
use Rattle.spec_image.specs.After.{after}
use Rattle.spec_image.specs.Metadata.{metadata_in}
use Rattle.spec_image.specs.WellFormed.{is_well_formed}

-- the same counts in version 2
abbrev pub newest : Geometry → Geometry
newest g = record { blocks = g.blocks; nodes = g.nodes; journal = g.journal; version = 2 }

-- the same superblock in version 2
abbrev pub newest_super : Super → Super
newest_super s = record {
  geometry = newest s.geometry;
  blobs = s.blobs;
  used_blocks = s.used_blocks;
  used_nodes = s.used_nodes;
}

-- the image of a volume of version 1 with well-formed metadata and an empty journal; its block 0
-- spells this superblock
pub record IsOlder (s : Super) (image : Blocks) : Type 0 where
  pub version : s.geometry.version ≡ 1
  pub head : SpellsSuper (block image 0) (length image) s
  pub read : is_some (journal_of s.geometry image).info ≡ true
  pub empty : replay (journal_of s.geometry image) ≡ []
  pub well : is_well_formed (metadata_in s (after s.geometry image)) ≡ true

-- the image with the superblock of version 2
abbrev pub upgraded : Super → Blocks → Blocks
upgraded s image = slice_set image 0 (super_bytes (newest_super s))
