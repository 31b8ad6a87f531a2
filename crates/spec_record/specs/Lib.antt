-- What the bytes of each record on disk stand for.
pub mod Field
pub mod Tests
pub mod Geometry
pub mod Bitmap
pub mod Extent
pub mod Node
pub mod NodeBytes
pub mod Superblock
pub mod Crc
pub mod Info
pub mod Places
pub mod Entry
pub mod EntryBlocks
pub mod Laws
pub mod PartLaws
