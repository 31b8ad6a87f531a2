-- What an image holds, as the plain programs find it.
use Rattle.std.specs.Prelude.{◌≡◌, Some, None, IsSomeAnd}
use Rattle.spec_disk.specs.Disk.{Blocks}
use Rattle.spec_image.specs.Volume.{metadata_of, blobs}
use Rattle.plain_crash.specs.declared.volumes.Volume.{Volume}

-- the image has no volume, so no blobs
pub record HasNoVolume (image : Blocks) : Type 0 where
  pub metadata : metadata_of image ≡ None
  pub blobs : blobs image ≡ None

-- the image has a volume of these counts, with these blobs
pub record HasVolume (image : Blocks) (v : Volume) : Type 0 where
  pub metadata : IsSomeAnd (metadata_of image) (λ m. m.super.geometry ≡ v.geometry)
  pub blobs : blobs image ≡ Some v.blobs.entries
