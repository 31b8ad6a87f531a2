-- How a line's result came of the pages of its blob, as the device has them when the line's own
-- event ends (this project's profile).
--
-- `base` is the disk when the mount began, `told` are the device's events since, and `h` is the
-- history; `at` is the line.
use Rattle.std.specs.Prelude.{◌≡◌, ℕ, ◌<◌, ◌≤◌, List, map, None, Some}
use Rattle.spec_disk.specs.declared.event.Event.{Event}
use Rattle.spec_disk.specs.Disk.{Blocks}
use Rattle.spec_record.specs.Geometry.{block_at}
use Rattle.spec_image.specs.Chain.{BlobRecord}
use Rattle.spec_image.specs.Metadata.{Metadata}
use Rattle.spec_image.specs.Stored.{blocks_of}
use Rattle.spec_image.specs.Volume.{metadata_of, blob_in}
use Rattle.spec_window.specs.declared.mismatch.Mismatch.{Mismatch}
use Rattle.spec_window.specs.Mismatch.{first_mismatch}
use Rattle.spec_core.specs.History.{History}
use Rattle.spec_session.specs.Lines.{Windows, read_windows}
use Rattle.spec_session.specs.declared.result.LineResult.{LineResult}
use Rattle.spec_session.specs.declared.result.LineResult.TheVariants as results
use Rattle.spec_served.specs.Answers.{Known, read_of}
use Rattle.spec_served.specs.Device.{At, SeenAt, FirstBad, FitsAt, bytes_at, now_at, page_at}
use Rattle.spec_served.specs.Places.{publisher, blocks_by, version_by}

module _ (base : Blocks) (told : List Event) (h : History) (at : At) where
  -- Now has the blob where its blocks are: with its size and version, its extents are these blocks
  pub record HasThere : Type 0 where
    pub metadata : Metadata
    pub found : BlobRecord
    pub is : metadata_of (now_at base told h at) ≡ Some metadata
    pub has : blob_in metadata at.blob.0 ≡ Some found
    pub size : found.size ≡ at.blob.1
    pub version : found.version
        ≡ version_by base h at.blob.0 (publisher at.blob.0 None at.before)
    pub blocks : map (block_at metadata.super.geometry) (blocks_of found.extents)
        ≡ blocks_by base told at.before at.blob.0 (publisher at.blob.0 None at.before)

  -- each of these windows verifies there
  abbrev pub AllFit : Windows → Type 0
  AllFit windows = (w : ℕ) → windows.first ≤ w → w < windows.past → FitsAt base told h at w

  -- the bytes of each of these windows are those that are there
  abbrev pub AreThere : Known → Windows → Type 0
  AreThere known windows =
      (w : ℕ) → windows.first ≤ w → w < windows.past
      → known.bytes w ≡ bytes_at base told h at w

  -- the bytes of a read were cut out of its windows, which are those that are there and verify
  pub record CutOut (windows : Windows) (off len : ℕ) (bytes : List ℕ) : Type 0 where
    pub range : windows ≡ read_windows at.blob.1 off len
    pub fit : AllFit windows
    pub there : HasThere
    pub known : Known
    pub pages : AreThere known windows
    pub cut : bytes ≡ read_of at.blob.1 known off len

  -- the mismatch is the first failure of the first of these windows that doesn't verify there
  pub record Failed (windows : Windows) (m : Mismatch) : Type 0 where
    pub window : ℕ
    pub bad : FirstBad base told h at windows window
    pub first : first_mismatch (page_at base told h at window) ≡ Some m

  -- how the result of a line over these windows came of them: a fault of the device says nothing
  abbrev pub CameOf : Windows → ℕ → ℕ → LineResult → Type 0
  CameOf windows off len (results.Bytes bytes) = CutOut windows off len bytes.items
  CameOf windows off len (results.Mismatch m) = Failed windows m
  CameOf windows off len (results.ReadFault f) = Unit {0}
  CameOf windows off len r = AllFit windows

-- a result that came of the pages there says of the device what it should
abbrev pub PagesShow : Type 0
PagesShow =
    (base : Blocks) (told : List Event) (h : History) (at : At) (windows : Windows) (off len : ℕ)
    (r : LineResult)
    → CameOf base told h at windows off len r → SeenAt base told h at windows off len r
