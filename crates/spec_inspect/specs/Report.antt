-- What a check finds in an image: everything that is wrong with its metadata, and each blob whose
-- bytes don't have its root (this project's profile).
--
-- The blobs are those whose chains read, also where the metadata isn't well formed. A blob with a
-- damaged tree is whole: only its bytes are looked at.
use Rattle.std.specs.Prelude.{◌≡◌, ℕ, List, [], ◌∷◌, length, map, filter, sum_by, Bool, not, Result, Ok}
use Rattle.std.specs.BTreeSet.{insert_key}
use Rattle.spec_tree.specs.declared.Digest.{Digest}
use Rattle.spec_tree.specs.Order.{digest_cmp, same_digest}
use Rattle.spec_tree.specs.Tree.{root_of}
use Rattle.spec_record.specs.declared.geometry.Geometry.{Geometry}
use Rattle.spec_image.specs.Chain.{BlobRecord}
use Rattle.spec_image.specs.Stored.{bytes_in}
use Rattle.spec_image.specs.WellFormed.{records_of}
use Rattle.spec_meta.specs.Survey.{survey_of}
use Rattle.spec_inspect.specs.declared.mount_fault.MountFault.{MountFault}
use Rattle.spec_inspect.specs.declared.open_fault.OpenFault.{OpenFault}
use Rattle.spec_inspect.specs.Faults.{of_survey, ◌>>=◌}
use Rattle.spec_inspect.specs.Readable.{Readable, readable, geometry_of, metadata_after}
use Rattle.spec_inspect.specs.Inspection.{replayed}

-- the survey's faults; the roots of damaged blobs, rising, each once; how many blobs there are, and
-- the sum of their sizes; how many slots of the journal are stale
pub record Findings : Type 0 where
  pub faults : List MountFault
  pub damaged : List Digest
  pub blobs : ℕ
  pub bytes : ℕ
  pub stale : ℕ

-- the bytes of the blob in the image don't have its root
abbrev pub is_damaged : Geometry → List (List ℕ) → BlobRecord → Bool
is_damaged g image b = not (same_digest (root_of (bytes_in g image b)) b.root)

-- these digests in the order of their bytes, each once
abbrev pub rising : List Digest → List Digest
rising [] = []
rising (d ∷ ds) = insert_key digest_cmp (rising ds) d

-- the roots of the blobs that are damaged, in the order of the blobs
abbrev pub damaged_in : Geometry → List (List ℕ) → List BlobRecord → List Digest
damaged_in g image bs = map (λ b. b.root) (filter (is_damaged g image) bs)

-- what a check finds in a readable image
abbrev pub findings_of : List (List ℕ) → Readable → Findings
findings_of image o =
    let m = metadata_after image o in
    record {
      faults = map of_survey (survey_of m);
      damaged = rising (damaged_in (geometry_of o) image (records_of m));
      blobs = length (records_of m);
      bytes = sum_by (λ b. b.size) (records_of m);
      stale = length (replayed image o).stale;
    }

-- what a check finds in an image, or the first condition that fails before its survey
abbrev pub report_of : List (List ℕ) → Result Findings OpenFault
report_of image = readable image >>= λ o. Ok (findings_of image o)

-- nothing is wrong
pub record IsClean (found : Findings) : Type 0 where
  pub faults : found.faults ≡ []
  pub damaged : found.damaged ≡ []
