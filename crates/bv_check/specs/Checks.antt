-- What a check answers.
use Rattle.std.specs.Prelude.{◌≡◌, ◌≤◌, ℕ, List, map, length, sum_by, All, Result, Ok, MatchResult}
use Rattle.spec_disk.specs.Disk.{Blocks, block}
use Rattle.spec_tree.specs.declared.Digest.{Digest}
use Rattle.spec_tree.specs.Tree.{need_of}
use Rattle.spec_record.specs.declared.geometry.Geometry.{Geometry}
use Rattle.spec_record.specs.Extent.{IsExtent}
use Rattle.spec_record.specs.Geometry.{block_at}
use Rattle.spec_image.specs.Chain.{BlobRecord, lengths}
use Rattle.bv_replay.specs.declared.replay.Replay.{Replay}
use Rattle.bv_txn.specs.declared.survey.Survey.{Survey}
use Rattle.bv_mount.specs.Opens.{Refuses}
use Rattle.bv_check.specs.declared.report.Report.{Report}
use Rattle.spec_inspect.specs.declared.open_fault.OpenFault.{OpenFault}
use Rattle.spec_inspect.specs.Faults.{of_survey}
use Rattle.spec_inspect.specs.Report.{Findings, rising, report_of}

-- the blob's extents are in their ranges, and have as many blocks as its size asks for
pub record IsStored (blocks : ℕ) (b : BlobRecord) : Type 0 where
  pub extents : All (IsExtent blocks) b.extents
  pub need : lengths b.extents ≡ need_of b.version b.size
  pub few : lengths b.extents ≤ 65535
  pub small : b.size ≤ 536862720

-- so are all of these
abbrev pub AreStored : ℕ → List BlobRecord → Type 0
AreStored blocks bs = All (IsStored blocks) bs

-- none of these has more bytes than 65,535 blocks
abbrev pub AreSmall : List BlobRecord → Type 0
AreSmall bs = All (λ b. b.size ≤ 536862720) bs

-- the bytes of these data blocks
abbrev pub data_at : Geometry → Blocks → List ℕ → List (List ℕ)
data_at g j ds = map (λ d. block j (block_at g d)) ds

-- the report as a value
abbrev pub findings : Report → Findings
findings r = record {
  faults = r.faults.items;
  damaged = r.damaged.items;
  blobs = r.blobs;
  bytes = r.bytes;
  stale = r.stale;
}

-- what a check answers, of the image that reads give
abbrev pub AnswersCheck : Result Report OpenFault → Blocks → Type 0
AnswersCheck result j =
    MatchResult result (λ r. report_of j ≡ Ok (findings r)) (Refuses (report_of j))

-- the sum of the sizes of these blobs
abbrev pub sizes : List BlobRecord → ℕ
sizes bs = sum_by (λ b. b.size) bs

-- the report of a survey, of these roots of damaged blobs, and of a journal
pub record IsReportOf (s : Survey) (roots : List Digest) (replay : Replay) (r : Report) : Type 0 where
  pub faults : r.faults.items ≡ map of_survey s.faults.items
  pub damaged : r.damaged.items ≡ rising roots
  pub blobs : r.blobs ≡ length s.blobs.items
  pub bytes : r.bytes ≡ sizes s.blobs.items
  pub stale : r.stale ≡ length replay.stale.items
