-- What a survey of metadata counts on its way.
use Rattle.std.specs.Prelude.{◌≡◌, ◌<◌, ◌+◌, ℕ, List, [], length, map, filter, sum_by, count_by, Bool, true, ◌==◌, ◌&&◌, ◌||◌, nat_le, nat_lt, if◌then◌else◌, slice_index, slice_index_or}
use Rattle.spec_disk.specs.Disk.{block}
use Rattle.spec_tree.specs.declared.Digest.{Digest}
use Rattle.spec_record.specs.declared.extent.Extent.{Extent}
use Rattle.spec_record.specs.declared.node_fault.NodeFault.TheVariants as node_faulty
use Rattle.spec_image.specs.Chain.{Nodes, BlobRecord, chain}
use Rattle.spec_image.specs.WellFormed.{extents_with, chains_with, is_container}
use Rattle.spec_meta.specs.declared.survey_fault.SurveyFault.{SurveyFault}
use Rattle.spec_meta.specs.declared.survey_fault.SurveyFault.TheVariants as faults
use Rattle.spec_meta.specs.Survey.{unless, node_fault, same_bool}
use Rattle.bv_txn.specs.Drafts.{bits_at}

-- how many extents of these blobs pass a test
abbrev pub extents_that : (Extent → Bool) → List BlobRecord → ℕ
extents_that test bs = sum_by (λ b. count_by test b.extents) bs

-- the extent starts at data block d
abbrev pub starts_at : ℕ → Extent → Bool
starts_at d e = e.start == d

-- data block d is the first behind the extent
abbrev pub ends_at : ℕ → Extent → Bool
ends_at d e = e.start + e.len == d

-- the block before data block d is in the extent
abbrev pub reaches : ℕ → Extent → Bool
reaches d e = nat_lt e.start d && nat_le d (e.start + e.len)

-- these are, data block by data block, in how many extents of the blobs it is
abbrev pub AreDepths : List BlobRecord → List ℕ → Type 0
AreDepths bs depths = (d : ℕ) → d < length depths → slice_index depths d ≡ extents_with bs d

-- these say of each node whether it stands in a chain
abbrev pub ArePlaced : List BlobRecord → List Bool → Type 0
ArePlaced bs placed =
    (k : ℕ) → k < length placed → slice_index_or placed k true ≡ nat_le 1 (chains_with bs k)

-- the faults of node k and its chain
abbrev pub node_faults : Nodes → ℕ → ℕ → List SurveyFault
node_faults ns blocks k = node_fault k (ns.read k) (chain ns blocks k)

-- the fault of node k where it is a container that isn't placed
abbrev pub orphan_fault : Nodes → List Bool → ℕ → List SurveyFault
orphan_fault ns placed k =
    if is_container (ns.read k)
    then unless (slice_index_or placed k true) (faults.Node k node_faulty.Orphan)
    else []

-- the fault of data block d, where it is in so many extents
abbrev pub overlap_fault : List ℕ → ℕ → List SurveyFault
overlap_fault depths d = unless (nat_le (slice_index depths d) 1) (faults.Overlap d)

-- the fault of bit d of these metadata blocks, where the data blocks are in so many extents
abbrev pub bit_fault : List (List ℕ) → List ℕ → ℕ → List SurveyFault
bit_fault base depths d =
    let says = bits_at (block base) d in
    unless (same_bool says ((d == 0) || nat_le 1 (slice_index depths d))) (faults.Bitmap d says)

-- the faults of the roots that are counted twice
abbrev pub twice_in : List (Digest × ℕ) → List SurveyFault
twice_in counts = map (λ e. faults.Twice e.0) (filter (λ e. nat_le 2 e.1) counts)
