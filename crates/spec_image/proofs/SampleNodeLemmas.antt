-- What the chains and the metadata by hand are, computed.
use Rattle.std.proofs.Common.{◌≡◌, [], ◌∷◌, true, false, Result, Ok, Err, refl}
use Rattle.spec_record.specs.declared.node_fault.NodeFault.{NodeFault}
use Rattle.spec_record.specs.declared.node_fault.NodeFault.TheVariants as faults
use Rattle.spec_tree.specs.Tree.{need_of, tree_blocks_of, levels_of, levels_above, digests_at}
use Rattle.spec_image.specs.Chain.{BlobRecord, check_counts, walk, chain}
use Rattle.spec_image.specs.WellFormed.{records_below, all_below, count_below, is_well_formed}
use Rattle.spec_image.specs.SampleNodes.{pair, inode, container, blob, parts, good, orphaned, overlapping, twice, marked_past, miscounted}

abbrev done : BlobRecord → Result BlobRecord NodeFault
done b = Ok b

abbrev failed : NodeFault → Result BlobRecord NodeFault
failed f = Err f

pub chain_reads : chain (pair (inode 1) (container 0 6 1 5)) 16 0 ≡ done blob
unfolding need_of tree_blocks_of levels_of levels_above digests_at check_counts walk chain
chain_reads = refl

pub chain_past : chain (pair (inode 2) (container 0 6 1 5)) 16 0 ≡ failed (faults.BadLink 0)
unfolding need_of tree_blocks_of levels_of levels_above digests_at check_counts walk chain
chain_past = refl

pub chain_previous : chain (pair (inode 1) (container 1 6 1 5)) 16 0 ≡ failed (faults.BadLink 0)
unfolding need_of tree_blocks_of levels_of levels_above digests_at check_counts walk chain
chain_previous = refl

pub chain_version : chain (pair (inode 1) (container 0 6 2 5)) 16 0 ≡ failed (faults.BadLink 0)
unfolding need_of tree_blocks_of levels_of levels_above digests_at check_counts walk chain
chain_version = refl

pub chain_count : chain (pair (inode 1) (container 0 5 1 5)) 16 0 ≡ failed (faults.Count 5 6)
unfolding need_of tree_blocks_of levels_of levels_above digests_at check_counts walk chain
chain_count = refl

pub chain_first : chain (pair (inode 1) (container 0 5 1 16)) 16 0 ≡ failed (faults.Count 5 6)
unfolding need_of tree_blocks_of levels_of levels_above digests_at check_counts walk chain
chain_first = refl

pub chain_extent : chain (pair (inode 1) (container 0 6 1 16)) 16 0 ≡ failed (faults.Extent 1 0)
unfolding need_of tree_blocks_of levels_of levels_above digests_at check_counts walk chain
chain_extent = refl

pub chain_container : chain (pair (inode 1) (container 0 6 1 5)) 16 1 ≡ failed faults.NotInode
unfolding need_of tree_blocks_of levels_of levels_above digests_at check_counts walk chain
chain_container = refl

pub metadata_good : is_well_formed good ≡ true
unfolding need_of tree_blocks_of levels_of levels_above digests_at check_counts walk chain records_below all_below count_below is_well_formed
metadata_good = refl

pub metadata_orphan : parts orphaned ≡ true ∷ true ∷ false ∷ true ∷ true ∷ true ∷ true ∷ []
unfolding need_of tree_blocks_of levels_of levels_above digests_at check_counts walk chain records_below all_below count_below is_well_formed
metadata_orphan = refl

pub metadata_overlap : parts overlapping ≡ true ∷ true ∷ true ∷ false ∷ true ∷ true ∷ true ∷ []
unfolding need_of tree_blocks_of levels_of levels_above digests_at check_counts walk chain records_below all_below count_below is_well_formed
metadata_overlap = refl

pub metadata_twice : parts twice ≡ true ∷ true ∷ true ∷ true ∷ false ∷ true ∷ true ∷ []
unfolding need_of tree_blocks_of levels_of levels_above digests_at check_counts walk chain records_below all_below count_below is_well_formed
metadata_twice = refl

pub metadata_bit : parts marked_past ≡ true ∷ true ∷ true ∷ true ∷ true ∷ false ∷ true ∷ []
unfolding need_of tree_blocks_of levels_of levels_above digests_at check_counts walk chain records_below all_below count_below is_well_formed
metadata_bit = refl

pub metadata_counts : parts miscounted ≡ true ∷ true ∷ true ∷ true ∷ true ∷ true ∷ false ∷ []
unfolding need_of tree_blocks_of levels_of levels_above digests_at check_counts walk chain records_below all_below count_below is_well_formed
metadata_counts = refl
