use Rattle.spec_upgrade.proofs.UpgradedLemmas.{upgraded_blobs, upgraded_whole, upgraded_geometry}
use Rattle.spec_upgrade.proofs.laws.a_newer_superblock_keeps_the_volume.Goals as goal

pub returns : goal.returns
returns c = record {
  map = λ s image is. upgraded_blobs s image is;
  whole = λ s image root is whole. upgraded_whole s image is root whole;
  geometry = λ s image is. upgraded_geometry s image is;
}
