use Rattle.spec_laws.proofs.RecordLemmas.{whole_known, sound_known}
use Rattle.bv_journaled.proofs.EntryLemmas.{blob_there}
use Rattle.bv_journaled.proofs.laws.blocks_that_have_a_blob_are_whole_and_sound.Goals as goal

pub returns : goal.returns
returns c = record {
  sound = λ g image r has. (blob_there g image r has).0;
  whole = λ g image r has. (blob_there g image r has).1;
  of_image = λ j m r is known has.
      let there = blob_there m.super.geometry j r has in
      ((sound_known j m r is known).1 there.0, (whole_known j m r is known).1 there.1);
}
