use Rattle.bv_journaled.proofs.CommitRows.{Done, done, some_of, done_counts, done_grows, done_placed, done_kept, done_number, done_ring, done_nodes, done_nodes_kept, done_both, done_held}
use Rattle.bv_journaled.proofs.FailedLemmas.{done_shown}
use Rattle.bv_journaled.proofs.keeping.JournaledStoreStore.commit.Goals as goal
use Rattle.bv_journaled.proofs.keeping.JournaledStoreStore.commit.Goals.{After-commit_planned}
use Rattle.bv_journaled.proofs.keeping.JournaledStoreStore.commit.Given.{Over}

whole : (g : Over) (c : After-commit_planned g) → Done c.commit_planned.result c.args.self.now c.commit_planned.new.self c.requires.planned.0
whole g c =
    done c.commit_planned.result c.args.self.now c.commit_planned.new.self c.requires.planned.0 c.requires.planned.1 c.commit_planned.ensures.standing c.commit_planned.ensures.performs c.commit_planned.ensures.ok c.commit_planned.ensures.err

pub commit_planned-requires-clause-planned : goal.commit_planned-requires-clause-planned
commit_planned-requires-clause-planned g c = some_of c.args.self.now.planned c.requires.planned.0 c.requires.planned.1

pub returns-clause-counts : goal.returns-clause-counts
returns-clause-counts g c = done_counts c.commit_planned.result c.args.self.now c.commit_planned.new.self c.requires.planned.0 (whole g c)

pub returns-clause-grows : goal.returns-clause-grows
returns-clause-grows g c = done_grows c.commit_planned.result c.args.self.now c.commit_planned.new.self c.requires.planned.0 (whole g c) c.requires.planned.3

pub returns-clause-placed : goal.returns-clause-placed
returns-clause-placed g c = done_placed c.commit_planned.result c.args.self.now c.commit_planned.new.self c.requires.planned.0 (whole g c)

pub returns-clause-kept : goal.returns-clause-kept
returns-clause-kept g c = done_kept c.commit_planned.result c.args.self.now c.commit_planned.new.self c.requires.planned.0 (whole g c)

pub returns-clause-number : goal.returns-clause-number
returns-clause-number g c = done_number c.commit_planned.result c.args.self.now c.commit_planned.new.self c.requires.planned.0 (whole g c)

pub returns-clause-ring : goal.returns-clause-ring
returns-clause-ring g c = done_ring c.commit_planned.result c.args.self.now c.commit_planned.new.self c.requires.planned.0 (whole g c)

pub returns-clause-nodes : goal.returns-clause-nodes
returns-clause-nodes g c = done_nodes c.commit_planned.result c.args.self.now c.commit_planned.new.self c.requires.planned.0 (whole g c)

pub returns-clause-nodes_kept : goal.returns-clause-nodes_kept
returns-clause-nodes_kept g c = done_nodes_kept c.commit_planned.result c.args.self.now c.commit_planned.new.self c.requires.planned.0 (whole g c)

pub returns-clause-shown : goal.returns-clause-shown
returns-clause-shown g c = done_shown c.commit_planned.result c.args.self.now c.commit_planned.new.self c.requires.planned.0 (whole g c) c.requires.planned.3

pub returns-clause-both : goal.returns-clause-both
returns-clause-both g c = done_both c.commit_planned.result c.args.self.now c.commit_planned.new.self c.requires.planned.0 (whole g c) c.requires.planned.3

pub returns-clause-held : goal.returns-clause-held
returns-clause-held g c = done_held c.commit_planned.result c.args.self.now c.commit_planned.new.self c.requires.planned.0 (whole g c)
