use Rattle.bv_shared.proofs.shared.Shared.into_volume.Goals as goal

pub returns-clause-caused : goal.returns-clause-caused
returns-clause-caused g c = c.args.self.since.1

pub returns-clause-disk : goal.returns-clause-disk
returns-clause-disk g c = c.args.self.since.3

pub returns-clause-later : goal.returns-clause-later
returns-clause-later g c = c.args.self.since.0

pub returns-clause-moments : goal.returns-clause-moments
returns-clause-moments g c = c.args.self.since.4

pub returns-clause-mounted : goal.returns-clause-mounted
returns-clause-mounted g c = c.args.self.since.2
