use Rattle.bv_mount.proofs.PartLemmas.{journal_reads}
use Rattle.bv_mount.proofs.first_conditions.read_journal.Goals as goal

pub returns-clause-reads : goal.returns-clause-reads
returns-clause-reads g c = journal_reads c.args.geometry c.scan.result c.scanned.result _ _ c.scanned.ensures c.scan.ensures.reads
