-- The synced sector is the first candidate, and those written are the others.
use Rattle.std.proofs.Common.{◌↔◌, IsTrue, subst, ◌∙◌, sym}
use Rattle.std.specs.Cmp.Lexicographic.{other_text}
use Rattle.std.specs.List.{Contains}
use Rattle.spec_disk.specs.Disk.{sector}
use Rattle.spec_disk.proofs.ProgramLemmas.{sectors_of, tells-cons}
use Rattle.spec_disk.proofs.image.is_sector_left.Goals as goal

pub returns-else-eq : goal.returns-else-eq
returns-else-eq c =
    let a = c.args in
    let other = other_text c.sector_of-piece.result.now c.sector_of.result.now c.if-eq.ensures in
    tells-cons (sector a.synced.now a.s) (sector a.block.now a.s) (sectors_of a.at a.s a.since.now) c.is_written.result (λ same. other (c.sector_of-piece.ensures ∙ sym same ∙ sym c.sector_of.ensures))
    (subst (λ x. IsTrue c.is_written.result ↔ Contains (sectors_of a.at a.s a.since.now) x) c.sector_of-piece.ensures c.is_written.ensures)
