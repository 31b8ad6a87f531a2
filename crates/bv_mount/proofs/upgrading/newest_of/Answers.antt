use Rattle.std.proofs.Common.{◌≡◌, ℕ, Result, Ok, ap, sym, ◌∙◌, subst, arith}
use Rattle.spec_disk.specs.Disk.{Blocks, block}
use Rattle.spec_record.specs.declared.super_fault.SuperFault.{SuperFault}
use Rattle.spec_record.specs.declared.superblock.Super.{Super}
use Rattle.spec_record.specs.Geometry.{total_blocks}
use Rattle.spec_record.specs.Superblock.{IsSuper, super_or_fault}
use Rattle.spec_upgrade.specs.Upgraded.{newest, newest_super}
use Rattle.spec_upgrade.proofs.UpgradedLemmas.{newest_lawful}
use Rattle.bv_mount.specs.declared.inspected.Inspected.{Inspected}
use Rattle.bv_mount.specs.Inspects.{inspection}
use Rattle.bv_mount.specs.Upgrades.{found_super}
use Rattle.bv_mount.proofs.SpelledLemmas.{spelled_read}
use Rattle.bv_mount.proofs.upgrading.newest_of.Goals as goal

-- what is read of its block 0
super_found : (i : Inspected) (bs : Blocks) (n : ℕ) (r : Result Super SuperFault) → r ≡ super_or_fault (block bs 0) n → bs ≡ i.meta.blocks → n ≡ total_blocks i.geometry → r ≡ Ok (found_super (inspection i))
super_found i bs n r read are count =
    read ∙ ap (λ (b : Blocks). super_or_fault (block b 0) n) are
    ∙ spelled_read i.geometry (block i.meta.blocks 0) n i.lawful.left (omega (arith, count))

ok_same : (a b : Super) (r : Result Super SuperFault) → r ≡ Ok a → r ≡ Ok b → a ≡ b
ok_same a b r e f = cc

renewed : (i : Inspected) (s : Super) → s ≡ found_super (inspection i)
    → (let t : Super = record { geometry = newest i.geometry; blobs = s.blobs; used_blocks = s.used_blocks; used_nodes = s.used_nodes } in t) ≡ newest_super (found_super (inspection i))
renewed i s e = λ k. record { geometry = newest i.geometry; blobs = (e k).blobs; used_blocks = (e k).used_blocks; used_nodes = (e k).used_nodes }

pub unreachable-requires : goal.unreachable-requires
unreachable-requires c =
    c.in_default.not-Ok (found_super (inspection c.args.inspected.now))
    (super_found c.args.inspected.now c.blocks-2.result.now c.total.result c.read_super.result c.read_super.ensures.value c.blocks-2.ensures.value c.total.ensures)

pub returns-clause-value : goal.returns-clause-value
returns-clause-value c =
    let all = super_found c.args.inspected.now c.blocks-2.result.now c.total.result c.read_super.result c.read_super.ensures.value c.blocks-2.ensures.value c.total.ensures in
    renewed c.args.inspected.now c.in-Ok.found (ok_same c.in-Ok.found (found_super (inspection c.args.inspected.now)) c.read_super.result c.in-Ok.is all)

pub returns-clause-lawful : goal.returns-clause-lawful
returns-clause-lawful c =
    let i : Inspected = c.args.inspected.now in
    let all = super_found c.args.inspected.now c.blocks-2.result.now c.total.result c.read_super.result c.read_super.ensures.value c.blocks-2.ensures.value c.total.ensures in
    let is = renewed c.args.inspected.now c.in-Ok.found (ok_same c.in-Ok.found (found_super (inspection c.args.inspected.now)) c.read_super.result c.in-Ok.is all) in
    subst IsSuper (sym is) (newest_lawful (found_super (inspection c.args.inspected.now)) c.requires c.args.inspected.now.lawful.left.lawful)
