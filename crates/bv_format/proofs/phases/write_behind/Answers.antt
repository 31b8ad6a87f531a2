-- The plan is that of the regions, one after another.
use Rattle.std.proofs.Common.{◌+◌, List, sym, subst}
use Rattle.spec_disk.specs.declared.event.Event.{Event}
use Rattle.spec_record.specs.Geometry.{bitmap_blocks, info_at}
use Rattle.spec_image.specs.Empty.{empty_bitmap}
use Rattle.bv_device.specs.Plan.{writes, a_sync}
use Rattle.bv_device.specs.Seen.{Performs}
use Rattle.bv_device.proofs.SeenLemmas.{Performs-append, Performs-stopped}
use Rattle.bv_format.proofs.PhaseLemmas.{free_nodes, empty_journal, journal_plan, map_plan, behind_plan-regions}
use Rattle.bv_format.proofs.phases.write_behind.Goals as goal

pub returns-in_err-write_bitmap : goal.returns-in_err-write_bitmap
returns-in_err-write_bitmap g c =
    subst (λ (p : List Event). Performs c.from_residual.result p (g.D.Device.seen c.args.dev.now) (g.D.Device.seen c.write_bitmap.new.dev)) (sym (behind_plan-regions c.args.geometry.now c.requires.counts))
    (Performs-stopped c.from_residual.result _ (writes 1 (empty_bitmap c.args.geometry.now)) (map_plan c.args.geometry.now) _ _ c.in_err-write_bitmap.ensures c.from_residual.ensures.1)

pub returns-in_err-write_node_map : goal.returns-in_err-write_node_map
returns-in_err-write_node_map g c =
    subst (λ (p : List Event). Performs c.from_residual-in_err-write_node_map.result p (g.D.Device.seen c.args.dev.now) (g.D.Device.seen c.write_node_map.new.dev)) (sym (behind_plan-regions c.args.geometry.now c.requires.counts))
    (Performs-append c.from_residual-in_err-write_node_map.result _ (writes 1 (empty_bitmap c.args.geometry.now)) (map_plan c.args.geometry.now) _ _ _ c.in_ok-write_bitmap.ensures
    (Performs-stopped c.from_residual-in_err-write_node_map.result _ (writes (1 + bitmap_blocks c.args.geometry.now) (free_nodes c.args.geometry.now)) (journal_plan c.args.geometry.now) _ _ c.in_err-write_node_map.ensures c.from_residual-in_err-write_node_map.ensures.1))

pub returns-in_err-write_journal : goal.returns-in_err-write_journal
returns-in_err-write_journal g c =
    subst (λ (p : List Event). Performs c.from_residual-in_err-write_journal.result p (g.D.Device.seen c.args.dev.now) (g.D.Device.seen c.write_journal.new.dev)) (sym (behind_plan-regions c.args.geometry.now c.requires.counts))
    (Performs-append c.from_residual-in_err-write_journal.result _ (writes 1 (empty_bitmap c.args.geometry.now)) (map_plan c.args.geometry.now) _ _ _ c.in_ok-write_bitmap.ensures
    (Performs-append c.from_residual-in_err-write_journal.result _ (writes (1 + bitmap_blocks c.args.geometry.now) (free_nodes c.args.geometry.now)) (journal_plan c.args.geometry.now) _ _ _ c.in_ok-write_node_map.ensures
    (Performs-stopped c.from_residual-in_err-write_journal.result _ (writes (info_at c.args.geometry.now) (empty_journal c.args.geometry.now)) a_sync _ _ c.in_err-write_journal.ensures c.from_residual-in_err-write_journal.ensures.1)))

pub returns : goal.returns
returns g c =
    subst (λ (p : List Event). Performs c.sync.result p (g.D.Device.seen c.args.dev.now) (g.D.Device.seen c.sync.new.self)) (sym (behind_plan-regions c.args.geometry.now c.requires.counts))
    (Performs-append c.sync.result _ (writes 1 (empty_bitmap c.args.geometry.now)) (map_plan c.args.geometry.now) _ _ _ c.in_ok-write_bitmap.ensures
    (Performs-append c.sync.result _ (writes (1 + bitmap_blocks c.args.geometry.now) (free_nodes c.args.geometry.now)) (journal_plan c.args.geometry.now) _ _ _ c.in_ok-write_node_map.ensures
    (Performs-append c.sync.result _ (writes (info_at c.args.geometry.now) (empty_journal c.args.geometry.now)) a_sync _ _ _ c.in_ok-write_journal.ensures
    c.sync.ensures.performs)))
