use denote.Param.Send.{sendable}
use Rattle.std.proofs.Common.{◌∙◌, sym, subst, List}
use Rattle.spec_session.specs.declared.end.SessionEnd.{SessionEnd}
use Rattle.std.proofs.Crossing.{crosses}
use Rattle.bv_cache.proofs.kept.Kept.TheSendSync as kept
use Rattle.bv_volume.proofs.volume.Volume.TheSendSync as volume
use Rattle.bv_shared.proofs.SinceLemmas.{are_within}
use Rattle.bv_sessions.specs.Runs.{Runs}
use Rattle.bv_sessions.proofs.RunsLemmas.{closed_runs, gave_none, left_shared, none_left}
use Rattle.bv_sessions.proofs.sessions.run_sessions.Goals as goal

pub returns-in-Err : goal.returns-in-Err
returns-in-Err g c =
    let r = c.give_up.result in
    gave_none c.args.lines.now c.args.volume c.in-Err.volume r.history.history (g.S.Store.seen r.store) r.whole r.ends.items c.new-in-Err.result.items
    c.in-Err.ensures.err c.give_up.ensures.ends c.new-in-Err.ensures.items c.requires.fresh c.requires.disk c.give_up.ensures.whole c.give_up.ensures.gives

pub close-requires : goal.close-requires
close-requires g c =
    let ran = c.in-Ok-run_all in let v = c.into_volume-volume in
    let left = left_shared c.args.lines.now c.args.volume c.in-Ok.shared.volume c.in-Ok.shared.opening.value ran.shared.volume v.result ran.shared.opening.value.store.faults ran.ends.items
    c.in-Ok.ensures.ok.0 c.in-Ok.ensures.ok.1 v.ensures.volume ran.ensures.basis ran.ensures.ends ran.ensures.shows ran.ensures.others v.ensures.caused v.ensures.later v.ensures.disk (sym ran.ends.ok.0 ∙ ran.ensures.count)
    c.requires.lawful c.history-history.ensures.legal v.ensures.mounted (are_within v.result c.history-history.ensures.legal.calls c.history-history.ensures.calls c.history-history.ensures.counted) v.ensures.moments in
    record { none = none_left c.args.lines.now c.args.volume v.result ran.ends.items left c.history-history.ensures.legal }

pub returns-in-Ok-run_all : goal.returns-in-Ok-run_all
returns-in-Ok-run_all g c =
    let ran = c.in-Ok-run_all in let v = c.into_volume-volume in let r = c.close.result in
    let left = left_shared c.args.lines.now c.args.volume c.in-Ok.shared.volume c.in-Ok.shared.opening.value ran.shared.volume v.result ran.shared.opening.value.store.faults ran.ends.items
    c.in-Ok.ensures.ok.0 c.in-Ok.ensures.ok.1 v.ensures.volume ran.ensures.basis ran.ensures.ends ran.ensures.shows ran.ensures.others v.ensures.caused v.ensures.later v.ensures.disk (sym ran.ends.ok.0 ∙ ran.ensures.count)
    c.requires.lawful c.history-history.ensures.legal v.ensures.mounted (are_within v.result c.history-history.ensures.legal.calls c.history-history.ensures.calls c.history-history.ensures.counted) v.ensures.moments in
    subst (λ (es : List SessionEnd). Runs c.args.lines.now c.args.volume r.history.history es r.whole (g.S.Store.seen r.store)) (sym c.close.ensures.ends)
    (closed_runs c.args.lines.now c.args.volume ran.ends.items v.result left r.history.history (g.S.Store.seen r.store) r.whole c.close.ensures.closes)

pub returns-in-Err-run_all : goal.returns-in-Err-run_all
returns-in-Err-run_all g c =
    let r = c.give_up-in-Err-run_all.result in let v = c.into_volume in
    gave_none c.args.lines.now c.args.volume v.result r.history.history (g.S.Store.seen r.store) r.whole r.ends.items c.new-in-Err-run_all.result.items
    (v.ensures.volume ∙ (λ i. (c.in-Err-run_all.ensures.err i).volume) ∙ c.in-Ok.ensures.ok.0) c.give_up-in-Err-run_all.ensures.ends c.new-in-Err-run_all.ensures.items c.requires.fresh c.requires.disk c.give_up-in-Err-run_all.ensures.whole c.give_up-in-Err-run_all.ensures.gives

pub run_all-requires-send-V : goal.run_all-requires-send-V
run_all-requires-send-V g c κs within = let s = c.type_bounds.send-S in search (sendable, crosses, kept.the_send, volume.the_send) depth 20
