use Rattle.bv_claims.specs.Tokens.{claimed_gained, claimed_left}
use Rattle.std.proofs.Common.{◌≡◌, ◌+◌, List, length, vec_len, ap, ◌∙◌, arith}
use Rattle.spec_record.specs.Node.{nodes_for}
use Rattle.spec_record.specs.declared.extent.Extent.{Extent}
use Rattle.bv_node.specs.Runs.{runs}
use Rattle.bv_claims.proofs.CallerLemmas.{taken_is_part}
use Rattle.bv_volume.proofs.AdmitCalls.{admitting_of, ending_of, given_of, most_of}
use Rattle.bv_volume.proofs.Admits.{rises_increase}
use Rattle.bv_volume.proofs.admitting.give_space.Goals as goal

pub runs_into-requires-clause-rising : goal.runs_into-requires-clause-rising
runs_into-requires-clause-rising c = rw (c.deref.ensures.value) (rises_increase 1 c.gather-blocks.result.items _ c.gather-blocks.ensures.rising)

pub admit-requires-clause-most : goal.admit-requires-clause-most
admit-requires-clause-most c =
    let len : vec_len c.runs_into.new.into ≡ length c.runs_into.new.into.items = omega (arith, c.runs_into.new.into.ok.0) in
    let is = c.nodes_for-need.ensures ∙ ap nodes_for (c.len.ensures ∙ len ∙ ap (λ (es : List Extent). length es) (c.runs_into.ensures.items ∙ ap runs c.deref.ensures.value)) in
    most_of c.args.ledger.now.setting.version c.nodes_for-need.result _ c.gather-blocks.result.items _ c.requires.need c.gather-blocks.ensures.need is

pub release-requires : goal.release-requires
release-requires c = rw (c.deref-in-Err.ensures.value) (taken_is_part _ _ _ c.gather-blocks.ensures.owned)

pub returns-in-Ok-clause-ok : goal.returns-in-Ok-clause-ok
returns-in-Ok-clause-ok c =
    let len : vec_len c.runs_into.new.into ≡ length c.runs_into.new.into.items = omega (arith, c.runs_into.new.into.ok.0) in
    let is = c.nodes_for-need.ensures ∙ ap nodes_for (c.len.ensures ∙ len ∙ ap (λ (es : List Extent). length es) (c.runs_into.ensures.items ∙ ap runs c.deref.ensures.value)) in
    admitting_of c.args.space.now c.gather-blocks.new.self c.give.new.self c.args.root c.nodes_for-need.result _ c.gather-blocks.result c.gather-blocks.ensures.rest c.gather-blocks.ensures.owned c.gather-blocks.ensures.need c.args.free c.give.ensures.is is c.in-Ok.ensures.ok.0 c.gather-blocks.ensures.rising c.gather-blocks.ensures.once c.give.ensures.sorted c.give.ensures.sorted_nodes

pub returns-clause-err : goal.returns-clause-err
returns-clause-err c =
    ending_of c.args.space.now c.gather-blocks.new.self c.release.new.self c.args.root c.nodes_for-need.result (length (claimed_gained c.args.claimed) + claimed_left c.args.claimed) c.gather-blocks.result c.gather-blocks.ensures.rest c.gather-blocks.ensures.owned c.gather-blocks.ensures.need
    (rw (c.deref-in-Err.ensures.value) at c.release.ensures.owned) (rw (c.deref-in-Err.ensures.value) at c.release.ensures.room) c.release.ensures.rest c.release.ensures.once

pub returns-in-Ok-clause-given : goal.returns-in-Ok-clause-given
returns-in-Ok-clause-given c =
    let len : vec_len c.runs_into.new.into ≡ length c.runs_into.new.into.items = omega (arith, c.runs_into.new.into.ok.0) in
    let is = c.nodes_for-need.ensures ∙ ap nodes_for (c.len.ensures ∙ len ∙ ap (λ (es : List Extent). length es) (c.runs_into.ensures.items ∙ ap runs c.deref.ensures.value)) in
    let e = c.gather-blocks.ensures in
    given_of c.gather-blocks.new.self c.give.new.self c.args.root c.nodes_for-need.result c.gather-blocks.result c.args.space.now.claims c.args.claimed c.args.free c.give.ensures.is
    (record { gained = e.gained; need = e.need; rising = e.rising }) (omega (arith, is, c.in-Ok.ensures.ok.0))

pub returns-clause-told : goal.returns-clause-told
returns-clause-told c =
    let len : vec_len c.runs_into.new.into ≡ length c.runs_into.new.into.items = omega (arith, c.runs_into.new.into.ok.0) in
    let is = c.nodes_for-need.ensures ∙ ap nodes_for (c.len.ensures ∙ len ∙ ap (λ (es : List Extent). length es) (c.runs_into.ensures.items ∙ ap runs c.deref.ensures.value)) in
    let e = c.gather-blocks.ensures in
    let err = c.in-Err.ensures.err in (
      omega (arith, err.0, err.2),
      err.1,
      record {
        blocks = c.gather-blocks.result.items;
        gathered = record { gained = e.gained; need = e.need; rising = e.rising };
        is = err.0 ∙ is;
      },
    )
