use Rattle.std.proofs.Common.{rules, arith, ap, sym, subst, ◌∙◌, ◌≡◌, ◌<◌, ◌++◌, length, length-append}
use Rattle.std.specs.List.{AllByRecursion, flat_map}
use Rattle.bv_turn.specs.declared.turn.Share.{Share}
use Rattle.bv_turn.specs.Tokens.{IsOf, IsIdle}
use Rattle.bv_turn.proofs.ListLemmas.{each_last, flat_map-last, flat_map-snoc}
use Rattle.bv_turn.proofs.ShareLemmas.{parts_of}
use Rattle.bv_turn.proofs.Sharing.{merges}
use Rattle.bv_turn.proofs.ViewLemmas.{only}
use Rattle.bv_turn.proofs.steps.gather.Goals as goal

pub loop-share-init : goal.loop-share-init
loop-share-init g c =
    let F = λ (x : Share g.row.T.Denot g.row.T-Entry.Denot g.row.T-Basis.Denot g.T.Keeps). IsOf c.args.turn.now x × IsIdle x in
    let items = c.in-Some.ensures.items in let last = c.in-Some.last in
    let had = each_last F c.pop.new.self.items last (subst (AllByRecursion F) items c.requires.this) in
    let same = c.seat_of-all.ensures.same in
    let one : length c.seat_of-all.result.me.0.parts ≡ 1 = ap (λ s. length s.me.0.parts) same ∙ ap length (only last.seat.me.0.parts last.session last.one).1 in
    record {
      this = ap (λ s. s.table_id) same ∙ had.1.0;
      idle = (ap (λ s. s.me.0.ticket) same ∙ had.1.1.0, ap (λ s. s.me.0.taken) same ∙ had.1.1.1, ap (λ s. s.me.1) same ∙ had.1.1.2);
      some = omega arith;
      left = had.0;
      parts = ap (flat_map parts_of) items ∙ flat_map-last parts_of c.pop.new.self.items last ∙ ap (λ s. flat_map parts_of c.pop.new.self.items ++ s.me.0.parts) (sym same);
    }

pub join_seat-requires : goal.join_seat-requires
join_seat-requires g c =
    let F = λ (x : Share g.row.T.Denot g.row.T-Entry.Denot g.row.T-Basis.Denot g.T.Keeps). IsOf c.args.turn.now x × IsIdle x in
    let h = c.loop-share.invariant in
    let had = each_last F c.pop-in-loop-share.new.self.items c.in-Some-pop.share (subst (AllByRecursion F) c.in-Some-pop.ensures.items h.left) in
    let same = c.seat_of-seat.ensures.same in (
      h.this,
      ap (λ s. s.table_id) same ∙ had.1.0,
      ap (λ s. s.me.1) same ∙ had.1.1.2,
      search rules,
      merges g.T.Keeps.session _ _ g.T.Keeps.entries g.T.Keeps.basis _ _ _ _ h.idle.0 h.idle.1 h.some (ap (λ s. s.me.0.ticket) same ∙ had.1.1.0) (ap (λ s. s.me.0.taken) same ∙ had.1.1.1),
    )

pub loop-share-preserved : goal.loop-share-preserved
loop-share-preserved g c =
    let F = λ (x : Share g.row.T.Denot g.row.T-Entry.Denot g.row.T-Basis.Denot g.T.Keeps). IsOf c.args.turn.now x × IsIdle x in
    let h = c.loop-share.invariant in
    let items = c.in-Some-pop.ensures.items in let left = c.pop-in-loop-share.new.self.items in let share = c.in-Some-pop.share in
    let had = each_last F left share (subst (AllByRecursion F) items h.left) in
    let mine = c.join_seat.ensures.2 in
    let all_is = ap (λ m. m.0.parts) mine ∙ ap (λ s. s.me.0.parts ++ c.loop-share.all.me.0.parts) c.seat_of-seat.ensures.same in
    let more : 0 < length c.join_seat.new.seat.me.0.parts = (let l = ap length all_is in let s = h.some in omega (arith, length-append share.seat.me.0.parts c.loop-share.all.me.0.parts)) in
    record {
      this = c.join_seat.ensures.0 ∙ h.this;
      idle = (ap (λ m. m.0.ticket) mine ∙ h.idle.0, ap (λ m. m.0.taken) mine ∙ h.idle.1, ap (λ m. m.1) mine ∙ h.idle.2);
      some = more;
      left = had.0;
      parts = h.parts ∙ ap (λ xs. flat_map parts_of xs ++ c.loop-share.all.me.0.parts) items ∙ flat_map-snoc parts_of left share c.loop-share.all.me.0.parts ∙ ap (λ z. flat_map parts_of left ++ z) (sym all_is);
    }
