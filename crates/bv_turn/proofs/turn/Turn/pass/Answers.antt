use Rattle.std.proofs.Common.{rules, ap, sym, refl, ◌∙◌, subst, ◌≡◌, ◌∷◌, map, length, Some}
use Rattle.atomic_table.specs.Table.{rest}
use lib.ListN.{drop}
use Rattle.bv_turn.specs.Entries.{entries_of, numbered}
use Rattle.bv_turn.specs.Kinds.{carried}
use Rattle.bv_turn.specs.Views.{noted, taken_of, first_entries, first_basis}
use Rattle.bv_turn.proofs.EntryLemmas.{numbered-entries_of}
use Rattle.bv_turn.proofs.Passing.{MayGive, notes, passes, noted_is}
use Rattle.bv_turn.proofs.ViewLemmas.{only}
use Rattle.bv_turn.proofs.turn.Turn.pass.Goals as goal

pub store-requires : goal.store-requires
store-requires g c =
    let m = c.args.share.now in let v = c.args.held.value in let out = c.requires.out in let e = c.exchange-old.ensures.3 in
    let s = g.T.Keeps.session in let en = g.T.Keeps.entries in let ba = g.T.Keeps.basis in
    let l = taken_of m.seat.me.0 in let p = only m.seat.me.0.parts m.session m.one in
    let mine = ap (λ x. x.1) e ∙ ap (λ z. (0, Some v) ∷ rest z) out.0 in let was = ap (λ x. x.0) e in
    let known : p.0.entries ≡ numbered s p.0.session 0 l = sym (ap first_entries p.1) ∙ out.2 ∙ ap (λ k. numbered s k 0 l) (sym p.2) in
    let may = subst (λ k. MayGive s 0 (ba v) en ba k l (en v)) (sym p.2) c.requires.entries in (
      c.exchange-old.ensures.0 ∙ c.requires.this,
      search rules,
      notes s _ _ en ba _ _ _ v l p.0.session p.0.basis p.0.entries _ mine (ap (λ w. w.taken) was ∙ out.1) (ap (λ w. w.parts) was ∙ p.1) known may c.count-count.ensures.count,
    )

pub fetch_add-served-requires : goal.fetch_add-served-requires
fetch_add-served-requires g c =
    let m = c.args.share.now in let v = c.args.held.value in let out = c.requires.out in let e = c.exchange-old.ensures.3 in
    let s = g.T.Keeps.session in let en = g.T.Keeps.entries in let ba = g.T.Keeps.basis in
    let l = taken_of m.seat.me.0 in let p = only m.seat.me.0.parts m.session m.one in
    let mine = ap (λ x. x.1) e ∙ ap (λ z. (0, Some v) ∷ rest z) out.0 in let was = ap (λ x. x.0) e in
    let known : p.0.entries ≡ numbered s p.0.session 0 l = sym (ap first_entries p.1) ∙ out.2 ∙ ap (λ k. numbered s k 0 l) (sym p.2) in
    let may = subst (λ k. MayGive s 0 (ba v) en ba k l (en v)) (sym p.2) c.requires.entries in
    let based : p.0.basis ≡ ba v = (let z : Some p.0.basis ≡ Some (ba v) = sym (ap first_basis p.1) ∙ c.requires.basis in cc) in
    let told = c.store.ensures.2 in
    let view_is = told.1 ∙ (λ i. noted (was i) (drop (length (taken_of (was i))) (carried en (mine i)))) ∙ noted_is s 0 (ba v) en ba m.seat.me.0 l (en v) p.0.session p.0.basis p.0.entries out.1 p.1 known may in (
      c.store.ensures.0 ∙ c.exchange-old.ensures.0 ∙ c.requires.this,
      search rules,
      passes s _ _ en ba _ _ _ v l p.0.session p.0.basis (numbered s p.0.session 0 (en v)) (told.0 ∙ mine) (ap (λ w. w.taken) view_is ∙ out.1) (ap (λ w. w.parts) view_is) refl may based,
    )

pub returns-clause-list : goal.returns-clause-list
returns-clause-list g c =
    let m = c.args.share.now in let v = c.args.held.value in let out = c.requires.out in let e = c.exchange-old.ensures.3 in
    let s = g.T.Keeps.session in let en = g.T.Keeps.entries in let ba = g.T.Keeps.basis in
    let l = taken_of m.seat.me.0 in let p = only m.seat.me.0.parts m.session m.one in
    let mine = ap (λ x. x.1) e ∙ ap (λ z. (0, Some v) ∷ rest z) out.0 in let was = ap (λ x. x.0) e in
    let known : p.0.entries ≡ numbered s p.0.session 0 l = sym (ap first_entries p.1) ∙ out.2 ∙ ap (λ k. numbered s k 0 l) (sym p.2) in
    let may = subst (λ k. MayGive s 0 (ba v) en ba k l (en v)) (sym p.2) c.requires.entries in
    let told = c.store.ensures.2 in
    let view_is = told.1 ∙ (λ i. noted (was i) (drop (length (taken_of (was i))) (carried en (mine i)))) ∙ noted_is s 0 (ba v) en ba m.seat.me.0 l (en v) p.0.session p.0.basis p.0.entries out.1 p.1 known may in
    ap (λ w. map (λ x. x.1) (first_entries w.parts)) c.fetch_add-served.ensures.2.1 ∙ ap (λ w. map (λ x. x.1) (first_entries w.parts)) view_is
    ∙ numbered-entries_of s p.0.session 0 (en v) ∙ ap (λ k. entries_of s k (en v)) p.2
