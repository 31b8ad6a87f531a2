use Rattle.std.proofs.Common.{ap, ◌∙◌, sym}
use Rattle.bv_claims.specs.Tokens.{block_count}
use Rattle.bv_model.specs.Noted.{Noted}
use Rattle.bv_mounted.proofs.LiesLemmas.{told_contents, told_located}
use Rattle.bv_mounted.proofs.OpenLemmas.{opening_same, opening_fits, opening_fresh}
use Rattle.bv_mounted.proofs.prepared.Prepared.start.Goals as goal

pub new-requires-clause-map : goal.new-requires-clause-map
new-requires-clause-map g c =
    opening_same c.args.inspected c.args.self.map.entries c.args.self.history.history c.requires.prepared.map_is (ap (λ (n : Noted). n.history) c.requires.prepared.history_is)

pub new-requires-clause-fits : goal.new-requires-clause-fits
new-requires-clause-fits g c =
    opening_fits c.args.inspected c.args.self.map.entries c.args.self.history.history c.requires.prepared.map_is (ap (λ (n : Noted). n.history) c.requires.prepared.history_is)

pub new-requires-clause-space : goal.new-requires-clause-space
new-requires-clause-space g c =
    let p = c.requires.prepared in
    opening_fresh c.args.inspected c.args.self.map.entries c.args.self.history.history p.map_is (ap (λ (n : Noted). n.history) p.history_is)
    (g.D.Device.seen c.args.dev) c.args.opened c.args.self.ring c.args.self.space c.store_of-store.result c.store_of-store.ensures.value
    (ap block_count p.table ∙ p.blocks)
    p.once
    p.owned
    (p.room ∙ sym (ap block_count p.table))
    p.none

pub new-requires-clause-located : goal.new-requires-clause-located
new-requires-clause-located g c =
    told_located c.args.inspected c.args.opened (g.D.Device.seen c.args.dev) c.args.self.ring c.store_of-store.result c.args.self.history.history c.store_of-store.ensures.value (ap (λ (n : Noted). n.history) c.requires.prepared.history_is) c.requires.told

pub new-requires-clause-contents : goal.new-requires-clause-contents
new-requires-clause-contents g c =
    told_contents c.args.inspected c.args.opened (g.D.Device.seen c.args.dev) c.args.self.ring c.store_of-store.result c.args.self.history.history c.store_of-store.ensures.value (ap (λ (n : Noted). n.history) c.requires.prepared.history_is) c.requires.told
