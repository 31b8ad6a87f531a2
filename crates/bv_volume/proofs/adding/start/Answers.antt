use Rattle.std.proofs.Common.{◌≡◌, ◌-◌, ℕ, List, ap, ◌∙◌}
use Rattle.std.specs.BTreeMap.{insert_entry}
use Rattle.spec_tree.specs.Order.{digest_cmp}
use Rattle.spec_tree.specs.Tree.{need_of}
use Rattle.spec_tree.specs.declared.Digest.{Digest}
use Rattle.spec_core.specs.Log.{without}
use Rattle.spec_core.specs.declared.setting.Setting.{Setting}
use Rattle.bv_space.proofs.Entries.{put_back}
use Rattle.bv_ledger.specs.Tables.{Tables}
use Rattle.bv_volume.proofs.adding.start.Goals as goal

pub returns-in-Ok-begin-clause-ok : goal.returns-in-Ok-begin-clause-ok
returns-in-Ok-begin-clause-ok c =
    let o = c.args.space.now in
    let t = c.args.ledger.now in
    let e = c.in-Ok-begin.ensures.ok in
    let need : c.blocks_needed_of-need.result ≡ need_of t.setting.version c.args.size = c.blocks_needed_of-need.ensures ∙ ap (λ (x : Setting). need_of x.version c.args.size) c.setting-version.ensures in
    record {
      tables = c.in-Ok.ensures.granted;
      blocks = e.0;
      none = e.1;
      space = e.2 ∙ ap (λ (k : ℕ). record o { room = o.room - k; adds = insert_entry digest_cmp o.adds c.args.root e.0 }) need;
    }

pub returns-in-Err-begin-clause-row : goal.returns-in-Err-begin-clause-row
returns-in-Err-begin-clause-row c =
    let t = c.args.ledger.now in
    c.end_add.ensures ∙ ap (λ (x : Tables). record x { adds = without x.adds c.args.root }) c.in-Ok.ensures.granted.is
    ∙ ap (λ (es : List (Digest × ℕ)). record t { adds = es }) (put_back t.adds c.args.root c.args.size c.in-Ok.ensures.granted.fresh)
