use Rattle.std.proofs.Common.{◌≡◌, ℕ, List, sym, subst}
use Rattle.std.specs.Prelude.{Contains}
use Rattle.bv_fetch.proofs.Amongs.{data-of, data-within, length-data, length-tree, tree-of}
use Rattle.bv_proof.specs.declared.raw.RawWindow.{RawWindow}
use Rattle.bv_store.specs.Stored.{Stored, blocks_in, blocks_on}
use Rattle.bv_fetch.specs.Reading.{AreOfBlobs}
use Rattle.bv_fetch.specs.Windows.{data_window}
use Rattle.bv_fetch.proofs.Sees.{ok_then, sees_same, sees_two, stays_of}
use Rattle.bv_fetch.proofs.Steps.{holds_of}
use Rattle.bv_fetch.proofs.window.read_window.Goals as goal

pub data_among-content-requires : goal.data_among-content-requires
data_among-content-requires g c = data-within c.args.blob.version c.args.blob.size c.args.places.now c.requires.need

pub tree_among-tree-requires : goal.tree_among-tree-requires
tree_among-tree-requires g c = data-within c.args.blob.version c.args.blob.size c.args.places.now c.requires.need

pub read_path-requires-clause-count : goal.read_path-requires-clause-count
read_path-requires-clause-count g c = rw (c.tree_among-tree.ensures) (length-tree c.args.blob.version c.args.blob.size c.args.places.now c.requires.need)

pub read_data-requires-clause-count : goal.read_data-requires-clause-count
read_data-requires-clause-count g c = rw (c.data_among-content.ensures) (length-data c.args.blob.version c.args.blob.size c.args.places.now c.requires.need)

pub read_path-requires-clause-blobs : goal.read_path-requires-clause-blobs
read_path-requires-clause-blobs g c =
    let s = g.S.Store.seen c.args.store.now in
    subst (λ (xs : List ℕ). AreOfBlobs s xs) (sym c.tree_among-tree.ensures)
    (tree-of (λ b. Contains (blocks_in s.placed) b) c.args.blob.version c.args.blob.size c.args.places.now c.requires.blobs)

pub read_data-requires-clause-blobs : goal.read_data-requires-clause-blobs
read_data-requires-clause-blobs g c =
    let old = c.args.store.now in
    let mid = c.read_path.new.store in
    let s = g.S.Store.seen old in
    let same = (stays_of s (g.S.Store.seen mid) (g.S.Store.both old) (g.S.Store.both mid) (g.S.Store.held old) (g.S.Store.held mid) tt c.in_ok-read_path.ensures.reads).same in
    subst (λ (x : Stored). AreOfBlobs x c.data_among-content.result.now) (sym same)
    (subst (λ (xs : List ℕ). AreOfBlobs s xs) (sym c.data_among-content.ensures)
    (data-of (λ b. Contains (blocks_in s.placed) b) c.args.blob.version c.args.blob.size c.args.places.now c.requires.blobs))

pub returns-clause-now : goal.returns-clause-now
returns-clause-now g c =
    let old = c.args.store.now in
    let mid = c.read_path.new.store in
    let s = g.S.Store.seen old in
    let places = c.args.places.now in
    let blob = c.args.blob in
    let content = c.data_among-content.result.now in
    let tree = c.tree_among-tree.result.now in
    let raw : RawWindow = record { window = c.args.raw.now.window; bytes = c.read_data.new.out; path = c.read_path.new.path } in
    let same : g.S.Store.seen mid ≡ s = (stays_of s (g.S.Store.seen mid) (g.S.Store.both old) (g.S.Store.both mid) (g.S.Store.held old) (g.S.Store.held mid) tt c.in_ok-read_path.ensures.reads).same in
    ok_then c.read_data.result c.read_data.ensures.now (λ h.
    sees_two s _ (λ d. c.read_data.new.out.items ≡ data_window blob.size c.args.raw.now.window (blocks_on s.geometry d content)) _
    (λ d p q. holds_of s.geometry d places blob raw content tree c.requires.need c.requires.window c.data_among-content.ensures c.tree_among-tree.ensures p q)
    c.in_ok-read_path.ensures.now
    (sees_same s (g.S.Store.seen mid) (λ geometry d. c.read_data.new.out.items ≡ data_window blob.size c.args.raw.now.window (blocks_on geometry d content)) same h))
