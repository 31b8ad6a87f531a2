use Rattle.std.proofs.Common.{◌≡◌, ℕ, ◌+◌, ◌≤◌, List, ◌++◌, take, length, subst, sym, ap, ◌∙◌, append_assoc, length-append, length-take, arith}
use Rattle.bv_merkle.specs.Hasher.{Holds}
use Rattle.bv_merkle.proofs.BuilderLemmas.{all-bytes, window-full, take-count, drop-count}
use Rattle.bv_merkle.proofs.builder.Builder.add.Goals as goal

-- the window is full: the hasher has taken all bytes
pub returns-else-held-count-lt-WINDOW_LEN-clause-builds : goal.returns-else-held-count-lt-WINDOW_LEN-clause-builds
returns-else-held-count-lt-WINDOW_LEN-clause-builds c = λ m b.
    let held = c.args.self.now.held in
    let count = c.min-count.result in
    let items = c.args.self.now.pending.items in
    let room : length items ≡ 65536 = c.args.self.now.window in
    let full : held + count ≡ 65536 = omega (arith, c.if-held-count-lt-WINDOW_LEN.false, c.min-count.ensures, c.args.self.now.part) in
    let few : count ≤ length c.args.bytes.now = omega (arith, c.min-count.ensures) in
    let len : c.args.self.now.pending.len ≡ 65536 = c.args.self.now.pending.ok.0 ∙ room in
    let window : c.deref.result.now ≡ take held items ++ take count c.args.bytes.now =
    window-full c.deref_mut.result.now c.copy_from_slice.new.self c.deref.result.now c.args.bytes.now items held count _
    c.deref_mut.ensures.value room full c.copy_from_slice.ensures.after len few c.deref.ensures.value in
    let all : take c.args.self.now.hasher.taken m ++ c.deref.result.now ≡ m ++ take count c.args.bytes.now =
    ap (λ (bs : List ℕ). take c.args.self.now.hasher.taken m ++ bs) window
    ∙ sym (append_assoc (take c.args.self.now.hasher.taken m) (take held items) (take count c.args.bytes.now))
    ∙ ap (λ (bs : List ℕ). bs ++ take count c.args.bytes.now) (all-bytes m items c.args.self.now.hasher.taken held b.rest) in
    let taken : c.window.new.self.taken ≡ length (m ++ take count c.args.bytes.now) =
    omega (
      arith,
      c.window.ensures.taken,
      c.deref.ensures.len,
      len,
      full,
      few,
      b.count,
      length-append m (take count c.args.bytes.now),
      length-take count c.args.bytes.now,
    ) in
    record {
      count = omega (arith, taken);
      front = subst (Holds c.window.new.self) (all ∙ sym (take-count _ _ taken)) (c.window.ensures.holds _ b.front);
      rest = drop-count _ _ taken;
      shape = c.window.ensures.shape ∙ b.shape;
    }
