-- One entry more at the slot after the last, and in the end all entries.
use Rattle.std.proofs.Common.{◌≡◌, ◌+◌, ◌%◌, ℕ, length, map, map-id, refl, ap, sym, ◌∙◌, arith, rules}
use Rattle.std.proofs.lemmas.List.{map-append}
use Rattle.std.proofs.lemmas.Iterator.Adapters.{YieldsList-from_vec}
use Rattle.std.proofs.lemmas.Iterator.Consumers.{YieldsList-end}
use Rattle.spec_image.specs.Chance.{placed_from}
use Rattle.plain_crash.specs.Placed.{placed_entry}
use Rattle.plain_crash.proofs.ChanceLemmas.{placed_more, placed_all}
use Rattle.plain_crash.proofs.chances.with_slots.Goals as goal

pub loop-entry-preserved : goal.loop-entry-preserved
loop-entry-preserved c =
    let l = c.loop-entry in let e = c.in-Some.entry in
    let count : length c.targets.result.now ≡ length e.targets = ap length c.targets.ensures in
    let next : l.slot + length c.targets.result.now + 2 ≡ l.slot + (length e.targets + 2) = omega (arith, count) in
    record {
      within = omega (arith, l.invariant.within);
      placed_are = λ j ring. placed_more j c.args.start l.yielded _ (map placed_entry l.placed.items) _ l.slot _ e (l.invariant.placed_are j ring)
          refl
          (ap (map placed_entry) c.in_ok-push.ensures.items ∙ map-append placed_entry l.placed.items _)
          (ap (λ (n : ℕ). n % c.args.slots) next ∙ ap (λ (n : ℕ). (l.slot + (length e.targets + 2)) % n) (sym ring));
    }

pub returns : goal.returns
returns c =
    let l = c.loop-entry in
    let end =
    YieldsList-end (YieldsList-from_vec {s = c.into_iter-entry-iterator.result} c.args.entries.items (search rules) (search rules))
    l.yielded l.entry-iterator l.yielded_by c.next.result c.next.new.self c.in-None.is c.next.ensures.steps in
    λ j ring. placed_all j c.args.start l.yielded (map placed_entry l.placed.items) l.slot (l.invariant.placed_are j ring)
    ∙ ap (placed_from j c.args.start) (sym (map-id l.yielded) ∙ end.0)
