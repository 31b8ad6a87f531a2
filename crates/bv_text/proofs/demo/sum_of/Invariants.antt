use Rattle.std.proofs.Common.{◌≡◌, ◌*◌, ◌-◌, ◌^◌, ◌≤◌, sum, take}
use Rattle.bv_text.proofs.demo.sum_of.Given as goal

abbrev pub invariant-loop-i : goal.invariant-loop-i
invariant-loop-i l = record {
  total : l.total ≡ sum (take l.i l.sizes);
  within : l.total ≤ l.i * (2 ^ 64 - 1);
}
