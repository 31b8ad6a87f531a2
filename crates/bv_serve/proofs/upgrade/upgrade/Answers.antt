use Rattle.bv_serve.proofs.upgrade.upgrade.Goals as goal

pub returns : goal.returns
returns g c = λ input alone. record {
  answer = c.upgrade-answer.result;
  device = c.upgrade-answer.ensures;
  reports = c.print_replayed.ensures;
  alone = alone;
}
