use Rattle.bv_serve.proofs.recover.recover.Goals as goal

pub returns : goal.returns
returns g c = λ input alone. record {
  answer = c.recover_volume-answer.result;
  device = c.recover_volume-answer.ensures;
  reports = c.print_replayed.ensures;
  alone = alone;
}
