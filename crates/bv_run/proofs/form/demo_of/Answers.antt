use Rattle.bv_run.proofs.WordsLemmas.{no_low, no_high}
use Rattle.bv_run.proofs.form.demo_of.Goals as goal

pub returns-then-count-lt-LEAST_ROUNDS-clause-none : goal.returns-then-count-lt-LEAST_ROUNDS-clause-none
returns-then-count-lt-LEAST_ROUNDS-clause-none c =
    no_low c.args.name.now c.args.rounds.now c.in_ok-count.count c.in_ok-count.ensures.some c.if-count-lt-LEAST_ROUNDS.true

pub returns-then-count-gt-MOST_ROUNDS-clause-none : goal.returns-then-count-gt-MOST_ROUNDS-clause-none
returns-then-count-gt-MOST_ROUNDS-clause-none c =
    no_high c.args.name.now c.args.rounds.now c.in_ok-count.count c.in_ok-count.ensures.some c.if-count-gt-MOST_ROUNDS.true
