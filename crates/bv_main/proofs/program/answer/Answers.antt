use Rattle.std.proofs.Common.{inr, map, refl, subst}
use Rattle.std.specs.Prelude.{string_bytes}
use Rattle.std.proofs.KnownBytes.{Keeps-refl}
use Rattle.bv_serve.specs.Runs.{change, PrintsAt}
use Rattle.bv_main.specs.Program.{Asks}
use Rattle.bv_main.specs.declared.request.Request.TheVariants.{Help}
use Rattle.bv_main.proofs.program.answer.Goals as goal

pub returns-in-Some-Help : goal.returns-in-Some-Help
returns-in-Some-Help g c = inr (
  Help,
  subst (Asks (map string_bytes c.args.words.now)) c.in-Some-Help.field-0-is c.in-Some-Help.ensures.some,
  (
    refl,
    subst (PrintsAt c.print.result (change (g.K.Sink.seen c.args.out.now) (g.K.Sink.seen c.print.new.out))) c.as_bytes.ensures.value c.print.ensures,
    record { left = Keeps-refl _; kept = refl },
  ),
)
