use Rattle.std.proofs.Common.{refl, subst}
use Rattle.bv_serve.specs.Words.{IsForm}
use Rattle.std.proofs.KnownBytes.{Keeps-refl}
use Rattle.bv_serve.proofs.ServesLemmas.{Serves-list, Serves-check, Serves-recover, Serves-upgrade, Serves-format, Serves-refused}
use Rattle.bv_serve.proofs.serve.run_plain.Goals as goal

pub returns-in-Some-Format-clause-serves : goal.returns-in-Some-Format-clause-serves
returns-in-Some-Format-clause-serves g c =
    Serves-format _ c.in-Some-Format.geometry c.format.result _ _ _ _ (subst (IsForm _) c.in-Some-Format.field-0-is c.in-Some-Format.ensures.some)
    (c.format.ensures.runs _ (record { left = Keeps-refl _; kept = refl })) c.format.ensures.complete

pub returns-in-None-clause-serves : goal.returns-in-None-clause-serves
returns-in-None-clause-serves g c =
    Serves-refused _ c.refuse.result _ _ _ _ c.in-None.ensures.none c.refuse.ensures.status
    (record { left = Keeps-refl _; kept = refl }) c.refuse.ensures.line

pub returns-in-Some-ListBlobs-clause-serves : goal.returns-in-Some-ListBlobs-clause-serves
returns-in-Some-ListBlobs-clause-serves g c =
    Serves-list _ c.list.result _ _ _ _ (subst (IsForm _) c.in-Some-ListBlobs.field-0-is c.in-Some-ListBlobs.ensures.some)
    (c.list.ensures _ (record { left = Keeps-refl _; kept = refl }))

pub returns-in-Some-Check-clause-serves : goal.returns-in-Some-Check-clause-serves
returns-in-Some-Check-clause-serves g c =
    Serves-check _ c.check.result _ _ _ _ (subst (IsForm _) c.in-Some-Check.field-0-is c.in-Some-Check.ensures.some)
    (c.check.ensures _ (record { left = Keeps-refl _; kept = refl }))

pub returns-in-Some-Recover-clause-serves : goal.returns-in-Some-Recover-clause-serves
returns-in-Some-Recover-clause-serves g c =
    Serves-recover _ c.recover.result _ _ _ _ (subst (IsForm _) c.in-Some-Recover.field-0-is c.in-Some-Recover.ensures.some)
    (c.recover.ensures _ (record { left = Keeps-refl _; kept = refl }))

pub returns-in-Some-Upgrade-clause-serves : goal.returns-in-Some-Upgrade-clause-serves
returns-in-Some-Upgrade-clause-serves g c =
    Serves-upgrade _ c.upgrade.result _ _ _ _ (subst (IsForm _) c.in-Some-Upgrade.field-0-is c.in-Some-Upgrade.ensures.some)
    (c.upgrade.ensures _ (record { left = Keeps-refl _; kept = refl }))
