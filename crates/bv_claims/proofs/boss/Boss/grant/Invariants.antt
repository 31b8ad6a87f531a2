use Rattle.bv_claims.proofs.boss.Boss.grant.Given as goal

abbrev pub ghosts-granted : goal.ghosts-granted
ghosts-granted a = record { need = a.need }
