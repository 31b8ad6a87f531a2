-- A run over a volume of sound blobs goes well.
use Rattle.spec_complete.specs.Whole.{SoundRunsGoWell}
use Rattle.spec_complete.proofs.Holding.{held_lines_fit}
use Rattle.spec_complete.proofs.Meeting.{meet_none}
use Rattle.spec_complete.proofs.Results.{runs_go_well}

pub sound_runs_go_well : SoundRunsGoWell
sound_runs_go_well base told run next first last ended calm enough lawful opens sound seen holds =
    runs_go_well run next first last ended calm enough
    (meet_none base told run lawful ended.served seen (held_lines_fit base told run.history next ended.legal opens.map sound holds))
