use Rattle.spec_laws.proofs.RecordLemmas.{blob_known, value_known, known_blob, bytes_known, whole_known, sound_known}
use Rattle.spec_laws.proofs.laws.a_blob_is_known_by_its_record.Goals as goal

pub returns-clause-found : goal.returns-clause-found
returns-clause-found c = blob_known

pub returns-clause-value : goal.returns-clause-value
returns-clause-value c = value_known

pub returns-clause-known : goal.returns-clause-known
returns-clause-known c = known_blob

pub returns-clause-bytes : goal.returns-clause-bytes
returns-clause-bytes c = bytes_known

pub returns-clause-whole : goal.returns-clause-whole
returns-clause-whole c = whole_known

pub returns-clause-sound : goal.returns-clause-sound
returns-clause-sound c = sound_known
