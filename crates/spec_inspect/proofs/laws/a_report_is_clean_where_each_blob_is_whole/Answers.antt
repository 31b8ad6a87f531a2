use Rattle.spec_inspect.proofs.CleanLemmas.{clean_is_whole, whole_is_clean}
use Rattle.spec_inspect.proofs.laws.a_report_is_clean_where_each_blob_is_whole.Goals as goal

pub returns : goal.returns
returns c = record { clean = clean_is_whole; whole = whole_is_clean }
