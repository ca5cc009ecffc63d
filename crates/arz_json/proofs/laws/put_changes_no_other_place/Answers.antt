use Rattle.arz_json.proofs.Elsewhere as elsewhere
use Rattle.arz_json.proofs.laws.put_changes_no_other_place.Goals as goal

pub returns : goal.returns
returns c = elsewhere.put_changes_no_other_place
