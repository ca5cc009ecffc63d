use Rattle.arz_query.proofs.Places.{query_inside}
use Rattle.arz_query.proofs.laws.places_are_in_the_text.Goals as goal

pub returns : goal.returns
returns c = query_inside
