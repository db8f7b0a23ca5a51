use Rattle.stack_repair.proofs.PlaceTypes.{places_have_types}
use Rattle.stack_repair.proofs.laws.law_places_have_types.Goals as goal

pub returns : goal.returns
returns c = places_have_types
