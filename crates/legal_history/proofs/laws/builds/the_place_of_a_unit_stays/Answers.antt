use Rattle.legal_history.proofs.laws.builds.the_place_of_a_unit_stays.Goals as goal
use Rattle.legal_history.proofs.Reuse.PlaceStays.{place_stays}

pub returns : goal.returns
returns c = place_stays
