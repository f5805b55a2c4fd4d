-- What stood in the window still stands.
use Rattle.ring_definitions.proofs.GoodLogs.{end_of_good_goes_on}
use Rattle.ring_definitions.proofs.laws.arrivals_raise_the_end.Goals as goal

pub returns : goal.returns
returns c slots w number g flown = end_of_good_goes_on slots w number g flown
