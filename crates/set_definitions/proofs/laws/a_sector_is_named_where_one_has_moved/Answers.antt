-- Along the seen sectors.
use Rattle.set_definitions.proofs.Naming.{named}
use Rattle.set_definitions.proofs.laws.a_sector_is_named_where_one_has_moved.Goals as goal

pub returns : goal.returns
returns c = named
