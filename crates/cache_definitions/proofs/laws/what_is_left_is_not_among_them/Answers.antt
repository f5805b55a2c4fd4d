-- One after the other.
use Rattle.cache_definitions.proofs.FlagLaws.{left_all}
use Rattle.cache_definitions.proofs.laws.what_is_left_is_not_among_them.Goals as goal

pub returns : goal.returns
returns c = left_all
