-- As it begins.
use Rattle.rest_examples.proofs.Rest.{fresh_rests}
use Rattle.rest_examples.proofs.servers.a_fresh_world_is_at_rest.Goals as goal

pub returns : goal.returns
returns c = record { rests = fresh_rests }
