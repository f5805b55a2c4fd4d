-- The flag changes nothing that the core knows.
use Rattle.core_definitions.specs.Servers.{Server}
use Rattle.core_definitions.specs.WriteEffects.{counted}
use Rattle.world_state.proofs.KeptAlong.{keeps_but_on}
use Rattle.world_state.proofs.PartySteps.{becomes_behind}
use Rattle.world_state.proofs.issuing.issue_in_place.Goals as goal

pub returns-clause-becomes : goal.returns-clause-becomes
returns-clause-becomes c =
    becomes_behind c.args.parties.now c.set_flies.new.self c.issued.new.self c.args.by.0 (λ (server : Server). record server { arming = counted server.arming }) c.set_flies.ensures.same c.issued.ensures.becomes

pub returns-clause-keeps : goal.returns-clause-keeps
returns-clause-keeps c = keeps_but_on c.args.parties.now c.set_flies.new.self c.issued.new.self c.args.by.0 c.args.sector.0 c.set_flies.ensures.keeps c.issued.ensures.keeps
