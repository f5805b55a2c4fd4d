-- Its recovery is gone.
use Rattle.std.proofs.Common.{None, ap, ◌∙◌}
use Rattle.core_definitions.specs.Servers.{Server}
use Rattle.world_parties.specs.States.{server_of}
use Rattle.world_parties.proofs.party.Party.resume.Goals as goal

pub returns-clause-server : goal.returns-clause-server
returns-clause-server c setting e = ap server_of c.forget.ensures ∙ ap (λ (s : Server). record s { recovery = None }) (c.resume.ensures.server setting e)
