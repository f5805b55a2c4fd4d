-- One of the servers that are left recovers a log where one of all does.
use Rattle.std.proofs.Common.{◌≡◌, ◌&&◌, is_some, drop}
use Rattle.std.specs.List.{list_any}
use Rattle.core_definitions.specs.Servers.{is_up}
use Rattle.world_parties.specs.States.{server_of}
use Rattle.world_parties.proofs.all.is_any_recovering.Given as goal

abbrev pub invariant-loop-party : goal.invariant-loop-party
invariant-loop-party l = list_any (λ party. is_up (server_of party).phase && is_some (server_of party).recovery) (drop l.party-index l.parties) ≡ list_any (λ party. is_up (server_of party).phase && is_some (server_of party).recovery) l.parties
