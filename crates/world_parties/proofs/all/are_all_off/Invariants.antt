-- The servers that are left are all off where all are.
use Rattle.std.proofs.Common.{◌≡◌, drop}
use Rattle.std.specs.List.{list_all}
use Rattle.core_definitions.specs.Servers.{is_off}
use Rattle.world_parties.specs.States.{server_of}
use Rattle.world_parties.proofs.all.are_all_off.Given as goal

abbrev pub invariant-loop-party : goal.invariant-loop-party
invariant-loop-party l = list_all (λ party. is_off (server_of party).phase) (drop l.party-index l.parties) ≡ list_all (λ party. is_off (server_of party).phase) l.parties
