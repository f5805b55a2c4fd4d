-- One of the servers that are left is unsettled where one of all is.
use Rattle.std.proofs.Common.{◌≡◌, drop}
use Rattle.std.specs.List.{list_any}
use Rattle.core_definitions.specs.EndGuards.{is_unsettled}
use Rattle.world_parties.specs.States.{server_of}
use Rattle.world_parties.proofs.all.is_any_unsettled.Given as goal

abbrev pub invariant-loop-party : goal.invariant-loop-party
invariant-loop-party l = list_any (λ party. is_unsettled (server_of party).phase) (drop l.party-index l.parties) ≡ list_any (λ party. is_unsettled (server_of party).phase) l.parties
