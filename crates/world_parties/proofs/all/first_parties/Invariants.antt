-- So many servers are there, by their numbers.
use Rattle.std.proofs.Common.{◌≡◌, None, [], map}
use Rattle.std.specs.List.{All}
use Rattle.core_definitions.specs.Servers.{first_server}
use Rattle.tree_definitions.specs.Numbers.{below}
use Rattle.world_parties.specs.States.{oldest_of, server_of}
use Rattle.world_parties.proofs.all.first_parties.Given as goal

abbrev pub invariant-loop-a : goal.invariant-loop-a
invariant-loop-a l = record {
  servers : map server_of l.parties.items ≡ map (λ a. first_server) (below l.a);
  placed : map (λ party. party.server.id) l.parties.items ≡ below l.a;
  recoveries : All (λ party. party.recovery ≡ None) l.parties.items;
  flags : All (λ party. party.server.flying ≡ []) l.parties.items;
  plans : All (λ party. party.plan ≡ None) l.parties.items;
  oldest : All (λ party. oldest_of party ≡ None) l.parties.items;
}
