-- The first so many servers want everything, and the others are as they were.
use Rattle.std.proofs.Common.{◌≡◌, ◌++◌, drop, map, take}
use Rattle.core_definitions.specs.Servers.{wanting_all_up}
use Rattle.world_parties.specs.States.{oldest_of, server_of}
use Rattle.world_parties.proofs.all.want_all.Given as goal

abbrev pub invariant-loop-i : goal.invariant-loop-i
invariant-loop-i l = record {
  servers : map server_of l.parties ≡ map wanting_all_up (take l.i (map server_of l.initial.parties)) ++ drop l.i (map server_of l.initial.parties);
  placed : map (λ party. party.server.id) l.parties ≡ map (λ party. party.server.id) l.initial.parties;
  recoveries : map (λ party. party.recovery) l.parties ≡ map (λ party. party.recovery) l.initial.parties;
  flags : map (λ party. party.server.flying) l.parties ≡ map (λ party. party.server.flying) l.initial.parties;
  plans : map (λ party. party.plan) l.parties ≡ map (λ party. party.plan) l.initial.parties;
  oldest : map oldest_of l.parties ≡ map oldest_of l.initial.parties;
}
