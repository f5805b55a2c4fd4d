-- None below the place where the walk goes on may be issued, and the walk ends since all are low.
use Rattle.std.proofs.Common.{Some, ◌-◌, ◌^◌}
use Rattle.core_definitions.specs.Cores.{Core, writes}
use Rattle.core_definitions.specs.Scripts.{host_party}
use Rattle.core_definitions.specs.WriteGuards.{may_issue}
use Rattle.recovery_demon.specs.Recovering.{writes_wanted}
use Rattle.server_issues.specs.Issuing.{IsHost}
use Rattle.server_issues.proofs.Rescued.{IsWalked}
use Rattle.server_issues.proofs.host.next_for.Given as goal

abbrev pub invariant-loop-sector : goal.invariant-loop-sector
invariant-loop-sector l = (c : Core) → IsHost c (Some l.demon) l.flights.flying
    → IsWalked (writes_wanted l.demon.segments l.demon.recovery l.demon.issued) (λ s. may_issue c host_party s (writes c host_party)) l.from.0

abbrev pub decreases-loop-sector : goal.decreases-loop-sector
decreases-loop-sector l = 2 ^ 40 - l.from.0
