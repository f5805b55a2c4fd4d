-- None below the place where the walk goes on may be issued, and the walk ends since all are low.
use Rattle.std.proofs.Common.{◌-◌, ◌^◌}
use Rattle.core_definitions.specs.Cores.{Core, writes}
use Rattle.core_definitions.specs.WriteGuards.{is_issuable}
use Rattle.recovery_demon.specs.Recovering.{writes_wanted}
use Rattle.server_issues.specs.Issuing.{IsIssuing}
use Rattle.server_issues.proofs.Rescued.{IsWalked}
use Rattle.server_issues.proofs.issuer.Issuer.next_for.Given as goal

abbrev pub invariant-loop-sector : goal.invariant-loop-sector
invariant-loop-sector l = (c : Core) → IsIssuing c l.self
    → IsWalked (writes_wanted l.demon.segments l.demon.recovery l.demon.issued) (λ s. is_issuable c l.self.server.id s (writes c l.self.server.id)) l.from.0

abbrev pub decreases-loop-sector : goal.decreases-loop-sector
decreases-loop-sector l = 2 ^ 40 - l.from.0
