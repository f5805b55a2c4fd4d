-- All that it may issue are of its recovery.
use Rattle.std.proofs.Common.{◌≡◌, Some, ap}
use Rattle.std.specs.Option.{option_copied}
use Rattle.core_definitions.specs.Cores.{writes}
use Rattle.core_definitions.specs.Scripts.{host_party}
use Rattle.core_definitions.specs.WriteGuards.{may_issue}
use Rattle.recovery_demon.specs.Recovering.{Recovering}
use Rattle.std.proofs.Common.{Option, subst}
use Rattle.server_issues.specs.Issuing.{IsHost}
use Rattle.server_issues.specs.Nexts.{is_rescue_of}
use Rattle.server_issues.proofs.Hosts.{none_wanted}
use Rattle.server_issues.proofs.Nexts.{covered}
use Rattle.server_issues.proofs.host.host_next_issue.Goals as goal

pub returns-in-Some : goal.returns-in-Some
returns-in-Some c = λ core is.
    let d = c.in-Some.demon.now in
    let there : option_copied c.args.recovery ≡ Some d = ap option_copied c.in-Some.is in
    let P : Option Recovering → Type 0 = λ o. IsHost core o c.args.flights.now.flying in
    let host : IsHost core (Some d) c.args.flights.now.flying = subst P there is in
    covered (is_rescue_of d) (λ s. may_issue core host_party s (writes core host_party)) (λ s off. none_wanted core (Some d) c.args.flights.now.flying host s off) c.next_for.result (c.next_for.ensures core host)
