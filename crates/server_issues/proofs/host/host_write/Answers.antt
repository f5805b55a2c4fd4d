-- The write that its recovery wants is the core's.
use Rattle.std.proofs.Common.{◌≡◌, false, is_some, sym, ap, ◌∙◌}
use Rattle.std.specs.Option.{option_copied, option_map}
use Rattle.frang_base.proofs.Tests.{is_some-option_map}
use Rattle.core_definitions.specs.Flights.{is_flying}
use Rattle.server_issues.specs.Issuing.{write_of}
use Rattle.server_issues.proofs.Hosts.{by_rescue, some_may}
use Rattle.server_issues.proofs.Issued.{rescued_at}
use Rattle.server_issues.proofs.host.host_write.Goals as goal

pub returns-in-Some-clause-write : goal.returns-in-Some-clause-write
returns-in-Some-clause-write c = λ core is.
    let s = c.args.sector.0 in
    let rescue = option_copied c.args.recovery in
    let flies : is_flying core.flights s ≡ false = ap (λ flights. is_flying flights s) is.flights ∙ sym c.is_busy.ensures ∙ c.if-is_busy.false in
    rescued_at core rescue s is.recovery c.in-Some.demon.now (ap option_copied c.in-Some.is) flies (option_map write_of c.rescue_write.result) c.rescue_write.ensures
    ∙ by_rescue core rescue c.args.flights.now.flying is s flies

pub returns-in-Some-clause-may : goal.returns-in-Some-clause-may
returns-in-Some-clause-may c = λ core is.
    let s = c.args.sector.0 in
    let rescue = option_copied c.args.recovery in
    let flies : is_flying core.flights s ≡ false = ap (λ flights. is_flying flights s) is.flights ∙ sym c.is_busy.ensures ∙ c.if-is_busy.false in
    sym (is_some-option_map write_of c.rescue_write.result)
    ∙ ap is_some (rescued_at core rescue s is.recovery c.in-Some.demon.now (ap option_copied c.in-Some.is) flies (option_map write_of c.rescue_write.result) c.rescue_write.ensures
    ∙ by_rescue core rescue c.args.flights.now.flying is s flies)
    ∙ some_may core rescue c.args.flights.now.flying is s
