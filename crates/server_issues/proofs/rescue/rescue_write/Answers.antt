-- The block that is handed out is the one wanted there.
use Rattle.std.proofs.Common.{Some, None, sym, ap, ◌∙◌}
use Rattle.std.specs.Option.{option_copied}
use Rattle.core_definitions.specs.Flights.{OfRecovery}
use Rattle.server_issues.proofs.Rescues.{by_bytes}
use Rattle.server_issues.proofs.rescue.rescue_write.Goals as goal

pub returns-in_default : goal.returns-in_default
returns-in_default c = λ off.
    let d = c.args.demon.now in
    by_bytes d.segments d.recovery d.issued c.args.sector.0 c.has_looked-looked.ensures.ordered None (ap option_copied (sym c.in_default.is) ∙ c.bytes.ensures) off

pub returns : goal.returns
returns c = λ off.
    let d = c.args.demon.now in
    let block = c.in-Some.bytes.now in
    ap (λ (dead : _). Some (record { behalf = dead; block = block; purpose = OfRecovery; mark = None })) c.dead.ensures
    ∙ by_bytes d.segments d.recovery d.issued c.args.sector.0 c.has_looked-looked.ensures.ordered (Some block) (ap option_copied (sym c.in-Some.is) ∙ c.bytes.ensures) off
