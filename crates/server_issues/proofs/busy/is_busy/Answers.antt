-- The sector is busy as the core says.
use Rattle.std.proofs.Common.{is_some, sym, ap, ◌∙◌}
use Rattle.petal_disk.specs.Flights.{busy_with}
use Rattle.server_issues.proofs.busy.is_busy.Goals as goal

pub returns : goal.returns
returns c = c.is_some.ensures ∙ ap is_some (c.busy.ensures ∙ ap (λ writes. busy_with writes c.args.sector.0) c.count-count.ensures.puts)
    ∙ sym (c.a_busy_sector_is_the_cores.ensures.asked c.args.flights.now.flying c.args.sector.0)
