-- There is no number.
use Rattle.std.proofs.Common.{if◌then◌else◌, ap}
use Rattle.standing_laws.specs.Below.{holds}
use Rattle.report_rules.proofs.Counted.{counted_nothing}
use Rattle.report_rules.proofs.names.Counts.add.Goals as goal

pub returns-in-None : goal.returns-in-None
returns-in-None c = counted_nothing (λ i. if holds c.args.number i then 1 else 0) c.args.self.now (λ i. ap (λ o. if holds o i then 1 else 0) c.in-None.is)
