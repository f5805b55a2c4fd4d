use Rattle.std.proofs.Common.{◌≡◌, ◌+◌, ◌*◌}
use Rattle.standing_laws.specs.Below.{all_below}
use Rattle.disk_reading.specs.Seen.{store_in}
use Rattle.report_definitions.specs.Rules.{names_well}
use Rattle.report_rules.proofs.parts.all_name_well.Given as goal

abbrev pub invariant-loop-t : goal.invariant-loop-t
invariant-loop-t l = l.all ≡ all_below l.t (λ t. names_well (store_in l.segments l.disk) ((store_in l.segments l.disk).place l.block (7 * l.part + t)))
