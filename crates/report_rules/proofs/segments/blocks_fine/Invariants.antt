use Rattle.std.proofs.Common.{◌≡◌, ◌+◌, ◌*◌}
use Rattle.standing_laws.specs.Below.{all_below}
use Rattle.disk_reading.specs.Marks.{flag_at}
use Rattle.report_definitions.specs.Rules.{is_block_fine}
use Rattle.report_rules.specs.Seen.{view_in}
use Rattle.report_rules.proofs.segments.blocks_fine.Given as goal

abbrev pub invariant-loop-j : goal.invariant-loop-j
invariant-loop-j l = l.all ≡ all_below l.j (λ j. is_block_fine (view_in l.most l.segments l.disk) (flag_at l.tables.reached) (1024 * l.k + j))
