use Rattle.std.proofs.Common.{◌≡◌, ◌+◌, ◌*◌}
use Rattle.standing_laws.specs.Below.{all_below}
use Rattle.disk_reading.specs.Marks.{flag_at}
use Rattle.disk_reading.specs.Seen.{store_in}
use Rattle.report_definitions.specs.Rules.{is_first_within, used}
use Rattle.report_rules.specs.Seen.{stored}
use Rattle.report_rules.proofs.inodes.are_small_fine.Given as goal

abbrev pub invariant-loop-j : goal.invariant-loop-j
invariant-loop-j l = l.all ≡ all_below l.j (λ j. is_first_within (1024 * l.segments) (used (stored l.segments (store_in l.segments l.disk)) (flag_at l.tables.reached)) (16 * l.i + j))
