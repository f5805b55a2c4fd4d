use Rattle.std.proofs.Common.{◌*◌}
use Rattle.disk_reading.specs.Marks.{flag_at}
use Rattle.disk_reading.specs.Seen.{store_in}
use Rattle.report_definitions.specs.Rules.{used}
use Rattle.report_rules.specs.Seen.{stored}
use Rattle.report_rules.specs.Users.{AreUsers}
use Rattle.report_rules.proofs.users.small_users.Given as goal

abbrev pub invariant-loop-t : goal.invariant-loop-t
invariant-loop-t l = AreUsers (used (stored l.segments (store_in l.segments l.disk)) (flag_at l.reached)) (1024 * l.segments) l.t l.users.first.items l.users.fine
