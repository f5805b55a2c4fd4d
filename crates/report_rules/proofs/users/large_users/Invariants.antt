use Rattle.disk_reading.specs.Marks.{flag_at}
use Rattle.disk_reading.specs.Seen.{store_in}
use Rattle.report_definitions.specs.Rules.{used_large}
use Rattle.report_rules.specs.Seen.{stored}
use Rattle.report_rules.specs.Users.{AreUsers}
use Rattle.report_rules.proofs.users.large_users.Given as goal

abbrev pub invariant-loop-i : goal.invariant-loop-i
invariant-loop-i l = AreUsers (used_large (stored l.segments (store_in l.segments l.disk)) (flag_at l.reached)) l.segments l.i l.users.first.items l.users.fine
