-- No place, one place more, and all places.
use Rattle.std.proofs.Common.{◌≡◌, ◌*◌, subst, rules}
use Rattle.disk_reading.specs.Marks.{flag_at}
use Rattle.disk_reading.specs.Seen.{store_in}
use Rattle.report_definitions.specs.Rules.{used}
use Rattle.report_rules.specs.Seen.{stored}
use Rattle.report_rules.specs.Users.{AreUsers}
use Rattle.report_rules.proofs.FirstUsers.{no_users, users_more}
use Rattle.report_rules.proofs.users.small_users.Goals as goal

pub loop-t-init : goal.loop-t-init
loop-t-init c = no_users (used (stored c.args.segments (store_in c.args.segments c.args.disk.now)) (flag_at c.args.reached.now)) (1024 * c.args.segments) c.in_ok-users.users.first.items c.in_ok-users.users.fine c.in_ok-users.ensures.first c.in_ok-users.ensures.fine

pub loop-t-preserved : goal.loop-t-preserved
loop-t-preserved c =
    users_more (used (stored c.args.segments (store_in c.args.segments c.args.disk.now)) (flag_at c.args.reached.now)) (1024 * c.args.segments) c.loop-t.t c.loop-t.users.first.items c.loop-t.users.fine
    c.loop-t.invariant c.used.result c.used.ensures c.take.new.self.first.items c.in_ok-take.ensures.first c.take.new.self.fine c.in_ok-take.ensures.fine

pub returns : goal.returns
returns c =
    let e : c.loop-t.t ≡ 1024 * c.args.segments = search rules in
    subst (λ n. AreUsers (used (stored c.args.segments (store_in c.args.segments c.args.disk.now)) (flag_at c.args.reached.now)) (1024 * c.args.segments) n c.loop-t.users.first.items c.loop-t.users.fine) e c.loop-t.invariant
