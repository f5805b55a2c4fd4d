-- No place, one place more, and all places.
use Rattle.std.proofs.Common.{◌≡◌, ◌*◌, subst, rules}
use Rattle.disk_reading.specs.Marks.{flag_at}
use Rattle.disk_reading.specs.Seen.{store_in}
use Rattle.report_definitions.specs.Rules.{used_large}
use Rattle.report_rules.specs.Seen.{stored}
use Rattle.report_rules.specs.Users.{AreUsers}
use Rattle.report_rules.proofs.FirstUsers.{no_users, users_more}
use Rattle.report_rules.proofs.users.large_users.Goals as goal

pub loop-i-init : goal.loop-i-init
loop-i-init c = no_users (used_large (stored c.args.segments (store_in c.args.segments c.args.disk.now)) (flag_at c.args.reached.now)) c.args.segments c.in_ok-users.users.first.items c.in_ok-users.users.fine c.in_ok-users.ensures.first c.in_ok-users.ensures.fine

pub loop-i-preserved : goal.loop-i-preserved
loop-i-preserved c =
    users_more (used_large (stored c.args.segments (store_in c.args.segments c.args.disk.now)) (flag_at c.args.reached.now)) c.args.segments c.loop-i.i c.loop-i.users.first.items c.loop-i.users.fine
    c.loop-i.invariant c.used_large.result c.used_large.ensures c.take.new.self.first.items c.in_ok-take.ensures.first c.take.new.self.fine c.in_ok-take.ensures.fine

pub returns : goal.returns
returns c =
    let e : c.loop-i.i ≡ 64 * c.args.segments = search rules in
    subst (λ n. AreUsers (used_large (stored c.args.segments (store_in c.args.segments c.args.disk.now)) (flag_at c.args.reached.now)) c.args.segments n c.loop-i.users.first.items c.loop-i.users.fine) e c.loop-i.invariant
