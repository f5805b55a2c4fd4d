-- Each turn makes one more anew, and after the last all are.
use Rattle.std.proofs.Common.{◌≡◌, ◌+◌, ◌-◌, arith, subst}
use Rattle.known_locks.specs.Beside.{again, IsWalked}
use Rattle.known_locks.proofs.Walking.{walked_none, walked_all}
use Rattle.known_locks.proofs.clerk.Clerk.renew.Goals as goal

pub loop-init : goal.loop-init
loop-init c = record {
  walked = walked_none (again c.args.table.now.locks c.args.server.0) c.args.self.now.claims (c.count-count.result - 0)
      c.count-count.ensures.ordered (omega (arith, c.count-count.ensures.count));
  small = omega arith;
  room = omega arith;
}

pub renew_at-i-requires-clause-inside : goal.renew_at-i-requires-clause-inside
renew_at-i-requires-clause-inside c = omega (arith, c.loop.invariant.walked.long, c.loop-test.true)

pub renew_at-i-requires-clause-small : goal.renew_at-i-requires-clause-small
renew_at-i-requires-clause-small c = omega (arith, c.loop.invariant.small, c.loop-test.true, c.count-count.ensures.count, c.count-count.ensures.small)

pub loop-preserved : goal.loop-preserved
loop-preserved c =
    let one : c.count-count.result - c.loop.counter ≡ c.count-count.result - (c.loop.counter + 1) + 1 = omega (arith, c.loop-test.true) in record {
      walked = c.renew_at-i.ensures.walked c.args.self.now.claims (c.count-count.result - (c.loop.counter + 1))
          (subst (λ left. IsWalked (again c.args.table.now.locks c.args.server.0) c.args.self.now.claims c.loop.self.claims c.loop.i left) one c.loop.invariant.walked);
      small = omega (arith, c.renew_at-i.ensures.next, c.loop.invariant.small);
      room = omega (arith, c.renew_at-i.ensures.room, c.loop.invariant.room);
    }

pub returns-clause-claims : goal.returns-clause-claims
returns-clause-claims c =
    walked_all (again c.args.table.now.locks c.args.server.0) c.args.self.now.claims c.loop.self.claims c.loop.i (c.count-count.result - c.loop.counter) (omega (arith, c.loop-test.false)) c.loop.invariant.walked
