-- Each turn makes one more anew, and after the last all are.
use Rattle.std.proofs.Common.{◌≡◌, ◌+◌, ◌-◌, arith, subst}
use Rattle.lock_table.specs.Kept.{IsWalked}
use Rattle.lock_table.proofs.Walking.{walked_none, walked_all}
use Rattle.lock_table.proofs.asked.AskedList.renew.Goals as goal

pub loop-init : goal.loop-init
loop-init c = record {
  walked = walked_none c.args.server.0 c.args.claims.now c.args.self.now.asked (c.count-count.result - 0)
      c.count-count.ensures.ordered (omega (arith, c.count-count.ensures.count));
  small = omega arith;
  room = omega arith;
}

pub renew_at-i-requires-clause-inside : goal.renew_at-i-requires-clause-inside
renew_at-i-requires-clause-inside c = omega (arith, c.loop.invariant.walked.long, c.loop-test.true)

pub renew_at-i-requires-clause-small : goal.renew_at-i-requires-clause-small
renew_at-i-requires-clause-small c = omega (arith, c.loop.invariant.small, c.loop-test.true, c.count-count.ensures.count, c.count-count.ensures.small)

pub loop-preserved : goal.loop-preserved
loop-preserved c =
    let one : c.count-count.result - c.loop.counter ≡ c.count-count.result - (c.loop.counter + 1) + 1 = omega (arith, c.loop-test.true) in record {
      walked = c.renew_at-i.ensures.walked c.args.self.now.asked (c.count-count.result - (c.loop.counter + 1))
          (subst (λ left. IsWalked c.args.server.0 c.args.claims.now c.args.self.now.asked c.loop.self.asked c.loop.i left) one c.loop.invariant.walked);
      small = omega (arith, c.renew_at-i.ensures.next, c.loop.invariant.small);
      room = omega (arith, c.renew_at-i.ensures.room, c.loop.invariant.room);
    }

pub returns-clause-asked : goal.returns-clause-asked
returns-clause-asked c =
    walked_all c.args.server.0 c.args.claims.now c.args.self.now.asked c.loop.self.asked c.loop.i (c.count-count.result - c.loop.counter) (omega (arith, c.loop-test.false)) c.loop.invariant.walked
