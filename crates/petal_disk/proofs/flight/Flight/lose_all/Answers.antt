-- After as many turns as there were writes none is left to be looked at.
use Rattle.std.proofs.Common.{◌≡◌, ◌≤◌, length, sym, ap, ◌∙◌, arith}
use Rattle.petal_disk.specs.Flying.{lost, puts}
use Rattle.petal_disk.proofs.Losing.{all_passed}
use Rattle.petal_disk.proofs.flight.Flight.lose_all.Goals as goal

pub lose_at-i-requires : goal.lose_at-i-requires
lose_at-i-requires c = omega (arith, c.loop-turn.invariant.left, c.loop-turn-test.true, c.count-turn-end.ensures.all)

left : (c : goal.After-count) → c.loop-turn.self.flying ≡ lost c.args.server.0 c.args.self.now.flying
left c =
    let passed : length c.loop-turn.self.flying ≤ c.loop-turn.i = omega (arith, c.loop-turn.invariant.left, c.loop-turn-test.false, c.count-turn-end.ensures.all) in
    sym (all_passed c.args.server.0 c.loop-turn.self.flying c.loop-turn.i passed) ∙ c.loop-turn.invariant.flying

pub returns-clause-flying : goal.returns-clause-flying
returns-clause-flying c = left c

pub returns-clause-writes : goal.returns-clause-writes
returns-clause-writes c = c.count.ensures.puts ∙ ap puts (left c)
