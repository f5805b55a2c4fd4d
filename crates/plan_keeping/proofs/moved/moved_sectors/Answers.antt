-- One move more in front of those behind the place.
use Rattle.std.proofs.Common.{◌≡◌, List, arith, drop, ap, subst, ◌∙◌}
use Rattle.edit_moves.specs.declared.moves.Move.{Move}
use Rattle.plan_keeping.specs.Moved.{Covers, says}
use Rattle.plan_keeping.proofs.Listed.{covers_same, next_move, says_more}
use Rattle.plan_keeping.proofs.moved.moved_sectors.Goals as goal

pub loop-left-preserved : goal.loop-left-preserved
loop-left-preserved c =
    let moves = c.args.moves.now in
    let behind : List Move = drop c.loop-left.left moves in (
      omega (arith, c.loop-left.invariant.0),
      covers_same c.add_thing.new.list.items _ _ (c.in_ok-add_thing.ensures (says c.args.segments behind) c.loop-left.invariant.1)
          (λ s. says_more c.args.segments _ behind s ∙ ap (λ (ms : List Move). says c.args.segments ms s) (next_move moves c.loop-left.left _ c.loop-left-test.true c.loop-left.invariant.0)),
    )

pub returns : goal.returns
returns c =
    let none : c.loop-left.left ≡ 0 = omega (arith, c.loop-left-test.false) in
    subst (λ n. Covers c.loop-left.list.items (says c.args.segments (drop n c.args.moves.now))) none c.loop-left.invariant.1
