-- By what the line clears next, with room for the block.
use Rattle.std.proofs.Common.{sym, ◌∙◌}
use Rattle.std.proofs.lemmas.Bool.{false≢true}
use Rattle.world_state.specs.States.{core_at}
use Rattle.world_ready.proofs.LineReady.{clears, clears_not}
use Rattle.world_ready.proofs.lines.ready_clear.Goals as goal

pub returns-then-not-may_clear-clause-made : goal.returns-then-not-may_clear-clause-made
returns-then-not-may_clear-clause-made c =
    clears_not (core_at c.args.world.now) c.args.world.now c.args.a c.args.block (λ can. false≢true (sym c.if-not-may_clear.true ∙ c.may_clear.ensures.1 can))

pub returns-clause-made : goal.returns-clause-made
returns-clause-made c = clears (core_at c.args.world.now) c.ready_clear.new.self c.args.a c.args.block (c.may_clear.ensures.0 c.if-not-may_clear.false) c.in_ok-ready_clear.ensures.ok
