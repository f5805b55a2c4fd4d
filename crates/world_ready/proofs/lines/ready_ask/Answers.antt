-- By what the line asks for next, with room for the want.
use Rattle.std.proofs.Common.{sym, ◌∙◌}
use Rattle.std.proofs.lemmas.Bool.{false≢true}
use Rattle.world_state.specs.States.{core_at}
use Rattle.world_ready.proofs.LineReady.{asks, asks_not}
use Rattle.world_ready.proofs.lines.ready_ask.Goals as goal

pub returns-then-not-may_ask-clause-made : goal.returns-then-not-may_ask-clause-made
returns-then-not-may_ask-clause-made c = asks_not (core_at c.args.world.now) c.args.world.now c.args.a c.args.lock c.args.mode (λ can. false≢true (sym c.if-not-may_ask.true ∙ c.may_ask.ensures.1 can))

pub returns-clause-made : goal.returns-clause-made
returns-clause-made c = asks (core_at c.args.world.now) c.ready_ask.new.self c.args.a c.args.lock c.args.mode (c.may_ask.ensures.0 c.if-not-may_ask.false) c.in_ok-ready_ask.ensures.ok
