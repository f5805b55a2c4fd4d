-- A write of a dead server, with room for what becomes of it.
use Rattle.std.proofs.Common.{sym, ◌∙◌}
use Rattle.world_state.specs.States.{core_at}
use Rattle.world_ready.proofs.WriteReady.{loses, loses_not}
use Rattle.world_ready.proofs.writes.ready_lose.Goals as goal

pub returns-then-not-may_lose-clause-made : goal.returns-then-not-may_lose-clause-made
returns-then-not-may_lose-clause-made c = loses_not (core_at c.args.world.now) c.args.world.now c.args.ticket (sym c.may_lose.ensures ∙ c.if-not-may_lose.true)

pub returns-clause-made : goal.returns-clause-made
returns-clause-made c = loses (core_at c.args.world.now) c.ready_lose.new.self c.args.ticket (sym c.may_lose.ensures ∙ c.if-not-may_lose.false) c.in_ok-ready_lose.ensures.ok
