-- By the guard, the line as it will be under way.
use Rattle.std.proofs.Common.{sym, ◌∙◌}
use Rattle.std.proofs.lemmas.Bool.{ltb-true}
use Rattle.frang_base.specs.declared.limits.TheConstants.{SERVERS}
use Rattle.core_laws.proofs.Guarding.{begin_can}
use Rattle.world_state.specs.States.{core_at}
use Rattle.world_ready.proofs.LineReady.{begins, begins_not}
use Rattle.world_ready.proofs.lines.ready_begin.Goals as goal

pub returns-then-not-may_begin : goal.returns-then-not-may_begin
returns-then-not-may_begin c = begins_not c.args.world.now c.args.a (sym c.may_begin.ensures ∙ c.if-not-may_begin.true)

pub ready_begin-requires : goal.ready_begin-requires
ready_begin-requires c = record {
  server = ltb-true c.args.a.0 SERVERS (begin_can (core_at c.args.world.now) c.args.a.0 (sym c.may_begin.ensures ∙ c.if-not-may_begin.false)).server;
  line = c.asks_operation.ensures c.if-not-asks_operation.false;
}

pub returns : goal.returns
returns c = begins c.args.world.now c.args.a c.in_ok-under.under (sym c.may_begin.ensures ∙ c.if-not-may_begin.false) c.in_ok-under.ensures
