-- Of a server, by the answer that is due.
use Rattle.std.proofs.Common.{sym, ◌∙◌}
use Rattle.world_ready.proofs.LineReady.{answers_nobody, answers_not}
use Rattle.world_ready.proofs.lines.ready_answer.Goals as goal

pub returns-then-not-is_server : goal.returns-then-not-is_server
returns-then-not-is_server c = answers_nobody c.args.world.now c.args.a (sym c.is_server.ensures ∙ c.if-not-is_server.true)

pub returns-in-None : goal.returns-in-None
returns-in-None c = answers_not c.args.world.now c.args.a (sym c.in-None.ensures)

pub returns-in_ok-ready_due-in-Some : goal.returns-in_ok-ready_due-in-Some
returns-in_ok-ready_due-in-Some c = c.in_ok-ready_due-in-Some.ensures
