-- By what the line asks for next.
use Rattle.std.proofs.Common.{sym, ◌∙◌}
use Rattle.std.proofs.lemmas.Bool.{lt-ltb}
use Rattle.frang_base.specs.declared.limits.TheConstants.{SERVERS}
use Rattle.core_definitions.specs.Cores.{stage}
use Rattle.line_stages.specs.Stages.{asked_next}
use Rattle.world_state.specs.States.{core_at}
use Rattle.world_ready.proofs.Asked.{of_world}
use Rattle.world_ready.proofs.LineReady.{asks_never, asks_so}
use Rattle.world_ready.proofs.lines.may_ask.Goals as goal

pub returns-in-Some : goal.returns-in-Some
returns-in-Some c =
    let s = c.args.world.now in
    let a = c.args.a.0 in
    asks_so (core_at s) a c.args.lock c.args.mode c.in-Some.need c.is_need.result (lt-ltb a SERVERS c.requires.server)
    (sym (of_world c.new.result s a (λ d n. asked_next d.locks n (stage d n)) c.new.ensures.world c.new.ensures.number) ∙ sym c.in-Some.ensures) c.is_need.ensures.same c.is_need.ensures.other

pub returns-in-None : goal.returns-in-None
returns-in-None c =
    let s = c.args.world.now in
    let a = c.args.a.0 in
    asks_never (core_at s) a c.args.lock c.args.mode
    (sym (of_world c.new.result s a (λ d n. asked_next d.locks n (stage d n)) c.new.ensures.world c.new.ensures.number) ∙ sym c.in-None.ensures)
