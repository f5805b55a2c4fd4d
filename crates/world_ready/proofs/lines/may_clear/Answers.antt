-- By what the line clears next.
use Rattle.std.proofs.Common.{sym, ◌∙◌}
use Rattle.std.proofs.lemmas.Bool.{lt-ltb}
use Rattle.frang_base.specs.declared.limits.TheConstants.{SERVERS}
use Rattle.core_definitions.specs.Cores.{stage}
use Rattle.line_stages.specs.Stages.{cleared_next}
use Rattle.world_state.specs.States.{core_at}
use Rattle.world_ready.proofs.Asked.{of_world}
use Rattle.world_ready.proofs.LineReady.{clears_by, clears_never}
use Rattle.world_ready.proofs.lines.may_clear.Goals as goal

pub returns-in-Some : goal.returns-in-Some
returns-in-Some c =
    let s = c.args.world.now in
    let a = c.args.a.0 in
    clears_by (core_at s) a c.args.block c.in-Some.next c.is_block.result (lt-ltb a SERVERS c.requires.server)
    (sym (of_world c.new.result s a (λ d n. cleared_next (stage d n)) c.new.ensures.world c.new.ensures.number) ∙ sym c.in-Some.ensures) c.is_block.ensures.same c.is_block.ensures.other

pub returns-in-None : goal.returns-in-None
returns-in-None c =
    let s = c.args.world.now in
    let a = c.args.a.0 in
    clears_never (core_at s) a c.args.block (sym (of_world c.new.result s a (λ d n. cleared_next (stage d n)) c.new.ensures.world c.new.ensures.number) ∙ sym c.in-None.ensures)
