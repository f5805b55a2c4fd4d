-- At rest, a sector that is needed, with room for it.
use Rattle.std.proofs.Common.{sym, ◌∙◌}
use Rattle.world_ready.proofs.EndReady.{reads_it, reads_restless, reads_unneeded}
use Rattle.world_ready.proofs.ends.ready_read.Goals as goal

pub returns-then-not-is_at_rest-clause-made : goal.returns-then-not-is_at_rest-clause-made
returns-then-not-is_at_rest-clause-made c = reads_restless c.args.world.now c.args.tree.now c.args.sector c.requires.disk c.args.tree.now (sym c.is_at_rest.ensures ∙ c.if-not-is_at_rest.true)

pub returns-then-not-needs-clause-made : goal.returns-then-not-needs-clause-made
returns-then-not-needs-clause-made c = reads_unneeded c.args.world.now c.args.tree.now c.args.sector c.requires.disk (sym c.needs.ensures ∙ c.if-not-needs.true)

pub returns-clause-made : goal.returns-clause-made
returns-clause-made c =
    reads_it c.args.world.now c.args.tree.now c.args.sector c.requires.disk c.reserve.new.self
    (record { segments = c.in_ok-reserve.ensures.segments; read = c.in_ok-reserve.ensures.read; shown = c.in_ok-reserve.ensures.shown })
    (sym c.is_at_rest.ensures ∙ c.if-not-is_at_rest.false) (sym c.needs.ensures ∙ c.if-not-needs.false) c.in_ok-reserve.ensures.ok
