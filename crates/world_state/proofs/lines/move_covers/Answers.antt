-- One move more.
use Rattle.std.proofs.Common.{◌+◌, drop, sym, ap, ◌∙◌}
use Rattle.frang_base.specs.declared.lock.LockId.TheVariants.{Log}
use Rattle.petal_disk.specs.Flying.{InFlight}
use Rattle.flight_laws.specs.Flights.{moved_all}
use Rattle.server_core.specs.Outcomes.{moves_of}
use Rattle.world_state.proofs.Committing.{moved_more}
use Rattle.world_state.proofs.lines.move_covers.Goals as goal

pub loop-one-preserved : goal.loop-one-preserved
loop-one-preserved c =
    let moves = c.args.moves.now in
    let i = c.loop-one.one-index in
    record {
      flying =
          ap (λ (flights : InFlight). moved_all c.args.a.0 (moves_of (drop (i + 1) moves)) flights) c.move_cover.ensures.flying
          ∙ sym (moved_more c.args.a.0 moves i (record { 0 = 0 }, Log 0) c.loop-one.flights.flying c.loop-one-test.true) ∙ c.loop-one.invariant.flying;
      next = c.move_cover.ensures.next ∙ c.loop-one.invariant.next;
    }
