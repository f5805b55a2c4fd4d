-- Each sector moves in turn.
use Rattle.std.proofs.Common.{◌+◌, drop, sym, ap, ◌∙◌}
use Rattle.std.proofs.lemmas.List.{drop_more}
use Rattle.frang_base.specs.declared.lock.LockId.TheVariants.{Log}
use Rattle.cache_laws.specs.Steps.{with_covers}
use Rattle.server_core.specs.Outcomes.{moves_of}
use Rattle.server_core.proofs.committing.move_covers.Goals as goal

pub loop-entry-preserved : goal.loop-entry-preserved
loop-entry-preserved c =
    let i = c.loop-entry.entry-index in
    let moves = c.args.moves.now in
    let one = drop_more moves i (record { 0 = 0 }, Log 0) c.loop-entry-test.true in
    record {
      left = ap (λ cache. with_covers cache (moves_of (drop (i + 1) moves))) c.move_cover.ensures.entries
          ∙ sym (ap (λ rest. with_covers c.loop-entry.cache.entries (moves_of rest)) one) ∙ c.loop-entry.invariant.left;
      staying = c.move_cover.ensures.staying ∙ c.loop-entry.invariant.staying;
      flying = c.move_cover.ensures.flying ∙ c.loop-entry.invariant.flying;
      spare = c.move_cover.ensures.spare ∙ c.loop-entry.invariant.spare;
    }
