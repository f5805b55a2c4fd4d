-- A piece's marks come before those of the pieces that are left.
use Rattle.std.proofs.Common.{◌++◌, ap, ◌∙◌}
use Rattle.clerk_cache.specs.Kept.{state_marks}
use Rattle.clerk_cache.proofs.Pieces.{next_piece}
use Rattle.clerk_cache.proofs.cache.marks_of.Goals as goal

pub loop-piece-preserved : goal.loop-piece-preserved
loop-piece-preserved c =
    next_piece c.args.pieces.now c.loop-piece.piece-index c.piece-item.result c.loop-piece-test.true c.piece-item.is c.loop-piece.marks.items c.add_marks.new.marks.items
    (c.in_ok-add_marks.ensures ∙ ap (λ states. c.loop-piece.marks.items ++ state_marks states) c.entries.ensures)
    ∙ c.loop-piece.invariant
