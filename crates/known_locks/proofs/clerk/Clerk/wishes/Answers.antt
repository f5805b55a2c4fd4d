-- One piece after the other.
use Rattle.std.proofs.Common.{◌++◌, ap, ◌∙◌}
use Rattle.known_locks.specs.Listed.{wishes_in}
use Rattle.known_locks.proofs.Listing.{one_listed, wishes_pieces, wishes_piece_first}
use Rattle.known_locks.proofs.clerk.Clerk.wishes.Goals as goal

pub loop-piece-preserved : goal.loop-piece-preserved
loop-piece-preserved c =
    let pieces = c.chunks-piece-items.result.now in
    one_listed wishes_pieces wishes_in wishes_piece_first pieces c.loop-piece.piece-index c.piece-item.result c.loop-piece.list c.add_wishes_piece.new.list (wishes_pieces pieces) c.loop-piece-test.true c.piece-item.is
    (c.in_ok-add_wishes_piece.ensures ∙ ap (λ piece. c.loop-piece.list ++ wishes_in piece) c.entries.ensures) c.loop-piece.invariant
