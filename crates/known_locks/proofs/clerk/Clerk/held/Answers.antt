-- One piece after the other.
use Rattle.std.proofs.Common.{◌++◌, ap, ◌∙◌}
use Rattle.known_locks.specs.Listed.{held_in}
use Rattle.known_locks.proofs.Listing.{one_listed, held_pieces, held_piece_first}
use Rattle.known_locks.proofs.clerk.Clerk.held.Goals as goal

pub loop-piece-preserved : goal.loop-piece-preserved
loop-piece-preserved c =
    let pieces = c.chunks-piece-items.result.now in
    one_listed held_pieces held_in held_piece_first pieces c.loop-piece.piece-index c.piece-item.result c.loop-piece.list c.add_held_piece.new.list (held_pieces pieces) c.loop-piece-test.true c.piece-item.is
    (c.in_ok-add_held_piece.ensures ∙ ap (λ piece. c.loop-piece.list ++ held_in piece) c.entries.ensures) c.loop-piece.invariant
