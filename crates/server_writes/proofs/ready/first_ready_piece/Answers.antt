-- One after another.
use Rattle.std.proofs.Common.{sym, ap, ◌∙◌, Option}
use Rattle.frang_base.specs.declared.sector.Sector.{Sector}
use Rattle.std.specs.Prelude.{ℕ}
use Rattle.ordered_map.specs.Chunks.{joined}
use Rattle.server_core.specs.States.{cached_in}
use Rattle.server_writes.specs.Wants.{first_of, ready_sector}
use Rattle.server_writes.proofs.Stepping.{piece_found, piece_passed}
use Rattle.server_writes.proofs.ready.first_ready_piece.Goals as goal

pub returns-in-Some : goal.returns-in-Some
returns-in-Some c =
    let f : ℕ × Unit {0} → Option Sector = λ key. ready_sector (cached_in c.args.server.now) c.args.server.now.server.ring.reached key.0 in
    piece_found f c.args.pieces.now c.loop-piece.piece-index c.piece-item.result c.loop-piece-test.true c.piece-item.is (first_of f (joined c.args.pieces.now)) c.loop-piece.invariant c.in-Some.found (sym (c.first_ready_key.ensures ∙ ap (first_of f) c.entries.ensures) ∙ c.in-Some.is)

pub loop-piece-preserved : goal.loop-piece-preserved
loop-piece-preserved c =
    let f : ℕ × Unit {0} → Option Sector = λ key. ready_sector (cached_in c.args.server.now) c.args.server.now.server.ring.reached key.0 in
    piece_passed f c.args.pieces.now c.loop-piece.piece-index c.piece-item.result c.loop-piece-test.true c.piece-item.is (first_of f (joined c.args.pieces.now)) c.loop-piece.invariant (sym (c.first_ready_key.ensures ∙ ap (first_of f) c.entries.ensures) ∙ c.in_default.is)
