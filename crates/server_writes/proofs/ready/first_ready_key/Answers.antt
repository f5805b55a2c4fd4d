-- One after another.
use Rattle.std.proofs.Common.{sym, ◌∙◌, Option}
use Rattle.frang_base.specs.declared.sector.Sector.{Sector}
use Rattle.std.specs.Prelude.{ℕ}
use Rattle.server_core.specs.States.{cached_in}
use Rattle.server_writes.specs.Wants.{first_of, ready_sector}
use Rattle.server_writes.proofs.Stepping.{item_found, item_passed}
use Rattle.server_writes.proofs.ready.first_ready_key.Goals as goal

pub returns-in-Some : goal.returns-in-Some
returns-in-Some c =
    let f : ℕ × Unit {0} → Option Sector = λ key. ready_sector (cached_in c.args.server.now) c.args.server.now.server.ring.reached key.0 in
    item_found f c.args.piece.now c.loop-key.key-index _ c.loop-key-test.true (first_of f c.args.piece.now) c.loop-key.invariant c.in-Some.found (sym c.ready_sector.ensures ∙ c.in-Some.is)

pub loop-key-preserved : goal.loop-key-preserved
loop-key-preserved c =
    let f : ℕ × Unit {0} → Option Sector = λ key. ready_sector (cached_in c.args.server.now) c.args.server.now.server.ring.reached key.0 in
    item_passed f c.args.piece.now c.loop-key.key-index _ c.loop-key-test.true (first_of f c.args.piece.now) c.loop-key.invariant (sym c.ready_sector.ensures ∙ c.in_default.is)
