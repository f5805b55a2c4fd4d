-- One after another.
use Rattle.std.proofs.Common.{sym, ◌∙◌, Option}
use Rattle.frang_base.specs.declared.sector.Sector.{Sector}
use Rattle.server_core.specs.States.{cached_in}
use Rattle.server_writes.specs.Wants.{first_of, ready_sector}
use Rattle.server_writes.proofs.Stepping.{item_found, item_passed}
use Rattle.server_writes.proofs.ready.first_ready.Goals as goal

pub returns-in-Some : goal.returns-in-Some
returns-in-Some c =
    let f : Sector → Option Sector = λ sector. ready_sector (cached_in c.args.server.now) c.args.server.now.server.ring.reached sector.0 in
    item_found f c.args.sectors.now c.loop-sector.sector-index _ c.loop-sector-test.true (first_of f c.args.sectors.now) c.loop-sector.invariant c.in-Some.found (sym c.ready_sector.ensures ∙ c.in-Some.is)

pub loop-sector-preserved : goal.loop-sector-preserved
loop-sector-preserved c =
    let f : Sector → Option Sector = λ sector. ready_sector (cached_in c.args.server.now) c.args.server.now.server.ring.reached sector.0 in
    item_passed f c.args.sectors.now c.loop-sector.sector-index _ c.loop-sector-test.true (first_of f c.args.sectors.now) c.loop-sector.invariant (sym c.ready_sector.ensures ∙ c.in_default.is)
