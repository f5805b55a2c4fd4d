-- What the box of the sector holds is changed where it lies.
use Rattle.std.proofs.Common.{if◌then◌else◌, ap}
use Rattle.std.specs.Box.{box_value, with_value}
use Rattle.sector_bytes.specs.Changes.{is_change, changed}
use Rattle.meta_version.proofs.Opening.{adjusted_over}
use Rattle.meta_version.proofs.sectors.lay_over.Goals as goal

pub returns-clause-entries : goal.returns-clause-entries
returns-clause-entries c =
    let change = c.args.change.now in
    adjusted_over box_value (λ block. changed block change) c.args.blocks.now.entries c.change.new.self.entries change.sector.0
    (λ kept. if is_change change then with_value kept (changed (box_value kept) change) else kept)
    (λ kept. ap (λ t. box_value (if t then with_value kept (changed (box_value kept) change) else kept)) c.requires.well_formed)
    c.requires.ordered c.requires.there c.change.ensures.entries
