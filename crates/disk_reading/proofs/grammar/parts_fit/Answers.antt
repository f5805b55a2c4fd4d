-- At the end all parts have been tested.
use Rattle.std.proofs.Common.{◌≡◌, ◌∙◌, ap, rules}
use Rattle.sector_bytes.specs.Sectors.{sectors_of}
use Rattle.standing_laws.specs.Below.{all_below}
use Rattle.disk_reading.specs.Fits.{part_fits}
use Rattle.disk_reading.proofs.grammar.parts_fit.Goals as goal

pub returns : goal.returns
returns c =
    let e : c.loop-p.p ≡ 8 = search rules in
    c.loop-p.invariant ∙ ap (λ n. all_below n (part_fits c.args.most (sectors_of c.args.disk.now) c.args.block)) e
