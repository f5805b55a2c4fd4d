-- The sector is the definition's, which may wait.
use Rattle.std.proofs.Common.{◌≡◌, IsTrue, rules, arith, length, sym, subst}
use Rattle.std.proofs.lemmas.Grind.{common_steps}
use Rattle.wal_ring.specs.Kept.{is_waiting}
use Rattle.wal_ring.proofs.WaitingSectors.{filled_waits}
use Rattle.wal_ring.proofs.packing.filled.Goals as goal

pub returns-clause-sector : goal.returns-clause-sector
returns-clause-sector c = first_of (search rules, grind (arith, common_steps))

pub returns-clause-fits : goal.returns-clause-fits
returns-clause-fits c =
    let size : length c.args.sector.body ≡ 488 = omega arith in
    subst (λ x. IsTrue (is_waiting x)) (sym (returns-clause-sector c)) (filled_waits c.args.sector c.args.bytes.now size c.requires.fits c.requires.some c.requires.room)
