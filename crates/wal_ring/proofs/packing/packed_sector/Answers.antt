-- The sector is the definition's, which may wait.
use Rattle.std.proofs.Common.{IsTrue, rules, sym, subst}
use Rattle.wal_ring.specs.Kept.{is_waiting}
use Rattle.wal_ring.proofs.WaitingSectors.{packed_waits}
use Rattle.wal_ring.proofs.packing.packed_sector.Goals as goal

pub returns-clause-sector : goal.returns-clause-sector
returns-clause-sector c = search rules

pub returns-clause-fits : goal.returns-clause-fits
returns-clause-fits c =
    subst (λ x. IsTrue (is_waiting x)) (sym (returns-clause-sector c)) (packed_waits c.args.number c.args.part c.args.bytes.now c.requires.first c.requires.numbers c.requires.some c.requires.few c.requires.part)
