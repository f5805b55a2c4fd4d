-- One record's sectors are added at each turn.
use Rattle.std.proofs.Common.{[], map, arith, subst}
use Rattle.frang_base.specs.declared.change.Change.{Change}
use Rattle.recovery_demon.specs.Naming.{AreAdded}
use Rattle.recovery_demon.proofs.NamedSectors.{all_named, records_more}
use Rattle.recovery_demon.proofs.naming.named.Goals as goal

pub loop-record-preserved : goal.loop-record-preserved
loop-record-preserved c =
    records_more c.args.segments c.args.records.now c.loop-record.record-index c.record-item.result [] c.loop-record.sectors.entries c.add_named.new.sectors.entries (omega arith) c.record-item.is
    c.loop-record.invariant
    (subst (λ changes. AreAdded c.args.segments (map (λ (change : Change). change.sector.0) changes) c.loop-record.sectors.entries c.add_named.new.sectors.entries) c.as_slice.ensures c.in_ok-add_named.ensures)

pub returns-clause-named : goal.returns-clause-named
returns-clause-named c = all_named c.args.segments c.args.records.now c.loop-record.record-index c.loop-record.sectors.entries (omega arith) c.loop-record.invariant
