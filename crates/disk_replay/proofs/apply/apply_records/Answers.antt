-- The changes of the first record that is left are laid in each turn.
use Rattle.std.proofs.Common.{◌≡◌, ◌+◌, ◌∷◌, ◌++◌, drop, sym, ap, ◌∙◌, arith}
use Rattle.std.proofs.lemmas.List.{at_drop_more, drop_all}
use Rattle.sector_bytes.specs.Sectors.{sectors_of}
use Rattle.disk_replay.specs.Laid.{changes_in, with_changes}
use Rattle.disk_replay.proofs.LaidChanges.{all_laid, laid_first}
use Rattle.disk_replay.proofs.apply.apply_records.Goals as goal

pub loop-record-preserved : goal.loop-record-preserved
loop-record-preserved c =
    let records = c.args.records.now in
    let at = c.loop-record.record-index in
    let first = c.record-item.result in
    let rest = drop (at + 1) records in
    let laid = c.as_slice.result.now in
    let split : changes_in (drop at records) ≡ laid ++ changes_in rest =
    ap changes_in (at_drop_more (λ rs. rs) records at first c.loop-record-test.true ∙ ap (λ x. x ∷ rest) (sym c.record-item.is)) ∙ ap (λ cs. cs ++ changes_in rest) (sym c.as_slice.ensures) in
    laid_first c.args.segments (sectors_of c.loop-record.disk) (sectors_of c.apply_changes.new.disk) (with_changes c.args.segments (sectors_of c.args.disk.now) (changes_in records)) laid (changes_in rest)
    (changes_in (drop at records)) split c.in_ok-apply_changes.ensures c.loop-record.invariant

pub returns : goal.returns
returns c =
    let records = c.args.records.now in
    let left = drop c.loop-record.record-index records in
    all_laid c.args.segments (sectors_of c.loop-record.disk) (with_changes c.args.segments (sectors_of c.args.disk.now) (changes_in records)) (changes_in left)
    (ap changes_in (drop_all c.loop-record.record-index records (omega arith))) c.loop-record.invariant
