-- By the records of the log.
use Rattle.std.proofs.Common.{◌≡◌, sym, ap, ◌∙◌, subst}
use Rattle.std.specs.List.{All}
use Rattle.sector_bytes.specs.Sectors.{sectors_of}
use Rattle.disk_replay.specs.Laid.{changes_in, greatest_at, greatest_kept, laid_by, records_at, HoldsChanges}
use Rattle.disk_replay.proofs.replay.lay_log.Goals as goal

pub lay_records-requires-clause-changes : goal.lay_records-requires-clause-changes
lay_records-requires-clause-changes c = subst (All HoldsChanges) (sym c.deref.ensures.value) c.in_ok-records.ensures.changes

pub returns-clause-laid : goal.returns-clause-laid
unfolding records_at
returns-clause-laid c = λ sector.
    c.in_ok-lay_records.ensures sector ∙ ap (λ records. laid_by c.args.param.now (sectors_of c.args.disk.now) (changes_in records) sector) (c.deref.ensures.value ∙ c.in_ok-records.ensures.records)

pub returns-clause-greatest : goal.returns-clause-greatest
unfolding greatest_at records_at
returns-clause-greatest c = c.greatest_kept.ensures ∙ ap greatest_kept (c.deref-2.ensures.value ∙ c.in_ok-records.ensures.records)
