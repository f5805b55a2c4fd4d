use Rattle.std.proofs.Common.{◌≡◌, ◌&&◌, drop}
use Rattle.std.specs.List.{list_all}
use Rattle.sector_bytes.specs.Changes.{is_change}
use Rattle.disk_definitions.specs.Records.{sectors_ascend}
use Rattle.log_record.proofs.reading.are_changes.Given as goal

abbrev pub invariant-loop-change : goal.invariant-loop-change
invariant-loop-change l =
    (list_all is_change (drop l.change-index l.changes) && sectors_ascend l.from (drop l.change-index l.changes)) ≡ (list_all is_change l.changes && sectors_ascend 0 l.changes)
