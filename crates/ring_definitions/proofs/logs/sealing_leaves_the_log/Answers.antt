-- By the laws of sealing.
use Rattle.std.proofs.Common.{◌+◌, le-leb, map, nat_le}
use Rattle.std.proofs.lemmas.Bool.{and_from}
use Rattle.disk_definitions.specs.LogSectors.{empty_sector}
use Rattle.disk_definitions.specs.Arriving.{with_sector, with_sectors}
use Rattle.disk_definitions.specs.Logs.{log_end}
use Rattle.ring_definitions.proofs.SealingLaws.{sealing_kept, end_kept, records_kept, within_kept, closed, sealed_log}
use Rattle.ring_definitions.proofs.logs.sealing_leaves_the_log.Goals as goal

pub returns-clause-keeps : goal.returns-clause-keeps
returns-clause-keeps c = λ slots numbers low high within all.
    let w = with_sectors slots (map empty_sector numbers) in
    let kept = sealing_kept slots numbers high within all in
    (end_kept slots w low kept, records_kept slots w low kept, within_kept slots w low kept)

pub returns-clause-sealed : goal.returns-clause-sealed
returns-clause-sealed c = λ slots numbers low high within all each.
    let w = with_sectors slots (map empty_sector numbers) in
    let kept = sealing_kept slots numbers high within all in
    sealed_log slots (with_sector w (empty_sector (log_end slots + 1))) low
    (closed slots (log_end slots) w high kept (λ n from to. each n (and_from (nat_le (log_end slots + 2) n) (nat_le n (log_end slots + 64)) (le-leb (log_end slots + 2) n from) (le-leb n (log_end slots + 64) to))))
