-- By the laws of ends.
use Rattle.disk_definitions.proofs.EndLaws.{end_is_below, log_end_is_one}
use Rattle.sector_bytes.specs.Bytes.{zeros}
use Rattle.std.proofs.Common.{refl}
use Rattle.disk_definitions.proofs.SameLogs.{zero_log_end, zero_log_records}
use Rattle.ring_definitions.proofs.logs.a_log_has_one_end.Goals as goal

pub returns-clause-greatest : goal.returns-clause-greatest
returns-clause-greatest c = λ slots. (end_is_below slots, log_end_is_one slots)

pub returns-clause-zeros : goal.returns-clause-zeros
returns-clause-zeros c = (zero_log_end (λ slot. zeros 512) (λ slot h. refl), zero_log_records (λ slot. zeros 512) (λ slot h. refl))
