-- The laws of the definition.
use Rattle.disk_definitions.proofs.ParamLaws.{param_back, param_read, param_found, param_once}
use Rattle.param_block.proofs.laws.what_is_written_reads_back.Goals as goal

pub returns : goal.returns
returns c = record { back = param_back; read = param_read; found = param_found; once = param_once }
