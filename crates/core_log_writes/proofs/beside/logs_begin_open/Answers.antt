-- No server is dead.
use Rattle.core_log_writes.proofs.Going.{logs_open_first}
use Rattle.core_log_writes.proofs.beside.logs_begin_open.Goals as goal

pub returns : goal.returns
returns c = logs_open_first
