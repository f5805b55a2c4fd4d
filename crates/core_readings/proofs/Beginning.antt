-- Behind an opening each log is at rest, and no server is mounted.
use Rattle.std.proofs.Common.{sym}
use Rattle.std.proofs.lemmas.Bool.{false≢true}
use Rattle.core_journals.specs.Logs.{LogsBegin, LogsRestBehindTheOpening}
use Rattle.core_readings.specs.Logs.{LogsBeginBeside, log_journal}

pub logs_begin_beside : LogsBegin → LogsRestBehindTheOpening → LogsBeginBeside
logs_begin_beside begin opening start is journal = record {
  stand = λ a server. begin start.script start.opening.tree.segments start.opening.run start.disk a (log_journal (journal a)) (opening start is a server);
  small = λ a server on. absurd (false≢true (sym on));
}
