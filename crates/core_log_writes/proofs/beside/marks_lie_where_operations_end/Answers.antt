-- Nothing is cached at first; and a mark is one where it isn't moved.
use Rattle.core_log_writes.proofs.Marking.{ends_are_marks, ends_begin}
use Rattle.core_log_writes.proofs.beside.marks_lie_where_operations_end.Goals as goal

pub returns : goal.returns
returns c = record { begin = ends_begin; marks = ends_are_marks }
