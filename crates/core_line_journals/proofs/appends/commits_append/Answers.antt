-- By the room that a Commit asks for, by the ring of an Append, and by where the log ends.
use Rattle.core_line_journals.proofs.Appending.{commits_append}
use Rattle.core_line_journals.proofs.Room.{commits_find_room}
use Rattle.core_line_journals.proofs.Without.{commits_without}
use Rattle.core_line_journals.proofs.appends.commits_append.Goals as goal

pub returns : goal.returns
returns c = record { room = commits_find_room; append = commits_append; without = commits_without }
