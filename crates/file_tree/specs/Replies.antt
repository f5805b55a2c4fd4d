-- What a reply tells of an operation.
use Rattle.std.specs.Prelude.{map}
use Rattle.frang_base.specs.declared.reply.Reply.{Reply}
use Rattle.frang_base.specs.declared.reply.Reply.TheVariants as reply
use Rattle.tree_definitions.specs.declared.cells.Cell.TheVariants.{Byte}
use Rattle.tree_definitions.specs.Tree.{FileTree}
use Rattle.tree_definitions.specs.Apply.{Answer, Plain, Shows, Applied}

-- the answer that a reply gives: of a read, its bytes
abbrev pub answer_of : Reply → Answer
answer_of (reply.Shown bytes) = Shows (map Byte bytes)
answer_of r = Plain r

-- an operation that is answered by a reply, and leaves this tree
abbrev pub gives : FileTree → Reply → Applied
gives tree r = record { answer = answer_of r; tree = tree }
