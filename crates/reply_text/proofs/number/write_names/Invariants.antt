-- What is written, and then the names that are left, is the text of all names.
use Rattle.std.proofs.Common.{◌≡◌, ◌++◌, drop}
use Rattle.std.specs.List.{flat_map}
use Rattle.tree_definitions.specs.SaidLines.{spaced}
use Rattle.reply_text.proofs.number.write_names.Given as goal

abbrev pub invariant-loop-name : goal.invariant-loop-name
invariant-loop-name l = l.to.items ++ flat_map spaced (drop l.name-index l.names) ≡ l.fn.to.items ++ flat_map spaced l.names
