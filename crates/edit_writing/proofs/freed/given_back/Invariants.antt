-- What is given back so far, and then by the edits that are left, is what all give back.
use Rattle.std.proofs.Common.{◌≡◌, fold, drop, []}
use Rattle.std.specs.List.{flat_map}
use Rattle.disk_definitions.specs.Written.{sectors_given_back, with_number}
use Rattle.plan_steps.specs.Edits.{edits_of}
use Rattle.edit_writing.proofs.freed.given_back.Given as goal

abbrev pub invariant-loop-edit : goal.invariant-loop-edit
invariant-loop-edit l = fold with_number l.freed.entries (flat_map sectors_given_back (edits_of (drop l.edit-index l.edits))) ≡ fold with_number [] (flat_map sectors_given_back (edits_of l.edits))
