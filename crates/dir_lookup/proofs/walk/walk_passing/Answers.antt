-- From the root on, with no directory before.
use Rattle.std.proofs.Common.{[]}
use Rattle.dir_lookup.proofs.walk.walk_passing.Goals as goal

pub returns-clause-passes : goal.returns-clause-passes
returns-clause-passes c held = c.passes_from.ensures.passes held []

pub returns-clause-looks : goal.returns-clause-looks
returns-clause-looks c held = c.passes_from.ensures.looks held []
