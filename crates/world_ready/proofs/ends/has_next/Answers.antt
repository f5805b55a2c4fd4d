-- At rest, once no sector is needed.
use Rattle.std.proofs.Common.{true, false, refl, sym, ◌∙◌}
use Rattle.core_definitions.specs.Logs.{is_none}
use Rattle.host_tree.specs.Reading.{needed}
use Rattle.world_state.specs.States.{core_at}
use Rattle.world_ready.proofs.TreeEnd.{none_left, read_by}
use Rattle.world_ready.proofs.ends.has_next.Goals as goal

pub returns-then-not-is_at_rest-clause-read : goal.returns-then-not-is_at_rest-clause-read
returns-then-not-is_at_rest-clause-read c =
    let tree = c.args.tree.now in
    sym (read_by (core_at c.args.world.now) tree c.requires.disk false (is_none (needed tree.segments tree.read)) (sym c.is_at_rest.ensures ∙ c.if-not-is_at_rest.true) refl)

pub returns-then-not-is_read-clause-read : goal.returns-then-not-is_read-clause-read
returns-then-not-is_read-clause-read c =
    let tree = c.args.tree.now in
    sym (read_by (core_at c.args.world.now) tree c.requires.disk true false (sym c.is_at_rest.ensures ∙ c.if-not-is_at_rest.false) (sym c.is_read.ensures ∙ c.if-not-is_read.true))

pub make_line-requires : goal.make_line-requires
make_line-requires c =
    let tree = c.args.tree.now in
    none_left (needed tree.segments tree.read) (sym c.is_read.ensures ∙ c.if-not-is_read.false)

pub returns-clause-read : goal.returns-clause-read
returns-clause-read c =
    let tree = c.args.tree.now in
    sym (read_by (core_at c.args.world.now) tree c.requires.disk true true (sym c.is_at_rest.ensures ∙ c.if-not-is_at_rest.false) (sym c.is_read.ensures ∙ c.if-not-is_read.false))
