-- By the kind of the node.
use Rattle.std.proofs.Common.{eq-eqb, ne_eqb, ◌∙◌}
use Rattle.disk_definitions.specs.Store.{stored}
use Rattle.dir_lookup.proofs.Looking.{adds_as, adds_none}
use Rattle.dir_lookup.proofs.Steps.{in_directory, in_no_directory}
use Rattle.dir_lookup.proofs.WalkLooks.{in_directory_at, in_no_directory_at}
use Rattle.dir_lookup.proofs.walk.below.Goals as goal

pub returns-then-node-eq-KIND_DIRECTORY-clause-reads : goal.returns-then-node-eq-KIND_DIRECTORY-clause-reads
returns-then-node-eq-KIND_DIRECTORY-clause-reads c dirs held =
    c.look_up.ensures.reads dirs held
    ∙ in_directory dirs c.args.node.now.number c.args.name.now (stored c.args.node.now.inode) c.args.sectors.now.entries held (eq-eqb c.args.node.now.inode.kind 2 c.if-node-eq-KIND_DIRECTORY.true)

pub returns-else-node-eq-KIND_DIRECTORY-clause-reads : goal.returns-else-node-eq-KIND_DIRECTORY-clause-reads
returns-else-node-eq-KIND_DIRECTORY-clause-reads c dirs held =
    in_no_directory dirs c.args.node.now.number c.args.name.now (stored c.args.node.now.inode) c.args.sectors.now.entries held (ne_eqb c.args.node.now.inode.kind 2 c.if-node-eq-KIND_DIRECTORY.false)

pub returns-then-node-eq-KIND_DIRECTORY-clause-looks : goal.returns-then-node-eq-KIND_DIRECTORY-clause-looks
returns-then-node-eq-KIND_DIRECTORY-clause-looks c dirs held =
    adds_as _ _ _ _
    (in_directory_at dirs c.args.node.now.number c.args.name.now c.args.sectors.now.entries held (stored c.args.node.now.inode) (eq-eqb c.args.node.now.inode.kind 2 c.if-node-eq-KIND_DIRECTORY.true))
    (c.look_up.ensures.looks dirs held)

pub returns-else-node-eq-KIND_DIRECTORY-clause-looks : goal.returns-else-node-eq-KIND_DIRECTORY-clause-looks
returns-else-node-eq-KIND_DIRECTORY-clause-looks c dirs held =
    adds_as _ _ _ _
    (in_no_directory_at dirs c.args.node.now.number c.args.name.now c.args.sectors.now.entries held (stored c.args.node.now.inode) (ne_eqb c.args.node.now.inode.kind 2 c.if-node-eq-KIND_DIRECTORY.false))
    (adds_none _)
