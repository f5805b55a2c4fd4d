-- A node of each kind.
use Rattle.std.proofs.Common.{◌≡◌, Some, sym, ap, ◌∙◌, subst, length, arith}
use Rattle.tree_definitions.specs.declared.node.Node.TheVariants.{File, Link}
use Rattle.disk_definitions.specs.Store.{stored}
use Rattle.disk_reading.specs.Files.{IsNode}
use Rattle.disk_reading.specs.Seen.{store_in}
use Rattle.disk_reading.proofs.PlaceByPlace.{dir_few, file_fits, file_node, link_few, link_fits, link_node}
use Rattle.disk_reading.proofs.nodes.read_node.Goals as goal

pub read_directory-requires-clause-blocks : goal.read_directory-requires-clause-blocks
read_directory-requires-clause-blocks c = dir_few c.args.inode.now c.requires.fits c.if-inode-eq-KIND_DIRECTORY.true

pub read_cells-requires-clause-file : goal.read_cells-requires-clause-file
read_cells-requires-clause-file c = file_fits c.args.inode.now c.requires.fits c.if-inode-eq-KIND_FILE.true

pub read_target-requires : goal.read_target-requires
read_target-requires c = link_few c.args.inode.now c.requires.fits c.requires.used c.if-inode-eq-KIND_DIRECTORY.false c.if-inode-eq-KIND_FILE.false

pub returns-then-inode-eq-KIND_FILE : goal.returns-then-inode-eq-KIND_FILE
returns-then-inode-eq-KIND_FILE c =
    let s = store_in c.args.segments c.args.disk.now in
    let x = c.args.inode.now in
    subst (λ n. IsNode s (stored x) (Some (File c.in_ok-cells.cells n x.when))) (sym c.from-links.ensures) (file_node s x c.in_ok-cells.cells c.if-inode-eq-KIND_FILE.true c.in_ok-cells.ensures)

pub returns : goal.returns
returns c =
    let s = store_in c.args.segments c.args.disk.now in
    let x = c.args.inode.now in
    let fits = link_fits x c.requires.fits c.requires.used c.if-inode-eq-KIND_DIRECTORY.false c.if-inode-eq-KIND_FILE.false in
    let long : length x.target ≡ 384 = omega arith in
    subst (λ n. IsNode s (stored x) (Some (Link c.in_ok-target.target n))) (sym c.from-links.ensures) (link_node s x c.in_ok-target.target fits long c.in_ok-target.ensures)
