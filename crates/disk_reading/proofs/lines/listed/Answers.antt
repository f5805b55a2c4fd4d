-- What a directory holds agrees with it, so its entries are read.
use Rattle.std.proofs.Common.{◌*◌, Some, ◌∙◌, subst}
use Rattle.std.proofs.lemmas.Bool.{both_ways}
use Rattle.disk_definitions.specs.Store.{stored}
use Rattle.standing_laws.specs.ReadTree.{place_at}
use Rattle.standing_laws.specs.Soundness.{node_agrees}
use Rattle.disk_reading.specs.Files.{AreRead}
use Rattle.disk_reading.specs.Seen.{store_in}
use Rattle.disk_reading.proofs.NodeLines.{listed_dir, listed_other}
use Rattle.disk_reading.proofs.PlaceByPlace.{dir_apart}
use Rattle.disk_reading.proofs.lines.listed.Goals as goal

pub returns-then-inode-ne-KIND_DIRECTORY : goal.returns-then-inode-ne-KIND_DIRECTORY
returns-then-inode-ne-KIND_DIRECTORY c = c.new.ensures ∙ listed_other (store_in c.args.segments c.args.disk.now) (stored c.args.inode.now) c.if-inode-ne-KIND_DIRECTORY.true

pub returns : goal.returns
returns c =
    let s = store_in c.args.segments c.args.disk.now in
    let x = stored c.args.inode.now in
    let read = subst (AreRead s (place_at s x) (56 * x.blocks)) c.in-Some.is c.in_ok-found.ensures in
    listed_dir s x c.in-Some.entries c.if-inode-ne-KIND_DIRECTORY.false read.1

pub unreachable-requires : goal.unreachable-requires
unreachable-requires c =
    let s = store_in c.args.segments c.args.disk.now in
    let x = stored c.args.inode.now in
    let apart = dir_apart s c.args.inode.now c.if-inode-ne-KIND_DIRECTORY.false (subst (AreRead s (place_at s x) (56 * x.blocks)) c.in_default.is c.in_ok-found.ensures) in
    both_ways (node_agrees s (Some x)) apart c.requires.agrees
