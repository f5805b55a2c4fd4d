-- One sector more; at the end all places are there.
use Rattle.std.proofs.Common.{◌≡◌, ◌*◌, slice_index, arith, rules}
use Rattle.disk_definitions.specs.Naming.{place_of}
use Rattle.disk_definitions.specs.Store.{entry_in, stored}
use Rattle.host_tree.specs.Reading.{store_read}
use Rattle.host_tree.proofs.PlaceByPlace.{entries_are, part_more}
use Rattle.host_tree.proofs.directory.entries_of.Goals as goal

pub loop-j-preserved : goal.loop-j-preserved
loop-j-preserved c =
    let t = c.args.sectors.now in
    let place = place_of (store_read t.segments t.read).place (slice_index c.args.inode.now.small) in
    record {
      are = part_more place (entry_in c.part.result) c.loop-j.j c.loop-j.entries c.add_part.new.entries (λ k few. c.part.ensures.is k few) c.loop-j.invariant.are c.in_ok-add_part.ensures.is;
      few = omega (arith, c.loop-j.invariant.few, c.in_ok-add_part.ensures.few);
    }

pub returns : goal.returns
returns c =
    let t = c.args.sectors.now in
    let x = stored c.args.inode.now in
    let all : c.loop-j.j ≡ 8 * x.blocks = search rules in
    let places : 7 * c.loop-j.j ≡ 56 * x.blocks = omega (arith, all) in
    entries_are (store_read t.segments t.read) x (7 * c.loop-j.j) c.loop-j.entries places c.loop-j.invariant.are
