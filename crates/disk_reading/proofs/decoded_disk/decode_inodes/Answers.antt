-- One more in each turn.
use Rattle.std.proofs.Common.{◌≡◌, ◌<◌, ◌+◌, ℕ, Option, None, List, sym, subst, rules}
use Rattle.std.specs.Prelude.{slice_index_or}
use Rattle.disk_definitions.specs.declared.inode.Inode.{Inode}
use Rattle.disk_reading.specs.Kept.{inode_of}
use Rattle.disk_reading.proofs.KeptSectors.{one_more}
use Rattle.disk_reading.proofs.decoded_disk.decode_inodes.Goals as goal

pub loop-i-preserved : goal.loop-i-preserved
loop-i-preserved c =
    let n = c.loop-i.i in
    let f = inode_of c.args.disk.now in
    record {
      count = search rules;
      each = subst (λ (xs : List (Option Inode)). (j : ℕ) → j < n + 1 → slice_index_or xs j None ≡ f j) (sym c.in_ok-push.ensures.items)
          (one_more n c.loop-i.inodes.items c.decode_inode-inode.result None f c.loop-i.invariant.count c.loop-i.invariant.each c.decode_inode-inode.ensures);
    }
