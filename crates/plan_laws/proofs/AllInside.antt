-- The plan of every operation looks only at inodes and blocks that the disk has.
use Rattle.std.proofs.Common.{◌≡◌, ◌-◌, ◌==◌, ℕ, Bool, true, false, [], length, slice_index, if◌then◌else◌, is_some}
use Rattle.frang_base.specs.declared.op.Op.TheVariants as op
use Rattle.frang_base.specs.declared.reply.Reply.TheVariants as reply
use Rattle.tree_definitions.specs.declared.node.Node.TheVariants.{Dir, File, Link}
use Rattle.tree_definitions.specs.Tree.{node_at}
use Rattle.disk_definitions.specs.Ask.{looks}
use Rattle.disk_definitions.specs.Walks.{Target}
use Rattle.disk_definitions.specs.Plans.{refused}
use Rattle.disk_definitions.specs.LookPlans.{at_inode, described, timed, listing}
use Rattle.disk_definitions.specs.FilePlans.{writing, cutting, showing}
use Rattle.plan_laws.specs.Inside.{AreInside, PlansLookInside}
use Rattle.plan_laws.proofs.NamesInside.{made_inside, unlinked_inside, removed_inside, linked_inside, renamed_inside}
use Rattle.plan_laws.proofs.FilesInside.{node_then, inode_then, list_then, file_then, writing_inside, cutting_inside, showing_inside}

pub all_inside : PlansLookInside
all_inside (op.Create path) h s tree n birth when of hand = made_inside h s tree n of hand birth (File [] 1 0) path
all_inside (op.Mkdir path) h s tree n birth when of hand = made_inside h s tree n of hand birth (Dir [] 0) path
all_inside (op.Symlink path target) h s tree n birth when of hand = made_inside h s tree n of hand birth (Link target 1) path
all_inside (op.Link path to) h s tree n birth when of hand = linked_inside h s tree n of hand path to
all_inside (op.Unlink path) h s tree n birth when of hand = unlinked_inside h s tree n of hand path
all_inside (op.Rmdir path) h s tree n birth when of hand = removed_inside h s tree n of hand path
all_inside (op.Rename path to) h s tree n birth when of hand = renamed_inside h s tree n of hand path to
all_inside (op.Write path off bytes) h s tree n birth when of hand =
    file_then s tree n of path (writing h (record { off = off; len = length bytes; when = when; byte = λ j. slice_index bytes (j - off) })) (λ i touched x. writing_inside tree.segments s h (record { off = off; len = length bytes; when = when; byte = λ j. slice_index bytes (j - off) }) i touched x)
all_inside (op.Fill path off len byte) h s tree n birth when of hand =
    file_then s tree n of path (writing h (record { off = off; len = len; when = when; byte = λ j. byte })) (λ i touched x. writing_inside tree.segments s h (record { off = off; len = len; when = when; byte = λ j. byte }) i touched x)
all_inside (op.Truncate path len) h s tree n birth when of hand = file_then s tree n of path (cutting when len) (cutting_inside tree.segments s when len)
all_inside (op.Read path off len) h s tree n birth when of hand = file_then s tree n of path (showing off len) (showing_inside tree.segments s off len)
all_inside (op.Stat path) h s tree n birth when of hand = node_then s tree n of path (at_inode (λ touched x. refused (described x) touched)) (inode_then s tree n of (λ touched x. refused (described x) touched) (λ touched x. tt))
all_inside (op.Time path) h s tree n birth when of hand = node_then s tree n of path (at_inode (λ touched x. refused (timed x) touched)) (inode_then s tree n of (λ touched x. refused (timed x) touched) (λ touched x. tt))
all_inside (op.List path) h s tree n birth when of hand = node_then s tree n of path (λ t. if t.kind == 2 then at_inode listing t else refused reply.NotDir t.dirs) (λ t b there e k. by_kind t b there e k (t.kind == 2))
  where
    by_kind : (t : Target) (b : ℕ) → is_some (node_at tree b) ≡ true → t.inode ≡ n.inode b → t.kind ≡ n.kind b → (c : Bool) → AreInside tree.segments (looks (if c then at_inode listing t else refused reply.NotDir t.dirs) s)
    by_kind t b there e k true = list_then s tree n of t b there e k
    by_kind t b there e k false = tt
all_inside (op.Readlink path) h s tree n birth when of hand =
    node_then s tree n of path (λ t. if t.kind == 3 then at_inode (λ touched x. refused (reply.Target x.target) touched) t else refused reply.Inval t.dirs) (λ t b there e k. by_kind t b there e k (t.kind == 3))
  where
    by_kind : (t : Target) (b : ℕ) → is_some (node_at tree b) ≡ true → t.inode ≡ n.inode b → t.kind ≡ n.kind b → (c : Bool) →
        AreInside tree.segments (looks (if c then at_inode (λ touched x. refused (reply.Target x.target) touched) t else refused reply.Inval t.dirs) s)
    by_kind t b there e k true = inode_then s tree n of (λ touched x. refused (reply.Target x.target) touched) (λ touched x. tt) t b there e k
    by_kind t b there e k false = tt
all_inside op.Sync h s tree n birth when of hand = tt
all_inside op.Mount h s tree n birth when of hand = tt
all_inside op.Unmount h s tree n birth when of hand = tt
all_inside op.Crash h s tree n birth when of hand = tt
all_inside (op.CrashAt k) h s tree n birth when of hand = tt
all_inside (op.CutAt k) h s tree n birth when of hand = tt
all_inside op.Stall h s tree n birth when of hand = tt
