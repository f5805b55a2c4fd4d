-- Small histories of two servers over a tree with a directory `/e`, a file `/f`, and a symbolic link `/d/l` to the file. Server 0 does something by line 2, of which its log
-- lost the record, and server 1 something by line 3. The lock of each node goes by its birth.
use Rattle.std.specs.Prelude.{ℕ, List, [], ◌∷◌}
use Rattle.frang_base.specs.declared.lock.LockId.{LockId}
use Rattle.frang_base.specs.declared.lock.LockId.TheVariants as lock
use Rattle.frang_base.specs.declared.op.Op.{Op}
use Rattle.frang_base.specs.declared.op.Op.TheVariants as op
use Rattle.frang_base.specs.declared.reply.Reply.{Reply}
use Rattle.frang_base.specs.declared.reply.Reply.TheVariants as reply
use Rattle.tree_definitions.specs.declared.history.Entry.{Entry}
use Rattle.tree_definitions.specs.declared.node.Node.TheVariants.{Dir, File, Link}
use Rattle.tree_definitions.specs.Tree.{FileTree}
use Rattle.sector_world.specs.Histories.{Commit}
use Rattle.byte_trees.specs.Deeds.{Deed, Does}
use Rattle.byte_trees.specs.DoubtExamples.{none}
use Rattle.byte_trees.specs.Telling.{commit, numbered}

abbrev pub tree : FileTree
tree = record {
  segments = 2;
  nodes = (0, Dir ((100 ∷ [], 1) ∷ (101 ∷ [], 2) ∷ (102 ∷ [], 3) ∷ []) 1) ∷ (1, Dir ((108 ∷ [], 4) ∷ []) 1) ∷ (2, Dir [] 0) ∷ (3, File [] 1 0) ∷ (4, Link (47 ∷ 102 ∷ []) 1) ∷ [];
}

-- `/e`, `/e/x`, `/e/y`, `/f`, `/d/l`
abbrev pub directory : List (List ℕ)
directory = (101 ∷ []) ∷ []

abbrev pub in_it : List (List ℕ)
in_it = (101 ∷ []) ∷ (120 ∷ []) ∷ []

abbrev pub beside_it : List (List ℕ)
beside_it = (101 ∷ []) ∷ (121 ∷ []) ∷ []

abbrev pub file : List (List ℕ)
file = (102 ∷ []) ∷ []

abbrev pub link : List (List ℕ)
link = (100 ∷ []) ∷ (108 ∷ []) ∷ []

-- an entry
abbrev pub said : (server line : ℕ) → Op → Reply → Entry
said server line operation answer = record { server = record { 0 = server }; number = record { 0 = numbered line }; when = 0; op = operation; reply = answer }

-- an operation that used these locks, and had those of the second list alone
abbrev pub under : Commit → (uses alone : List LockId) → Commit
under c uses alone = record c { uses = uses; alone = alone }

abbrev pub did : (server line : ℕ) → Op → Reply → (uses alone : List LockId) → Deed
did server line operation answer uses alone = Does (under (commit server line operation answer none) uses alone) (said server line operation answer)

-- ---- what server 0 does

-- it makes `/e/x` in inode 9, under these locks alone
abbrev pub makes : List LockId → Deed
makes alone = did 0 2 (op.Create in_it) reply.Ok (lock.Node 0 ∷ lock.Node 2 ∷ lock.Node 9 ∷ lock.Segment 0 ∷ []) alone

-- it writes a byte into `/f`
abbrev pub writes : Deed
writes = did 0 2 (op.Write file 0 (7 ∷ [])) reply.Ok (lock.Node 0 ∷ lock.Node 3 ∷ lock.Segment 0 ∷ []) (lock.Node 3 ∷ lock.Segment 0 ∷ [])

-- it gives the link a second name `/e/x`
abbrev pub links : Deed
links = did 0 2 (op.Link link in_it) reply.Ok (lock.Node 0 ∷ lock.Node 1 ∷ lock.Node 2 ∷ lock.Node 4 ∷ lock.Segment 0 ∷ []) (lock.Node 2 ∷ lock.Node 4 ∷ lock.Segment 0 ∷ [])

-- it removes the link, whose inode is in segment 0
abbrev pub removes : Deed
removes = did 0 2 (op.Unlink link) reply.Ok (lock.Node 0 ∷ lock.Node 1 ∷ lock.Node 4 ∷ lock.Segment 0 ∷ []) (lock.Node 1 ∷ lock.Node 4 ∷ lock.Segment 0 ∷ [])

-- ---- what server 1 does

-- it looks at `/e`
abbrev pub looks : List LockId → Deed
looks uses = did 1 3 (op.Stat directory) (reply.Dir 1) uses []

-- it reads `/f`
abbrev pub reads : List LockId → Deed
reads uses = did 1 3 (op.Read file 0 1) (reply.Shown (7 ∷ [])) uses []

-- it reads `/f` through the link
abbrev pub reads_through : List LockId → Deed
reads_through uses = did 1 3 (op.Read link 0 1) (reply.Shown []) uses []

-- it is refused a node for `/e/x`
abbrev pub is_refused_room : List LockId → Deed
is_refused_room uses = did 1 3 (op.Create in_it) reply.NoInode uses []
