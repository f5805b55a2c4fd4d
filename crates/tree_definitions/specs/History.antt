-- A history: what was asked and answered, when an entry fits, and the trees that it runs through.
use Rattle.std.specs.Prelude.{ℕ, ◌+◌, ◌-◌, Bool, true, false, ◌&&◌, ◌||◌, ◌==◌, if◌then◌else◌, nat_eq, nat_le, Option, Some, None, List, [], ◌∷◌, ◌++◌, map, take, drop}
use Rattle.std.specs.Cmp.Lexicographic.{pointwise}
use Rattle.frang_base.specs.declared.op.Op.{Op}
use Rattle.frang_base.specs.declared.op.Op.TheVariants as op
use Rattle.frang_base.specs.declared.reply.Reply.{Reply}
use Rattle.frang_base.specs.declared.reply.Reply.TheVariants as reply
use Rattle.tree_definitions.specs.declared.cells.Cell.{Cell}
use Rattle.tree_definitions.specs.declared.cells.Cell.TheVariants.{Byte, Doubtful}
use Rattle.tree_definitions.specs.declared.history.Entry.{Entry}
use Rattle.tree_definitions.specs.declared.node.Node.{Node}
use Rattle.tree_definitions.specs.declared.node.Node.TheVariants.{Dir, File, Link}
use Rattle.tree_definitions.specs.Tree.{FileTree, fresh, node_at, with_node, count_of, dir_blocks}
use Rattle.tree_definitions.specs.Place.{Place, Root, Taken, Free, Nowhere, place}
use Rattle.tree_definitions.specs.Apply.{Answer, Plain, Shows, Applied, is_path_op, overwritten}
use Rattle.tree_definitions.specs.Perform.{Step, Goes, Stops, resolved, perform}
use Rattle.tree_definitions.specs.SaidLines.{reply_word}

-- where a run begins: its tree, the number of small blocks that are or were a directory's, and its number
pub record Opening : Type 0 where
  pub tree : FileTree
  pub dir_blocks : ℕ
  pub run : ℕ

-- the opening on a fresh disk
abbrev pub fresh_opening : ℕ → Opening
fresh_opening segments = record { tree = fresh segments; dir_blocks = 0; run = 1 }

-- a cell shows its byte, and in doubt any
abbrev pub cell_shows : Cell → ℕ → Bool
cell_shows (Byte a) b = a == b
cell_shows Doubtful b = true

-- cells show bytes, each its own
abbrev pub cells_show : List Cell → List ℕ → Bool
cells_show [] [] = true
cells_show (cell ∷ cells) (b ∷ bytes) = cell_shows cell b && cells_show cells bytes
cells_show [] (b ∷ bytes) = false
cells_show (cell ∷ cells) [] = false

-- a reply that has the same contents as one of its kind
abbrev pub shown_is : List ℕ → Reply → Bool
shown_is bytes (reply.Shown others) = pointwise nat_eq bytes others
shown_is bytes _ = false

-- a file of this size with these links
abbrev pub file_is : ℕ → ℕ → Reply → Bool
file_is size links (reply.File s l) = size == s && links == l
file_is size links _ = false

-- a directory of so many entries
abbrev pub dir_is : ℕ → Reply → Bool
dir_is entries (reply.Dir n) = entries == n
dir_is entries _ = false

-- a link with a target of this length
abbrev pub link_is : ℕ → Reply → Bool
link_is len (reply.Symlink n) = len == n
link_is len _ = false

-- these names
abbrev pub names_are : List (List ℕ) → Reply → Bool
names_are names (reply.Names others) = pointwise (pointwise nat_eq) names others
names_are names _ = false

-- this target
abbrev pub target_is : List ℕ → Reply → Bool
target_is target (reply.Target other) = pointwise nat_eq target other
target_is target _ = false

-- this run and this tick
abbrev pub time_is : ℕ → ℕ → Reply → Bool
time_is run tick (reply.Time r t) = run == r && tick == t
time_is run tick _ = false

-- no block, with this number told
abbrev pub no_block_is : ℕ → Reply → Bool
no_block_is m (reply.NoBlock n) = m == n
no_block_is m _ = false

-- the same contents, of replies of one word
abbrev pub contents_are : Reply → Reply → Bool
contents_are (reply.Shown bytes) r = shown_is bytes r
contents_are (reply.File size links) r = file_is size links r
contents_are (reply.Dir entries) r = dir_is entries r
contents_are (reply.Symlink len) r = link_is len r
contents_are (reply.Names names) r = names_are names r
contents_are (reply.Target target) r = target_is target r
contents_are (reply.Time run tick) r = time_is run tick r
contents_are (reply.NoBlock m) r = no_block_is m r
contents_are _ r = true

-- equal replies: of the same word, with the same contents
abbrev pub same_reply : Reply → Reply → Bool
same_reply a b = pointwise nat_eq (reply_word a) (reply_word b) && contents_are a b

-- a reply shows cells
abbrev pub shows : List Cell → Reply → Bool
shows cells (reply.Shown bytes) = cells_show cells bytes
shows cells _ = false

-- a reply that was said agrees with an answer
abbrev pub agrees : Answer → Reply → Bool
agrees (Plain r) reply = same_reply r reply
agrees (Shows cells) reply = shows cells reply

-- the number of blocks that are or were a directory's: the one said, else those of the tree
abbrev pub told_blocks : FileTree → Reply → ℕ
told_blocks tree (reply.NoBlock m) = m
told_blocks tree _ = count_of dir_blocks tree

-- a number that is said is at least what the tree has, and at most what was ever a directory's
abbrev pub may_tell : FileTree → ℕ → Reply → Bool
may_tell tree ever (reply.NoBlock m) = nat_le (count_of dir_blocks tree) m && nat_le m ever
may_tell tree ever _ = true

-- an entry's operation, performed where the entry stands
abbrev pub applied : FileTree → Entry → Applied
applied tree e = perform tree e.op e.number.0 e.when (told_blocks tree e.reply)

-- the entry's reply is its operation's answer
abbrev pub is_answer : FileTree → Entry → Bool
is_answer tree e = is_path_op e.op && agrees (applied tree e).answer e.reply

-- a line without a path that may be answered `ok`
abbrev pub may_be_ok : Op → Bool
may_be_ok op.Sync = true
may_be_ok op.Unmount = true
may_be_ok op.Crash = true
may_be_ok (op.CrashAt k) = true
may_be_ok (op.CutAt k) = true
may_be_ok op.Stall = true
may_be_ok _ = false

-- a reply that leaves the tree: one that isn't the operation's own, or `ok` to a line without a path
abbrev pub leaves_tree : Op → Reply → Bool
leaves_tree op reply.Down = true
leaves_tree op reply.Expired = true
leaves_tree op reply.Io = true
leaves_tree op reply.Already = true
leaves_tree op reply.Mounted = true
leaves_tree op reply.Ok = may_be_ok op
leaves_tree op _ = false

-- the entry may stand at this tree, where so many blocks were ever a directory's
abbrev pub fits : FileTree → ℕ → Entry → Bool
fits tree ever e = (is_answer tree e && may_tell tree ever e.reply) || leaves_tree e.op e.reply

-- the birth, the cells, the links and the time of a file
abbrev pub file_of : ℕ → Option Node → Option (ℕ × (List Cell × (ℕ × ℕ)))
file_of birth (Some (File cells links when)) = Some (birth, (cells, (links, when)))
file_of birth (Some (Dir entries blocks)) = None
file_of birth (Some (Link target links)) = None
file_of birth None = None

-- the file at a place
abbrev pub file_at : FileTree → Place → Option (ℕ × (List Cell × (ℕ × ℕ)))
file_at tree Root = None
file_at tree (Taken dir entries blocks name birth) = file_of birth (node_at tree birth)
file_at tree (Free dir entries blocks name) = None
file_at tree (Nowhere r) = None

-- cells that were shown become the bytes shown
abbrev pub with_shown : FileTree → Option (ℕ × (List Cell × (ℕ × ℕ))) → ℕ → List ℕ → FileTree
with_shown tree None off bytes = tree
with_shown tree (Some file) off bytes = with_node tree file.0 (File (overwritten file.1.0 off (map Byte bytes)) file.1.1.0 file.1.1.1)

-- a read turns the cells that it showed into the bytes shown
abbrev pub after_read : FileTree → Op → Reply → FileTree
after_read tree (op.Read path off len) (reply.Shown bytes) = with_shown tree (file_at tree (place tree path)) off bytes
after_read tree op reply = tree

-- the same by what an operation comes to
abbrev pub after_step : FileTree → Step → Reply → FileTree
after_step tree (Goes o) reply = after_read tree o reply
after_step tree (Stops r) reply = tree

-- the tree after an entry; one that doesn't fit leaves it
abbrev pub tree_after : FileTree → Entry → FileTree
tree_after tree e =
    if leaves_tree e.op e.reply then tree
    else (if is_answer tree e then after_step (applied tree e).tree (resolved tree e.op).step e.reply else tree)

-- some cells of a file, from an offset on
pub record CellRun : Type 0 where
  pub birth : ℕ
  pub from : ℕ
  pub count : ℕ

-- what is left of a history once its recoveries have acted: entries, and cells that came into doubt
pub data Settled : Type 0 where
  Stays : (entry : Entry) → Settled
  InDoubt : (runs : List CellRun) → Settled

-- cells come into doubt; those that aren't there are passed over
abbrev pub doubted_cells : List Cell → ℕ → ℕ → List Cell
doubted_cells cells from count = take from cells ++ map (λ c. Doubtful) (take count (drop from cells)) ++ drop (from + count) cells

-- the cells of one file come into doubt
abbrev pub doubted_file : FileTree → Option (ℕ × (List Cell × (ℕ × ℕ))) → ℕ → ℕ → FileTree
doubted_file tree None from count = tree
doubted_file tree (Some file) from count = with_node tree file.0 (File (doubted_cells file.1.0 from count) file.1.1.0 file.1.1.1)

-- runs of cells come into doubt
abbrev pub doubted : FileTree → List CellRun → FileTree
doubted tree [] = tree
doubted tree (run ∷ runs) = doubted (doubted_file tree (file_of run.birth (node_at tree run.birth)) run.from run.count) runs

-- one step of a settled list
abbrev pub after : FileTree → Settled → FileTree
after tree (Stays e) = tree_after tree e
after tree (InDoubt runs) = doubted tree runs

-- the tree at the end of a settled list
abbrev pub after_all : FileTree → List Settled → FileTree
after_all tree [] = tree
after_all tree (s ∷ ss) = after_all (after tree s) ss

-- the blocks of directories that a step grows
abbrev pub grows : FileTree → Settled → ℕ
grows tree s = count_of dir_blocks (after tree s) - count_of dir_blocks tree

-- a step may stand at this tree
abbrev pub may_stand : FileTree → ℕ → Settled → Bool
may_stand tree ever (Stays e) = fits tree ever e
may_stand tree ever (InDoubt runs) = true

-- each entry fits where it stands, from a tree and a number of blocks that were ever a directory's
abbrev pub legal_from : FileTree → ℕ → List Settled → Bool
legal_from tree ever [] = true
legal_from tree ever (s ∷ ss) = may_stand tree ever s && legal_from (after tree s) (ever + grows tree s) ss
