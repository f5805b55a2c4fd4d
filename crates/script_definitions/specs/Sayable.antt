-- What a tree, an operation and a reply must be for lines of them to be lines that can be said; numbers are left to their types.
use Rattle.std.specs.Prelude.{◌≡◌, ◌<◌, ◌^◌, ℕ, true, ◌⊎◌, Option, Some, None, List}
use Rattle.std.specs.List.{All, list_all}
use Rattle.std.specs.Map.{keys_of, values_of}
use Rattle.frang_base.specs.Name.{is_name, is_target}
use Rattle.frang_base.specs.declared.op.Op.{Op}
use Rattle.frang_base.specs.declared.op.Op.TheVariants as op
use Rattle.frang_base.specs.declared.op.What.{What}
use Rattle.frang_base.specs.declared.op.What.TheVariants.{Server, Host}
use Rattle.frang_base.specs.declared.reply.Reply.{Reply}
use Rattle.frang_base.specs.declared.reply.Reply.TheVariants as reply
use Rattle.frang_base.specs.declared.said.Said.{Said}
use Rattle.frang_base.specs.declared.said.Said.TheVariants as said
use Rattle.frang_base.specs.declared.script.Line.{Line}
use Rattle.tree_definitions.specs.declared.cells.Cell.{Cell}
use Rattle.tree_definitions.specs.declared.cells.Cell.TheVariants.{Byte, Doubtful}
use Rattle.tree_definitions.specs.declared.history.Entry.{Entry}
use Rattle.tree_definitions.specs.declared.history.Item.{Item}
use Rattle.tree_definitions.specs.declared.history.Item.TheVariants.{Did, Recovered}
use Rattle.tree_definitions.specs.declared.node.Node.{Node}
use Rattle.tree_definitions.specs.declared.node.Node.TheVariants.{Dir, File, Link}
use Rattle.tree_definitions.specs.Entries.{Entries}
use Rattle.tree_definitions.specs.Tree.{FileTree}
use Rattle.tree_definitions.specs.Apply.{Answer, Plain, Shows, Applied}
use Rattle.tree_definitions.specs.History.{Settled, Stays, InDoubt}
use Rattle.script_definitions.specs.SaidReading.{is_path_text}

-- a cell in doubt, or one with a byte
abbrev pub IsSayableCell : Cell → Type 0
IsSayableCell (Byte b) = b < 256
IsSayableCell Doubtful = Unit {0}

-- each name of a directory is a name
abbrev pub AreSayableEntries : Entries → Type 0
AreSayableEntries entries = All (λ name. is_name name ≡ true) (keys_of entries)

-- a directory of names, a file of such cells, a link with a target
abbrev pub IsNodeOf : (Cell → Type 0) → Node → Type 0
IsNodeOf C (Dir entries blocks) = AreSayableEntries entries
IsNodeOf C (File cells links when) = All C cells
IsNodeOf C (Link target links) = is_target target ≡ true

-- a node that is there
abbrev pub IsNodeIfOf : (Cell → Type 0) → Option Node → Type 0
IsNodeIfOf C None = Unit {0}
IsNodeIfOf C (Some node) = IsNodeOf C node

-- each node of a tree
abbrev pub IsTreeOf : (Cell → Type 0) → FileTree → Type 0
IsTreeOf C tree = All (IsNodeOf C) (values_of tree.nodes)

abbrev pub IsSayableNode : Node → Type 0
IsSayableNode = IsNodeOf IsSayableCell

abbrev pub IsSayableTree : FileTree → Type 0
IsSayableTree = IsTreeOf IsSayableCell

-- a cell with a byte: none is in doubt
abbrev pub IsSureCell : Cell → Type 0
IsSureCell (Byte b) = b < 256
IsSureCell Doubtful = ⊥

-- a tree no cell of which is in doubt
abbrev pub IsSureTree : FileTree → Type 0
IsSureTree = IsTreeOf IsSureCell

-- a path of names
abbrev pub IsSayablePath : List (List ℕ) → Type 0
IsSayablePath path = list_all is_name path ≡ true

-- paths of names, and what it writes
abbrev pub IsSayableOp : Op → Type 0
IsSayableOp (op.Create path) = IsSayablePath path
IsSayableOp (op.Mkdir path) = IsSayablePath path
IsSayableOp (op.Link path to) = IsSayablePath path × IsSayablePath to
IsSayableOp (op.Symlink path target) = IsSayablePath path × (is_target target ≡ true)
IsSayableOp (op.Unlink path) = IsSayablePath path
IsSayableOp (op.Rmdir path) = IsSayablePath path
IsSayableOp (op.Rename path to) = IsSayablePath path × IsSayablePath to
IsSayableOp (op.Write path off bytes) = IsSayablePath path × All (λ b. b < 256) bytes
IsSayableOp (op.Fill path off len byte) = IsSayablePath path × (byte < 256)
IsSayableOp (op.Truncate path len) = IsSayablePath path
IsSayableOp (op.Read path off len) = IsSayablePath path
IsSayableOp (op.Stat path) = IsSayablePath path
IsSayableOp (op.List path) = IsSayablePath path
IsSayableOp (op.Readlink path) = IsSayablePath path
IsSayableOp (op.Time path) = IsSayablePath path
IsSayableOp _ = Unit {0}

-- what a server is asked
abbrev pub IsSayableWhat : What → Type 0
IsSayableWhat (Server o) = IsSayableOp o
IsSayableWhat (Host o) = Unit {0}

-- a reply, its numbers aside
abbrev pub IsSayableReply : Reply → Type 0
IsSayableReply (reply.Shown bytes) = All (λ b. b < 256) bytes
IsSayableReply (reply.Names names) = All (λ name. is_name name ≡ true) names
IsSayableReply (reply.Target target) = is_target target ≡ true
IsSayableReply _ = Unit {0}

-- the numbers of a reply have 32 bits
abbrev pub HasCounts : Reply → Type 0
HasCounts (reply.File size links) = (size < 2 ^ 32) × (links < 2 ^ 32)
HasCounts (reply.Dir entries) = entries < 2 ^ 32
HasCounts (reply.Symlink len) = len < 2 ^ 32
HasCounts (reply.Time run tick) = (run < 2 ^ 32) × (tick < 2 ^ 32)
HasCounts (reply.NoBlock m) = m < 2 ^ 32
HasCounts _ = Unit {0}

-- a reply that an operation over a path may have of its own, where m is the number of blocks that were ever a directory's
abbrev pub IsTreeReply : ℕ → Reply → Type 0
IsTreeReply m reply.Down = ⊥
IsTreeReply m reply.Expired = ⊥
IsTreeReply m reply.Io = ⊥
IsTreeReply m reply.Already = ⊥
IsTreeReply m reply.Mounted = ⊥
IsTreeReply m (reply.NoBlock n) = n ≡ m
IsTreeReply m r = IsSayableReply r

-- an answer: such a reply, or cells
abbrev pub IsAnswerOf : (Cell → Type 0) → ℕ → Answer → Type 0
IsAnswerOf C m (Plain r) = IsTreeReply m r
IsAnswerOf C m (Shows cells) = All C cells

-- an answer, and the tree after it
pub record IsAppliedOf (C : Cell → Type 0) (m : ℕ) (applied : Applied) : Type 0 where
  pub answer : IsAnswerOf C m applied.answer
  pub tree : IsTreeOf C applied.tree

abbrev pub IsSayableApplied : ℕ → Applied → Type 0
IsSayableApplied = IsAppliedOf IsSayableCell

-- an entry of a history
abbrev pub IsSayableEntry : Entry → Type 0
IsSayableEntry e = IsSayableOp e.op × IsSayableReply e.reply

-- an item of a history
abbrev pub IsSayableItem : Item → Type 0
IsSayableItem (Did e) = IsSayableEntry e
IsSayableItem (Recovered server kept) = Unit {0}

-- a line of a script
abbrev pub IsSayableLine : Line → Type 0
IsSayableLine line = IsSayableWhat line.what

-- a line that was said, where it is an answer
abbrev pub HasSayableReply : Said → Type 0
HasSayableReply (said.Answer server line r) = IsSayableReply r
HasSayableReply _ = Unit {0}

-- a step of a settled history
abbrev pub IsSayableStep : Settled → Type 0
IsSayableStep (Stays e) = IsSayableEntry e
IsSayableStep (InDoubt runs) = Unit {0}

-- a line of a tree, its numbers aside: the text of a path, and links at a file alone
abbrev pub IsTreeLine : Said → Type 0
IsTreeLine (said.Node path kind size links) = (is_path_text path ≡ true) × ((kind ≡ 1) ⊎ (((kind ≡ 2) ⊎ (kind ≡ 3)) × (links ≡ 0)))
IsTreeLine _ = ⊥
