-- Names, trees, entries and lines for the examples.
use Rattle.std.proofs.Common.{ℕ, zero, suc, ◌+◌, List, [], ◌∷◌}
use Rattle.frang_base.specs.declared.op.Op.{Op}
use Rattle.frang_base.specs.declared.op.Op.TheVariants as op
use Rattle.frang_base.specs.declared.reply.Reply.{Reply}
use Rattle.tree_definitions.specs.declared.history.Item.{Item}
use Rattle.tree_definitions.specs.declared.history.Item.TheVariants.{Did, Recovered}
use Rattle.tree_definitions.specs.declared.node.Node.TheVariants.{Dir, File}
use Rattle.tree_definitions.specs.Entries.{Entries}
use Rattle.tree_definitions.specs.Tree.{FileTree, fresh}
use Rattle.tree_definitions.specs.Apply.{apply}

abbrev pub Way : Type 0
Way = List (List ℕ)

-- `/`, `/a`, `/b`, `/d`, `/l`, `/d/a`, `/d/e`, `/d/e/a`
abbrev pub root : Way
root = []

abbrev pub a : Way
a = (97 ∷ []) ∷ []

abbrev pub b : Way
b = (98 ∷ []) ∷ []

abbrev pub d : Way
d = (100 ∷ []) ∷ []

abbrev pub l : Way
l = (108 ∷ []) ∷ []

abbrev pub da : Way
da = (100 ∷ []) ∷ (97 ∷ []) ∷ []

abbrev pub de : Way
de = (100 ∷ []) ∷ (101 ∷ []) ∷ []

abbrev pub dea : Way
dea = (100 ∷ []) ∷ (101 ∷ []) ∷ (97 ∷ []) ∷ []

-- `/a/x`, `/l/x`, `/x/y`
abbrev pub ax : Way
ax = (97 ∷ []) ∷ (120 ∷ []) ∷ []

abbrev pub lx : Way
lx = (108 ∷ []) ∷ (120 ∷ []) ∷ []

abbrev pub xy : Way
xy = (120 ∷ []) ∷ (121 ∷ []) ∷ []

-- operations one after another, whose nodes get the births from this one on
abbrev pub done : FileTree → ℕ → List Op → FileTree
done tree birth [] = tree
done tree birth (o ∷ os) = done (apply tree o birth 0 0).tree (birth + 1) os

-- the file /a (birth 1), the link /l with target `t` (2), the directory /d (3) with the directory /d/e (4)
abbrev pub some : FileTree
some = done (fresh 16) 1 (op.Create a ∷ op.Symlink l (116 ∷ []) ∷ op.Mkdir d ∷ op.Mkdir de ∷ [])

-- so many entries, all names of the node 1
abbrev pub many : ℕ → ℕ → Entries
many from zero = []
many from (suc n) = ((1000 + from) ∷ [], 1) ∷ many (from + 1) n

-- the root with so many entries in so many blocks and the file 1 with so many links, on a disk of so many segments
abbrev pub crowded : ℕ → ℕ → ℕ → ℕ → FileTree
crowded segments entries blocks links = record { segments = segments; nodes = (0, Dir ((97 ∷ [], 1) ∷ many 1 entries) blocks) ∷ (1, File [] links 0) ∷ [] }

-- the same, with an empty directory /d (2) that comes in the root before the crowd
abbrev pub crowded_below : ℕ → ℕ → ℕ → FileTree
crowded_below segments entries blocks = record { segments = segments; nodes = (0, Dir ((97 ∷ [], 1) ∷ (100 ∷ [], 2) ∷ []) 1) ∷ (1, File [] 1 0) ∷ (2, Dir (many 1 entries) blocks) ∷ [] }

-- an entry of a server in the first run, whose time doesn't matter, a mount of it, and a recovery by a greatest line, or 0
abbrev pub by : ℕ → ℕ → Op → Reply → Item
by server line o r = Did (record { server = record { 0 = server }; number = record { 0 = 4294967296 + line }; when = 0; op = o; reply = r })

-- the same at a tick of the script
abbrev pub by_at : ℕ → ℕ → ℕ → Op → Reply → Item
by_at ticks server line o r = Did (record { server = record { 0 = server }; number = record { 0 = 4294967296 + line }; when = 4294967296 + ticks; op = o; reply = r })

abbrev pub recovery : ℕ → ℕ → Item
recovery server kept = Recovered (record { 0 = server }) (record { 0 = kept })

-- the number of a line of the first run
abbrev pub line : ℕ → ℕ
line n = 4294967296 + n
