-- Where the names of a path lead.
use Rattle.std.specs.Prelude.{ℕ, Option, Some, None, List, [], ◌∷◌}
use Rattle.frang_base.specs.declared.reply.Reply.{Reply}
use Rattle.frang_base.specs.declared.reply.Reply.TheVariants.{NoEnt, NotDir}
use Rattle.tree_definitions.specs.declared.node.Node.{Node}
use Rattle.tree_definitions.specs.declared.node.Node.TheVariants.{Dir, File, Link}
use Rattle.tree_definitions.specs.Entries.{Entries, entry_at}
use Rattle.tree_definitions.specs.Tree.{FileTree, node_at}

-- the root; a name that its directory has, with the node's birth; a name that its directory hasn't; or a walk that was refused
pub data Place : Type 0 where
  Root : Place
  Taken : (dir : ℕ) (entries : Entries) (blocks : ℕ) (name : List ℕ) (birth : ℕ) → Place
  Free : (dir : ℕ) (entries : Entries) (blocks : ℕ) (name : List ℕ) → Place
  Nowhere : (reply : Reply) → Place

-- a name that was looked up in a directory
abbrev pub place_by : ℕ → Entries → ℕ → List ℕ → Option ℕ → Place
place_by dir entries blocks name (Some birth) = Taken dir entries blocks name birth
place_by dir entries blocks name None = Free dir entries blocks name

-- a name below a node, which has to be a directory
abbrev pub place_in : Option Node → ℕ → List ℕ → Place
place_in (Some (Dir entries blocks)) dir name = place_by dir entries blocks name (entry_at entries name)
place_in (Some (File cells links when)) dir name = Nowhere NotDir
place_in (Some (Link target links)) dir name = Nowhere NotDir
place_in None dir name = Nowhere NoEnt

-- on from a name on the way, which has to be there
abbrev pub below : Place → (ℕ → Place) → Place
below Root next = next 0
below (Taken dir entries blocks name birth) next = next birth
below (Free dir entries blocks name) next = Nowhere NoEnt
below (Nowhere reply) next = Nowhere reply

-- the names of a path, taken from the left, from a node on
abbrev pub place_from : FileTree → ℕ → List (List ℕ) → Place
place_from tree birth [] = Root
place_from tree birth (name ∷ []) = place_in (node_at tree birth) birth name
place_from tree birth (name ∷ next ∷ names) = below (place_in (node_at tree birth) birth name) (λ b. place_from tree b (next ∷ names))

-- the place of a path
abbrev pub place : FileTree → List (List ℕ) → Place
place tree path = place_from tree 0 path

-- the directory in which a name was looked up, and those after it
abbrev pub walked_by : Place → ℕ → (ℕ → List ℕ) → List ℕ
walked_by Root dir next = []
walked_by (Taken d entries blocks name birth) dir next = dir ∷ next birth
walked_by (Free d entries blocks name) dir next = dir ∷ []
walked_by (Nowhere reply) dir next = []

-- the directories in which a walk looks up a name, from a node on
abbrev pub walked_from : FileTree → ℕ → List (List ℕ) → List ℕ
walked_from tree birth [] = []
walked_from tree birth (name ∷ names) = walked_by (place_in (node_at tree birth) birth name) birth (λ b. walked_from tree b names)

-- the directories in which the walk of a path looks up a name, the last one's too
abbrev pub walked : FileTree → List (List ℕ) → List ℕ
walked tree path = walked_from tree 0 path
