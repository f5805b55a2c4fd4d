-- What operations make of a tree, made of its shape.
use Rattle.std.proofs.Common.{ℕ, ◌≡◌, ◌+◌, ◌-◌, Bool, true, false, Option, Some, None, List, cond, nat_lt, refl, ◌∙◌, ap}
use Rattle.tree_definitions.specs.declared.node.Node.{Node}
use Rattle.tree_definitions.specs.declared.node.Node.TheVariants.{Dir, File, Link}
use Rattle.tree_definitions.specs.Entries.{Entries, with_entry, without_entry}
use Rattle.tree_definitions.specs.Tree.{FileTree, node_at, with_node, without_node, grown}
use Rattle.tree_definitions.specs.Apply.{named, is_dir, links_of, has_entries, one_link_more, one_link_fewer, name_gone, name_set, moved, room_made}
use Rattle.tree_definitions.specs.Touched.{node_shape, shape_of, shaped}
use Rattle.tree_laws.proofs.ShapeNodes.{found, with_shape, without_shape}

-- ---- what is asked of a node
dir_shape : (o : Option Node) → is_dir (shaped o) ≡ is_dir o
dir_shape (Some (Dir es n)) = refl
dir_shape (Some (File cells links when)) = refl
dir_shape (Some (Link target links)) = refl
dir_shape None = refl

links_shape : (o : Option Node) → links_of (shaped o) ≡ links_of o
links_shape (Some (Dir es n)) = refl
links_shape (Some (File cells links when)) = refl
links_shape (Some (Link target links)) = refl
links_shape None = refl

entries_shape : (o : Option Node) → has_entries (shaped o) ≡ has_entries o
entries_shape (Some (Dir es n)) = refl
entries_shape (Some (File cells links when)) = refl
entries_shape (Some (Link target links)) = refl
entries_shape None = refl

module _ (t : FileTree) (b : ℕ) where
  pub same_dir : is_dir (node_at (shape_of t) b) ≡ is_dir (node_at t b)
  same_dir = ap is_dir (found t b) ∙ dir_shape (node_at t b)

  pub same_links : links_of (node_at (shape_of t) b) ≡ links_of (node_at t b)
  same_links = ap links_of (found t b) ∙ links_shape (node_at t b)

  pub same_entries : has_entries (node_at (shape_of t) b) ≡ has_entries (node_at t b)
  same_entries = ap has_entries (found t b) ∙ entries_shape (node_at t b)

-- ---- what is made of the tree
module _ (t : FileTree) where
  pub named_shape : (dir : ℕ) (es : Entries) (n : ℕ) (name : List ℕ) (b : ℕ) → named (shape_of t) dir es n name b ≡ shape_of (named t dir es n name b)
  named_shape dir es n name b = with_shape t dir (Dir (with_entry es name b) (grown es n))

  more_by : (b : ℕ) (o : Option Node) → one_link_more (shape_of t) b (shaped o) ≡ shape_of (one_link_more t b o)
  more_by b (Some (Dir es n)) = refl
  more_by b (Some (File cells links when)) = with_shape t b (File cells (links + 1) when)
  more_by b (Some (Link target links)) = with_shape t b (Link target (links + 1))
  more_by b None = refl

  pub more_shape : (b : ℕ) → one_link_more (shape_of t) b (node_at (shape_of t) b) ≡ shape_of (one_link_more t b (node_at t b))
  more_shape b = ap (one_link_more (shape_of t) b) (found t b) ∙ more_by b (node_at t b)

  fewer_if : (b : ℕ) (x : Node) (c : Bool) → cond c (with_node (shape_of t) b (node_shape x)) (without_node (shape_of t) b) ≡ shape_of (cond c (with_node t b x) (without_node t b))
  fewer_if b x true = with_shape t b x
  fewer_if b x false = without_shape t b

  pub fewer_by : (b : ℕ) (o : Option Node) → one_link_fewer (shape_of t) b (shaped o) ≡ shape_of (one_link_fewer t b o)
  fewer_by b (Some (Dir es n)) = without_shape t b
  fewer_by b (Some (File cells links when)) = fewer_if b (File cells (links - 1) when) (nat_lt 1 links)
  fewer_by b (Some (Link target links)) = fewer_if b (Link target (links - 1)) (nat_lt 1 links)
  fewer_by b None = refl

  gone_by : (dir : ℕ) (name : List ℕ) (o : Option Node) → name_gone (shape_of t) dir name (shaped o) ≡ shape_of (name_gone t dir name o)
  gone_by dir name (Some (Dir es n)) = with_shape t dir (Dir (without_entry es name) n)
  gone_by dir name (Some (File cells links when)) = refl
  gone_by dir name (Some (Link target links)) = refl
  gone_by dir name None = refl

  set_by : (dir : ℕ) (name : List ℕ) (b : ℕ) (o : Option Node) → name_set (shape_of t) dir name b (shaped o) ≡ shape_of (name_set t dir name b o)
  set_by dir name b (Some (Dir es n)) = with_shape t dir (Dir (with_entry es name b) n)
  set_by dir name b (Some (File cells links when)) = refl
  set_by dir name b (Some (Link target links)) = refl
  set_by dir name b None = refl

  pub gone_shape : (dir : ℕ) (name : List ℕ) → name_gone (shape_of t) dir name (node_at (shape_of t) dir) ≡ shape_of (name_gone t dir name (node_at t dir))
  gone_shape dir name = ap (name_gone (shape_of t) dir name) (found t dir) ∙ gone_by dir name (node_at t dir)

  pub set_shape : (dir : ℕ) (name : List ℕ) (b : ℕ) → name_set (shape_of t) dir name b (node_at (shape_of t) dir) ≡ shape_of (name_set t dir name b (node_at t dir))
  set_shape dir name b = ap (name_set (shape_of t) dir name b) (found t dir) ∙ set_by dir name b (node_at t dir)

pub moved_shape : (t : FileTree) (from : ℕ) (name : List ℕ) (to : ℕ) (new : List ℕ) (b : ℕ) → moved (shape_of t) from name to new b ≡ shape_of (moved t from name to new b)
moved_shape t from name to new b =
    ap (λ gone. name_set gone to new b (node_at gone to)) (gone_shape t from name) ∙ set_shape (name_gone t from name (node_at t from)) to new b

pub room_shape : (t : FileTree) (dir : ℕ) (es : Entries) (n : ℕ) → room_made (shape_of t) dir es n ≡ shape_of (room_made t dir es n)
room_shape t dir es n = with_shape t dir (Dir es (grown es n))
