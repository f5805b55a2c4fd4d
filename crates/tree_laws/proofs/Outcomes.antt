-- Outcomes on a tree and on its shape, put together as operations put them.
use Rattle.std.proofs.Common.{ℕ, ◌≡◌, Bool, true, false, Option, cond, refl, sym, ◌∙◌, ap, subst}
use Rattle.frang_base.specs.declared.reply.Reply.{Reply}
use Rattle.frang_base.specs.declared.reply.Reply.TheVariants as reply
use Rattle.tree_definitions.specs.declared.node.Node.{Node}
use Rattle.tree_definitions.specs.Tree.{FileTree, node_at}
use Rattle.tree_definitions.specs.Place.{Place, Root, Taken, Free, Nowhere}
use Rattle.tree_definitions.specs.Apply.{Applied, says, at_node}
use Rattle.tree_definitions.specs.Touched.{shape_of, shaped}
use Rattle.tree_laws.specs.Acting.{GoesByShape}
use Rattle.tree_laws.proofs.ShapeNodes.{found, again}

-- a reply, with the shape of what was made
pub says_shape : (t u : FileTree) (r : Reply) → u ≡ shape_of t → GoesByShape (says t r) (says u r)
says_shape t u r e = record { answer = refl; tree = ap shape_of e ∙ again t }

pub stays : (t : FileTree) (r : Reply) → GoesByShape (says t r) (says (shape_of t) r)
stays t r = says_shape t (shape_of t) r refl

-- the same choice
pub either : (c d : Bool) (a b x y : Applied) → d ≡ c → GoesByShape a x → GoesByShape b y → GoesByShape (cond c a b) (cond d x y)
either c d a b x y e f g = subst (λ d. GoesByShape (cond c a b) (cond d x y)) (sym e) (go c)
  where
    go : (c : Bool) → GoesByShape (cond c a b) (cond c x y)
    go true = f
    go false = g

module _ (t : FileTree) (next after : ℕ → Option Node → Applied) (each : (b : ℕ) (o : Option Node) → GoesByShape (next b o) (after b (shaped o))) where
  at_found : (b : ℕ) → GoesByShape (next b (node_at t b)) (after b (node_at (shape_of t) b))
  at_found b = subst (λ o. GoesByShape (next b (node_at t b)) (after b o)) (sym (found t b)) (each b (node_at t b))

  -- the node at a place
  pub at_node_shape : (p : Place) → GoesByShape (at_node t p next) (at_node (shape_of t) p after)
  at_node_shape Root = at_found 0
  at_node_shape (Taken dir es n name b) = at_found b
  at_node_shape (Free dir es n name) = stays t reply.NoEnt
  at_node_shape (Nowhere r) = stays t r
