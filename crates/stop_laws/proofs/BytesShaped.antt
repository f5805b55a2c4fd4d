-- Which parts an entry meets goes by the shape of the tree, and only an entry answered `ok` meets any.
use Rattle.std.proofs.Common.{ℕ, ◌≡◌, ◌+◌, Option, Some, None, List, length, true, refl, ◌∙◌, ap}
use Rattle.std.proofs.lemmas.Bool.{false≢true}
use Rattle.std.proofs.lemmas.List.{length-map}
use Rattle.frang_base.specs.declared.op.Op.{Op}
use Rattle.frang_base.specs.declared.op.Op.TheVariants as op
use Rattle.frang_base.specs.declared.reply.Reply.{Reply}
use Rattle.frang_base.specs.declared.reply.Reply.TheVariants as reply
use Rattle.tree_definitions.specs.declared.cells.Cell.TheVariants.{Doubtful}
use Rattle.tree_definitions.specs.declared.node.Node.{Node}
use Rattle.tree_definitions.specs.declared.node.Node.TheVariants.{Dir, File, Link}
use Rattle.tree_definitions.specs.History.{file_at, file_of}
use Rattle.tree_definitions.specs.Perform.{Step, Goes, Stops, resolved}
use Rattle.tree_definitions.specs.Place.{Place, Root, Taken, Free, Nowhere, place}
use Rattle.tree_definitions.specs.Removal.{meets_in, size_of, step_writes}
use Rattle.tree_definitions.specs.Touched.{shape_of, shaped}
use Rattle.tree_definitions.specs.Tree.{FileTree, node_at}
use Rattle.tree_laws.proofs.ShapeNodes.{found}
use Rattle.tree_laws.proofs.ShapePlaces.{same_place}
use Rattle.tree_laws.proofs.ShapeResolving.{resolved_shape}
use Rattle.line_histories.specs.LinePlans.{without_bytes}

module _ (t : FileTree) (birth part : ℕ) where
  -- a file by its shape
  node_met : (from to c : ℕ) (o : Option Node) → meets_in birth part (file_of c (shaped o)) from to ≡ meets_in birth part (file_of c o) from to
  node_met from to c (Some (File cells links when)) = refl
  node_met from to c (Some (Dir entries blocks)) = refl
  node_met from to c (Some (Link target links)) = refl
  node_met from to c None = refl

  node_size : (c : ℕ) (o : Option Node) → size_of (file_of c (shaped o)) ≡ size_of (file_of c o)
  node_size c (Some (File cells links when)) = length-map cells (λ c. Doubtful)
  node_size c (Some (Dir entries blocks)) = refl
  node_size c (Some (Link target links)) = refl
  node_size c None = refl

  place_met : (from to : ℕ) (p : Place) → meets_in birth part (file_at (shape_of t) p) from to ≡ meets_in birth part (file_at t p) from to
  place_met from to Root = refl
  place_met from to (Taken dir es k name c) = ap (λ o. meets_in birth part (file_of c o) from to) (found t c) ∙ node_met from to c (node_at t c)
  place_met from to (Free dir es k name) = refl
  place_met from to (Nowhere r) = refl

  place_size : (p : Place) → size_of (file_at (shape_of t) p) ≡ size_of (file_at t p)
  place_size Root = refl
  place_size (Taken dir es k name c) = ap (λ o. size_of (file_of c o)) (found t c) ∙ node_size c (node_at t c)
  place_size (Free dir es k name) = refl
  place_size (Nowhere r) = refl

  path_met : (path : List (List ℕ)) (from to : ℕ) → meets_in birth part (file_at (shape_of t) (place (shape_of t) path)) from to ≡ meets_in birth part (file_at t (place t path)) from to
  path_met path from to = ap (λ p. meets_in birth part (file_at (shape_of t) p) from to) (same_place t path) ∙ place_met from to (place t path)

  path_size : (path : List (List ℕ)) → size_of (file_at (shape_of t) (place (shape_of t) path)) ≡ size_of (file_at t (place t path))
  path_size path = ap (λ p. size_of (file_at (shape_of t) p)) (same_place t path) ∙ place_size (place t path)

  step_met : (step : Step) → step_writes (shape_of t) step reply.Ok birth part ≡ step_writes t step reply.Ok birth part
  step_met (Goes (op.Write path off bytes)) = path_met path off (off + length bytes)
  step_met (Goes (op.Fill path off len byte)) = path_met path off (off + len)
  step_met (Goes (op.Truncate path len)) = path_met path len (size_of (file_at (shape_of t) (place (shape_of t) path))) ∙ ap (λ z. meets_in birth part (file_at t (place t path)) len z) (path_size path)
  step_met (Goes o) = refl
  step_met (Stops r) = refl

  -- only an entry answered `ok` meets parts
  pub is_ok : (step : Step) (r : Reply) → step_writes t step r birth part ≡ true → r ≡ reply.Ok
  is_ok (Goes (op.Write path off bytes)) reply.Ok h = refl
  is_ok (Goes (op.Fill path off len byte)) reply.Ok h = refl
  is_ok (Goes (op.Truncate path len)) reply.Ok h = refl
  is_ok (Goes o) r h = absurd (false≢true h)
  is_ok (Stops q) r h = absurd (false≢true h)

  pub by_shape : (o : Op) → step_writes (shape_of t) (resolved (shape_of t) o).step reply.Ok birth part ≡ step_writes t (resolved t o).step reply.Ok birth part
  by_shape o = ap (λ w. step_writes (shape_of t) w.step reply.Ok birth part) (resolved_shape t o) ∙ step_met (resolved t o).step

-- a reply that is `ok` but for bytes is
pub ok_aside : (r : Reply) → without_bytes r ≡ reply.Ok → r ≡ reply.Ok
ok_aside (reply.Shown bytes) h = absurd (cc)
ok_aside r h = h
