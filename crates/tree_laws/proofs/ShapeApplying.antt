-- Each operation goes by the shape.
use Rattle.std.proofs.Common.{ℕ, List, [], length, map, replicate, refl, sym, subst}
use Rattle.frang_base.specs.declared.op.Op.TheVariants as op
use Rattle.frang_base.specs.declared.reply.Reply.TheVariants as reply
use Rattle.tree_definitions.specs.declared.cells.Cell.{Cell}
use Rattle.tree_definitions.specs.declared.cells.Cell.TheVariants.{Byte}
use Rattle.tree_definitions.specs.declared.node.Node.TheVariants.{Dir, File, Link}
use Rattle.tree_definitions.specs.Tree.{FileTree}
use Rattle.tree_definitions.specs.Place.{Place, place}
use Rattle.tree_definitions.specs.Apply.{Applied, says, made, linked, unlinked, dir_removed, at_node, at_file, if_file, overwritten, written, truncated, shown, described, listed, target_of, time_of}
use Rattle.tree_definitions.specs.Touched.{shape_of, doubts}
use Rattle.tree_laws.specs.Acting.{GoesByShape, ApplyGoesByShape}
use Rattle.tree_laws.proofs.ShapePlaces.{same_place}
use Rattle.tree_laws.proofs.Outcomes.{stays, at_node_shape}
use Rattle.tree_laws.proofs.Names.{made_shape, linked_shape, unlinked_shape, dir_removed_shape, renamed_shape}
use Rattle.tree_laws.proofs.Files.{over_doubts, if_file_shape, written_shape, truncated_shape, shown_shape, described_shape, listed_shape, target_shape}

module _ (t : FileTree) where
  -- what is done at a place is done at that of the shape
  at_place : (f h : Place → Applied) (path : List (List ℕ)) → ((p : Place) → GoesByShape (f p) (h p)) → GoesByShape (f (place t path)) (h (place (shape_of t) path))
  at_place f h path each = subst (λ p. GoesByShape (f (place t path)) (h p)) (sym (same_place t path)) (each (place t path))

  at_file_shape : (next after : ℕ → List Cell → ℕ → ℕ → Applied) → ((b : ℕ) (cells : List Cell) (links when : ℕ) → GoesByShape (next b cells links when) (after b (doubts cells) links when))
      → (path : List (List ℕ)) → GoesByShape (at_file t (place t path) next) (at_file (shape_of t) (place (shape_of t) path) after)
  at_file_shape next after each path = at_place (λ p. at_file t p next) (λ p. at_file (shape_of t) p after) path
      (at_node_shape t (λ b o. if_file t next b o) (λ b o. if_file (shape_of t) after b o) (if_file_shape t next after each))

  linked_places : (path to : List (List ℕ)) → GoesByShape (linked t (place t path) (place t to)) (linked (shape_of t) (place (shape_of t) path) (place (shape_of t) to))
  linked_places path to =
      at_place (λ q. linked t (place t path) q) (λ q. linked (shape_of t) (place (shape_of t) path) q) to
      (λ q. at_place (λ p. linked t p q) (λ p. linked (shape_of t) p q) path (λ p. linked_shape t p q))

pub apply_shape : ApplyGoesByShape
apply_shape t (op.Create path) b when m = at_place t (made t b (File [] 1 0)) (made (shape_of t) b (File [] 1 0)) path (made_shape t b (File [] 1 0) refl)
apply_shape t (op.Mkdir path) b when m = at_place t (made t b (Dir [] 0)) (made (shape_of t) b (Dir [] 0)) path (made_shape t b (Dir [] 0) refl)
apply_shape t (op.Symlink path target) b when m = at_place t (made t b (Link target 1)) (made (shape_of t) b (Link target 1)) path (made_shape t b (Link target 1) refl)
apply_shape t (op.Link path to) b when m = linked_places t path to
apply_shape t (op.Unlink path) b when m = at_place t (unlinked t) (unlinked (shape_of t)) path (unlinked_shape t)
apply_shape t (op.Rmdir path) b when m = at_place t (dir_removed t) (dir_removed (shape_of t)) path (dir_removed_shape t)
apply_shape t (op.Rename path to) b when m = renamed_shape t path to
apply_shape t (op.Write path off bytes) b when m =
    let new = map Byte bytes in
    at_file_shape t (λ f cells links old. written t m f cells links when off (length bytes) (λ all. overwritten all off new)) (λ f cells links old. written (shape_of t) m f cells links when off (length bytes) (λ all. overwritten all off new))
    (λ f cells links old. written_shape t m f cells links when off (length bytes) (λ all. overwritten all off new) (over_doubts cells off new)) path
apply_shape t (op.Fill path off len byte) b when m =
    let new = replicate len (Byte byte) in
    at_file_shape t (λ f cells links old. written t m f cells links when off len (λ all. overwritten all off new)) (λ f cells links old. written (shape_of t) m f cells links when off len (λ all. overwritten all off new))
    (λ f cells links old. written_shape t m f cells links when off len (λ all. overwritten all off new) (over_doubts cells off new)) path
apply_shape t (op.Truncate path len) b when m =
    at_file_shape t (λ f cells links old. truncated t f cells links when len) (λ f cells links old. truncated (shape_of t) f cells links when len) (λ f cells links old. truncated_shape t f cells links when len) path
apply_shape t (op.Read path off len) b when m =
    at_file_shape t (λ f cells links at. shown t cells off len) (λ f cells links at. shown (shape_of t) cells off len) (λ f cells links at. shown_shape t cells off len) path
apply_shape t (op.Stat path) b when m = at_place t (λ p. at_node t p (λ b o. described t o)) (λ p. at_node (shape_of t) p (λ b o. described (shape_of t) o)) path
    (at_node_shape t (λ b o. described t o) (λ b o. described (shape_of t) o) (λ b o. described_shape t o))
apply_shape t (op.List path) b when m = at_place t (λ p. at_node t p (λ b o. listed t o)) (λ p. at_node (shape_of t) p (λ b o. listed (shape_of t) o)) path
    (at_node_shape t (λ b o. listed t o) (λ b o. listed (shape_of t) o) (λ b o. listed_shape t o))
apply_shape t (op.Readlink path) b when m = at_place t (λ p. at_node t p (λ b o. target_of t o)) (λ p. at_node (shape_of t) p (λ b o. target_of (shape_of t) o)) path
    (at_node_shape t (λ b o. target_of t o) (λ b o. target_of (shape_of t) o) (λ b o. target_shape t o))
apply_shape t (op.Time path) b when m =
    at_file_shape t (λ f cells links at. says t (time_of at)) (λ f cells links at. says (shape_of t) (time_of at)) (λ f cells links at. stays t (time_of at)) path
apply_shape t op.Sync b when m = stays t reply.Ok
apply_shape t op.Mount b when m = stays t reply.Ok
apply_shape t op.Unmount b when m = stays t reply.Ok
apply_shape t op.Crash b when m = stays t reply.Ok
apply_shape t (op.CrashAt k) b when m = stays t reply.Ok
apply_shape t (op.CutAt k) b when m = stays t reply.Ok
apply_shape t op.Stall b when m = stays t reply.Ok
