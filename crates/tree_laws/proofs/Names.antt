-- The operations on names go by the shape.
use Rattle.std.proofs.Common.{ℕ, ◌≡◌, ◌==◌, not, ◌&&◌, List, [], ◌∷◌, nat_le, refl, sym, ◌∙◌, ap, ap₂, subst}
use Rattle.std.specs.List.{list_any}
use Rattle.frang_base.specs.declared.limits.TheConstants.{LINKS_MAX}
use Rattle.frang_base.specs.declared.reply.Reply.TheVariants as reply
use Rattle.tree_definitions.specs.declared.node.Node.{Node}
use Rattle.tree_definitions.specs.declared.node.Node.TheVariants.{Dir}
use Rattle.tree_definitions.specs.Entries.{Entries, without_entry}
use Rattle.tree_definitions.specs.Tree.{FileTree, node_at, with_node, without_node, inodes_full, entries_full, lacks_block}
use Rattle.tree_definitions.specs.Place.{Place, Root, Taken, Free, Nowhere, place}
use Rattle.tree_definitions.specs.Apply.{named, made, is_dir, links_of, has_entries, one_link_more, linked_to, linked, one_link_fewer, unlinked, dir_removed, moved, room_made, moved_onto, moved_to, goes_through, renamed_to, renamed_from, renamed}
use Rattle.tree_definitions.specs.Touched.{node_shape, shape_of}
use Rattle.tree_laws.proofs.Rooms.{same_inodes, same_lacks}
use Rattle.tree_laws.specs.Acting.{GoesByShape}
use Rattle.tree_laws.proofs.ShapeNodes.{found, with_shape, without_shape, room_stays}
use Rattle.tree_laws.proofs.ShapePlaces.{same_place, same_walked}
use Rattle.tree_laws.proofs.Changes.{same_dir, same_links, same_entries, named_shape, more_shape, fewer_by, moved_shape, room_shape}
use Rattle.tree_laws.proofs.Outcomes.{says_shape, stays, either}

module _ (t : FileTree) where
  -- ---- create, mkdir, symlink: of a node that is its own shape, as a new one is
  pub made_shape : (b : ℕ) (x : Node) → node_shape x ≡ x → (p : Place) → GoesByShape (made t b x p) (made (shape_of t) b x p)
  made_shape b x own Root = stays t reply.Exist
  made_shape b x own (Nowhere r) = stays t r
  made_shape b x own (Taken dir es n name old) = stays t reply.Exist
  made_shape b x own (Free dir es n name) =
      let new : with_node (shape_of t) b x ≡ shape_of (with_node t b x) = ap (with_node (shape_of t) b) (sym own) ∙ with_shape t b x in
      let done = says_shape (named (with_node t b x) dir es n name b) (named (with_node (shape_of t) b x) dir es n name b) reply.Ok
      (ap (λ u. named u dir es n name b) new ∙ named_shape (with_node t b x) dir es n name b) in
      either (entries_full es) (entries_full es) _ _ _ _ refl (stays t reply.DirFull)
      (either (inodes_full t) (inodes_full (shape_of t)) _ _ _ _ (same_inodes (shape_of t) t (room_stays t)) (stays t reply.NoInode)
      (either (lacks_block t es n) (lacks_block (shape_of t) es n) _ _ _ _ (same_lacks (shape_of t) t (room_stays t) es n) (stays t reply.NoDirBlock) done))

  -- ---- link
  linked_to_shape : (b : ℕ) (p : Place) → GoesByShape (linked_to t b p) (linked_to (shape_of t) b p)
  linked_to_shape b Root = stays t reply.Exist
  linked_to_shape b (Nowhere r) = stays t r
  linked_to_shape b (Taken dir es n name old) = stays t reply.Exist
  linked_to_shape b (Free dir es n name) =
      let more = one_link_more t b (node_at t b) in
      let more_too = one_link_more (shape_of t) b (node_at (shape_of t) b) in
      let done = says_shape (named more dir es n name b) (named more_too dir es n name b) reply.Ok
      (ap (λ u. named u dir es n name b) (more_shape t b) ∙ named_shape more dir es n name b) in
      either (nat_le LINKS_MAX (links_of (node_at t b))) (nat_le LINKS_MAX (links_of (node_at (shape_of t) b))) _ _ _ _ (ap (nat_le LINKS_MAX) (same_links t b)) (stays t reply.MLink)
      (either (entries_full es) (entries_full es) _ _ _ _ refl (stays t reply.DirFull)
      (either (lacks_block t es n) (lacks_block (shape_of t) es n) _ _ _ _ (same_lacks (shape_of t) t (room_stays t) es n) (stays t reply.NoDirBlock) done))

  pub linked_shape : (p q : Place) → GoesByShape (linked t p q) (linked (shape_of t) p q)
  linked_shape Root q = stays t reply.IsDir
  linked_shape (Nowhere r) q = stays t r
  linked_shape (Free dir es n name) q = stays t reply.NoEnt
  linked_shape (Taken dir es n name b) q = either (is_dir (node_at t b)) (is_dir (node_at (shape_of t) b)) _ _ _ _ (same_dir t b) (stays t reply.IsDir) (linked_to_shape b q)

  -- ---- unlink, rmdir
  pub unlinked_shape : (p : Place) → GoesByShape (unlinked t p) (unlinked (shape_of t) p)
  unlinked_shape Root = stays t reply.IsDir
  unlinked_shape (Nowhere r) = stays t r
  unlinked_shape (Free dir es n name) = stays t reply.NoEnt
  unlinked_shape (Taken dir es n name b) =
      let left = Dir (without_entry es name) n in
      let gone : one_link_fewer (with_node (shape_of t) dir left) b (node_at (shape_of t) b) ≡ shape_of (one_link_fewer (with_node t dir left) b (node_at t b)) =
      ap₂ (λ u o. one_link_fewer u b o) (with_shape t dir left) (found t b) ∙ fewer_by (with_node t dir left) b (node_at t b) in
      either (is_dir (node_at t b)) (is_dir (node_at (shape_of t) b)) _ _ _ _ (same_dir t b) (stays t reply.IsDir)
      (says_shape (one_link_fewer (with_node t dir left) b (node_at t b)) (one_link_fewer (with_node (shape_of t) dir left) b (node_at (shape_of t) b)) reply.Ok gone)

  pub dir_removed_shape : (p : Place) → GoesByShape (dir_removed t p) (dir_removed (shape_of t) p)
  dir_removed_shape Root = stays t reply.Inval
  dir_removed_shape (Nowhere r) = stays t r
  dir_removed_shape (Free dir es n name) = stays t reply.NoEnt
  dir_removed_shape (Taken dir es n name b) =
      let left = Dir (without_entry es name) n in
      let gone : without_node (with_node (shape_of t) dir left) b ≡ shape_of (without_node (with_node t dir left) b) =
      ap (λ u. without_node u b) (with_shape t dir left) ∙ without_shape (with_node t dir left) b in
      either (not (is_dir (node_at t b))) (not (is_dir (node_at (shape_of t) b))) _ _ _ _ (ap not (same_dir t b)) (stays t reply.NotDir)
      (either (has_entries (node_at t b)) (has_entries (node_at (shape_of t) b)) _ _ _ _ (same_entries t b) (stays t reply.NotEmpty)
      (says_shape (without_node (with_node t dir left) b) (without_node (with_node (shape_of t) dir left) b) reply.Ok gone))

  -- ---- rename
  onto_shape : (from : ℕ) (name : List ℕ) (b to : ℕ) (new : List ℕ) (old : ℕ) → GoesByShape (moved_onto t from name b to new old) (moved_onto (shape_of t) from name b to new old)
  onto_shape from name b to new old =
      let gone : one_link_fewer (moved (shape_of t) from name to new b) old (node_at (shape_of t) old) ≡ shape_of (one_link_fewer (moved t from name to new b) old (node_at t old)) =
      ap₂ (λ u o. one_link_fewer u old o) (moved_shape t from name to new b) (found t old) ∙ fewer_by (moved t from name to new b) old (node_at t old) in
      either (old == b) (old == b) _ _ _ _ refl (stays t reply.Ok)
      (either (is_dir (node_at t b) && not (is_dir (node_at t old))) (is_dir (node_at (shape_of t) b) && not (is_dir (node_at (shape_of t) old))) _ _ _ _
      (ap₂ (λ x y. x && not y) (same_dir t b) (same_dir t old)) (stays t reply.NotDir)
      (either (is_dir (node_at t old) && not (is_dir (node_at t b))) (is_dir (node_at (shape_of t) old) && not (is_dir (node_at (shape_of t) b))) _ _ _ _
      (ap₂ (λ x y. x && not y) (same_dir t old) (same_dir t b)) (stays t reply.IsDir)
      (either (has_entries (node_at t old)) (has_entries (node_at (shape_of t) old)) _ _ _ _ (same_entries t old) (stays t reply.NotEmpty)
      (says_shape (one_link_fewer (moved t from name to new b) old (node_at t old)) (one_link_fewer (moved (shape_of t) from name to new b) old (node_at (shape_of t) old)) reply.Ok gone))))

  to_shape : (from : ℕ) (name : List ℕ) (b to : ℕ) (es : Entries) (n : ℕ) (new : List ℕ) → GoesByShape (moved_to t from name b to es n new) (moved_to (shape_of t) from name b to es n new)
  to_shape from name b to es n new =
      let far : moved (room_made (shape_of t) to es n) from name to new b ≡ shape_of (moved (room_made t to es n) from name to new b) =
      ap (λ u. moved u from name to new b) (room_shape t to es n) ∙ moved_shape (room_made t to es n) from name to new b in
      either (from == to) (from == to) _ _ _ _ refl (says_shape (moved t from name to new b) (moved (shape_of t) from name to new b) reply.Ok (moved_shape t from name to new b))
      (either (entries_full es) (entries_full es) _ _ _ _ refl (stays t reply.DirFull)
      (either (lacks_block t es n) (lacks_block (shape_of t) es n) _ _ _ _ (same_lacks (shape_of t) t (room_stays t) es n) (stays t reply.NoDirBlock)
      (says_shape (moved (room_made t to es n) from name to new b) (moved (room_made (shape_of t) to es n) from name to new b) reply.Ok far)))

  same_through : (path : List (List ℕ)) (b : ℕ) → goes_through (shape_of t) path b ≡ goes_through t path b
  same_through path b = ap₂ (λ x l. x && list_any (λ c. c == b) l) (same_dir t b) (same_walked t path)

  renamed_to_shape : (from : ℕ) (name : List ℕ) (b : ℕ) (path : List (List ℕ)) (p : Place) → GoesByShape (renamed_to t from name b path p) (renamed_to (shape_of t) from name b path p)
  renamed_to_shape from name b path Root = stays t reply.Inval
  renamed_to_shape from name b path (Nowhere r) = stays t r
  renamed_to_shape from name b path (Taken to es n new old) =
      either (goes_through t path b) (goes_through (shape_of t) path b) _ _ _ _ (same_through path b) (stays t reply.Inval) (onto_shape from name b to new old)
  renamed_to_shape from name b path (Free to es n new) =
      either (goes_through t path b) (goes_through (shape_of t) path b) _ _ _ _ (same_through path b) (stays t reply.Inval) (to_shape from name b to es n new)

  renamed_from_shape : (p : Place) (to : List (List ℕ)) → GoesByShape (renamed_from t p to) (renamed_from (shape_of t) p to)
  renamed_from_shape Root to = stays t reply.Inval
  renamed_from_shape (Nowhere r) to = stays t r
  renamed_from_shape (Free dir es n name) to = stays t reply.NoEnt
  renamed_from_shape (Taken dir es n name b) to =
      subst (λ q. GoesByShape (renamed_to t dir name b to (place t to)) (renamed_to (shape_of t) dir name b to q)) (sym (same_place t to)) (renamed_to_shape dir name b to (place t to))

  pub renamed_shape : (path to : List (List ℕ)) → GoesByShape (renamed t path to) (renamed (shape_of t) path to)
  renamed_shape [] to = stays t reply.Inval
  renamed_shape (p ∷ ps) [] = stays t reply.Inval
  renamed_shape (p ∷ ps) (q ∷ qs) =
      subst (λ z. GoesByShape (renamed_from t (place t (p ∷ ps)) (q ∷ qs)) (renamed_from (shape_of t) z (q ∷ qs))) (sym (same_place t (p ∷ ps))) (renamed_from_shape (place t (p ∷ ps)) (q ∷ qs))
