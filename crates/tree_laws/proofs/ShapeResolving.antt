-- Walks through links go by the shape, which keeps links and their targets.
use Rattle.std.proofs.Common.{ℕ, zero, suc, ◌≡◌, Bool, true, false, not, ◌||◌, Option, Some, None, List, [], ◌∷◌, ◌++◌, cond, refl, sym, ◌∙◌, ap, ap₂, subst}
use Rattle.std.specs.Prelude.{Result, Ok, Err}
use Rattle.frang_base.specs.PathText.{path_of}
use Rattle.frang_base.specs.declared.fault.PathFault.{PathFault}
use Rattle.frang_base.specs.declared.limits.TheConstants.{LINKS_FOLLOWED_MAX}
use Rattle.frang_base.specs.declared.op.Op.{Op}
use Rattle.frang_base.specs.declared.op.Op.TheVariants as op
use Rattle.frang_base.specs.declared.reply.Reply.TheVariants as reply
use Rattle.tree_definitions.specs.declared.node.Node.{Node}
use Rattle.tree_definitions.specs.declared.node.Node.TheVariants.{Dir, File, Link}
use Rattle.tree_definitions.specs.Entries.{entry_at}
use Rattle.tree_definitions.specs.Tree.{FileTree, node_at}
use Rattle.tree_definitions.specs.Resolve.{WalkEnd, At, Refused, Resolution, ends_at, refused, passes, is_absolute, target_text, at_target, at_entry, at_name, below_node, resolve_names, resolve_from, resolve}
use Rattle.tree_definitions.specs.Perform.{Step, Goes, Stops, by_path, is_found, by_second, by_first, by_paths, resolved, perform_step, perform}
use Rattle.tree_definitions.specs.Touched.{shape_of, shaped}
use Rattle.tree_laws.specs.Acting.{GoesByShape, PerformGoesByShape, WalksGoByShape, ResolvedGoesByShape}
use Rattle.tree_laws.proofs.ShapeNodes.{found}
use Rattle.tree_laws.proofs.Changes.{same_dir}
use Rattle.tree_laws.proofs.Outcomes.{stays}
use Rattle.tree_laws.proofs.ShapeApplying.{apply_shape}

-- at a node, where a link is followed alike and a directory is gone into alike
entry_same : (last : Bool) (follow after : List ℕ → Resolution) (into then : Resolution) (here : List (List ℕ)) (b : ℕ) (names : List (List ℕ)) (o : Option Node)
    → ((target : List ℕ) → after target ≡ follow target) → then ≡ into → at_entry last after then here b names (shaped o) ≡ at_entry last follow into here b names o
entry_same last follow after into then here b [] (Some (Link target links)) same on = ap (λ w. cond last w (ends_at here (Some b))) (same target)
entry_same last follow after into then here b [] (Some (Dir es n)) same on = refl
entry_same last follow after into then here b [] (Some (File cells links when)) same on = refl
entry_same last follow after into then here b [] None same on = refl
entry_same last follow after into then here b (x ∷ xs) (Some (Link target links)) same on = same target
entry_same last follow after into then here b (x ∷ xs) (Some (Dir es n)) same on = on
entry_same last follow after into then here b (x ∷ xs) (Some (File cells links when)) same on = refl
entry_same last follow after into then here b (x ∷ xs) None same on = refl

abbrev Follow : Type 0
Follow = ℕ → List ℕ → ℕ → List (List ℕ) → List (List ℕ) → Resolution

-- a link is followed the same way
abbrev SameFollow : Follow → Follow → Type 0
SameFollow f h = (link : ℕ) (target : List ℕ) (holder : ℕ) (over rest : List (List ℕ)) → h link target holder over rest ≡ f link target holder over rest

module _ (t : FileTree) (last : Bool) where
  name_same : (follow after : ℕ → List ℕ → Resolution) (into then : ℕ → Resolution) (here names : List (List ℕ)) (o : Option ℕ)
      → ((b : ℕ) (target : List ℕ) → after b target ≡ follow b target) → ((b : ℕ) → then b ≡ into b)
      → at_name (shape_of t) last after then here names o ≡ at_name t last follow into here names o
  name_same follow after into then here names (Some b) same on =
      ap (at_entry last (after b) (then b) here b names) (found t b) ∙ entry_same last (follow b) (after b) (into b) (then b) here b names (node_at t b) (same b) (on b)
  name_same follow after into then here [] None same on = refl
  name_same follow after into then here (x ∷ xs) None same on = refl

  below_same : (follow after : ℕ → List ℕ → Resolution) (into then : ℕ → Resolution) (here : List (List ℕ)) (dir : ℕ) (name : List ℕ) (names : List (List ℕ)) (o : Option Node)
      → ((b : ℕ) (target : List ℕ) → after b target ≡ follow b target) → ((b : ℕ) → then b ≡ into b)
      → below_node (shape_of t) last after then here dir name names (shaped o) ≡ below_node t last follow into here dir name names o
  below_same follow after into then here dir name names (Some (Dir es n)) same on = ap (passes dir) (name_same follow after into then here names (entry_at es name) same on)
  below_same follow after into then here dir name names (Some (File cells links when)) same on = refl
  below_same follow after into then here dir name names (Some (Link target links)) same on = refl
  below_same follow after into then here dir name names None same on = refl

  names_same : (f h : Follow) → SameFollow f h → (names : List (List ℕ)) (dir : ℕ) (above : List (List ℕ)) → resolve_names (shape_of t) last h dir above names ≡ resolve_names t last f dir above names
  names_same f h same [] dir above = refl
  names_same f h same (name ∷ names) dir above =
      let here = above ++ name ∷ [] in
      ap (below_node (shape_of t) last (λ link target. h link target dir above names) (λ b. resolve_names (shape_of t) last h b here names) here dir name names) (found t dir)
      ∙ below_same (λ link target. f link target dir above names) (λ link target. h link target dir above names) (λ b. resolve_names t last f b here names) (λ b. resolve_names (shape_of t) last h b here names)
      here dir name names (node_at t dir) (λ link target. same link target dir above names) (λ b. names_same f h same names b here)

  target_same : (next after : ℕ → List (List ℕ) → List (List ℕ) → Resolution) → ((dir : ℕ) (above names : List (List ℕ)) → after dir above names ≡ next dir above names)
      → (absolute : Bool) (way : Result (List (List ℕ)) PathFault) (dir : ℕ) (above names : List (List ℕ)) → at_target after absolute way dir above names ≡ at_target next absolute way dir above names
  target_same next after same absolute (Err fault) dir above names = refl
  target_same next after same true (Ok inner) dir above names = same 0 [] (inner ++ names)
  target_same next after same false (Ok inner) dir above names = same dir above (inner ++ names)

  from_same : (left : ℕ) (dir : ℕ) (above names : List (List ℕ)) → resolve_from left (shape_of t) last dir above names ≡ resolve_from left t last dir above names
  from_same zero dir above names = names_same (λ link target holder over rest. refused reply.Loop) (λ link target holder over rest. refused reply.Loop) (λ link target holder over rest. refl) names dir above
  from_same (suc left) dir above names =
      names_same (λ link target holder over rest. passes link (at_target (resolve_from left t last) (is_absolute target) (path_of (target_text target)) holder over rest))
      (λ link target holder over rest. passes link (at_target (resolve_from left (shape_of t) last) (is_absolute target) (path_of (target_text target)) holder over rest))
      (λ link target holder over rest. ap (passes link) (target_same (resolve_from left t last) (resolve_from left (shape_of t) last) (from_same left) (is_absolute target) (path_of (target_text target)) holder over rest))
      names dir above

pub walk_shape : WalksGoByShape
unfolding resolve
walk_shape t last path = from_same t last LINKS_FOLLOWED_MAX 0 [] path

-- ---- what an operation comes to
module _ (t : FileTree) where
  one_path : (last : Bool) (path : List (List ℕ)) (make : List (List ℕ) → Op) → by_path (resolve (shape_of t) last path) make ≡ by_path (resolve t last path) make
  one_path last path make = ap (λ w. by_path w make) (walk_shape t last path)

  module _ (dirs : Bool) (to : List (List ℕ)) (make : List (List ℕ) → List (List ℕ) → Op) where
    found_same : (o : Option ℕ) → is_found (shape_of t) dirs o ≡ is_found t dirs o
    found_same (Some b) = ap (λ d. dirs || not d) (same_dir t b)
    found_same None = refl

    first_same : (end : WalkEnd) (trail : List ℕ) → by_first (shape_of t) dirs end trail (resolve t false to) to make ≡ by_first t dirs end trail (resolve t false to) to make
    first_same (At p o) trail = ap (λ c. by_second c trail (resolve t false to) to (make p)) (found_same o)
    first_same (Refused r) trail = refl

    two_paths : (path : List (List ℕ)) → by_paths (shape_of t) dirs (resolve (shape_of t) false path) (resolve (shape_of t) false to) to make ≡ by_paths t dirs (resolve t false path) (resolve t false to) to make
    two_paths path =
        ap₂ (λ v w. by_paths (shape_of t) dirs v w to make) (walk_shape t false path) (walk_shape t false to) ∙ first_same (resolve t false path).end (resolve t false path).trail

pub resolved_shape : ResolvedGoesByShape
resolved_shape t (op.Create path) = one_path t false path (λ p. op.Create p)
resolved_shape t (op.Mkdir path) = one_path t false path (λ p. op.Mkdir p)
resolved_shape t (op.Symlink path target) = one_path t false path (λ p. op.Symlink p target)
resolved_shape t (op.Link path to) = two_paths t false to (λ p q. op.Link p q) path
resolved_shape t (op.Unlink path) = one_path t false path (λ p. op.Unlink p)
resolved_shape t (op.Rmdir path) = one_path t false path (λ p. op.Rmdir p)
resolved_shape t (op.Rename [] to) = refl
resolved_shape t (op.Rename (n ∷ ns) []) = refl
resolved_shape t (op.Rename (n ∷ ns) (m ∷ ms)) = two_paths t true (m ∷ ms) (λ p q. op.Rename p q) (n ∷ ns)
resolved_shape t (op.Write path off bytes) = one_path t true path (λ p. op.Write p off bytes)
resolved_shape t (op.Fill path off len byte) = one_path t true path (λ p. op.Fill p off len byte)
resolved_shape t (op.Truncate path len) = one_path t true path (λ p. op.Truncate p len)
resolved_shape t (op.Read path off len) = one_path t true path (λ p. op.Read p off len)
resolved_shape t (op.Stat path) = one_path t false path (λ p. op.Stat p)
resolved_shape t (op.List path) = one_path t true path (λ p. op.List p)
resolved_shape t (op.Readlink path) = one_path t false path (λ p. op.Readlink p)
resolved_shape t (op.Time path) = one_path t true path (λ p. op.Time p)
resolved_shape t op.Sync = refl
resolved_shape t op.Mount = refl
resolved_shape t op.Unmount = refl
resolved_shape t op.Crash = refl
resolved_shape t (op.CrashAt k) = refl
resolved_shape t (op.CutAt k) = refl
resolved_shape t op.Stall = refl

step_shape : (t : FileTree) (s : Step) (b when m : ℕ) → GoesByShape (perform_step t s b when m) (perform_step (shape_of t) s b when m)
step_shape t (Goes o) b when m = apply_shape t o b when m
step_shape t (Stops r) b when m = stays t r

pub perform_shape : PerformGoesByShape
perform_shape t o b when m =
    subst (λ z. GoesByShape (perform t o b when m) (perform_step (shape_of t) z.step b when m)) (sym (resolved_shape t o)) (step_shape t (resolved t o).step b when m)
