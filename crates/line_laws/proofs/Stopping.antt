-- A walk that is refused isn't refused by `ok`.
use Rattle.std.proofs.Common.{ℕ, zero, suc, ◌≡◌, Bool, true, false, not, Option, Some, None, List, [], ◌∷◌, ◌++◌, cond, refl}
use Rattle.std.specs.Prelude.{Result, Ok, Err}
use Rattle.frang_base.specs.PathText.{path_of}
use Rattle.frang_base.specs.declared.fault.PathFault.{PathFault}
use Rattle.frang_base.specs.declared.limits.TheConstants.{LINKS_FOLLOWED_MAX}
use Rattle.frang_base.specs.declared.op.Op.{Op}
use Rattle.frang_base.specs.declared.op.Op.TheVariants as op
use Rattle.frang_base.specs.declared.reply.Reply.TheVariants as reply
use Rattle.tree_definitions.specs.declared.node.Node.{Node}
use Rattle.tree_definitions.specs.declared.node.Node.TheVariants.{Dir, File, Link}
use Rattle.tree_definitions.specs.Entries.{entry_at}
use Rattle.tree_definitions.specs.Tree.{FileTree, node_at}
use Rattle.tree_definitions.specs.Resolve.{WalkEnd, At, Refused, Resolution, ends_at, refused, passes, is_absolute, target_text, at_target, at_entry, at_name, below_node, resolve_names, resolve_from, resolve}
use Rattle.tree_definitions.specs.Perform.{Step, Goes, Stops, step_of, is_found, by_second, by_first, resolved}
use Rattle.tree_definitions.specs.Touched.{is_ok}

-- it leads somewhere, or is refused by another reply
abbrev ends_well : WalkEnd → Bool
ends_well (At path found) = true
ends_well (Refused r) = not (is_ok r)

module _ (t : FileTree) (last : Bool) where
  abbrev Follow : Type 0
  Follow = ℕ → List ℕ → ℕ → List (List ℕ) → List (List ℕ) → Resolution

  module _ (f : Follow) (each : (link : ℕ) (target : List ℕ) (dir : ℕ) (above names : List (List ℕ)) → ends_well (f link target dir above names).end ≡ true) where
    entry_well : (dir : ℕ) (above here names : List (List ℕ)) (b : ℕ) (into : Resolution) → ends_well into.end ≡ true → (o : Option Node)
        → ends_well (at_entry last (λ target. f b target dir above names) into here b names o).end ≡ true
    entry_well dir above here [] b into h (Some (Link target links)) = go last
      where
        go : (c : Bool) → ends_well (cond c (f b target dir above []) (ends_at here (Some b))).end ≡ true
        go true = each b target dir above []
        go false = refl
    entry_well dir above here [] b into h (Some (Dir es n)) = refl
    entry_well dir above here [] b into h (Some (File cells n w)) = refl
    entry_well dir above here [] b into h None = refl
    entry_well dir above here (x ∷ xs) b into h (Some (Link target links)) = each b target dir above (x ∷ xs)
    entry_well dir above here (x ∷ xs) b into h (Some (Dir es n)) = h
    entry_well dir above here (x ∷ xs) b into h (Some (File cells n w)) = refl
    entry_well dir above here (x ∷ xs) b into h None = refl

    name_well : (dir : ℕ) (above here names : List (List ℕ)) (into : ℕ → Resolution) → ((b : ℕ) → ends_well (into b).end ≡ true) → (o : Option ℕ)
        → ends_well (at_name t last (λ link target. f link target dir above names) into here names o).end ≡ true
    name_well dir above here names into on (Some b) = entry_well dir above here names b (into b) (on b) (node_at t b)
    name_well dir above here [] into on None = refl
    name_well dir above here (x ∷ xs) into on None = refl

    node_well : (dir : ℕ) (name : List ℕ) (above here names : List (List ℕ)) (into : ℕ → Resolution) → ((b : ℕ) → ends_well (into b).end ≡ true) → (o : Option Node)
        → ends_well (below_node t last (λ link target. f link target dir above names) into here dir name names o).end ≡ true
    node_well dir name above here names into on (Some (Dir es n)) = name_well dir above here names into on (entry_at es name)
    node_well dir name above here names into on (Some (File cells n w)) = refl
    node_well dir name above here names into on (Some (Link target n)) = refl
    node_well dir name above here names into on None = refl

    names_well : (names : List (List ℕ)) (dir : ℕ) (above : List (List ℕ)) → ends_well (resolve_names t last f dir above names).end ≡ true
    names_well [] dir above = refl
    names_well (name ∷ names) dir above =
        let here = above ++ name ∷ [] in
        node_well dir name above here names (λ b. resolve_names t last f b here names) (λ b. names_well names b here) (node_at t dir)

  target_well : (next : ℕ → List (List ℕ) → List (List ℕ) → Resolution) → ((names : List (List ℕ)) (dir : ℕ) (above : List (List ℕ)) → ends_well (next dir above names).end ≡ true)
      → (absolute : Bool) (way : Result (List (List ℕ)) PathFault) (dir : ℕ) (above names : List (List ℕ)) → ends_well (at_target next absolute way dir above names).end ≡ true
  target_well next on absolute (Err fault) dir above names = refl
  target_well next on true (Ok inner) dir above names = on (inner ++ names) 0 []
  target_well next on false (Ok inner) dir above names = on (inner ++ names) dir above

  from_well : (left : ℕ) (names : List (List ℕ)) (dir : ℕ) (above : List (List ℕ)) → ends_well (resolve_from left t last dir above names).end ≡ true
  from_well zero names dir above = names_well (λ link target holder over rest. refused reply.Loop) (λ link target d over rest. refl) names dir above
  from_well (suc left) names dir above =
      names_well (λ link target holder over rest. passes link (at_target (resolve_from left t last) (is_absolute target) (path_of (target_text target)) holder over rest))
      (λ link target d over rest. target_well (resolve_from left t last) (from_well left) (is_absolute target) (path_of (target_text target)) d over rest) names dir above

  walk_well : (path : List (List ℕ)) → ends_well (resolve t last path).end ≡ true
  unfolding resolve
  walk_well path = from_well LINKS_FOLLOWED_MAX path 0 []

-- an operation goes on, or stops so
abbrev pub stops_well : Step → Bool
stops_well (Goes o) = true
stops_well (Stops r) = not (is_ok r)

step_well : (end : WalkEnd) (make : List (List ℕ) → Op) → ends_well end ≡ true → stops_well (step_of end make) ≡ true
step_well (At path found) make h = refl
step_well (Refused r) make h = h

second_well : (b : Bool) (trail : List ℕ) (walk : Resolution) (to : List (List ℕ)) (make : List (List ℕ) → Op) → ends_well walk.end ≡ true → stops_well (by_second b trail walk to make).step ≡ true
second_well true trail walk to make h = step_well walk.end make h
second_well false trail walk to make h = refl

first_well : (t : FileTree) (dirs : Bool) (end : WalkEnd) (trail : List ℕ) (walk : Resolution) (to : List (List ℕ)) (make : List (List ℕ) → List (List ℕ) → Op) → ends_well end ≡ true → ends_well walk.end ≡ true
    → stops_well (by_first t dirs end trail walk to make).step ≡ true
first_well t dirs (At path found) trail walk to make h g = second_well (is_found t dirs found) trail walk to (make path) g
first_well t dirs (Refused r) trail walk to make h g = h

module _ (t : FileTree) where
  one_well : (last : Bool) (path : List (List ℕ)) (make : List (List ℕ) → Op) → stops_well (step_of (resolve t last path).end make) ≡ true
  one_well last path make = step_well (resolve t last path).end make (walk_well t last path)

  two_well : (dirs : Bool) (path to : List (List ℕ)) (make : List (List ℕ) → List (List ℕ) → Op) → stops_well (by_first t dirs (resolve t false path).end (resolve t false path).trail (resolve t false to) to make).step ≡ true
  two_well dirs path to make = first_well t dirs (resolve t false path).end (resolve t false path).trail (resolve t false to) to make (walk_well t false path) (walk_well t false to)

  pub resolved_well : (o : Op) → stops_well (resolved t o).step ≡ true
  resolved_well (op.Create path) = one_well false path (λ p. op.Create p)
  resolved_well (op.Mkdir path) = one_well false path (λ p. op.Mkdir p)
  resolved_well (op.Symlink path target) = one_well false path (λ p. op.Symlink p target)
  resolved_well (op.Link path to) = two_well false path to (λ p q. op.Link p q)
  resolved_well (op.Unlink path) = one_well false path (λ p. op.Unlink p)
  resolved_well (op.Rmdir path) = one_well false path (λ p. op.Rmdir p)
  resolved_well (op.Rename [] to) = refl
  resolved_well (op.Rename (n ∷ ns) []) = refl
  resolved_well (op.Rename (n ∷ ns) (m ∷ ms)) = two_well true (n ∷ ns) (m ∷ ms) (λ p q. op.Rename p q)
  resolved_well (op.Write path off bytes) = one_well true path (λ p. op.Write p off bytes)
  resolved_well (op.Fill path off len byte) = one_well true path (λ p. op.Fill p off len byte)
  resolved_well (op.Truncate path len) = one_well true path (λ p. op.Truncate p len)
  resolved_well (op.Read path off len) = one_well true path (λ p. op.Read p off len)
  resolved_well (op.Stat path) = one_well false path (λ p. op.Stat p)
  resolved_well (op.List path) = one_well true path (λ p. op.List p)
  resolved_well (op.Readlink path) = one_well false path (λ p. op.Readlink p)
  resolved_well (op.Time path) = one_well true path (λ p. op.Time p)
  resolved_well op.Sync = refl
  resolved_well op.Mount = refl
  resolved_well op.Unmount = refl
  resolved_well op.Crash = refl
  resolved_well (op.CrashAt k) = refl
  resolved_well (op.CutAt k) = refl
  resolved_well op.Stall = refl
