-- A walk is refused for a name that isn't there, for what is no directory, or for too many links, and for nothing else.
use Rattle.std.proofs.Common.{ℕ, zero, suc, ◌≡◌, Bool, true, false, Option, Some, None, Result, Ok, Err, List, [], ◌∷◌, ◌++◌, cond, refl}
use Rattle.frang_base.specs.PathText.{path_of}
use Rattle.frang_base.specs.declared.fault.PathFault.{PathFault}
use Rattle.frang_base.specs.declared.limits.TheConstants.{LINKS_FOLLOWED_MAX}
use Rattle.frang_base.specs.declared.op.Op.{Op}
use Rattle.frang_base.specs.declared.op.Op.TheVariants as op
use Rattle.frang_base.specs.declared.reply.Reply.{Reply}
use Rattle.frang_base.specs.declared.reply.Reply.TheVariants as reply
use Rattle.tree_definitions.specs.declared.node.Node.{Node}
use Rattle.tree_definitions.specs.declared.node.Node.TheVariants.{Dir, File, Link}
use Rattle.tree_definitions.specs.Entries.{entry_at}
use Rattle.tree_definitions.specs.Perform.{Step, Goes, Stops, by_first, by_second, is_found, resolved, step_of}
use Rattle.tree_definitions.specs.Resolve.{Resolution, WalkEnd, At, Refused, at_entry, at_name, at_target, below_node, ends_at, is_absolute, passes, refused, resolve, resolve_from, resolve_names, target_text}
use Rattle.tree_definitions.specs.Tree.{FileTree, node_at}

module _ (wants : Reply → Bool) (no_entry : wants reply.NoEnt ≡ false) (no_directory : wants reply.NotDir ≡ false) (no_loop : wants reply.Loop ≡ false) where
  -- it is refused by a reply that is wanted
  abbrev ends_wanted : WalkEnd → Bool
  ends_wanted (At path found) = false
  ends_wanted (Refused r) = wants r

  module _ (tree : FileTree) (last : Bool) where
    abbrev Follow : Type 0
    Follow = ℕ → List ℕ → ℕ → List (List ℕ) → List (List ℕ) → Resolution

    module _ (follow : Follow) (each : (link : ℕ) (target : List ℕ) (dir : ℕ) (above names : List (List ℕ)) → ends_wanted (follow link target dir above names).end ≡ false) where
      entry_ends : (dir : ℕ) (above here names : List (List ℕ)) (birth : ℕ) (into : Resolution) → ends_wanted into.end ≡ false → (o : Option Node) →
          ends_wanted (at_entry last (λ target. follow birth target dir above names) into here birth names o).end ≡ false
      entry_ends dir above here [] birth into deep (Some (Link target links)) = go last
        where
          go : (b : Bool) → ends_wanted (cond b (follow birth target dir above []) (ends_at here (Some birth))).end ≡ false
          go true = each birth target dir above []
          go false = refl
      entry_ends dir above here [] birth into deep (Some (Dir entries blocks)) = refl
      entry_ends dir above here [] birth into deep (Some (File cells links when)) = refl
      entry_ends dir above here [] birth into deep None = refl
      entry_ends dir above here (name ∷ names) birth into deep (Some (Link target links)) = each birth target dir above (name ∷ names)
      entry_ends dir above here (name ∷ names) birth into deep (Some (Dir entries blocks)) = deep
      entry_ends dir above here (name ∷ names) birth into deep (Some (File cells links when)) = no_directory
      entry_ends dir above here (name ∷ names) birth into deep None = no_entry

      name_ends : (dir : ℕ) (above here names : List (List ℕ)) (into : ℕ → Resolution) → ((birth : ℕ) → ends_wanted (into birth).end ≡ false) → (found : Option ℕ) →
          ends_wanted (at_name tree last (λ link target. follow link target dir above names) into here names found).end ≡ false
      name_ends dir above here names into deep (Some birth) = entry_ends dir above here names birth (into birth) (deep birth) (node_at tree birth)
      name_ends dir above here [] into deep None = refl
      name_ends dir above here (name ∷ names) into deep None = no_entry

      node_ends : (dir : ℕ) (name : List ℕ) (above here names : List (List ℕ)) (into : ℕ → Resolution) → ((birth : ℕ) → ends_wanted (into birth).end ≡ false) → (o : Option Node) →
          ends_wanted (below_node tree last (λ link target. follow link target dir above names) into here dir name names o).end ≡ false
      node_ends dir name above here names into deep (Some (Dir entries blocks)) = name_ends dir above here names into deep (entry_at entries name)
      node_ends dir name above here names into deep (Some (File cells links when)) = no_directory
      node_ends dir name above here names into deep (Some (Link target links)) = no_directory
      node_ends dir name above here names into deep None = no_entry

      names_end : (names : List (List ℕ)) (dir : ℕ) (above : List (List ℕ)) → ends_wanted (resolve_names tree last follow dir above names).end ≡ false
      names_end [] dir above = refl
      names_end (name ∷ names) dir above =
          node_ends dir name above (above ++ name ∷ []) names (λ birth. resolve_names tree last follow birth (above ++ name ∷ []) names)
          (λ birth. names_end names birth (above ++ name ∷ [])) (node_at tree dir)

    target_ends : (next : ℕ → List (List ℕ) → List (List ℕ) → Resolution) → ((dir : ℕ) (above names : List (List ℕ)) → ends_wanted (next dir above names).end ≡ false) →
        (absolute : Bool) (path : Result (List (List ℕ)) PathFault) (dir : ℕ) (above names : List (List ℕ)) → ends_wanted (at_target next absolute path dir above names).end ≡ false
    target_ends next all absolute (Err fault) dir above names = no_entry
    target_ends next all true (Ok inner) dir above names = all 0 [] (inner ++ names)
    target_ends next all false (Ok inner) dir above names = all dir above (inner ++ names)

    from_ends : (left : ℕ) (dir : ℕ) (above names : List (List ℕ)) → ends_wanted (resolve_from left tree last dir above names).end ≡ false
    from_ends zero dir above names = names_end (λ link target holder over rest. refused reply.Loop) (λ link target holder over rest. no_loop) names dir above
    from_ends (suc left) dir above names =
        names_end (λ link target holder over rest. passes link (at_target (resolve_from left tree last) (is_absolute target) (path_of (target_text target)) holder over rest))
        (λ link target holder over rest. target_ends (resolve_from left tree last) (from_ends left) (is_absolute target) (path_of (target_text target)) holder over rest) names dir above

    walk_ends : (path : List (List ℕ)) → ends_wanted (resolve tree last path).end ≡ false
    unfolding resolve
    walk_ends path = from_ends LINKS_FOLLOWED_MAX 0 [] path

  -- ---- what an operation comes to

  -- it stops by a reply that is wanted
  abbrev pub stops_wanted : Step → Bool
  stops_wanted (Goes o) = false
  stops_wanted (Stops r) = wants r

  step_stops : (end : WalkEnd) (make : List (List ℕ) → Op) → ends_wanted end ≡ false → stops_wanted (step_of end make) ≡ false
  step_stops (At path found) make none = refl
  step_stops (Refused r) make none = none

  second_stops : (b : Bool) (trail : List ℕ) (walk : Resolution) (to : List (List ℕ)) (make : List (List ℕ) → Op) → ends_wanted walk.end ≡ false →
      stops_wanted (by_second b trail walk to make).step ≡ false
  second_stops true trail walk to make none = step_stops walk.end make none
  second_stops false trail walk to make none = refl

  module _ (tree : FileTree) where
    first_stops : (dirs : Bool) (end : WalkEnd) (trail : List ℕ) (walk : Resolution) (to : List (List ℕ)) (make : List (List ℕ) → List (List ℕ) → Op) → ends_wanted end ≡ false →
        ends_wanted walk.end ≡ false → stops_wanted (by_first tree dirs end trail walk to make).step ≡ false
    first_stops dirs (At path found) trail walk to make none second = second_stops (is_found tree dirs found) trail walk to (make path) second
    first_stops dirs (Refused r) trail walk to make none second = none

    one_stops : (last : Bool) (path : List (List ℕ)) (make : List (List ℕ) → Op) → stops_wanted (step_of (resolve tree last path).end make) ≡ false
    one_stops last path make = step_stops (resolve tree last path).end make (walk_ends tree last path)

    pub none_stops : (o : Op) → stops_wanted (resolved tree o).step ≡ false
    none_stops (op.Create path) = one_stops false path (λ p. op.Create p)
    none_stops (op.Mkdir path) = one_stops false path (λ p. op.Mkdir p)
    none_stops (op.Symlink path target) = one_stops false path (λ p. op.Symlink p target)
    none_stops (op.Link path to) =
        first_stops false (resolve tree false path).end (resolve tree false path).trail (resolve tree false to) to (λ p q. op.Link p q) (walk_ends tree false path) (walk_ends tree false to)
    none_stops (op.Unlink path) = one_stops false path (λ p. op.Unlink p)
    none_stops (op.Rmdir path) = one_stops false path (λ p. op.Rmdir p)
    none_stops (op.Rename [] to) = refl
    none_stops (op.Rename (name ∷ names) []) = refl
    none_stops (op.Rename (name ∷ names) (new ∷ news)) =
        first_stops true (resolve tree false (name ∷ names)).end (resolve tree false (name ∷ names)).trail (resolve tree false (new ∷ news)) (new ∷ news) (λ p q. op.Rename p q)
        (walk_ends tree false (name ∷ names)) (walk_ends tree false (new ∷ news))
    none_stops (op.Write path off bytes) = one_stops true path (λ p. op.Write p off bytes)
    none_stops (op.Fill path off len byte) = one_stops true path (λ p. op.Fill p off len byte)
    none_stops (op.Truncate path len) = one_stops true path (λ p. op.Truncate p len)
    none_stops (op.Read path off len) = one_stops true path (λ p. op.Read p off len)
    none_stops (op.Stat path) = one_stops false path (λ p. op.Stat p)
    none_stops (op.List path) = one_stops true path (λ p. op.List p)
    none_stops (op.Readlink path) = one_stops false path (λ p. op.Readlink p)
    none_stops (op.Time path) = one_stops true path (λ p. op.Time p)
    none_stops op.Sync = refl
    none_stops op.Mount = refl
    none_stops op.Unmount = refl
    none_stops op.Crash = refl
    none_stops (op.CrashAt k) = refl
    none_stops (op.CutAt k) = refl
    none_stops op.Stall = refl
