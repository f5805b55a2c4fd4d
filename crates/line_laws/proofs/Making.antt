-- The plans of create, mkdir, symlink and link tell what they do.
use Rattle.std.proofs.Common.{ℕ, ◌≡◌, ◌+◌, ◌==◌, Bool, true, false, Option, Some, None, List, [], ◌∷◌, ◌++◌, if◌then◌else◌, nat_le, refl, arith}
use Rattle.std.specs.Map.{keys_of}
use Rattle.frang_base.specs.declared.limits.TheConstants.{KIND_DIRECTORY, LINKS_MAX}
use Rattle.frang_base.specs.declared.reply.Reply.TheVariants as reply
use Rattle.tree_definitions.specs.declared.node.Node.{Node}
use Rattle.tree_definitions.specs.declared.node.Node.TheVariants.{Dir}
use Rattle.tree_definitions.specs.Entries.{Entries, entry_at}
use Rattle.tree_definitions.specs.Tree.{FileTree, node_at}
use Rattle.tree_definitions.specs.Place.{Free, Taken, place}
use Rattle.tree_definitions.specs.Apply.{Applied, made, linked}
use Rattle.tree_definitions.specs.Touched.{is_ok}
use Rattle.disk_definitions.specs.Store.{Store, StoredNode, StoredEntry}
use Rattle.disk_definitions.specs.Naming.{Naming, kind_of, entry_of}
use Rattle.disk_definitions.specs.Edits.{Edit, edited_all}
use Rattle.disk_definitions.specs.Changes.{new_node, relink}
use Rattle.disk_definitions.proofs.Kept.{inode_is}
use Rattle.disk_definitions.specs.Picks.{picked_inode}
use Rattle.disk_definitions.specs.Ask.{bind, run}
use Rattle.disk_definitions.specs.Walks.{AtName, AtGap, Walked, walk}
use Rattle.disk_definitions.specs.Plans.{Hand, Room, enter, find_room, is_full, refused, read_held}
use Rattle.disk_definitions.specs.Plans.Plan.{Finishes}
use Rattle.disk_definitions.specs.Plans.Room.{Inside, InBlock, NoRoom}
use Rattle.disk_definitions.specs.NamePlans.{made_by, making_in, making_with, making, plan_made, linked_by, linking_in, linking_node, linking_to, linking, plan_linked}
use Rattle.disk_definitions.specs.Meets.{IsOfTree}
use Rattle.plan_laws.proofs.Asking.{run-bind, run-segments}
use Rattle.plan_laws.proofs.Cases.{inode_by, by_spot}
use Rattle.plan_laws.proofs.Quiet.{IsQuiet, walk_quiet}
use Rattle.plan_laws.proofs.Walking.{walks_lead}
use Rattle.line_laws.proofs.Telling.{NameTells, Renames, Apart, ok_said, refuse_tells, none_tells, finished_tells, sized}
use Rattle.line_laws.proofs.ChangedNames.{made_names, linked_names}
use Rattle.line_laws.proofs.Entering.{then_edited, IsRoom, entered}

module _ (h : Hand) (s : Store) (tree : FileTree) (n : Naming) (of : IsOfTree s tree n) where
  -- ---- the directory, in which the name is free
  module _ (d blocks : ℕ) (entries : Entries) (name : List ℕ) (is : node_at tree d ≡ Some (Dir entries blocks)) (absent : entry_at entries name ≡ None) where
    abbrev x : StoredNode
    x = inode_by n d (Dir entries blocks)

    -- its inode has another size
    enters : (front : List Edit) (entry : StoredEntry) (room : Room) → IsRoom room → Apart s (edited_all s (front ++ enter (n.inode d) x entry room))
    enters front entry room there =
        let r = entered (edited_all s front) (n.inode d) x entry room there in
        sized s (edited_all s (front ++ enter (n.inode d) x entry room)) (n.inode d) x r.node (inode_is s (node_at tree) n of.pictures d (Dir entries blocks) is)
        (then_edited s front (enter (n.inode d) x entry room) (n.inode d) (Some r.node) r.is) (λ same. let more = r.more in omega arith)

    -- ---- a new node
    module _ (birth : ℕ) (node : Node) (dirs : List ℕ) where
      abbrev a : Applied
      a = made tree birth node (Free d entries blocks name)

      made_tells : (j : ℕ) (room : Room) → IsRoom room → NameTells tree a s (Finishes (made_by (n.inode d) x name birth node dirs j room))
      made_tells j room there said =
          Renames refl (made_names tree d entries blocks name is absent birth node (ok_said a.answer said)) (enters (new_node j birth node) (record { name = name; inode = j; kind = kind_of node }) room there)

      room_case : (j : ℕ) (room : Room) → NameTells tree a s (run (making_in h (n.inode d) x name birth node dirs j room) s)
      room_case j NoRoom = none_tells tree a s h reply.NoDirBlock dirs refl
      room_case j (Inside q) = finished_tells tree a s h (Inside q) (made_by (n.inode d) x name birth node dirs j (Inside q)) (made_tells j (Inside q) tt)
      room_case j (InBlock k) = finished_tells tree a s h (InBlock k) (made_by (n.inode d) x name birth node dirs j (InBlock k)) (made_tells j (InBlock k) tt)

      inode_case : (o : Option ℕ) → NameTells tree a s (run (making_with h (n.inode d) x name birth node dirs o) s)
      inode_case None = none_tells tree a s h reply.NoInode dirs refl
      inode_case (Some j) = rw (run-bind (find_room h x) (making_in h (n.inode d) x name birth node dirs j) s) (room_case j (run (find_room h x) s))

      gap_made : NameTells tree a s (run (making h birth node dirs (AtGap (n.inode d) x name)) s)
      gap_made = go (is_full x)
        where
          go : (c : Bool) → NameTells tree a s (run (if c then refused reply.DirFull dirs else read_held h (making_with h (n.inode d) x name birth node dirs (picked_inode h.held))) s)
          go true = refuse_tells tree a s reply.DirFull dirs refl
          go false = rw (run-segments (keys_of h.held) (making_with h (n.inode d) x name birth node dirs (picked_inode h.held)) s) (inode_case (picked_inode h.held))

    -- ---- a second name
    module _ (f k : ℕ) (fs : Entries) (old : List ℕ) (b : ℕ) (dirs : List ℕ) where
      abbrev c : Applied
      c = linked tree (Taken f fs k old b) (Free d entries blocks name)

      linked_tells : (y : StoredNode) (room : Room) → IsRoom room → NameTells tree c s (Finishes (linked_by (n.inode d) x name (n.inode b) y dirs room))
      linked_tells y room there said =
          Renames refl (linked_names tree d entries blocks name is absent f fs k old b (ok_said c.answer said))
          (enters (relink (n.inode b) y (y.links + 1)) (record { name = name; inode = n.inode b; kind = y.kind }) room there)

      room_linked : (y : StoredNode) (room : Room) → NameTells tree c s (run (linking_in h (n.inode d) x name (n.inode b) y dirs room) s)
      room_linked y NoRoom = none_tells tree c s h reply.NoDirBlock (dirs ++ n.inode b ∷ []) refl
      room_linked y (Inside q) = finished_tells tree c s h (Inside q) (linked_by (n.inode d) x name (n.inode b) y dirs (Inside q)) (linked_tells y (Inside q) tt)
      room_linked y (InBlock j) = finished_tells tree c s h (InBlock j) (linked_by (n.inode d) x name (n.inode b) y dirs (InBlock j)) (linked_tells y (InBlock j) tt)

      node_linked : (o : Option StoredNode) → NameTells tree c s (run (linking_node h (n.inode d) x name (n.inode b) dirs o) s)
      node_linked None = refuse_tells tree c s reply.NoEnt dirs refl
      node_linked (Some y) = go (nat_le LINKS_MAX y.links) (is_full x)
        where
          go : (many full : Bool) → NameTells tree c s (run (if many then refused reply.MLink (dirs ++ n.inode b ∷ []) else (if full then refused reply.DirFull (dirs ++ n.inode b ∷ [])
              else bind (find_room h x) (linking_in h (n.inode d) x name (n.inode b) y dirs))) s)
          go true full = refuse_tells tree c s reply.MLink (dirs ++ n.inode b ∷ []) refl
          go false true = refuse_tells tree c s reply.DirFull (dirs ++ n.inode b ∷ []) refl
          go false false = rw (run-bind (find_room h x) (linking_in h (n.inode d) x name (n.inode b) y dirs) s) (room_linked y (run (find_room h x) s))

      gap_linked : NameTells tree c s (run (linking_to h (n.inode b) dirs (AtGap (n.inode d) x name)) s)
      gap_linked = node_linked (s.inode (n.inode b))

  -- ---- create, mkdir, symlink
  pub plan_made_tells : (birth : ℕ) (node : Node) (path : List (List ℕ)) → NameTells tree (made tree birth node (place tree path)) s (run (plan_made h birth node path) s)
  plan_made_tells birth node path =
      let w = run (walk path) s in
      rw (run-bind (walk path) (λ w. making h birth node w.dirs w.spot) s)
      (by_spot s (node_at tree) n of.pictures (λ v p. IsQuiet is_ok refl refl v → NameTells tree (made tree birth node p) s (run (making h birth node w.dirs v) s))
      (λ quiet. refuse_tells tree _ s reply.Exist w.dirs refl)
      (λ r quiet. refuse_tells tree _ s r w.dirs quiet)
      (λ d blocks entries name b is had quiet. refuse_tells tree _ s reply.Exist w.dirs refl)
      (λ d blocks entries name is absent quiet. gap_made d blocks entries name is absent birth node w.dirs)
      w.spot (place tree path) (walks_lead s tree n path of).0 (walk_quiet is_ok refl refl s path))

  -- ---- link
  name_linked : (to : List (List ℕ)) (dirs : List ℕ) (f k : ℕ) (fs : Entries) (old : List ℕ) (b : ℕ) (y : StoredNode) (slot : ℕ)
      → NameTells tree (linked tree (Taken f fs k old b) (place tree to)) s (run (linking h to dirs (AtName (n.inode f) y old slot (entry_of n old b))) s)
  name_linked to dirs f k fs old b y slot = go (n.kind b == KIND_DIRECTORY)
    where
      w : Walked
      w = run (walk to) s

      second : NameTells tree (linked tree (Taken f fs k old b) (place tree to)) s (run (linking_to h (n.inode b) (dirs ++ w.dirs) w.spot) s)
      second =
          by_spot s (node_at tree) n of.pictures (λ v p. IsQuiet is_ok refl refl v → NameTells tree (linked tree (Taken f fs k old b) p) s (run (linking_to h (n.inode b) (dirs ++ w.dirs) v) s))
          (λ quiet. refuse_tells tree _ s reply.Exist (dirs ++ w.dirs) refl)
          (λ r quiet. refuse_tells tree _ s r (dirs ++ w.dirs) quiet)
          (λ d blocks entries name c is had quiet. refuse_tells tree _ s reply.Exist (dirs ++ w.dirs) refl)
          (λ d blocks entries name is absent quiet. gap_linked d blocks entries name is absent f k fs old b (dirs ++ w.dirs))
          w.spot (place tree to) (walks_lead s tree n to of).0 (walk_quiet is_ok refl refl s to)

      go : (dir : Bool) → NameTells tree (linked tree (Taken f fs k old b) (place tree to)) s
          (run (if dir then refused reply.IsDir dirs else bind (walk to) (λ w. linking_to h (n.inode b) (dirs ++ w.dirs) w.spot)) s)
      go true = refuse_tells tree _ s reply.IsDir dirs refl
      go false = rw (run-bind (walk to) (λ w. linking_to h (n.inode b) (dirs ++ w.dirs) w.spot) s) second

  pub plan_linked_tells : (path to : List (List ℕ)) → NameTells tree (linked tree (place tree path) (place tree to)) s (run (plan_linked h path to) s)
  plan_linked_tells path to =
      let w = run (walk path) s in
      rw (run-bind (walk path) (λ w. linking h to w.dirs w.spot) s)
      (by_spot s (node_at tree) n of.pictures (λ v p. IsQuiet is_ok refl refl v → NameTells tree (linked tree p (place tree to)) s (run (linking h to w.dirs v) s))
      (λ quiet. refuse_tells tree _ s reply.IsDir w.dirs refl)
      (λ r quiet. refuse_tells tree _ s r w.dirs quiet)
      (λ d blocks entries name b is had quiet. name_linked to w.dirs d blocks entries name b (inode_by n d (Dir entries blocks)) (n.spot d name))
      (λ d blocks entries name is absent quiet. refuse_tells tree _ s reply.NoEnt w.dirs refl)
      w.spot (place tree path) (walks_lead s tree n path of).0 (walk_quiet is_ok refl refl s path))
