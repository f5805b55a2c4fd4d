-- The plans of unlink and rmdir tell what they do.
use Rattle.std.proofs.Common.{ℕ, ◌≡◌, ◌<◌, ◌-◌, ◌==◌, Bool, true, false, Option, Some, None, List, [], ◌∷◌, ◌++◌, if◌then◌else◌, nat_lt, length, refl, sym, ◌∙◌, ap, arith, is_some}
use Rattle.frang_base.specs.declared.limits.TheConstants.{KIND_DIRECTORY}
use Rattle.frang_base.specs.declared.reply.Reply.TheVariants as reply
use Rattle.tree_definitions.specs.declared.node.Node.TheVariants.{Dir}
use Rattle.tree_definitions.specs.Entries.{Entries, entry_at}
use Rattle.tree_definitions.specs.Tree.{FileTree, node_at}
use Rattle.tree_definitions.specs.Place.{Taken, place}
use Rattle.tree_definitions.specs.Apply.{Applied, Plain, unlinked, dir_removed}
use Rattle.tree_definitions.specs.Touched.{is_ok}
use Rattle.tree_laws.proofs.Keeping.{names_nodes}
use Rattle.disk_definitions.specs.Store.{Store, StoredNode}
use Rattle.disk_definitions.specs.Naming.{Naming, entry_of}
use Rattle.disk_definitions.specs.Edits.{edited_all}
use Rattle.disk_definitions.specs.Changes.{take_entry}
use Rattle.disk_definitions.proofs.Kept.{inode_is}
use Rattle.disk_definitions.specs.Ask.{Got, ReadInode, run}
use Rattle.disk_definitions.specs.Walks.{AtName, walk}
use Rattle.disk_definitions.specs.Plans.{refused}
use Rattle.disk_definitions.specs.Plans.Plan.{Finishes}
use Rattle.disk_definitions.specs.NamePlans.{fewer, fewer_segments, finish_over, removed_by, unlinking_node, unlinking, plan_unlinked, removing_node, removing, plan_dir_removed}
use Rattle.disk_definitions.specs.Meets.{IsOfTree}
use Rattle.plan_laws.proofs.Asking.{run-bind, run-segments}
use Rattle.plan_laws.proofs.Cases.{inode_by, by_spot}
use Rattle.plan_laws.proofs.Quiet.{IsQuiet, walk_quiet}
use Rattle.plan_laws.proofs.Walking.{walks_lead}
use Rattle.line_laws.proofs.Telling.{NameTells, Renames, Apart, ok_said, refuse_tells, sized}
use Rattle.line_laws.proofs.ChangedNames.{IsGone, has_some, unlinked_names, removed_names}
use Rattle.line_laws.proofs.Entering.{then_edited, taken_here, fewer_elsewhere, far_inode}

module _ (s : Store) (tree : FileTree) (n : Naming) (of : IsOfTree s tree n) where
  module _ (dirs : List ℕ) (d blocks : ℕ) (entries : Entries) (name : List ℕ) (b : ℕ) (is : node_at tree d ≡ Some (Dir entries blocks)) (had : entry_at entries name ≡ Some b) where
    abbrev x : StoredNode
    x = inode_by n d (Dir entries blocks)

    -- the directory's inode has another size
    loses : (y : StoredNode) → (b ≡ d → ⊥) → Apart s (edited_all s (take_entry (n.inode d) x (n.spot d name) ++ fewer (n.inode b) y))
    loses y far =
        let takes = take_entry (n.inode d) x (n.spot d name) in
        let t = edited_all s takes in
        let less : StoredNode = record x { size = x.size - 1 } in
        let away = far_inode s (node_at tree) n of.pictures d b (ap is_some is) (names_nodes tree of.well_formed d entries blocks name b is had) (λ q. far (sym q)) in
        let some : 0 < length entries = has_some entries name b had in
        sized s (edited_all s (takes ++ fewer (n.inode b) y)) (n.inode d) x less (inode_is s (node_at tree) n of.pictures d (Dir entries blocks) is)
        (then_edited s takes (fewer (n.inode b) y) (n.inode d) (Some less) (fewer_elsewhere t (n.inode b) y (n.inode d) away ∙ taken_here s (n.inode d) x (n.spot d name)))
        (λ same. let e : length entries - 1 ≡ length entries = same in omega arith)

    module _ (a : Applied) (gone : (r : a.answer ≡ Plain reply.Ok) → IsGone tree a.tree d b) where
      removed_tells : (y : StoredNode) → NameTells tree a s (run (finish_over (fewer_segments (n.inode b) y) (removed_by (n.inode d) x (n.spot d name) (n.inode b) y dirs)) s)
      removed_tells y = rw (run-segments (fewer_segments (n.inode b) y) (Got (Finishes (removed_by (n.inode d) x (n.spot d name) (n.inode b) y dirs))) s)
          (λ said. let r = gone (ok_said a.answer said) in Renames refl r.names (loses y r.apart))

      unlink_read : (o : Option StoredNode) → NameTells tree a s (run (unlinking_node (n.inode d) x (n.spot d name) (n.inode b) dirs o) s)
      unlink_read None = refuse_tells tree a s reply.NoEnt dirs refl
      unlink_read (Some y) = removed_tells y

      remove_read : (o : Option StoredNode) → NameTells tree a s (run (removing_node (n.inode d) x (n.spot d name) (n.inode b) dirs o) s)
      remove_read None = refuse_tells tree a s reply.NoEnt dirs refl
      remove_read (Some y) = go (nat_lt 0 y.size)
        where
          go : (c : Bool) → NameTells tree a s (run (if c then refused reply.NotEmpty (dirs ++ n.inode b ∷ []) else finish_over (fewer_segments (n.inode b) y) (removed_by (n.inode d) x (n.spot d name) (n.inode b) y dirs)) s)
          go true = refuse_tells tree a s reply.NotEmpty (dirs ++ n.inode b ∷ []) refl
          go false = removed_tells y

    unlink_tells : NameTells tree (unlinked tree (Taken d entries blocks name b)) s (run (unlinking dirs (AtName (n.inode d) x name (n.spot d name) (entry_of n name b))) s)
    unlink_tells = go (n.kind b == KIND_DIRECTORY)
      where
        a : Applied
        a = unlinked tree (Taken d entries blocks name b)

        go : (c : Bool) → NameTells tree a s (run (if c then refused reply.IsDir dirs else ReadInode (n.inode b) (unlinking_node (n.inode d) x (n.spot d name) (n.inode b) dirs)) s)
        go true = refuse_tells tree a s reply.IsDir dirs refl
        go false = unlink_read a (unlinked_names tree of.well_formed d entries blocks name b is had) (s.inode (n.inode b))

    remove_tells : NameTells tree (dir_removed tree (Taken d entries blocks name b)) s (run (removing dirs (AtName (n.inode d) x name (n.spot d name) (entry_of n name b))) s)
    remove_tells = go (n.kind b == KIND_DIRECTORY)
      where
        a : Applied
        a = dir_removed tree (Taken d entries blocks name b)

        go : (c : Bool) → NameTells tree a s (run (if c then ReadInode (n.inode b) (removing_node (n.inode d) x (n.spot d name) (n.inode b) dirs) else refused reply.NotDir dirs) s)
        go true = remove_read a (removed_names tree of.well_formed d entries blocks name b is had) (s.inode (n.inode b))
        go false = refuse_tells tree a s reply.NotDir dirs refl

  pub plan_unlinked_tells : (path : List (List ℕ)) → NameTells tree (unlinked tree (place tree path)) s (run (plan_unlinked path) s)
  plan_unlinked_tells path =
      let w = run (walk path) s in
      rw (run-bind (walk path) (λ w. unlinking w.dirs w.spot) s)
      (by_spot s (node_at tree) n of.pictures (λ v p. IsQuiet is_ok refl refl v → NameTells tree (unlinked tree p) s (run (unlinking w.dirs v) s))
      (λ quiet. refuse_tells tree _ s reply.IsDir w.dirs refl)
      (λ r quiet. refuse_tells tree _ s r w.dirs quiet)
      (λ d blocks entries name b is had quiet. unlink_tells w.dirs d blocks entries name b is had)
      (λ d blocks entries name is absent quiet. refuse_tells tree _ s reply.NoEnt w.dirs refl)
      w.spot (place tree path) (walks_lead s tree n path of).0 (walk_quiet is_ok refl refl s path))

  pub plan_dir_removed_tells : (path : List (List ℕ)) → NameTells tree (dir_removed tree (place tree path)) s (run (plan_dir_removed path) s)
  plan_dir_removed_tells path =
      let w = run (walk path) s in
      rw (run-bind (walk path) (λ w. removing w.dirs w.spot) s)
      (by_spot s (node_at tree) n of.pictures (λ v p. IsQuiet is_ok refl refl v → NameTells tree (dir_removed tree p) s (run (removing w.dirs v) s))
      (λ quiet. refuse_tells tree _ s reply.Inval w.dirs refl)
      (λ r quiet. refuse_tells tree _ s r w.dirs quiet)
      (λ d blocks entries name b is had quiet. remove_tells w.dirs d blocks entries name b is had)
      (λ d blocks entries name is absent quiet. refuse_tells tree _ s reply.NoEnt w.dirs refl)
      w.spot (place tree path) (walks_lead s tree n path of).0 (walk_quiet is_ok refl refl s path))
