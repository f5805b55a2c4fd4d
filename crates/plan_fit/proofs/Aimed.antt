-- A plan for the file that a path names fits, where it does so for the inode of each file.
use Rattle.std.proofs.Common.{ℕ, ◌≡◌, ◌<◌, ◌*◌, true, Option, Some, None, List, [], ◌∷◌, ◌++◌, refl, sym, subst, is_some}
use Rattle.frang_base.specs.declared.reply.Reply.TheVariants as reply
use Rattle.tree_definitions.specs.declared.node.Node.{Node}
use Rattle.tree_definitions.specs.declared.node.Node.TheVariants.{Dir, File, Link}
use Rattle.tree_definitions.specs.Tree.{FileTree, node_at}
use Rattle.tree_definitions.specs.Place.{place}
use Rattle.tree_laws.proofs.Keeping.{names_nodes}
use Rattle.disk_definitions.specs.Store.{Store, StoredNode}
use Rattle.disk_definitions.specs.Naming.{Naming, kind_of}
use Rattle.disk_definitions.proofs.Kept.{inode_is}
use Rattle.disk_definitions.specs.Ask.{Ask, run}
use Rattle.disk_definitions.specs.Walks.{walk, at_spot, at_target}
use Rattle.disk_definitions.specs.Plans.{Hand, Plan, refused}
use Rattle.disk_definitions.specs.FilePlans.{at_file, with_file, plan_of_file}
use Rattle.disk_definitions.specs.Meets.{IsOfTree}
use Rattle.plan_laws.proofs.Asking.{run-bind}
use Rattle.plan_laws.proofs.Cases.{inode_by, by_spot}
use Rattle.plan_laws.proofs.Walking.{walks_lead}
use Rattle.disk_definitions.specs.FitEdits.{IsFitNode}
use Rattle.disk_definitions.specs.FitPlans.{IsFitStore}
use Rattle.plan_fit.proofs.Refused.{Fits, refuse_fits}
use Rattle.plan_fit.proofs.Owning.{OwnsBlocks, owns}

-- a file of a disk: its inode is the disk's and may stand there, and its blocks are in use for it
pub record IsFile (segments : ℕ) (s : Store) (i : ℕ) (x : StoredNode) : Type 0 where
  pub number : i < 64 * segments
  pub fit : IsFitNode x
  pub kind : x.kind ≡ 1
  pub owns : OwnsBlocks segments s x

module _ (h : Hand) (s : Store) (tree : FileTree) (n : Naming) (of : IsOfTree s tree n) (fit : IsFitStore tree.segments s) (next : ℕ → List ℕ → StoredNode → Ask Plan)
    (each : (i : ℕ) (touched : List ℕ) (x : StoredNode) → IsFile tree.segments s i x → Fits h tree.segments s (next i touched x)) where
  each_node : (dirs : List ℕ) (b : ℕ) (node : Node) → node_at tree b ≡ Some node → Fits h tree.segments s (at_file next (record { inode = n.inode b; kind = kind_of node; dirs = dirs }))
  each_node dirs b (Dir entries blocks) is = refuse_fits h tree.segments s reply.IsDir dirs
  each_node dirs b (Link target links) is = refuse_fits h tree.segments s reply.Inval dirs
  each_node dirs b (File cells links when) is =
      let touched = dirs ++ n.inode b ∷ [] in
      let there = inode_is s (node_at tree) n of.pictures b (File cells links when) is in
      let may = fit.nodes (n.inode b) (inode_by n b (File cells links when)) there in
      subst (λ o. Fits h tree.segments s (with_file (next (n.inode b) touched) touched o)) (sym there)
      (each (n.inode b) touched (inode_by n b (File cells links when)) (record { number = may.0; fit = may.1; kind = refl; owns = owns s tree n of b links when cells is }))

  at_birth : (b : ℕ) (o : Option Node) → node_at tree b ≡ o → is_some o ≡ true → (dirs : List ℕ) → Fits h tree.segments s (at_file next (record { inode = n.inode b; kind = n.kind b; dirs = dirs }))
  at_birth b None e some dirs = absurd (cc)
  at_birth b (Some node) e some dirs = subst (λ k. Fits h tree.segments s (at_file next (record { inode = n.inode b; kind = k; dirs = dirs }))) (sym (of.pictures.kinds b node e)) (each_node dirs b node e)

  pub file_fits : (path : List (List ℕ)) → Fits h tree.segments s (plan_of_file path next)
  file_fits path =
      let w = run (walk path) s in
      rw (run-bind (walk path) (λ w. at_target w refused (at_file next)) s)
      (by_spot s (node_at tree) n of.pictures (λ v p. Fits h tree.segments s (at_spot v w.dirs refused (at_file next)))
      (refuse_fits h tree.segments s reply.IsDir w.dirs)
      (λ r. refuse_fits h tree.segments s r w.dirs)
      (λ d blocks entries name b is had. at_birth b (node_at tree b) refl (names_nodes tree of.well_formed d entries blocks name b is had) w.dirs)
      (λ d blocks entries name is absent. refuse_fits h tree.segments s reply.NoEnt w.dirs)
      w.spot (place tree path) (walks_lead s tree n path of).0)
