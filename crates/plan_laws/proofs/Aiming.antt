-- A plan for the node that a path names, by a case for each node.
use Rattle.std.proofs.Common.{ℕ, ◌≡◌, ◌++◌, true, Option, Some, None, List, [], ◌∷◌, refl, sym, subst, is_some}
use Rattle.frang_base.specs.declared.reply.Reply.TheVariants as reply
use Rattle.tree_definitions.specs.declared.cells.Cell.{Cell}
use Rattle.tree_definitions.specs.declared.node.Node.{Node}
use Rattle.tree_definitions.specs.declared.node.Node.TheVariants.{Dir, File, Link}
use Rattle.tree_definitions.specs.Tree.{FileTree, node_at}
use Rattle.tree_definitions.specs.Place.{place}
use Rattle.tree_definitions.specs.Apply.{Applied, is_dir, at_node, if_file, at_file as tree_at_file}
use Rattle.tree_laws.proofs.Keeping.{names_nodes}
use Rattle.disk_definitions.specs.Store.{Store, StoredNode}
use Rattle.disk_definitions.specs.Naming.{Naming, kind_of}
use Rattle.disk_definitions.proofs.Kept.{inode_is}
use Rattle.disk_definitions.specs.Ask.{Ask, run}
use Rattle.disk_definitions.specs.Walks.{Target, walk, at_spot, at_target}
use Rattle.disk_definitions.specs.Plans.{Hand, Plan, refused}
use Rattle.disk_definitions.specs.FilePlans.{at_file, with_file, plan_of_file}
use Rattle.disk_definitions.specs.LookPlans.{plan_of_node, with_inode, at_inode}
use Rattle.disk_definitions.specs.Meets.{IsOfTree}
use Rattle.plan_laws.proofs.Asking.{run-bind}
use Rattle.plan_laws.proofs.Cases.{inode_by, by_spot}
use Rattle.plan_laws.proofs.Refusing.{Meets, refuse_meets}
use Rattle.plan_laws.proofs.Walking.{walks_lead}

module _ (h : Hand) (s : Store) (tree : FileTree) (n : Naming) (of : IsOfTree s tree n) where
  -- a node as a walk tells it
  abbrev pub target_of : List ℕ → ℕ → ℕ → Target
  target_of dirs b kind = record { inode = n.inode b; kind = kind; dirs = dirs }

  -- the inode that is read is the node's
  pub at_inode_meets : (next : List ℕ → StoredNode → Ask Plan) (a : Applied) (b kind : ℕ) (node : Node) → node_at tree b ≡ Some node → ((touched : List ℕ) → Meets h s tree n a (run (next touched (inode_by n b node)) s)) →
      (dirs : List ℕ) → Meets h s tree n a (run (at_inode next (target_of dirs b kind)) s)
  at_inode_meets next a b kind node is each dirs =
      subst (λ o. Meets h s tree n a (run (with_inode next (dirs ++ n.inode b ∷ []) o) s)) (sym (inode_is s (node_at tree) n of.pictures b node is)) (each (dirs ++ n.inode b ∷ []))

  module _ (next : Target → Ask Plan) (then_tree : ℕ → Option Node → Applied)
      (each : (dirs : List ℕ) (b : ℕ) (node : Node) → node_at tree b ≡ Some node → Meets h s tree n (then_tree b (Some node)) (run (next (target_of dirs b (kind_of node))) s)) where
    at_birth : (b : ℕ) (o : Option Node) → node_at tree b ≡ o → is_some o ≡ true → (dirs : List ℕ) → Meets h s tree n (then_tree b o) (run (next (target_of dirs b (n.kind b))) s)
    at_birth b None e some dirs = absurd (cc)
    at_birth b (Some node) e some dirs = subst (λ k. Meets h s tree n (then_tree b (Some node)) (run (next (target_of dirs b k)) s)) (sym (of.pictures.kinds b node e)) (each dirs b node e)

    at_root : (o : Option Node) → node_at tree 0 ≡ o → is_dir o ≡ true → (dirs : List ℕ) → Meets h s tree n (then_tree 0 o) (run (next (record { inode = 0; kind = 2; dirs = dirs })) s)
    at_root None e some dirs = absurd (cc)
    at_root (Some (Dir entries blocks)) e some dirs = subst (λ i. Meets h s tree n (then_tree 0 (Some (Dir entries blocks))) (run (next (record { inode = i; kind = 2; dirs = dirs })) s)) of.root (each dirs 0 (Dir entries blocks) e)
    at_root (Some (File cells links when)) e some dirs = absurd (cc)
    at_root (Some (Link target links)) e some dirs = absurd (cc)

    pub node_meets : (path : List (List ℕ)) → Meets h s tree n (at_node tree (place tree path) then_tree) (run (plan_of_node path next) s)
    node_meets path =
        let w = run (walk path) s in
        rw (run-bind (walk path) (λ w. at_target w refused next) s)
        (by_spot s (node_at tree) n of.pictures (λ v p. Meets h s tree n (at_node tree p then_tree) (run (at_spot v w.dirs refused next) s))
        (at_root (node_at tree 0) refl of.well_formed.rooted w.dirs)
        (λ r well. refuse_meets h s tree n of r w.dirs)
        (λ d blocks entries name b is had. at_birth b (node_at tree b) refl (names_nodes tree of.well_formed d entries blocks name b is had) w.dirs)
        (λ d blocks entries name is absent well. refuse_meets h s tree n of reply.NoEnt w.dirs)
        w.spot (place tree path) (walks_lead s tree n path of).0)

  -- of a path that has to name a file
  module _ (next : ℕ → List ℕ → StoredNode → Ask Plan) (then_tree : ℕ → List Cell → ℕ → ℕ → Applied)
      (each : (touched : List ℕ) (b links when : ℕ) (cells : List Cell) → node_at tree b ≡ Some (File cells links when) → Meets h s tree n (then_tree b cells links when) (run (next (n.inode b) touched (inode_by n b (File cells links when))) s)) where
    each_node : (dirs : List ℕ) (b : ℕ) (node : Node) → node_at tree b ≡ Some node → Meets h s tree n (if_file tree then_tree b (Some node)) (run (at_file next (target_of dirs b (kind_of node))) s)
    each_node dirs b (Dir entries blocks) is = λ well. refuse_meets h s tree n of reply.IsDir dirs
    each_node dirs b (Link target links) is = λ well. refuse_meets h s tree n of reply.Inval dirs
    each_node dirs b (File cells links when) is =
        let touched = dirs ++ n.inode b ∷ [] in
        subst (λ o. Meets h s tree n (then_tree b cells links when) (run (with_file (next (n.inode b) touched) touched o) s)) (sym (inode_is s (node_at tree) n of.pictures b (File cells links when) is)) (each touched b links when cells is)

    pub file_meets : (path : List (List ℕ)) → Meets h s tree n (tree_at_file tree (place tree path) then_tree) (run (plan_of_file path next) s)
    file_meets path = node_meets (at_file next) (λ b node. if_file tree then_tree b node) each_node path
