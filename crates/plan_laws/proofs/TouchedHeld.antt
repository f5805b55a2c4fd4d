-- A finished plan holds the nodes that its operation touches.
use Rattle.std.proofs.Common.{ℕ, ◌≡◌, ⊎_elim, Bool, true, List, [], ◌∷◌, ◌++◌, refl, sym, ap, subst}
use Rattle.std.proofs.lemmas.List.Elements.{Contains-append_right}
use Rattle.std.specs.List.{Contains}
use Rattle.frang_base.specs.declared.lock.LockId.TheVariants as lock
use Rattle.frang_base.specs.declared.op.Op.{Op}
use Rattle.frang_base.specs.declared.op.Op.TheVariants as op
use Rattle.tree_definitions.specs.declared.node.Node.{Node}
use Rattle.tree_definitions.specs.declared.node.Node.TheVariants.{Dir, File, Link}
use Rattle.tree_definitions.specs.Tree.{FileTree, node_at}
use Rattle.tree_definitions.specs.Place.{Place, place}
use Rattle.tree_definitions.specs.Touched.{reached, any_node, dir_node, file_node, link_node, looked_in, further}
use Rattle.disk_definitions.specs.Store.{Store}
use Rattle.disk_definitions.specs.Naming.{Naming, kind_of, entry_of}
use Rattle.disk_definitions.specs.Ask.{run}
use Rattle.disk_definitions.specs.Walks.{Spot, walk}
use Rattle.disk_definitions.specs.Plans.{Hand, Finish}
use Rattle.disk_definitions.specs.Plans.Plan.{Finishes}
use Rattle.disk_definitions.specs.NamePlans.{linking, plan_linked, renaming, plan_renamed}
use Rattle.disk_definitions.specs.PlanOf.{plan_of}
use Rattle.disk_definitions.specs.Meets.{IsOfTree}
use Rattle.plan_laws.specs.Walking.{Mirrors}
use Rattle.plan_laws.proofs.Asking.{run-bind}
use Rattle.plan_laws.proofs.Cases.{inode_by, by_spot}
use Rattle.plan_laws.proofs.Walking.{walks_lead}
use Rattle.disk_definitions.specs.Walks.Spot.{AtRoot, AtName, AtGap, Lost}
use Rattle.plan_laws.proofs.Covering.{has_head, has_cases, not_in_none}
use Rattle.plan_laws.proofs.NamesFine.{removed_dir}
use Rattle.plan_laws.specs.Covers.{IsHeld, PlanHolds, WalkedNodesAreHeld}
use Rattle.plan_laws.proofs.Standing.{DiskStands, disk_stands}
use Rattle.plan_laws.proofs.WalksFine.{either}
use Rattle.plan_laws.proofs.Targets.{any_kind, is_kind, spot_target}
use Rattle.plan_laws.proofs.Quiet.{IsQuiet, walk_quiet}
use Rattle.plan_laws.proofs.Telling.{Tells, tells_map, Held, linking_tells, has_linked, is_not_empty, renaming_tells}
use Rattle.plan_laws.proofs.Further.{link_further, rename_further}
use Rattle.plan_laws.proofs.WalkedHeld.{not_root, reached_one, in_touched, removed_spot, walked_touched}
use Rattle.plan_laws.proofs.AllFine.{touched, plan_fine}

-- kinds of nodes, as the tree and as the disk has them
file_fit : (node : Node) → file_node node ≡ true → is_kind 1 (kind_of node) ≡ true
file_fit (File cells links when) e = refl
file_fit (Dir entries blocks) e = absurd (cc)
file_fit (Link target links) e = absurd (cc)

pub dir_fit : (node : Node) → dir_node node ≡ true → is_kind 2 (kind_of node) ≡ true
dir_fit (Dir entries blocks) e = refl
dir_fit (File cells links when) e = absurd (cc)
dir_fit (Link target links) e = absurd (cc)

link_fit : (node : Node) → link_node node ≡ true → is_kind 3 (kind_of node) ≡ true
link_fit (Link target links) e = refl
link_fit (Dir entries blocks) e = absurd (cc)
link_fit (File cells links when) e = absurd (cc)

held_one : (j i : ℕ) (f : Finish) → j ≡ i → (has : (k : ℕ) → Contains (j ∷ []) k → IsHeld f.locks (lock.Node k)) → (k : ℕ) → Contains (i ∷ []) k → IsHeld f.locks (lock.Node k)
held_one j i f e has k c = has k (subst (λ z. Contains (z ∷ []) k) (sym e) c)

module _ (h : Hand) (s : Store) (tree : FileTree) (n : Naming) (of : IsOfTree s tree n) where
  -- ---- the node of a link
  linked_node : (to : List (List ℕ)) (dirs : List ℕ) (c : ℕ) (v : Spot) (p : Place) → Mirrors s (node_at tree) n v p → Contains (reached tree any_node p) c → Tells (Held has_linked (n.inode c ∷ [])) (run (linking h to dirs v) s)
  linked_node to dirs c = by_spot s (node_at tree) n of.pictures (λ v p. Contains (reached tree any_node p) c → Tells (Held has_linked (n.inode c ∷ [])) (run (linking h to dirs v) s))
      (λ d e. absurd (cc))
      (λ r d. absurd (not_in_none c d))
      (λ d blocks entries name b is had g.
      let one : b ≡ c = reached_one any_node b c (node_at tree b) g in
      tells_map (run (linking h to dirs (AtName (n.inode d) (inode_by n d (Dir entries blocks)) name (n.spot d name) (entry_of n name b))) s)
      (λ f t w. held_one (n.inode b) (n.inode c) f (ap n.inode one) (t.held w))
      (linking_tells h s to dirs (n.inode d) (inode_by n d (Dir entries blocks)) name (n.spot d name) (entry_of n name b)))
      (λ d blocks entries name is absent g. absurd (not_in_none c g))

  link_node_held : (path to : List (List ℕ)) (c : ℕ) → Contains (reached tree any_node (place tree path)) c → Tells (Held has_linked (n.inode c ∷ [])) (run (plan_linked h path to) s)
  link_node_held path to c d = let w = run (walk path) s in rw (run-bind (walk path) (λ w. linking h to w.dirs w.spot) s) (linked_node to w.dirs c w.spot (place tree path) (walks_lead s tree n path of).0 d)

  -- ---- the directory onto which a rename would move
  onto_node : (to : List (List ℕ)) (dirs : List ℕ) (i : ℕ) → Contains (spot_target (is_kind 2) (run (walk to) s).spot) i → (v : Spot) → IsQuiet is_not_empty refl refl v → Tells (Held is_not_empty (i ∷ [])) (run (renaming h to dirs v) s)
  onto_node to dirs i c AtRoot q = λ e. absurd (cc)
  onto_node to dirs i c (Lost r) q = λ e. absurd (cc)
  onto_node to dirs i c (AtGap d x name) q = λ e. absurd (cc)
  onto_node to dirs i c (AtName d x name p e) q =
      tells_map (run (renaming h to dirs (AtName d x name p e)) s) (λ f t w k g. t.held w k (only k g)) (renaming_tells h s to dirs d x name p e)
    where
      only : (k : ℕ) → Contains (i ∷ []) k → Contains (spot_target (is_kind 2) (run (walk to) s).spot) k
      only k g = ⊎_elim (λ e. subst (Contains (spot_target (is_kind 2) (run (walk to) s).spot)) e c) (λ z. absurd (not_in_none k z)) (has_cases i k [] g)

  rename_node_held : (path to : List (List ℕ)) (c : ℕ) → Contains (reached tree dir_node (place tree to)) c → Tells (Held is_not_empty (n.inode c ∷ [])) (run (plan_renamed h path to) s)
  rename_node_held [] to c d = λ e. absurd (cc)
  rename_node_held (name ∷ names) [] c d = λ e. absurd (cc)
  rename_node_held (name ∷ names) (new ∷ news) c d =
      let w = run (walk (name ∷ names)) s in
      rw (run-bind (walk (name ∷ names)) (λ w. renaming h (new ∷ news) w.dirs w.spot) s)
      (onto_node (new ∷ news) w.dirs (n.inode c) (in_touched h s tree n of dir_node (is_kind 2) dir_fit (new ∷ news) c d) w.spot (walk_quiet is_not_empty refl refl s (name ∷ names)))

  -- ---- operation by operation
  module _ (disk : DiskStands h s n) (birth when : ℕ) (f : Finish) where
    abbrev Ends : Op → Type 0
    Ends o = run (plan_of h birth when o) s ≡ Finishes f

    abbrev Goal : ℕ → Type 0
    Goal b = IsHeld f.locks (lock.Node (n.inode b))

    of_touched : (o : Op) → Ends o → (b : ℕ) → Contains (touched h s n disk o) (n.inode b) → Goal b
    of_touched o p b c = subst (λ v. PlanHolds v (lock.Node (n.inode b))) p ((plan_fine h s n disk o birth when).nodes (n.inode b) c)

    last : (path : List (List ℕ)) (wanted : Node → Bool) (k : ℕ → Bool) → ((node : Node) → wanted node ≡ true → k (kind_of node) ≡ true) → (b : ℕ) → Contains (reached tree wanted (place tree path)) b →
        Contains ((run (walk path) s).dirs ++ spot_target k (run (walk path) s).spot) (n.inode b)
    last path wanted k fit b c = let w = run (walk path) s in Contains-append_right w.dirs (spot_target k w.spot) (n.inode b) (in_touched h s tree n of wanted k fit path b c)

    further_held : (o : Op) → Ends o → (b : ℕ) → Contains (further tree o f.reply) b → Goal b
    further_held (op.Create path) p b c = absurd (not_in_none b c)
    further_held (op.Mkdir path) p b c = absurd (not_in_none b c)
    further_held (op.Symlink path target) p b c = absurd (not_in_none b c)
    further_held (op.Link path to) p b c =
        let r = link_further tree path to f.reply b c in
        let t : Held has_linked (n.inode b ∷ []) f = subst (Tells (Held has_linked (n.inode b ∷ []))) p (link_node_held path to b r.1) in t r.0 (n.inode b) (has_head (n.inode b) [])
    further_held (op.Unlink path) p b c = absurd (not_in_none b c)
    further_held (op.Rmdir []) p b c = absurd (not_in_none b c)
    further_held (op.Rmdir (name ∷ names)) p b c =
        let w = run (walk (name ∷ names)) s in
        of_touched (op.Rmdir (name ∷ names)) p b (Contains-append_right w.dirs (removed_dir h s n disk w.spot) (n.inode b)
        (removed_spot h s tree n of disk w.spot (place tree (name ∷ names)) (walks_lead s tree n (name ∷ names) of).0 (not_root tree names 0 name) b c))
    further_held (op.Rename path to) p b c =
        let r = rename_further tree path to f.reply b c in
        let t : Held is_not_empty (n.inode b ∷ []) f = subst (Tells (Held is_not_empty (n.inode b ∷ []))) p (rename_node_held path to b r.1) in t r.0 (n.inode b) (has_head (n.inode b) [])
    further_held (op.Write path off bytes) p b c = of_touched (op.Write path off bytes) p b (last path file_node (is_kind 1) file_fit b c)
    further_held (op.Fill path off len byte) p b c = of_touched (op.Fill path off len byte) p b (last path file_node (is_kind 1) file_fit b c)
    further_held (op.Truncate path len) p b c = of_touched (op.Truncate path len) p b (last path file_node (is_kind 1) file_fit b c)
    further_held (op.Read path off len) p b c = of_touched (op.Read path off len) p b (last path file_node (is_kind 1) file_fit b c)
    further_held (op.Stat path) p b c = of_touched (op.Stat path) p b (last path any_node any_kind (λ node e. refl) b c)
    further_held (op.Time path) p b c = of_touched (op.Time path) p b (last path any_node any_kind (λ node e. refl) b c)
    further_held (op.List path) p b c = of_touched (op.List path) p b (last path dir_node (is_kind 2) dir_fit b c)
    further_held (op.Readlink path) p b c = of_touched (op.Readlink path) p b (last path link_node (is_kind 3) link_fit b c)
    further_held op.Sync p b c = absurd (not_in_none b c)
    further_held op.Mount p b c = absurd (not_in_none b c)
    further_held op.Unmount p b c = absurd (not_in_none b c)
    further_held op.Crash p b c = absurd (not_in_none b c)
    further_held (op.CrashAt k) p b c = absurd (not_in_none b c)
    further_held (op.CutAt k) p b c = absurd (not_in_none b c)
    further_held op.Stall p b c = absurd (not_in_none b c)

pub walks_are_held : WalkedNodesAreHeld
walks_are_held o h s tree n birth when f of hand p b c =
    let disk = disk_stands h s tree n of hand in
    ⊎_elim (λ d. of_touched h s tree n of disk birth when f o p b (walked_touched h s tree n of disk o b d)) (λ d. further_held h s tree n of disk birth when f o p b d) (either (looked_in tree o) (further tree o f.reply) b c)
