-- A node that an operation changes is held alone by its plan.
use Rattle.std.proofs.Common.{ℕ, ◌≡◌, ◌≢◌, ◌==◌, ⊎_elim, Bool, true, false, nat_eq, if◌then◌else◌, Option, Some, None, List, [], ◌∷◌, refl, sym, ◌∙◌, ap, subst, is_some}
use Rattle.std.specs.List.{Contains}
use Rattle.frang_base.specs.declared.lock.LockId.TheVariants as lock
use Rattle.frang_base.specs.declared.reply.Reply.{Reply}
use Rattle.frang_base.specs.declared.reply.Reply.TheVariants as reply
use Rattle.tree_definitions.specs.declared.node.Node.{Node}
use Rattle.tree_definitions.specs.declared.node.Node.TheVariants.{Dir, File, Link}
use Rattle.tree_definitions.specs.declared.cells.Cell.{Cell}
use Rattle.tree_definitions.specs.Entries.{Entries, entry_at}
use Rattle.tree_definitions.specs.Tree.{FileTree, node_at}
use Rattle.tree_definitions.specs.Place.{Place, Taken, Free, place}
use Rattle.tree_definitions.specs.Apply.{Answer, Applied, Plain, Shows, says, made, is_dir, linked, linked_to, unlinked, dir_removed, goes_through, moved_onto, moved_to, renamed_to, renamed_from, renamed, at_file, if_file}
use Rattle.tree_definitions.specs.Touched.{is_ok}
use Rattle.tree_definitions.specs.WellFormed.{IsNew}
use Rattle.tree_laws.specs.Refusals.{says_ok}
use Rattle.tree_laws.proofs.Keeping.{names_nodes}
use Rattle.disk_definitions.specs.Store.{Store}
use Rattle.disk_definitions.specs.Naming.{Naming, entry_of}
use Rattle.disk_definitions.specs.Ask.{run}
use Rattle.disk_definitions.specs.Walks.{Spot, walk}
use Rattle.disk_definitions.specs.Walks.Spot.{AtName}
use Rattle.disk_definitions.specs.Plans.{Hand, Plan, Finish}
use Rattle.disk_definitions.specs.NamePlans.{Moving, linking, plan_made, plan_linked, plan_unlinked, plan_dir_removed, renaming, plan_renamed}
use Rattle.disk_definitions.specs.Meets.{IsOfTree, Answers}
use Rattle.plan_laws.specs.Walking.{Mirrors}
use Rattle.plan_laws.proofs.Asking.{run-bind}
use Rattle.plan_laws.proofs.Cases.{inode_by, by_spot}
use Rattle.plan_laws.proofs.Walking.{walks_lead}
use Rattle.plan_laws.proofs.MovingOnto.{moving_of}
use Rattle.plan_laws.proofs.Tests.{same_inode_test}
use Rattle.plan_laws.specs.Locks.{IsSole}
use Rattle.plan_laws.proofs.Covering.{has_head, has_more, has_cases, not_in_none}
use Rattle.plan_laws.proofs.Targets.{is_kind, spot_target, gap_dir, name_nodes, link_changed, rename_changed}
use Rattle.plan_laws.proofs.Telling.{Tells, tells_map, Alone, made_path_alone, linking_tells, unlink_alone, rmdir_alone, renaming_tells}
use Rattle.plan_laws.proofs.Changing.{OnlyAt, is_among, made_only, linked_only, unlinked_only, removed_only, onto_only, moved_to_only}

-- the answer of the tree is the plan's reply
pub ok_of : (a : Answer) (r : Reply) → Answers a r → says_ok a ≡ true → is_ok r ≡ true
ok_of (Plain x) r e ok = ap is_ok e ∙ ok
ok_of (Shows cells) r e ok = absurd (cc)

module _ (h : Hand) (s : Store) (tree : FileTree) (n : Naming) (of : IsOfTree s tree n) (c : ℕ) (there : is_some (node_at tree c) ≡ true) where
  abbrev Differs : Applied → Type 0
  Differs a = node_at a.tree c ≢ node_at tree c

  abbrev i : ℕ
  i = n.inode c

  abbrev IsAlone : Finish → Type 0
  IsAlone = Alone (i ∷ [])

  same : {X : Type 0} → node_at tree c ≢ node_at tree c → X
  same d = absurd (d refl)

  -- among the nodes that are held alone
  narrow : (js : List ℕ) (v : Plan) → Contains js i → Tells (Alone js) v → Tells IsAlone v
  narrow js v c t = tells_map v (λ f g ok k d. ⊎_elim (λ e. subst (λ z. IsSole f.locks (lock.Node z)) e (g ok i c)) (λ z. absurd (not_in_none k z)) (has_cases i k [] d)) t

  in_two : (a b : ℕ) → Contains (a ∷ b ∷ []) c → Contains (n.inode a ∷ n.inode b ∷ []) i
  in_two a b d = ⊎_elim (λ e. subst (λ z. Contains (n.inode a ∷ n.inode b ∷ []) (n.inode z)) e (has_head (n.inode a) (n.inode b ∷ [])))
      (λ g. ⊎_elim (λ e. subst (λ z. Contains (n.inode a ∷ n.inode b ∷ []) (n.inode z)) e (has_more (n.inode a) (n.inode b) (n.inode b ∷ []) (has_head (n.inode b) []))) (λ z. absurd (not_in_none c z)) (has_cases b c [] g)) (has_cases a c (b ∷ []) d)

  -- ---- create, mkdir, symlink
  module _ (birth : ℕ) (node : Node) (new : IsNew tree birth) where
    made_gap : (v : Spot) (p : Place) → Mirrors s (node_at tree) n v p → Differs (made tree birth node p) → Contains (gap_dir v) i
    made_gap = by_spot s (node_at tree) n of.pictures (λ v p. Differs (made tree birth node p) → Contains (gap_dir v) i)
        (λ d. same d)
        (λ r d. same d)
        (λ d blocks entries name b is had g. same g)
        (λ d blocks entries name is absent g. ⊎_elim
        (λ e. absurd (let z : is_some (node_at tree c) ≡ false = ap (λ k. is_some (node_at tree k)) (sym e) ∙ ap is_some new in cc))
        (λ l. ⊎_elim (λ e. subst (λ z. Contains (n.inode d ∷ []) (n.inode z)) e (has_head (n.inode d) [])) (λ z. absurd (not_in_none c z)) (has_cases d c [] l))
        (has_cases birth c (d ∷ []) (is_among tree (made tree birth node (Free d entries blocks name)).tree (birth ∷ d ∷ []) c (made_only tree birth node d blocks entries name) g)))

    pub made_changed : (path : List (List ℕ)) → Differs (made tree birth node (place tree path)) → Tells IsAlone (run (plan_made h birth node path) s)
    made_changed path d = let w = run (walk path) s in narrow (gap_dir w.spot) (run (plan_made h birth node path) s) (made_gap w.spot (place tree path) (walks_lead s tree n path of).0 d) (made_path_alone h s birth node path)

  -- ---- link
  linked_gap : (b : ℕ) (v : Spot) (p : Place) → Mirrors s (node_at tree) n v p → Differs (linked_to tree b p) → Contains (link_changed (n.inode b) v) i
  linked_gap b = by_spot s (node_at tree) n of.pictures (λ v p. Differs (linked_to tree b p) → Contains (link_changed (n.inode b) v) i)
      (λ d. same d)
      (λ r d. same d)
      (λ d blocks entries name b is had g. same g)
      (λ d blocks entries name is absent g. ⊎_elim
      (λ e. subst (λ z. Contains (n.inode d ∷ n.inode b ∷ []) (n.inode z)) e (has_more (n.inode d) (n.inode b) (n.inode b ∷ []) (has_head (n.inode b) [])))
      (λ l. ⊎_elim (λ e. subst (λ z. Contains (n.inode d ∷ n.inode b ∷ []) (n.inode z)) e (has_head (n.inode d) (n.inode b ∷ []))) (λ z. absurd (not_in_none c z)) (has_cases d c [] l))
      (has_cases b c (d ∷ []) (is_among tree (linked_to tree b (Free d entries blocks name)).tree (b ∷ d ∷ []) c (linked_only tree b d blocks entries name) g)))

  -- a node that is a directory gets no second name
  not_dir : (t : Bool) (a : Applied) → Differs (if t then says tree reply.IsDir else a) → Differs a
  not_dir true a d = same d
  not_dir false a d = d

  linking_changed : (to : List (List ℕ)) (dirs : List ℕ) (v : Spot) (p : Place) → Mirrors s (node_at tree) n v p → Differs (linked tree p (place tree to)) → Tells IsAlone (run (linking h to dirs v) s)
  linking_changed to dirs = by_spot s (node_at tree) n of.pictures (λ v p. Differs (linked tree p (place tree to)) → Tells IsAlone (run (linking h to dirs v) s))
      (λ d. same d)
      (λ r d. same d)
      (λ d blocks entries name b is had g.
      let w = run (walk to) s in
      let v = run (linking h to dirs (AtName (n.inode d) (inode_by n d (Dir entries blocks)) name (n.spot d name) (entry_of n name b))) s in
      narrow (link_changed (n.inode b) w.spot) v (linked_gap b w.spot (place tree to) (walks_lead s tree n to of).0 (not_dir (is_dir (node_at tree b)) (linked_to tree b (place tree to)) g))
      (tells_map v (λ f t. t.alone) (linking_tells h s to dirs (n.inode d) (inode_by n d (Dir entries blocks)) name (n.spot d name) (entry_of n name b))))
      (λ d blocks entries name is absent g. same g)

  pub link_changes : (path to : List (List ℕ)) → Differs (linked tree (place tree path) (place tree to)) → Tells IsAlone (run (plan_linked h path to) s)
  link_changes path to d = let w = run (walk path) s in rw (run-bind (walk path) (λ w. linking h to w.dirs w.spot) s) (linking_changed to w.dirs w.spot (place tree path) (walks_lead s tree n path of).0 d)

  -- ---- unlink, rmdir
  unlinked_nodes : (v : Spot) (p : Place) → Mirrors s (node_at tree) n v p → Differs (unlinked tree p) → Contains (name_nodes v) i
  unlinked_nodes = by_spot s (node_at tree) n of.pictures (λ v p. Differs (unlinked tree p) → Contains (name_nodes v) i)
      (λ d. same d)
      (λ r d. same d)
      (λ d blocks entries name b is had g. in_two d b (is_among tree (unlinked tree (Taken d entries blocks name b)).tree (d ∷ b ∷ []) c (unlinked_only tree d blocks entries name b) g))
      (λ d blocks entries name is absent g. same g)

  pub unlink_changes : (path : List (List ℕ)) → Differs (unlinked tree (place tree path)) → Tells IsAlone (run (plan_unlinked path) s)
  unlink_changes path d = let w = run (walk path) s in narrow (name_nodes w.spot) (run (plan_unlinked path) s) (unlinked_nodes w.spot (place tree path) (walks_lead s tree n path of).0 d) (unlink_alone h s path)

  removed_nodes : (v : Spot) (p : Place) → Mirrors s (node_at tree) n v p → Differs (dir_removed tree p) → Contains (name_nodes v) i
  removed_nodes = by_spot s (node_at tree) n of.pictures (λ v p. Differs (dir_removed tree p) → Contains (name_nodes v) i)
      (λ d. same d)
      (λ r d. same d)
      (λ d blocks entries name b is had g. in_two d b (is_among tree (dir_removed tree (Taken d entries blocks name b)).tree (d ∷ b ∷ []) c (removed_only tree d blocks entries name b) g))
      (λ d blocks entries name is absent g. same g)

  pub rmdir_changes : (path : List (List ℕ)) → Differs (dir_removed tree (place tree path)) → Tells IsAlone (run (plan_dir_removed path) s)
  rmdir_changes path d = let w = run (walk path) s in narrow (name_nodes w.spot) (run (plan_dir_removed path) s) (removed_nodes w.spot (place tree path) (walks_lead s tree n path of).0 d) (rmdir_alone h s path)

  -- ---- rename
  module _ (to : List (List ℕ)) (from fblocks : ℕ) (fentries : Entries) (name : List ℕ) (b : ℕ) (fis : node_at tree from ≡ Some (Dir fentries fblocks)) (fhad : entry_at fentries name ≡ Some b) where
    abbrev m : Moving
    m = moving_of n from fblocks fentries name b

    not_through : (t : Bool) (a : Applied) → Differs (if t then says tree reply.Inval else a) → Differs a
    not_through true a d = same d
    not_through false a d = d

    onto_nodes : (d old : ℕ) (t u : Bool) → t ≡ u → Contains (if u then [] else from ∷ d ∷ old ∷ []) c → Contains (if t then [] else n.inode from ∷ n.inode d ∷ n.inode old ∷ []) i
    onto_nodes d old true true e g = absurd (not_in_none c g)
    onto_nodes d old true false e g = absurd (cc)
    onto_nodes d old false true e g = absurd (cc)
    onto_nodes d old false false e g = ⊎_elim
        (λ p. subst (λ z. Contains all (n.inode z)) p (has_head (n.inode from) (n.inode d ∷ n.inode old ∷ [])))
        (λ q. has_more (n.inode from) i (n.inode d ∷ n.inode old ∷ []) (in_two d old q)) (has_cases from c (d ∷ old ∷ []) g)
      where
        all : List ℕ
        all = n.inode from ∷ n.inode d ∷ n.inode old ∷ []

    to_nodes : (v : Spot) (p : Place) → Mirrors s (node_at tree) n v p → Differs (renamed_to tree from name b to p) → Contains (rename_changed m v) i
    to_nodes = by_spot s (node_at tree) n of.pictures (λ v p. Differs (renamed_to tree from name b to p) → Contains (rename_changed m v) i)
        (λ d. same d)
        (λ r d. same d)
        (λ d blocks entries new old is had g. onto_nodes d old (nat_eq (n.inode old) (n.inode b)) (nat_eq old b)
        (same_inode_test s (node_at tree) n of.pictures old b (names_nodes tree of.well_formed d entries blocks new old is had) (names_nodes tree of.well_formed from fentries fblocks name b fis fhad))
        (is_among tree (moved_onto tree from name b d new old).tree (if old == b then [] else from ∷ d ∷ old ∷ []) c (onto_only tree from name b d new old) (not_through (goes_through tree to b) (moved_onto tree from name b d new old) g)))
        (λ d blocks entries new is absent g. in_two from d (is_among tree (moved_to tree from name b d entries blocks new).tree (from ∷ d ∷ []) c (moved_to_only tree from name b d blocks entries new) (not_through (goes_through tree to b) (moved_to tree from name b d entries blocks new) g)))

  renaming_changed : (to : List (List ℕ)) (dirs : List ℕ) (v : Spot) (p : Place) → Mirrors s (node_at tree) n v p → Differs (renamed_from tree p to) → Tells IsAlone (run (renaming h to dirs v) s)
  renaming_changed to dirs = by_spot s (node_at tree) n of.pictures (λ v p. Differs (renamed_from tree p to) → Tells IsAlone (run (renaming h to dirs v) s))
      (λ d. same d)
      (λ r d. same d)
      (λ d blocks entries name b is had g.
      let w = run (walk to) s in
      let v = run (renaming h to dirs (AtName (n.inode d) (inode_by n d (Dir entries blocks)) name (n.spot d name) (entry_of n name b))) s in
      narrow (rename_changed (moving_of n d blocks entries name b) w.spot) v (to_nodes to d blocks entries name b is had w.spot (place tree to) (walks_lead s tree n to of).0 g)
      (tells_map v (λ f t. t.alone) (renaming_tells h s to dirs (n.inode d) (inode_by n d (Dir entries blocks)) name (n.spot d name) (entry_of n name b))))
      (λ d blocks entries name is absent g. same g)

  pub rename_changes : (path to : List (List ℕ)) → Differs (renamed tree path to) → Tells IsAlone (run (plan_renamed h path to) s)
  rename_changes [] to d = same d
  rename_changes (name ∷ names) [] d = same d
  rename_changes (name ∷ names) (new ∷ news) d = let w = run (walk (name ∷ names)) s in
      rw (run-bind (walk (name ∷ names)) (λ w. renaming h (new ∷ news) w.dirs w.spot) s) (renaming_changed (new ∷ news) w.dirs w.spot (place tree (name ∷ names)) (walks_lead s tree n (name ∷ names) of).0 d)

  -- ---- a file
  module _ (next : ℕ → List Cell → ℕ → ℕ → Applied) (each : (b links when : ℕ) (cells : List Cell) → OnlyAt tree (next b cells links when).tree (b ∷ [])) where
    by_node : (b : ℕ) (o : Option Node) → node_at tree b ≡ o → Differs (if_file tree next b o) → Contains (if n.kind b == 1 then n.inode b ∷ [] else []) i
    by_node b None e d = same d
    by_node b (Some (Dir entries blocks)) e d = same d
    by_node b (Some (Link target links)) e d = same d
    by_node b (Some (File cells links when)) e d = rw (of.pictures.kinds b (File cells links when) e)
        (⊎_elim (λ p. subst (λ z. Contains (n.inode b ∷ []) (n.inode z)) p (has_head (n.inode b) [])) (λ z. absurd (not_in_none c z)) (has_cases b c [] (is_among tree (next b cells links when).tree (b ∷ []) c (each b links when cells) d)))

    at_root : (o : Option Node) → is_dir o ≡ true → Differs (if_file tree next 0 o) → Contains [] i
    at_root None r d = same d
    at_root (Some (Dir entries blocks)) r d = same d
    at_root (Some (Link target links)) r d = same d
    at_root (Some (File cells links when)) r d = absurd (cc)

    pub file_nodes : (v : Spot) (p : Place) → Mirrors s (node_at tree) n v p → Differs (at_file tree p next) → Contains (spot_target (is_kind 1) v) i
    file_nodes = by_spot s (node_at tree) n of.pictures (λ v p. Differs (at_file tree p next) → Contains (spot_target (is_kind 1) v) i)
        (λ d. at_root (node_at tree 0) of.well_formed.rooted d)
        (λ r d. same d)
        (λ d blocks entries name b is had g. by_node b (node_at tree b) refl g)
        (λ d blocks entries name is absent g. same g)

    pub file_changes : (path : List (List ℕ)) (v : Plan) → Differs (at_file tree (place tree path) next) → Tells (Alone (spot_target (is_kind 1) (run (walk path) s).spot)) v → Tells IsAlone v
    file_changes path v d t = let w = run (walk path) s in narrow (spot_target (is_kind 1) w.spot) v (file_nodes w.spot (place tree path) (walks_lead s tree n path of).0 d) t
