-- Names from the left, over the disk of a tree: each leads where the tree's does, if links are followed alike, and only sectors of nodes on the trail
-- are looked at.
use Rattle.std.proofs.Common.{◌≡◌, ℕ, ◌*◌, ◌==◌, ◌&&◌, Bool, true, false, if◌then◌else◌, Option, Some, None, List, [], ◌∷◌, ◌++◌, refl, sym, ◌∙◌, ap, subst, is_some}
use mathlib.Core.Bool.{and-false}
use Rattle.tree_definitions.specs.declared.node.Node.{Node}
use Rattle.tree_definitions.specs.declared.node.Node.TheVariants.{Dir, File, Link}
use Rattle.tree_definitions.specs.Apply.{is_dir}
use Rattle.tree_definitions.specs.Entries.{Entries, entry_at}
use Rattle.tree_definitions.specs.Place.{place_by}
use Rattle.tree_definitions.specs.Tree.{FileTree, node_at}
use Rattle.tree_definitions.specs.Resolve as trees
use Rattle.tree_laws.proofs.Keeping.{names_nodes}
use Rattle.disk_definitions.specs.Store.{Store, StoredNode}
use Rattle.disk_definitions.specs.Naming.{Naming, entry_of}
use Rattle.disk_definitions.proofs.Kept.{inode_is}
use Rattle.disk_definitions.specs.Ask.{Ask, Got, ReadInode, run, looks, bind}
use Rattle.disk_definitions.specs.Meets.{IsOfTree}
use Rattle.disk_definitions.specs.Walks.{Found, Walked, search, is_named, spot_by, look_up}
use Rattle.plan_laws.specs.Walking.{Mirrors}
use Rattle.plan_laws.proofs.Asking.{run-bind}
use Rattle.plan_laws.proofs.Cases.{inode_by}
use Rattle.plan_laws.proofs.Covering.{has_head}
use Rattle.plan_laws.proofs.Spots.{look_up_leads}
use Rattle.disk_definitions.specs.Resolving.{Leads, Resolution, leads, behind, passes, at_entry, at_gap, at_name, below_inode, resolve_names}
use Rattle.line_laws.specs.Resolutions.{resolution_by}
use Rattle.line_laws.proofs.Looked.{AreOnTrail, on_behind, on_bind, on_got, on_directory, on_inode}

-- what is done where a link is followed: in the store its inode, that of the directory that holds it, the path of this, and the names that are left
abbrev pub Follow : Type 0
Follow = ℕ → ℕ → List (List ℕ) → List (List ℕ) → Ask Resolution

-- in the tree the link, its target, the directory that holds it, the path of this, and the names that are left
abbrev pub TreeFollow : Type 0
TreeFollow = ℕ → List ℕ → ℕ → List (List ℕ) → List (List ℕ) → trees.Resolution

module _ (s : Store) (tree : FileTree) (n : Naming) (of : IsOfTree s tree n) where
  -- a walk over the store is that of the tree, and looks at sectors of the nodes on its trail
  pub record IsWalk (ask : Ask Resolution) (walk : trees.Resolution) : Type 0 where
    pub leads : run ask s ≡ resolution_by n walk
    pub looked : AreOnTrail tree n walk.trail (looks ask s)

  -- one node more in front of both
  pub passed : (b : ℕ) (ask : Ask Resolution) (walk : trees.Resolution) → run ask s ≡ resolution_by n walk → AreOnTrail tree n (b ∷ walk.trail) (looks ask s) → IsWalk (passes (n.inode b) ask) (trees.passes b walk)
  passed b ask walk leads looked = record {
    leads = run-bind ask (λ rest. Got (behind (n.inode b) rest)) s ∙ ap (behind (n.inode b)) leads;
    looked = on_got tree n s (b ∷ walk.trail) ask (behind (n.inode b)) looked;
  }

  -- one look more at the inode of a node that both pass through
  looked_first : (b : ℕ) (next : Option StoredNode → Ask Resolution) (walk : trees.Resolution) → is_some (node_at tree b) ≡ true → IsWalk (next (s.inode (n.inode b))) (trees.passes b walk) → IsWalk (ReadInode (n.inode b) next) (trees.passes b walk)
  looked_first b next walk there w = record { leads = w.leads; looked = (on_inode tree n b (b ∷ walk.trail) there (has_head b walk.trail), w.looked) }

  -- a name is found where the directory has it
  named : (d blocks : ℕ) (entries : Entries) (name : List ℕ) → node_at tree d ≡ Some (Dir entries blocks) → (P : Option Found → Option ℕ → Type 0) →
      P None None → ((slot : ℕ) → P (Some (slot, None)) None) → ((b slot : ℕ) → entry_at entries name ≡ Some b → P (Some (slot, Some (entry_of n name b))) (Some b)) →
      P (run (search (inode_by n d (Dir entries blocks)).small (is_named name) 0 (8 * blocks)) s) (entry_at entries name)
  named d blocks entries name is P none empty some =
      let x : StoredNode = inode_by n d (Dir entries blocks) in
      let found : Option Found = run (search x.small (is_named name) 0 (8 * blocks)) s in
      let leads_to = look_up_leads s (node_at tree) n of.pictures d blocks entries is name [] in
      let e : run (look_up [] (n.inode d) x name) s ≡ record { spot = spot_by (n.inode d) x name found; dirs = n.inode d ∷ [] } =
      run-bind (search x.small (is_named name) 0 (8 * blocks)) (λ found. Got (record { spot = spot_by (n.inode d) x name found; dirs = n.inode d ∷ [] })) s in
      by_found x found (entry_at entries name) refl (subst (λ (w : Walked). Mirrors s (node_at tree) n w.spot (place_by d entries blocks name (entry_at entries name))) e leads_to.spot)
    where
      by_found : (x : StoredNode) (found : Option Found) (o : Option ℕ) → entry_at entries name ≡ o → Mirrors s (node_at tree) n (spot_by (n.inode d) x name found) (place_by d entries blocks name o) → P found o
      by_found x None None e m = none
      by_found x None (Some b) e m = absurd m
      by_found x (Some (slot, None)) None e m = empty slot
      by_found x (Some (slot, None)) (Some b) e m = absurd m
      by_found x (Some (slot, Some entry)) None e m = absurd m
      by_found x (Some (slot, Some entry)) (Some b) e m = subst (λ z. P (Some (slot, Some z)) (Some b)) (sym m.4) (some b slot e)

  module _ (last : Bool) (f : Follow) (g : TreeFollow)
      (same : (link : ℕ) (target : List ℕ) (links dir : ℕ) (above names : List (List ℕ)) → node_at tree link ≡ Some (Link target links) → is_dir (node_at tree dir) ≡ true → IsWalk (f (n.inode link) (n.inode dir) above names) (g link target dir above names)) where
    -- at the last name, whose entry is of no link
    stops_here : (dir b : ℕ) (above here : List (List ℕ)) → (last && n.kind b == 3) ≡ false →
        IsWalk (if last && n.kind b == 3 then f (n.inode b) (n.inode dir) above [] else leads here (Some (n.kind b))) (trees.ends_at here (Some b))
    stops_here dir b above here e = rw e (record { leads = refl; looked = tt })

    -- at an entry
    at_entry_same : (dir : ℕ) (above here names : List (List ℕ)) (name : List ℕ) (b : ℕ) (into : ℕ → Ask Resolution) (tree_into : ℕ → trees.Resolution) → is_dir (node_at tree dir) ≡ true →
        (o : Option Node) → node_at tree b ≡ o → is_some o ≡ true → (is_dir (node_at tree b) ≡ true → IsWalk (into (n.inode b)) (tree_into b)) →
        IsWalk (at_entry last (λ link. f link (n.inode dir) above names) into here names (entry_of n name b)) (trees.at_entry last (λ target. g b target dir above names) (tree_into b) here b names o)
    at_entry_same dir above here names name b into tree_into d None is there on = absurd (cc)
    at_entry_same dir above here [] name b into tree_into d (Some (Dir entries blocks)) is there on = stops_here dir b above here (rw (of.pictures.kinds b (Dir entries blocks) is) (and-false last))
    at_entry_same dir above here [] name b into tree_into d (Some (File cells links when)) is there on = stops_here dir b above here (rw (of.pictures.kinds b (File cells links when) is) (and-false last))
    at_entry_same dir above here [] name b into tree_into d (Some (Link target links)) is there on = by_last last
      where
        by_last : (c : Bool) → IsWalk (if c && n.kind b == 3 then f (n.inode b) (n.inode dir) above [] else leads here (Some (n.kind b))) (if c then g b target dir above [] else trees.ends_at here (Some b))
        by_last true = rw (of.pictures.kinds b (Link target links) is) (same b target links dir above [] is d)
        by_last false = record { leads = refl; looked = tt }
    at_entry_same dir above here (x ∷ xs) name b into tree_into d (Some (Dir entries blocks)) is there on = rw (of.pictures.kinds b (Dir entries blocks) is) (on (ap is_dir is))
    at_entry_same dir above here (x ∷ xs) name b into tree_into d (Some (File cells links when)) is there on = rw (of.pictures.kinds b (File cells links when) is) (record { leads = refl; looked = tt })
    at_entry_same dir above here (x ∷ xs) name b into tree_into d (Some (Link target links)) is there on = rw (of.pictures.kinds b (Link target links) is) (same b target links dir above (x ∷ xs) is d)

    -- at a name of a directory
    at_name_same : (dir blocks : ℕ) (entries : Entries) (name : List ℕ) (above here names : List (List ℕ)) (into : ℕ → Ask Resolution) (tree_into : ℕ → trees.Resolution) → node_at tree dir ≡ Some (Dir entries blocks) →
        ((b : ℕ) → is_dir (node_at tree b) ≡ true → IsWalk (into (n.inode b)) (tree_into b)) →
        IsWalk (at_name last (λ link. f link (n.inode dir) above names) into here names (run (search (inode_by n dir (Dir entries blocks)).small (is_named name) 0 (8 * blocks)) s))
        (trees.at_name tree last (λ link target. g link target dir above names) tree_into here names (entry_at entries name))
    at_name_same dir blocks entries name above here names into tree_into is on =
        named dir blocks entries name is
        (λ found o. IsWalk (at_name last (λ link. f link (n.inode dir) above names) into here names found) (trees.at_name tree last (λ link target. g link target dir above names) tree_into here names o))
        (gap names) (λ slot. gap names)
        (λ b slot at. at_entry_same dir above here names name b into tree_into (ap is_dir is) (node_at tree b) refl (names_nodes tree of.well_formed dir entries blocks name b is at) (on b))
      where
        gap : (names : List (List ℕ)) → IsWalk (at_gap here names) (trees.at_name tree last (λ link target. g link target dir above names) tree_into here names None)
        gap [] = record { leads = refl; looked = tt }
        gap (x ∷ xs) = record { leads = refl; looked = tt }

    -- a name below a directory
    below_same : (dir : ℕ) (name : List ℕ) (above here names : List (List ℕ)) (into : ℕ → Ask Resolution) (tree_into : ℕ → trees.Resolution) → (o : Option Node) → node_at tree dir ≡ o → is_dir o ≡ true →
        ((b : ℕ) → is_dir (node_at tree b) ≡ true → IsWalk (into (n.inode b)) (tree_into b)) →
        IsWalk (ReadInode (n.inode dir) (below_inode last (λ link. f link (n.inode dir) above names) into here (n.inode dir) name names))
        (trees.below_node tree last (λ link target. g link target dir above names) tree_into here dir name names o)
    below_same dir name above here names into tree_into (Some (Dir entries blocks)) is d on =
        looked_first dir below walk (ap is_some is)
        (subst (λ (z : Option StoredNode). IsWalk (below z) (trees.passes dir walk)) (sym (inode_is s (node_at tree) n of.pictures dir (Dir entries blocks) is))
        (passed dir (bind look next) walk (run-bind look next s ∙ after.leads)
        (on_bind tree n s (dir ∷ walk.trail) look next (on_directory tree n s dir blocks entries (dir ∷ walk.trail) is (has_head dir walk.trail) (is_named name)) (on_behind tree n dir walk.trail (looks (next (run look s)) s) after.looked))))
      where
        below : Option StoredNode → Ask Resolution
        below = below_inode last (λ link. f link (n.inode dir) above names) into here (n.inode dir) name names

        look : Ask (Option Found)
        look = search (inode_by n dir (Dir entries blocks)).small (is_named name) 0 (8 * blocks)

        next : Option Found → Ask Resolution
        next = at_name last (λ link. f link (n.inode dir) above names) into here names

        walk : trees.Resolution
        walk = trees.at_name tree last (λ link target. g link target dir above names) tree_into here names (entry_at entries name)

        after : IsWalk (next (run look s)) walk
        after = at_name_same dir blocks entries name above here names into tree_into is on
    below_same dir name above here names into tree_into (Some (File cells links when)) is d on = absurd (cc)
    below_same dir name above here names into tree_into (Some (Link target links)) is d on = absurd (cc)
    below_same dir name above here names into tree_into None is d on = absurd (cc)

    -- along the names
    pub names_same : (names : List (List ℕ)) (dir : ℕ) (above : List (List ℕ)) → is_dir (node_at tree dir) ≡ true → IsWalk (resolve_names last f (n.inode dir) above names) (trees.resolve_names tree last g dir above names)
    names_same [] dir above d = record { leads = ap (λ k. record { end = Leads above (Some k); trail = [] }) (sym (directory_kind dir (node_at tree dir) refl d)); looked = tt }
      where
        directory_kind : (b : ℕ) (o : Option Node) → node_at tree b ≡ o → is_dir o ≡ true → n.kind b ≡ 2
        directory_kind b (Some (Dir entries blocks)) is d = of.pictures.kinds b (Dir entries blocks) is
        directory_kind b (Some (File cells links when)) is d = absurd (cc)
        directory_kind b (Some (Link target links)) is d = absurd (cc)
        directory_kind b None is d = absurd (cc)
    names_same (name ∷ names) dir above d =
        below_same dir name above (above ++ name ∷ []) names (λ inode. resolve_names last f inode (above ++ name ∷ []) names) (λ b. trees.resolve_names tree last g b (above ++ name ∷ []) names) (node_at tree dir) refl d
        (λ b e. names_same names b (above ++ name ∷ []) e)
