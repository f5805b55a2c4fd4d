-- The nodes that an operation touches in the tree are among those that its plan holds.
use Rattle.std.proofs.Common.{ℕ, ◌≡◌, ◌==◌, not, ⊎_elim, Bool, true, false, if◌then◌else◌, Option, Some, None, List, [], ◌∷◌, ◌++◌, refl, sym, ◌∙◌, ap, subst}
use Rattle.std.proofs.lemmas.List.Elements.{Contains-append_left, Contains-append_right}
use Rattle.std.specs.List.{Contains}
use Rattle.frang_base.specs.declared.op.Op.{Op}
use Rattle.frang_base.specs.declared.op.Op.TheVariants as op
use Rattle.tree_definitions.specs.declared.node.Node.{Node}
use Rattle.tree_definitions.specs.declared.node.Node.TheVariants.{Dir, File, Link}
use Rattle.tree_definitions.specs.Tree.{FileTree, node_at}
use Rattle.tree_definitions.specs.Place.{Place, Root, Taken, Free, Nowhere, place_in, below, place_from, place, walked}
use Rattle.tree_definitions.specs.Apply.{is_dir}
use Rattle.tree_definitions.specs.Touched.{reached, reached_if, any_node, dir_node, then_walked, looked_in}
use Rattle.disk_definitions.specs.Store.{Store}
use Rattle.disk_definitions.specs.Naming.{Naming, kind_of}
use Rattle.disk_definitions.specs.Ask.{run}
use Rattle.disk_definitions.specs.Walks.{Spot, walk}
use Rattle.disk_definitions.specs.Plans.{Hand}
use Rattle.disk_definitions.specs.Meets.{IsOfTree}
use Rattle.plan_laws.specs.Walking.{Mirrors}
use Rattle.plan_laws.proofs.Cases.{by_spot}
use Rattle.plan_laws.proofs.Walking.{walks_lead, IsNotRoot, place_not_root}
use Rattle.plan_laws.proofs.Covering.{has_head, has_cases, map_has, not_in_none}
use Rattle.plan_laws.proofs.Standing.{DiskStands}
use Rattle.plan_laws.proofs.NamesFine.{link_dirs, removed_dir}
use Rattle.plan_laws.proofs.RenamesFine.{rename_dirs}
use Rattle.plan_laws.proofs.Targets.{any_kind, is_kind, spot_target}
use Rattle.plan_laws.proofs.WalksFine.{either}
use Rattle.plan_laws.proofs.AllFine.{touched}

on_below : (p : Place) (next : ℕ → Place) → IsNotRoot p → ((b : ℕ) → IsNotRoot (next b)) → IsNotRoot (below p next)
on_below Root next f each = absurd f
on_below (Taken d entries blocks name b) next f each = each b
on_below (Free d entries blocks name) next f each = tt
on_below (Nowhere r) next f each = tt

pub not_root : (tree : FileTree) (names : List (List ℕ)) (d : ℕ) (name : List ℕ) → IsNotRoot (place_from tree d (name ∷ names))
not_root tree [] d name = place_not_root (node_at tree d) d name
not_root tree (next ∷ names) d name = on_below (place_in (node_at tree d) d name) (λ b. place_from tree b (next ∷ names)) (place_not_root (node_at tree d) d name) (λ b. not_root tree names b next)

-- what is reached is the node
pub reached_one : (wanted : Node → Bool) (b c : ℕ) (o : Option Node) → Contains (reached_if wanted b o) c → b ≡ c
reached_one wanted b c None d = absurd (not_in_none c d)
reached_one wanted b c (Some node) d = go (wanted node) d
  where
    go : (t : Bool) → Contains (if t then b ∷ [] else []) c → b ≡ c
    go true d = ⊎_elim (λ e. e) (λ g. absurd (not_in_none c g)) (has_cases b c [] d)
    go false d = absurd (not_in_none c d)

module _ (h : Hand) (s : Store) (tree : FileTree) (n : Naming) (of : IsOfTree s tree n) where
  -- the directories of a walk
  pub in_dirs : (path : List (List ℕ)) (b : ℕ) → Contains (walked tree path) b → Contains (run (walk path) s).dirs (n.inode b)
  in_dirs path b c = subst (λ l. Contains l (n.inode b)) (sym (walks_lead s tree n path of).1) (map_has n.inode (walked tree path) b c)

  root_kind : (o : Option Node) → node_at tree 0 ≡ o → is_dir o ≡ true → n.kind 0 ≡ 2
  root_kind None e d = absurd (cc)
  root_kind (Some (Dir entries blocks)) e d = of.pictures.kinds 0 (Dir entries blocks) e
  root_kind (Some (File cells links when)) e d = absurd (cc)
  root_kind (Some (Link target links)) e d = absurd (cc)

  -- the node that is reached, by its inode
  module _ (wanted : Node → Bool) (k : ℕ → Bool) (fit : (node : Node) → wanted node ≡ true → k (kind_of node) ≡ true) where
    at_birth : (b : ℕ) (o : Option Node) → node_at tree b ≡ o → (c : ℕ) → Contains (reached_if wanted b o) c → Contains (if k (n.kind b) then n.inode b ∷ [] else []) (n.inode c)
    at_birth b None e c d = absurd (not_in_none c d)
    at_birth b (Some node) e c d = go (wanted node) refl d
      where
        go : (t : Bool) → wanted node ≡ t → Contains (if t then b ∷ [] else []) c → Contains (if k (n.kind b) then n.inode b ∷ [] else []) (n.inode c)
        go false p d = absurd (not_in_none c d)
        go true p d =
            let one : b ≡ c = ⊎_elim (λ e. e) (λ g. absurd (not_in_none c g)) (has_cases b c [] d) in
            let is : k (n.kind b) ≡ true = ap k (of.pictures.kinds b node e) ∙ fit node p in
            rw is (subst (λ z. Contains (n.inode b ∷ []) (n.inode z)) one (has_head (n.inode b) []))

    pub reached_spot : (v : Spot) (p : Place) → Mirrors s (node_at tree) n v p → (c : ℕ) → Contains (reached tree wanted p) c → Contains (spot_target k v) (n.inode c)
    reached_spot = by_spot s (node_at tree) n of.pictures (λ v p. (c : ℕ) → Contains (reached tree wanted p) c → Contains (spot_target k v) (n.inode c))
        (λ c d. subst (λ z. Contains (if k z then 0 ∷ [] else []) (n.inode c)) (root_kind (node_at tree 0) refl of.well_formed.rooted) (subst (λ z. Contains (if k (n.kind 0) then z ∷ [] else []) (n.inode c)) of.root (at_birth 0 (node_at tree 0) refl c d)))
        (λ r c d. absurd (not_in_none c d))
        (λ d blocks entries name b is had c e. at_birth b (node_at tree b) refl c e)
        (λ d blocks entries name is absent c e. absurd (not_in_none c e))

    pub in_touched : (path : List (List ℕ)) (c : ℕ) → Contains (reached tree wanted (place tree path)) c → Contains (spot_target k (run (walk path) s).spot) (n.inode c)
    in_touched path c d = reached_spot (run (walk path) s).spot (place tree path) (walks_lead s tree n path of).0 c d

  module _ (disk : DiskStands h s n) where
    -- the second walk of a link
    module _ (to : List (List ℕ)) where
      by_node : (b : ℕ) (o : Option Node) → node_at tree b ≡ o → (c : ℕ) → Contains (then_walked tree (reached_if (λ x. not (dir_node x)) b o) to) c → Contains (if n.kind b == 2 then [] else (run (walk to) s).dirs) (n.inode c)
      by_node b None e c d = absurd (not_in_none c d)
      by_node b (Some (Dir entries blocks)) e c d = absurd (not_in_none c d)
      by_node b (Some (File cells links when)) e c d = rw (of.pictures.kinds b (File cells links when) e) (in_dirs to c d)
      by_node b (Some (Link target links)) e c d = rw (of.pictures.kinds b (Link target links) e) (in_dirs to c d)

      at_root : (o : Option Node) → is_dir o ≡ true → (c : ℕ) → Contains (then_walked tree (reached_if (λ x. not (dir_node x)) 0 o) to) c → ⊥
      at_root None r c d = not_in_none c d
      at_root (Some (Dir entries blocks)) r c d = not_in_none c d
      at_root (Some (File cells links when)) r c d = absurd (cc)
      at_root (Some (Link target links)) r c d = absurd (cc)

      pub link_second : (v : Spot) (p : Place) → Mirrors s (node_at tree) n v p → (c : ℕ) → Contains (then_walked tree (reached tree (λ x. not (dir_node x)) p) to) c → Contains (link_dirs h s n disk to v) (n.inode c)
      link_second = by_spot s (node_at tree) n of.pictures (λ v p. (c : ℕ) → Contains (then_walked tree (reached tree (λ x. not (dir_node x)) p) to) c → Contains (link_dirs h s n disk to v) (n.inode c))
          (λ c d. absurd (at_root (node_at tree 0) of.well_formed.rooted c d))
          (λ r c d. absurd (not_in_none c d))
          (λ d blocks entries name b is had c e. by_node b (node_at tree b) refl c e)
          (λ d blocks entries name is absent c e. absurd (not_in_none c e))

      -- of a rename
      whatever : (b : ℕ) (o : Option Node) (c : ℕ) → Contains (then_walked tree (reached_if any_node b o) to) c → Contains (run (walk to) s).dirs (n.inode c)
      whatever b None c d = absurd (not_in_none c d)
      whatever b (Some node) c d = in_dirs to c d

      pub rename_second : (v : Spot) (p : Place) → Mirrors s (node_at tree) n v p → IsNotRoot p → (c : ℕ) → Contains (then_walked tree (reached tree any_node p) to) c → Contains (rename_dirs h s n disk to v) (n.inode c)
      rename_second = by_spot s (node_at tree) n of.pictures (λ v p. IsNotRoot p → (c : ℕ) → Contains (then_walked tree (reached tree any_node p) to) c → Contains (rename_dirs h s n disk to v) (n.inode c))
          (λ f c d. absurd f)
          (λ r f c d. absurd (not_in_none c d))
          (λ d blocks entries name b is had f c e. whatever b (node_at tree b) c e)
          (λ d blocks entries name is absent f c e. absurd (not_in_none c e))

    -- the directory that rmdir removes
    pub removed_spot : (v : Spot) (p : Place) → Mirrors s (node_at tree) n v p → IsNotRoot p → (c : ℕ) → Contains (reached tree dir_node p) c → Contains (removed_dir h s n disk v) (n.inode c)
    removed_spot = by_spot s (node_at tree) n of.pictures (λ v p. IsNotRoot p → (c : ℕ) → Contains (reached tree dir_node p) c → Contains (removed_dir h s n disk v) (n.inode c))
        (λ f c d. absurd f)
        (λ r f c d. absurd (not_in_none c d))
        (λ d blocks entries name b is had f c e. at_birth dir_node (is_kind 2) dir_fit b (node_at tree b) refl c e)
        (λ d blocks entries name is absent f c e. absurd (not_in_none c e))
      where
        dir_fit : (node : Node) → dir_node node ≡ true → is_kind 2 (kind_of node) ≡ true
        dir_fit (Dir entries blocks) e = refl
        dir_fit (File cells links when) e = absurd (cc)
        dir_fit (Link target links) e = absurd (cc)

    -- ---- operation by operation
    two : (xs ys : List ℕ) (zs ws : List ℕ) (b : ℕ) → (Contains xs b → Contains zs (n.inode b)) → (Contains ys b → Contains ws (n.inode b)) → Contains (xs ++ ys) b → Contains (zs ++ ws) (n.inode b)
    two xs ys zs ws b f g c = ⊎_elim (λ d. Contains-append_left zs ws (n.inode b) (f d)) (λ d. Contains-append_right zs ws (n.inode b) (g d)) (either xs ys b c)

    first : (path : List (List ℕ)) (ws : List ℕ) (b : ℕ) → Contains (walked tree path) b → Contains ((run (walk path) s).dirs ++ ws) (n.inode b)
    first path ws b c = Contains-append_left (run (walk path) s).dirs ws (n.inode b) (in_dirs path b c)

    pub walked_touched : (o : Op) (b : ℕ) → Contains (looked_in tree o) b → Contains (touched h s n disk o) (n.inode b)
    walked_touched (op.Create path) b c = in_dirs path b c
    walked_touched (op.Mkdir path) b c = in_dirs path b c
    walked_touched (op.Symlink path target) b c = in_dirs path b c
    walked_touched (op.Link path to) b c = let w = run (walk path) s in
        two (walked tree path) (then_walked tree (reached tree (λ x. not (dir_node x)) (place tree path)) to) w.dirs (link_dirs h s n disk to w.spot) b (in_dirs path b) (link_second to w.spot (place tree path) (walks_lead s tree n path of).0 b) c
    walked_touched (op.Unlink path) b c = in_dirs path b c
    walked_touched (op.Rmdir path) b c = first path (removed_dir h s n disk (run (walk path) s).spot) b c
    walked_touched (op.Rename [] to) b c = absurd (not_in_none b c)
    walked_touched (op.Rename (name ∷ names) []) b c = absurd (not_in_none b c)
    walked_touched (op.Rename (name ∷ names) (new ∷ news)) b c = let w = run (walk (name ∷ names)) s in
        two (walked tree (name ∷ names)) (then_walked tree (reached tree any_node (place tree (name ∷ names))) (new ∷ news)) w.dirs (rename_dirs h s n disk (new ∷ news) w.spot) b (in_dirs (name ∷ names) b)
        (rename_second (new ∷ news) w.spot (place tree (name ∷ names)) (walks_lead s tree n (name ∷ names) of).0 (not_root tree names 0 name) b) c
    walked_touched (op.Write path off bytes) b c = first path (spot_target (is_kind 1) (run (walk path) s).spot) b c
    walked_touched (op.Fill path off len byte) b c = first path (spot_target (is_kind 1) (run (walk path) s).spot) b c
    walked_touched (op.Truncate path len) b c = first path (spot_target (is_kind 1) (run (walk path) s).spot) b c
    walked_touched (op.Read path off len) b c = first path (spot_target (is_kind 1) (run (walk path) s).spot) b c
    walked_touched (op.Stat path) b c = first path (spot_target any_kind (run (walk path) s).spot) b c
    walked_touched (op.List path) b c = first path (spot_target (is_kind 2) (run (walk path) s).spot) b c
    walked_touched (op.Readlink path) b c = first path (spot_target (is_kind 3) (run (walk path) s).spot) b c
    walked_touched (op.Time path) b c = first path (spot_target any_kind (run (walk path) s).spot) b c
    walked_touched op.Sync b c = absurd (not_in_none b c)
    walked_touched op.Mount b c = absurd (not_in_none b c)
    walked_touched op.Unmount b c = absurd (not_in_none b c)
    walked_touched op.Crash b c = absurd (not_in_none b c)
    walked_touched (op.CrashAt k) b c = absurd (not_in_none b c)
    walked_touched (op.CutAt k) b c = absurd (not_in_none b c)
    walked_touched op.Stall b c = absurd (not_in_none b c)
