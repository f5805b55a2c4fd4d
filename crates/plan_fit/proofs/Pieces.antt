-- The edits of each change are fit.
use Rattle.std.proofs.Common.{◌≡◌, ◌≢◌, ℕ, zero, suc, ◌+◌, ◌-◌, ◌*◌, ◌/◌, ◌%◌, ◌<◌, ◌≤◌, Bool, true, false, ◌==◌, if◌then◌else◌, None, List, [], ◌∷◌, ◌++◌, refl, sym, subst, arith}
use Rattle.std.proofs.lemmas.Bool.Decides.{nat_tests}
use Rattle.tree_definitions.specs.declared.node.Node.{Node}
use Rattle.frang_base.specs.Functions.{put}
use Rattle.frang_base.proofs.Basics.{put_same}
use Rattle.disk_definitions.specs.Store.{Store, StoredNode, StoredEntry, Use}
use Rattle.disk_definitions.specs.Naming.{inode_of}
use Rattle.disk_definitions.specs.Edits.{Edit}
use Rattle.disk_definitions.specs.Edits.Edit.{SetInode, SetBit, SetLarge}
use Rattle.disk_definitions.specs.Changes.{new_node, put_entry, take_entry, replace_entry, grow, relink, freed, uses_to, large_gone, drop_node}
use Rattle.disk_definitions.specs.Plans.{Room, enter, with_block}
use Rattle.disk_definitions.specs.Plans.Room.{Inside, InBlock, NoRoom}
use Rattle.disk_definitions.specs.NamePlans.{is_last, fewer}
use Rattle.disk_definitions.specs.Meets.{is_directory_use}
use Rattle.disk_definitions.specs.FitEdits.{IsFitNode, IsFitEntry, AreFit}
use Rattle.plan_fit.proofs.Links.{links_most, relinked_fits}
use Rattle.plan_fit.proofs.Uses.{metadata_is}

pub fit_join : (segments : ℕ) (end : Store) (es fs : List Edit) → AreFit segments end es → AreFit segments end fs → AreFit segments end (es ++ fs)
fit_join segments end [] fs a b = b
fit_join segments end (e ∷ es) fs a b = (a.0, fit_join segments end es fs a.1 b)

-- a block of the disk that is or was a directory's in the end
abbrev pub IsPlaced : ℕ → Store → ℕ → Type 0
IsPlaced segments end k = (k < 1024 * segments) × (is_directory_use (end.use_of k) ≡ true)

-- room in which an entry may stand
abbrev pub MayEnter : ℕ → Store → StoredNode → Room → Type 0
MayEnter segments end x (Inside q) = IsFitNode (record x { size = x.size + 1 }) × IsPlaced segments end (x.small (q / 56))
MayEnter segments end x (InBlock k) = IsFitNode (with_block x k) × IsFitNode (record (with_block x k) { size = x.size + 1 }) × IsPlaced segments end k
MayEnter segments end x NoRoom = Unit {0}

-- what a node has of the disk is the disk's
pub record IsOnDisk (segments i : ℕ) (x : StoredNode) : Type 0 where
  pub inode : i < 64 * segments
  pub node : IsFitNode x
  pub small : (j : ℕ) → j < x.blocks → x.small j < 1024 * segments
  pub large : x.large == 0 ≡ false → x.large - 1 < segments

module _ (segments : ℕ) (end : Store) where
  pub new_node_fits : (j birth : ℕ) (node : Node) → j < 64 * segments → IsFitNode (inode_of birth (λ j. 0) 0 node) → AreFit segments end (new_node j birth node)
  new_node_fits j birth node l f = (((l, f), tt), ((l, tt), tt))

  put_entry_fits : (i : ℕ) (x : StoredNode) (q : ℕ) (e : StoredEntry) → i < 64 * segments → IsFitNode (record x { size = x.size + 1 }) → IsPlaced segments end (x.small (q / 56)) → IsFitEntry e → AreFit segments end (put_entry i x q e)
  put_entry_fits i x q e l f p g =
      let m : q % 56 < 56 = omega arith in
      (((l, f), tt), (((p.0, m, g), metadata_is (end.use_of (x.small (q / 56))) p.1), tt))

  pub take_entry_fits : (i : ℕ) (x : StoredNode) (q : ℕ) → i < 64 * segments → IsFitNode (record x { size = x.size - 1 }) → IsPlaced segments end (x.small (q / 56)) → AreFit segments end (take_entry i x q)
  take_entry_fits i x q l f p =
      let m : q % 56 < 56 = omega arith in
      (((l, f), tt), (((p.0, m), metadata_is (end.use_of (x.small (q / 56))) p.1), tt))

  pub replace_entry_fits : (x : StoredNode) (q : ℕ) (e : StoredEntry) → IsPlaced segments end (x.small (q / 56)) → IsFitEntry e → AreFit segments end (replace_entry x q e)
  replace_entry_fits x q e p g =
      let m : q % 56 < 56 = omega arith in
      (((p.0, m, g), metadata_is (end.use_of (x.small (q / 56))) p.1), tt)

  grow_fits : (i : ℕ) (x : StoredNode) (k : ℕ) → i < 64 * segments → IsFitNode (with_block x k) → k < 1024 * segments → AreFit segments end (grow i x k)
  grow_fits i x k l f m = ((m, tt), (((l, f), tt), tt))

  pub enter_fits : (i : ℕ) (x : StoredNode) (e : StoredEntry) (room : Room) → i < 64 * segments → IsFitEntry e → MayEnter segments end x room → AreFit segments end (enter i x e room)
  enter_fits i x e NoRoom l g m = tt
  enter_fits i x e (Inside q) l g m = put_entry_fits i x q e l m.0 m.1 g
  enter_fits i x e (InBlock k) l g m =
      let first : (56 * x.blocks) / 56 ≡ x.blocks = omega arith in
      let block : (with_block x k).small ((56 * x.blocks) / 56) ≡ k = subst (λ j. put x.small x.blocks k j ≡ k) (sym first) (put_same x.small x.blocks k) in
      fit_join segments end (grow i x k) (put_entry i (with_block x k) (56 * x.blocks) e) (grow_fits i x k l m.0 m.2.0)
      (put_entry_fits i (with_block x k) (56 * x.blocks) e l m.1 (subst (λ c. IsPlaced segments end c) (sym block) m.2) g)

  pub relink_fits : (i : ℕ) (x : StoredNode) (links : ℕ) → i < 64 * segments → IsFitNode x → x.kind ≢ 2 → 1 ≤ links → links ≤ 1000 → AreFit segments end (relink i x links)
  relink_fits i x links l f plain a b = (((l, relinked_fits x links f plain a b), tt), tt)

  uses_fit : (small : ℕ → ℕ) (u : Use) (m : ℕ) → ((j : ℕ) → j < m → small j < 1024 * segments) → AreFit segments end (uses_to small u m)
  uses_fit small u zero h = tt
  uses_fit small u (suc m) h = ((h m (omega arith), tt), uses_fit small u m (λ j l. h j (omega arith)))

  large_fits : (large : ℕ) → (large == 0 ≡ false → large - 1 < segments) → AreFit segments end (large_gone large)
  large_fits large h = go (large == 0) h
    where
      go : (b : Bool) → (b ≡ false → large - 1 < segments) → AreFit segments end (if b then [] else SetLarge (large - 1) false ∷ [])
      go true h = tt
      go false h = ((h refl, tt), tt)

  module _ (i : ℕ) (x : StoredNode) (on : IsOnDisk segments i x) where
    drop_node_fits : AreFit segments end (drop_node i x)
    drop_node_fits =
        fit_join segments end (uses_to x.small (freed x.kind) x.blocks) (large_gone x.large ++ (SetInode i None false ∷ SetBit i false ∷ [])) (uses_fit x.small (freed x.kind) x.blocks on.small)
        (fit_join segments end (large_gone x.large) (SetInode i None false ∷ SetBit i false ∷ []) (large_fits x.large on.large) ((on.inode, tt), ((on.inode, tt), tt)))

    pub fewer_fits : (is_last x ≡ false → x.kind ≢ 2) → AreFit segments end (fewer i x)
    fewer_fits plain = go (is_last x) refl
      where
        go : (b : Bool) → is_last x ≡ b → AreFit segments end (if b then drop_node i x else relink i x (x.links - 1))
        go true e = drop_node_fits
        go false e =
            let many : 1 < x.links = grind (arith, nat_tests) in
            let most : x.links ≤ 1000 = links_most x on.node (plain e) in
            relink_fits i x (x.links - 1) on.inode on.node (plain e) (omega arith) (omega arith)
