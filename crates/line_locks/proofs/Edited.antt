-- The locks of the edits of which plans are made.
use Rattle.std.proofs.Common.{◌≡◌, ℕ, zero, suc, ◌<◌, ◌+◌, ◌-◌, ◌*◌, ◌/◌, ◌==◌, ⊎_elim, Bool, true, false, if◌then◌else◌, Option, Some, None, List, [], ◌∷◌, ◌++◌, filter, map, refl, sym, ap, ◌∙◌, subst, arith}
use Rattle.std.proofs.lemmas.Bool.{cases_eq}
use Rattle.std.specs.List.{AllByRecursion, Contains}
use Rattle.frang_base.specs.declared.lock.LockId.{LockId}
use Rattle.frang_base.specs.declared.lock.LockId.TheVariants as lock
use Rattle.frang_base.specs.declared.lock.Mode.TheVariants.{Sole}
use Rattle.frang_base.proofs.Lists.{all_append}
use Rattle.tree_definitions.specs.Numbers.{below}
use Rattle.disk_definitions.specs.Store.{Store, StoredNode, StoredEntry, Use}
use Rattle.disk_definitions.specs.Changes.{drop_node, freed, grow, large_gone, put_entry, relink, replace_entry, take_entry, uses_to}
use Rattle.disk_definitions.specs.Edits.{Edit}
use Rattle.disk_definitions.specs.Edits.Edit.{SetInode, SetBit, SetUse, SetPlace, SetLarge}
use Rattle.disk_definitions.specs.NamePlans.{fewer, fewer_segments, is_last, segments_of}
use Rattle.disk_definitions.specs.Plans.{Hand, Lock, Room, enter, room_segments, sole_nodes, with_block}
use Rattle.disk_definitions.specs.Plans.Room.{Inside, InBlock, NoRoom}
use Rattle.plan_laws.proofs.Covering.{has_head, map_has, not_in_none, filter_has}
use Rattle.plan_laws.specs.Locks.{IsSole}
use Rattle.plan_laws.proofs.WalksFine.{either}
use Rattle.plan_laws.proofs.OneNode.{small_of}
use Rattle.disk_definitions.specs.CoversAtHand.{has_small}
use Rattle.disk_definitions.specs.FoundLocks.{edit_locks_of, edit_locks}
use Rattle.line_locks.proofs.Alike.{sole_left, sole_right}
use Rattle.line_locks.proofs.PlansEnd.{owns}

all_below : (P : ℕ → Type 0) (f : ℕ → ℕ) (m : ℕ) → ((i : ℕ) → i < m → P (f i)) → AllByRecursion P (map f (below m))
all_below P f zero g = tt
all_below P f (suc m) g = subst (AllByRecursion P) (sym (joined (below m))) (all_append P (map f (below m)) (f m ∷ []) (all_below P f m (λ i l. g i (omega arith))) (g m (omega arith), tt))
  where
    joined : (xs : List ℕ) → map f (xs ++ m ∷ []) ≡ map f xs ++ f m ∷ []
    joined [] = refl
    joined (x ∷ xs) = ap (λ l. f x ∷ l) (joined xs)

-- there is room
abbrev pub IsRoom : Room → Type 0
IsRoom (Inside q) = Unit {0}
IsRoom (InBlock k) = Unit {0}
IsRoom NoRoom = ⊥

module _ (h : Hand) (s : Store) (nodes : List ℕ) where
  abbrev pub IsEdited : List Edit → LockId → Type 0
  IsEdited edits l = IsSole (edit_locks (owns h s) nodes edits) l

  abbrev pub Segments : List Edit → List ℕ → Type 0
  Segments edits segments = AllByRecursion (λ k. IsEdited edits (lock.Segment k)) segments

  -- ---- one edit, and some among others

  pub inode_edited : (i : ℕ) (v : Option StoredNode) (d : Bool) (edits : List Edit) → IsEdited (SetInode i v d ∷ edits) (lock.Node i)
  inode_edited i v d edits = has_head (lock.Node i, Sole) (edit_locks (owns h s) nodes edits)

  pub bit_edited : (i : ℕ) (b : Bool) (edits : List Edit) → IsEdited (SetBit i b ∷ edits) (lock.Segment (i / 64))
  bit_edited i b edits = has_head (lock.Segment (i / 64), Sole) (edit_locks (owns h s) nodes edits)

  pub use_edited : (k : ℕ) (u : Use) (edits : List Edit) → IsEdited (SetUse k u ∷ edits) (lock.Segment (k / 1024))
  use_edited k u edits = has_head (lock.Segment (k / 1024), Sole) (edit_locks (owns h s) nodes edits)

  pub large_edited : (g : ℕ) (b : Bool) (edits : List Edit) → IsEdited (SetLarge g b ∷ edits) (lock.Segment g)
  large_edited g b edits = has_head (lock.Segment g, Sole) (edit_locks (owns h s) nodes edits)

  pub edited_later : (e : Edit) (edits : List Edit) (l : LockId) → IsEdited edits l → IsEdited (e ∷ edits) l
  edited_later e edits l i = sole_right (edit_locks_of (owns h s) nodes e) (edit_locks (owns h s) nodes edits) l i

  -- the first edits of a list, whatever the others are
  pub node_first : (edits : List Edit) (i : ℕ) (v : Option StoredNode) (d : Bool) (rest : List Edit) → edits ≡ SetInode i v d ∷ rest → IsEdited edits (lock.Node i)
  node_first edits i v d rest e = subst (λ l. IsEdited l (lock.Node i)) (sym e) (inode_edited i v d rest)

  pub bit_second : (edits : List Edit) (i : ℕ) (v : Option StoredNode) (d b : Bool) (rest : List Edit) → edits ≡ SetInode i v d ∷ SetBit i b ∷ rest → IsEdited edits (lock.Segment (i / 64))
  bit_second edits i v d b rest e = subst (λ l. IsEdited l (lock.Segment (i / 64))) (sym e) (edited_later (SetInode i v d) (SetBit i b ∷ rest) (lock.Segment (i / 64)) (bit_edited i b rest))

  use_first : (edits : List Edit) (k : ℕ) (u : Use) (rest : List Edit) → edits ≡ SetUse k u ∷ rest → IsEdited edits (lock.Segment (k / 1024))
  use_first edits k u rest e = subst (λ l. IsEdited l (lock.Segment (k / 1024))) (sym e) (use_edited k u rest)

  node_second : (edits : List Edit) (k : ℕ) (u : Use) (i : ℕ) (v : Option StoredNode) (d : Bool) (rest : List Edit) → edits ≡ SetUse k u ∷ SetInode i v d ∷ rest → IsEdited edits (lock.Node i)
  node_second edits k u i v d rest e = subst (λ l. IsEdited l (lock.Node i)) (sym e) (edited_later (SetUse k u) (SetInode i v d ∷ rest) (lock.Node i) (inode_edited i v d rest))

  pub edited_right : (es fs : List Edit) (l : LockId) → IsEdited fs l → IsEdited (es ++ fs) l
  edited_right [] fs l i = i
  edited_right (e ∷ es) fs l i = edited_later e (es ++ fs) l (edited_right es fs l i)

  pub edited_left : (es fs : List Edit) (l : LockId) → IsEdited es l → IsEdited (es ++ fs) l
  edited_left [] fs l i = absurd (not_in_none (l, Sole) i)
  edited_left (e ∷ es) fs l i =
      ⊎_elim (λ a. sole_left (edit_locks_of (owns h s) nodes e) (edit_locks (owns h s) nodes (es ++ fs)) l a) (λ b. edited_later e (es ++ fs) l (edited_left es fs l b))
      (either (edit_locks_of (owns h s) nodes e) (edit_locks (owns h s) nodes es) (l, Sole) i)

  pub segments_right : (es fs : List Edit) (segments : List ℕ) → Segments fs segments → Segments (es ++ fs) segments
  segments_right es fs [] a = tt
  segments_right es fs (k ∷ ks) a = (edited_right es fs (lock.Segment k) a.0, segments_right es fs ks a.1)

  pub segments_left : (es fs : List Edit) (segments : List ℕ) → Segments es segments → Segments (es ++ fs) segments
  segments_left es fs [] a = tt
  segments_left es fs (k ∷ ks) a = (edited_left es fs (lock.Segment k) a.0, segments_left es fs ks a.1)

  -- ---- a name in a block, under its directory

  pub place_edited : (i : ℕ) (x : StoredNode) (q p : ℕ) (e : Option StoredEntry) (edits : List Edit) → Contains nodes i → s.inode i ≡ Some x → q < 56 * x.blocks → IsEdited (SetPlace (x.small (q / 56)) p e ∷ edits) (lock.Node i)
  place_edited i x q p e edits c is l =
      let k = x.small (q / 56) in
      let test : ℕ → Bool = λ j. owns h s j k in
      let mine : test i ≡ true = ap (λ o. has_small k (Some o)) is ∙ small_of k (q / 56) x (omega arith) refl in
      sole_left (sole_nodes (filter test nodes)) (edit_locks (owns h s) nodes edits) (lock.Node i) (map_has (λ j. (lock.Node j, Sole)) (filter test nodes) i (filter_has test nodes i c mine))

  -- ---- a room

  pub enter_node : (i : ℕ) (x : StoredNode) (e : StoredEntry) (room : Room) → IsRoom room → IsEdited (enter i x e room) (lock.Node i)
  enter_node i x e (Inside q) t = node_first (enter i x e (Inside q)) i _ _ _ refl
  enter_node i x e (InBlock k) t = node_second (enter i x e (InBlock k)) k _ i _ _ _ refl
  enter_node i x e NoRoom t = absurd t

  pub enter_segments : (i : ℕ) (x : StoredNode) (e : StoredEntry) (room : Room) → Segments (enter i x e room) (room_segments room)
  enter_segments i x e (Inside q) = tt
  enter_segments i x e (InBlock k) = (use_first (enter i x e (InBlock k)) k _ _ refl, tt)
  enter_segments i x e NoRoom = tt

  -- ---- a node that loses a link

  uses_edited : (small : ℕ → ℕ) (u : Use) (m i : ℕ) → i < m → IsEdited (uses_to small u m) (lock.Segment (small i / 1024))
  uses_edited small u zero i l = absurd (omega arith)
  uses_edited small u (suc m) i l = ⊎_elim
      (λ e. subst (λ j. IsEdited (uses_to small u (suc m)) (lock.Segment (small j / 1024))) (sym e) (use_edited (small m) u (uses_to small u m)))
      (λ f. edited_later (SetUse (small m) u) (uses_to small u m) (lock.Segment (small i / 1024)) (uses_edited small u m i (grind arith))) (cases_eq i m)

  gone_edited : (large : ℕ) → Segments (large_gone large) (if large == 0 then [] else (large - 1) ∷ [])
  gone_edited large = go (large == 0)
    where
      go : (b : Bool) → Segments (if b then [] else SetLarge (large - 1) false ∷ []) (if b then [] else (large - 1) ∷ [])
      go true = tt
      go false = (large_edited (large - 1) false [], tt)

  drop_segments : (j : ℕ) (y : StoredNode) → Segments (drop_node j y) (segments_of j y)
  drop_segments j y =
      let uses = uses_to y.small (freed y.kind) y.blocks in
      let gone = large_gone y.large in
      let last = SetInode j None false ∷ SetBit j false ∷ [] in
      let smalls = map (λ index. y.small index / 1024) (below y.blocks) in
      let large = if y.large == 0 then [] else (y.large - 1) ∷ [] in (
        edited_right uses (gone ++ last) (lock.Segment (j / 64)) (edited_right gone last (lock.Segment (j / 64)) (edited_later (SetInode j None false) (SetBit j false ∷ []) (lock.Segment (j / 64)) (bit_edited j false []))),
        all_append (λ k. IsEdited (drop_node j y) (lock.Segment k)) smalls large
            (segments_left uses (gone ++ last) smalls (all_below (λ k. IsEdited uses (lock.Segment k)) (λ index. y.small index / 1024) y.blocks (uses_edited y.small (freed y.kind) y.blocks)))
            (segments_right uses (gone ++ last) large (segments_left gone last large (gone_edited y.large))),
      )

  drop_inode : (j : ℕ) (y : StoredNode) → IsEdited (drop_node j y) (lock.Node j)
  drop_inode j y =
      let uses = uses_to y.small (freed y.kind) y.blocks in
      let gone = large_gone y.large in
      let last = SetInode j None false ∷ SetBit j false ∷ [] in
      edited_right uses (gone ++ last) (lock.Node j) (edited_right gone last (lock.Node j) (inode_edited j None false (SetBit j false ∷ [])))

  pub fewer_segments_edited : (j : ℕ) (y : StoredNode) → Segments (fewer j y) (fewer_segments j y)
  fewer_segments_edited j y = go (is_last y)
    where
      go : (b : Bool) → Segments (if b then drop_node j y else relink j y (y.links - 1)) (if b then segments_of j y else [])
      go true = drop_segments j y
      go false = tt

  pub fewer_inode : (j : ℕ) (y : StoredNode) → IsEdited (fewer j y) (lock.Node j)
  fewer_inode j y = go (is_last y)
    where
      go : (b : Bool) → IsEdited (if b then drop_node j y else relink j y (y.links - 1)) (lock.Node j)
      go true = drop_inode j y
      go false = node_first (relink j y (y.links - 1)) j _ _ _ refl
