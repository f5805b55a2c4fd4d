-- What edits change was looked at: of an entry, and of a node with a link fewer.
use Rattle.std.proofs.Common.{ℕ, zero, suc, ◌≡◌, ◌<◌, ◌-◌, ◌*◌, ◌/◌, ◌%◌, ◌==◌, Bool, true, false, if◌then◌else◌, None, List, [], ◌∷◌, ◌++◌, map, sym, ◌∙◌, ap, subst, arith}
use Rattle.std.proofs.lemmas.List.Elements.{Contains-append_left, Contains-append_right}
use Rattle.std.specs.List.{AllByRecursion, Contains}
use Rattle.tree_definitions.specs.Numbers.{below}
use Rattle.frang_base.specs.Functions.{put}
use Rattle.frang_base.proofs.Basics.{put_same}
use Rattle.disk_definitions.specs.Store.{StoredNode, StoredEntry, Use}
use Rattle.disk_definitions.specs.Edits.{Edit}
use Rattle.disk_definitions.specs.Edits.Edit.{SetInode, SetBit, SetUse, SetPlace, SetLarge, SetBytes, SetLargeBytes}
use Rattle.disk_definitions.specs.Changes.{freed, uses_to, large_gone, drop_node, relink}
use Rattle.disk_definitions.specs.Ask.{Sector, InodeAt, DirectoryAt, SegmentAt}
use Rattle.disk_definitions.specs.Plans.{Plan, Room, enter}
use Rattle.disk_definitions.specs.Plans.Plan.{Lacks, Clears, Finishes}
use Rattle.disk_definitions.specs.Plans.Room.{Inside, InBlock, NoRoom}
use Rattle.disk_definitions.specs.NamePlans.{segments_of, is_last, fewer, fewer_segments}
use Rattle.plan_laws.proofs.Covering.{has_head, has_more, map_has, below_has}
use Rattle.plan_laws.proofs.Searched.{RoomLooked}

module _ (all : List Sector) where
  -- the sector of an edit, where it has a version, was looked at
  abbrev pub IsLooked : Edit → Type 0
  IsLooked (SetInode i x dated) = Contains all (InodeAt i)
  IsLooked (SetBit i b) = Contains all (SegmentAt (i / 64))
  IsLooked (SetUse k u) = Contains all (SegmentAt (k / 1024))
  IsLooked (SetPlace k p e) = Contains all (DirectoryAt k (p / 7))
  IsLooked (SetLarge g b) = Contains all (SegmentAt g)
  IsLooked (SetBytes k part bytes) = Unit {0}
  IsLooked (SetLargeBytes g part bytes) = Unit {0}

  abbrev pub AreLooked : List Edit → Type 0
  AreLooked es = AllByRecursion IsLooked es

  abbrev pub PlanLooked : Plan → Type 0
  PlanLooked Lacks = Unit {0}
  PlanLooked (Clears k locks) = Unit {0}
  PlanLooked (Finishes f) = AreLooked f.edits

  pub join : (es fs : List Edit) → AreLooked es → AreLooked fs → AreLooked (es ++ fs)
  join [] fs a b = b
  join (e ∷ es) fs a b = (a.0, join es fs a.1 b)

  -- ---- changes

  -- a block that is taken is read, at its first sector
  abbrev pub FirstLooked : Room → Type 0
  FirstLooked (Inside q) = Unit {0}
  FirstLooked (InBlock k) = Contains all (DirectoryAt k 0)
  FirstLooked NoRoom = Unit {0}

  pub enter_looked : (i : ℕ) (x : StoredNode) (e : StoredEntry) (room : Room) → Contains all (InodeAt i) → RoomLooked all x room → FirstLooked room → AreLooked (enter i x e room)
  enter_looked i x e NoRoom c r f = tt
  enter_looked i x e (Inside q) c r f = (c, (r, tt))
  enter_looked i x e (InBlock k) c r f =
      let a : 56 * x.blocks / 56 ≡ x.blocks = omega arith in
      let b : 0 ≡ 56 * x.blocks % 56 / 7 = omega arith in
      let d : k ≡ put x.small x.blocks k (56 * x.blocks / 56) = sym (put_same x.small x.blocks k) ∙ ap (put x.small x.blocks k) (sym a) in
      (r, (c, (c, (subst (λ z. Contains all (DirectoryAt z (56 * x.blocks % 56 / 7))) d (subst (λ z. Contains all (DirectoryAt k z)) b f), tt))))

  uses_looked : (small : ℕ → ℕ) (u : Use) (m : ℕ) → ((n : ℕ) → n < m → Contains all (SegmentAt (small n / 1024))) → AreLooked (uses_to small u m)
  uses_looked small u zero f = tt
  uses_looked small u (suc m) f = (f m (omega arith), uses_looked small u m (λ n l. f n (omega arith)))

  large_looked : (large : ℕ) → ((k : ℕ) → Contains (if large == 0 then [] else (large - 1) ∷ []) k → Contains all (SegmentAt k)) → AreLooked (large_gone large)
  large_looked large = go (large == 0)
    where
      go : (b : Bool) → ((k : ℕ) → Contains (if b then [] else (large - 1) ∷ []) k → Contains all (SegmentAt k)) → AreLooked (if b then [] else SetLarge (large - 1) false ∷ [])
      go true f = tt
      go false f = (f (large - 1) (has_head (large - 1) []), tt)

  drop_looked : (j : ℕ) (y : StoredNode) → Contains all (InodeAt j) → ((k : ℕ) → Contains (segments_of j y) k → Contains all (SegmentAt k)) → AreLooked (drop_node j y)
  drop_looked j y c f =
      let smalls = map (λ n. y.small n / 1024) (below y.blocks) in
      let large = if y.large == 0 then [] else (y.large - 1) ∷ [] in
      join (uses_to y.small (freed y.kind) y.blocks) (large_gone y.large ++ (SetInode j None false ∷ SetBit j false ∷ []))
      (uses_looked y.small (freed y.kind) y.blocks (λ n l. f (y.small n / 1024) (has_more (j / 64) (y.small n / 1024) (smalls ++ large) (Contains-append_left smalls large (y.small n / 1024) (map_has (λ n. y.small n / 1024) (below y.blocks) n (below_has y.blocks n l))))))
      (join (large_gone y.large) (SetInode j None false ∷ SetBit j false ∷ []) (large_looked y.large (λ k d. f k (has_more (j / 64) k (smalls ++ large) (Contains-append_right smalls large k d)))) (c, (f (j / 64) (has_head (j / 64) (smalls ++ large)), tt)))

  pub fewer_looked : (j : ℕ) (y : StoredNode) → Contains all (InodeAt j) → ((k : ℕ) → Contains (fewer_segments j y) k → Contains all (SegmentAt k)) → AreLooked (fewer j y)
  fewer_looked j y c = go (is_last y)
    where
      go : (b : Bool) → ((k : ℕ) → Contains (if b then segments_of j y else []) k → Contains all (SegmentAt k)) → AreLooked (if b then drop_node j y else relink j y (y.links - 1))
      go true f = drop_looked j y c f
      go false f = (c, tt)
