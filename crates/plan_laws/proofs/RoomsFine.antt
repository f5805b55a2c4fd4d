-- What the plans of names share: edits under the locks of nodes, rooms, second walks, and a node's inode that is read.
use Rattle.std.proofs.Common.{ℕ, zero, suc, ◌≡◌, ◌<◌, ◌-◌, ◌*◌, ◌/◌, ◌==◌, inl, ⊎_elim, Bool, true, false, if◌then◌else◌, Option, Some, None, List, [], ◌∷◌, ◌++◌, map, sym, ◌∙◌, ap, subst, arith}
use Rattle.std.proofs.lemmas.List.Elements.{Contains-append_left, Contains-append_right}
use Rattle.std.specs.List.{Contains}
use Rattle.frang_base.specs.declared.lock.LockId.{LockId}
use Rattle.frang_base.specs.declared.lock.LockId.TheVariants as lock
use Rattle.frang_base.specs.declared.lock.Mode.TheVariants.{Sole}
use Rattle.tree_definitions.specs.Numbers.{below}
use Rattle.frang_base.specs.Functions.{put}
use Rattle.frang_base.proofs.Basics.{put_same}
use Rattle.disk_definitions.specs.Store.{Store, StoredNode, StoredEntry, Use}
use Rattle.disk_definitions.specs.Naming.{Naming}
use Rattle.disk_definitions.specs.Edits.Edit.{SetInode, SetBit, SetLarge}
use Rattle.disk_definitions.specs.Changes.{freed, uses_to, large_gone, drop_node, relink}
use Rattle.disk_definitions.specs.Ask.{InodeAt, DirectoryAt, Ask, Got, ReadInode, ReadDirectory, bind, run, looks}
use Rattle.disk_definitions.specs.Walks.{Spot}
use Rattle.disk_definitions.specs.Walks.Spot.{AtRoot, AtName, AtGap, Lost}
use Rattle.disk_definitions.specs.Plans.{Hand, Lock, Plan, Finish, Room, find_room, finish_in, enter, must_clear, room_segments}
use Rattle.disk_definitions.specs.Plans.Plan.{Clears, Finishes}
use Rattle.disk_definitions.specs.Plans.Room.{Inside, InBlock, NoRoom}
use Rattle.disk_definitions.specs.NamePlans.{segments_of, is_last, fewer, fewer_segments}
use Rattle.plan_laws.specs.Locks.{IsSole}
use Rattle.plan_laws.proofs.Covering.{has_head, has_more, map_has, below_has}
use Rattle.disk_definitions.specs.Covers.{inode_cover, small_cover}
use Rattle.plan_laws.specs.Covers.{PlanHolds, IsHeld}
use Rattle.plan_laws.proofs.Standing.{DiskStands}
use Rattle.plan_laws.proofs.Fine.{EditsFit, join, Fine, FinishFits, seen_more, fewer_touched, done, on}
use Rattle.plan_laws.proofs.WalksFine.{either, inode_under, room_under, RoomStands, SpotStands}

module _ (h : Hand) (s : Store) (n : Naming) (disk : DiskStands h s n) where
  -- ---- changes

  pub own_sole : (locks : List Lock) (i : ℕ) (x : StoredNode) → s.inode i ≡ Some x → IsSole locks (lock.Node i) → IsSole locks (inode_cover i (n.birth i))
  own_sole locks i x is sole = subst (IsSole locks) (sym (disk.nodes i x is).own) sole

  pub place_sole : (locks : List Lock) (i : ℕ) (x : StoredNode) (q : ℕ) → s.inode i ≡ Some x → q < 56 * x.blocks → IsSole locks (lock.Node i) → IsSole locks (small_cover n (x.small (q / 56)) (n.owner (x.small (q / 56))))
  place_sole locks i x q is l sole = subst (IsSole locks) (sym ((disk.nodes i x is).small (q / 56) (omega arith))) sole

  pub enter_fits : (locks : List Lock) (i : ℕ) (x : StoredNode) (e : StoredEntry) (room : Room) → s.inode i ≡ Some x → IsSole locks (lock.Node i) → RoomStands h s n disk x room →
      ((k : ℕ) → Contains (room_segments room) k → IsSole locks (lock.Segment k)) → EditsFit h s n locks (enter i x e room)
  enter_fits locks i x e NoRoom is sole r f = tt
  enter_fits locks i x e (Inside q) is sole r f = (own_sole locks i x is sole, (place_sole locks i x q is r sole, tt))
  enter_fits locks i x e (InBlock k) is sole r f =
      let a : 56 * x.blocks / 56 ≡ x.blocks = omega arith in
      let d : k ≡ put x.small x.blocks k (56 * x.blocks / 56) = sym (put_same x.small x.blocks k) ∙ ap (put x.small x.blocks k) (sym a) in
      let own = own_sole locks i x is sole in
      let segment : IsSole locks (lock.Segment (k / 1024)) = f (k / 1024) (has_head (k / 1024) []) in
      let free : IsSole locks (small_cover n k (n.owner k)) = subst (λ o. IsSole locks (small_cover n k o)) (sym r) segment in
      (segment, (own, (own, (subst (λ z. IsSole locks (small_cover n z (n.owner z))) d free, tt))))

  uses_fit : (locks : List Lock) (small : ℕ → ℕ) (u : Use) (m : ℕ) → ((i : ℕ) → i < m → IsSole locks (lock.Segment (small i / 1024))) → EditsFit h s n locks (uses_to small u m)
  uses_fit locks small u zero f = tt
  uses_fit locks small u (suc m) f = (f m (omega arith), uses_fit locks small u m (λ i l. f i (omega arith)))

  gone_fits : (locks : List Lock) (large : ℕ) → ((k : ℕ) → Contains (if large == 0 then [] else (large - 1) ∷ []) k → IsSole locks (lock.Segment k)) → EditsFit h s n locks (large_gone large)
  gone_fits locks large = go (large == 0)
    where
      go : (b : Bool) → ((k : ℕ) → Contains (if b then [] else (large - 1) ∷ []) k → IsSole locks (lock.Segment k)) → EditsFit h s n locks (if b then [] else SetLarge (large - 1) false ∷ [])
      go true f = tt
      go false f = (f (large - 1) (has_head (large - 1) []), tt)

  drop_fits : (locks : List Lock) (j : ℕ) (y : StoredNode) → s.inode j ≡ Some y → IsSole locks (lock.Node j) → ((k : ℕ) → Contains (segments_of j y) k → IsSole locks (lock.Segment k)) → EditsFit h s n locks (drop_node j y)
  drop_fits locks j y is sole f =
      let smalls = map (λ n. y.small n / 1024) (below y.blocks) in
      let large = if y.large == 0 then [] else (y.large - 1) ∷ [] in
      join h s n locks (uses_to y.small (freed y.kind) y.blocks) (large_gone y.large ++ (SetInode j None false ∷ SetBit j false ∷ []))
      (uses_fit locks y.small (freed y.kind) y.blocks (λ i l. f (y.small i / 1024) (has_more (j / 64) (y.small i / 1024) (smalls ++ large) (Contains-append_left smalls large (y.small i / 1024) (map_has (λ n. y.small n / 1024) (below y.blocks) i (below_has y.blocks i l))))))
      (join h s n locks (large_gone y.large) (SetInode j None false ∷ SetBit j false ∷ []) (gone_fits locks y.large (λ k d. f k (has_more (j / 64) k (smalls ++ large) (Contains-append_right smalls large k d))))
      (own_sole locks j y is sole, (f (j / 64) (has_head (j / 64) (smalls ++ large)), tt)))

  pub fewer_fits : (locks : List Lock) (j : ℕ) (y : StoredNode) → s.inode j ≡ Some y → IsSole locks (lock.Node j) → ((k : ℕ) → Contains (fewer_segments j y) k → IsSole locks (lock.Segment k)) → EditsFit h s n locks (fewer j y)
  fewer_fits locks j y is sole = go (is_last y)
    where
      go : (b : Bool) → ((k : ℕ) → Contains (if b then segments_of j y else []) k → IsSole locks (lock.Segment k)) → EditsFit h s n locks (if b then drop_node j y else relink j y (y.links - 1))
      go true f = drop_fits locks j y is sole f
      go false f = (own_sole locks j y is sole, tt)

  -- ---- rooms

  pub on_room : (touched : List ℕ) (i : ℕ) (x : StoredNode) (f : Room → Ask Plan) → s.inode i ≡ Some x → Contains touched i → Fine h s n touched (f (run (find_room h x) s)) → Fine h s n touched (bind (find_room h x) f)
  on_room touched i x f is c r = on h s n touched (find_room h x) f (λ y d. room_under h s n disk (run (f (run (find_room h x) s)) s) i x is (r.nodes i c) y d) r

  pub finish_holds : (room : Room) (f : Finish) (l : LockId) → IsSole f.locks l → PlanHolds (run (finish_in h room f) s) l
  finish_holds NoRoom f l c = (Sole, c)
  finish_holds (Inside q) f l c = (Sole, c)
  finish_holds (InBlock k) f l c = go (must_clear h k)
    where
      go : (b : Bool) → PlanHolds (run (if b then Got (Clears k f.locks) else ReadDirectory k 0 (λ p. Got (Finishes f))) s) l
      go true = (Sole, c)
      go false = (Sole, c)

  pub room_fine : (touched : List ℕ) (x : StoredNode) (room : Room) (f : Finish) → FinishFits h s n touched f → RoomStands h s n disk x room → ((k : ℕ) → Contains (room_segments room) k → IsSole f.locks (lock.Segment k)) → Fine h s n touched (finish_in h room f)
  room_fine touched x NoRoom f r t g = done h s n touched f r
  room_fine touched x (Inside q) f r t g = done h s n touched f r
  room_fine touched x (InBlock k) f r t g = go (must_clear h k)
    where
      go : (b : Bool) → Fine h s n touched (if b then Got (Clears k f.locks) else ReadDirectory k 0 (λ p. Got (Finishes f)))
      go true = record { nodes = r.nodes; looks = λ y c. absurd (let z : c.0 < 0 = c.1 in omega arith); edits = tt }
      go false = seen_more h s n touched (DirectoryAt k 0) [] (Finishes f) (inl (subst (λ o. IsHeld f.locks (small_cover n k o)) (sym t) (Sole, g (k / 1024) (has_head (k / 1024) [])))) (done h s n touched f r)

  -- ---- a second walk, behind the directories of the first

  pub wider : (before dirs : List ℕ) (v : Spot) → SpotStands h s n disk dirs v → SpotStands h s n disk (before ++ dirs) v
  wider before dirs AtRoot t = tt
  wider before dirs (Lost r) t = tt
  wider before dirs (AtGap i x name) t = record { is = t.is; kind_is = t.kind_is; walked = Contains-append_right before dirs i t.walked }
  wider before dirs (AtName i x name q e) t = (record { is = t.0.is; kind_is = t.0.kind_is; walked = Contains-append_right before dirs i t.0.walked }, t.1, t.2)

  pub alone : (dirs : List ℕ) (i : ℕ) → Contains (dirs ++ []) i → Contains dirs i
  alone dirs i c = ⊎_elim (λ d. d) (λ d. absurd (let z : d.0 < 0 = d.1 in omega arith)) (either dirs [] i c)

  -- a node's inode is read, which is held whatever comes
  pub read_node : (dirs : List ℕ) (j : ℕ) (y : StoredNode) (next : Option StoredNode → Ask Plan) → s.inode j ≡ Some y → Fine h s n (dirs ++ j ∷ []) (next (Some y)) → Fine h s n (dirs ++ j ∷ []) (ReadInode j next)
  read_node dirs j y next is r =
      subst (λ o. Fine h s n (dirs ++ j ∷ []) (next o) → Fine h s n (dirs ++ j ∷ []) (ReadInode j next)) is
      (λ r. seen_more h s n (dirs ++ j ∷ []) (InodeAt j) (looks (next (s.inode j)) s) (run (next (s.inode j)) s) (inode_under h s n disk (run (next (s.inode j)) s) j y is (r.nodes j (Contains-append_right dirs (j ∷ []) j (has_head j [])))) r) r

  pub without_last : (dirs : List ℕ) (j : ℕ) (p : Ask Plan) → Fine h s n (dirs ++ j ∷ []) p → Fine h s n dirs p
  without_last dirs j p r = fewer_touched h s n dirs (dirs ++ j ∷ []) (looks p s) (run p s) (λ i c. Contains-append_left dirs (j ∷ []) i c) r
