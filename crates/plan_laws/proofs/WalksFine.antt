-- The sectors that a walk and a search look at are under the locks of the directories that were walked.
use Rattle.std.proofs.Common.{ℕ, zero, suc, ◌≡◌, ◌<◌, ◌≤◌, ◌+◌, ◌*◌, ◌/◌, ◌%◌, ◌==◌, ◌⊎◌, inl, inr, ⊎_elim, Bool, true, false, if◌then◌else◌, Option, Some, None, List, [], ◌∷◌, ◌++◌, nat_lt, nat_eq, refl, sym, ap, subst, arith}
use Rattle.std.proofs.lemmas.Bool.Decides.{nat_tests}
use Rattle.std.proofs.lemmas.List.Elements.{Contains-append_left, Contains-append_right}
use Rattle.std.specs.List.{Contains}
use Rattle.std.specs.Map.{keys_of}
use Rattle.frang_base.specs.declared.lock.LockId.TheVariants as lock
use Rattle.frang_base.specs.declared.reply.Reply.TheVariants as reply
use Rattle.disk_definitions.specs.Store.{Store, StoredNode, StoredEntry}
use Rattle.disk_definitions.specs.Naming.{Naming, place_of}
use Rattle.disk_definitions.specs.Least.{least}
use Rattle.disk_definitions.proofs.LeastLaws.{least_some}
use Rattle.disk_definitions.specs.Picks.{picked_directory}
use Rattle.disk_definitions.specs.Ask.{Sector, InodeAt, DirectoryAt, SegmentAt, Ask, Got, ReadInode, bind, seven, run, looks, read_segments}
use Rattle.disk_definitions.specs.Walks.{Spot, Walked, Found, or_on, hit, search, is_named, is_vacant, spot_by, look_up, in_inode, onward, walk_from, walk}
use Rattle.disk_definitions.specs.Walks.Spot.{AtRoot, AtName, AtGap, Lost}
use Rattle.disk_definitions.specs.Plans.{Hand, Plan, Room, read_held, room_in, room_at, find_room}
use Rattle.disk_definitions.specs.Plans.Room.{Inside, InBlock, NoRoom}
use Rattle.plan_laws.proofs.Asking.{run-bind, looks-bind, run-segments}
use Rattle.plan_laws.proofs.Searching.{found_in, run-search}
use Rattle.plan_laws.proofs.Covering.{has_head, has_more, has_cases}
use Rattle.plan_laws.specs.Covers.{PlanHolds}
use Rattle.plan_laws.proofs.Standing.{HasKind, DiskStands}
use Rattle.plan_laws.proofs.Fine.{held_key, IsUnder, HoldsAll, Fine, on}

-- what is in one of two parts
pub either : {X : Type 0} (xs ys : List X) (x : X) → Contains (xs ++ ys) x → Contains xs x ⊎ Contains ys x
either [] ys x c = inr c
either (z ∷ xs) ys x c = ⊎_elim (λ e. inl (subst (Contains (z ∷ xs)) e (has_head z xs))) (λ d. ⊎_elim (λ a. inl (has_more z x xs a)) (λ b. inr b) (either xs ys x d)) (has_cases z x (xs ++ ys) c)

pub kind_two : (k : ℕ) → nat_eq k 2 ≡ true → k ≡ 2
kind_two k e = grind (arith, nat_tests)

module _ (h : Hand) (s : Store) (n : Naming) (disk : DiskStands h s n) where
  -- the node's inode and blocks, where it is held
  pub inode_under : (v : Plan) (i : ℕ) (x : StoredNode) → s.inode i ≡ Some x → PlanHolds v (lock.Node i) → IsUnder h s n v (InodeAt i)
  inode_under v i x e c = inl (subst (PlanHolds v) (sym (disk.nodes i x e).own) c)

  search_under : (v : Plan) (i : ℕ) (x : StoredNode) → s.inode i ≡ Some x → PlanHolds v (lock.Node i) → (test : Option StoredEntry → Bool) (m j : ℕ) → j + m ≤ 8 * x.blocks → (y : Sector) → Contains (looks (search x.small test j m) s) y → IsUnder h s n v y
  search_under v i x e c test zero j l y d = absurd (let z : d.0 < 0 = d.1 in omega arith)
  search_under v i x e c test (suc m) j l y d = ⊎_elim
      (λ q. subst (IsUnder h s n v) q (inl (subst (PlanHolds v) (sym ((disk.nodes i x e).small (j / 8) (omega arith))) c)))
      (λ r. go (least (λ r. test (f r)) 7) (search_under v i x e c test m (j + 1) (omega arith) y) r)
      (has_cases (DirectoryAt (x.small (j / 8)) (j % 8)) y (looks (or_on (hit test j f (least (λ r. test (f r)) 7)) rest) s) d)
    where
      f : ℕ → Option StoredEntry
      f = seven s.place (x.small (j / 8)) (j % 8)

      rest : Ask (Option Found)
      rest = search x.small test (j + 1) m

      go : (o : Option ℕ) → (Contains (looks rest s) y → IsUnder h s n v y) → Contains (looks (or_on (hit test j f o) rest) s) y → IsUnder h s n v y
      go None more d = more d
      go (Some r) more d = absurd (let z : d.0 < 0 = d.1 in omega arith)

  -- ---- rooms
  pub room_under : (v : Plan) (i : ℕ) (x : StoredNode) → s.inode i ≡ Some x → PlanHolds v (lock.Node i) → (y : Sector) → Contains (looks (find_room h x) s) y → IsUnder h s n v y
  room_under v i x e c y d =
      let p = search x.small is_vacant 0 (8 * x.blocks) in
      ⊎_elim (λ a. search_under v i x e c is_vacant (8 * x.blocks) 0 (omega arith) y a) (λ b. later (run p s) b)
      (either (looks p s) (looks (room_at h x (run p s)) s) y (subst (λ l. Contains l y) (looks-bind p (room_at h x) s) d))
    where
      segment : (ks : List ℕ) → ((k : ℕ) → Contains ks k → Contains (keys_of h.held) k) → Contains (looks (read_segments ks (Got (room_in (picked_directory h.held)))) s) y → IsUnder h s n v y
      segment [] has d = absurd (let z : d.0 < 0 = d.1 in omega arith)
      segment (k ∷ ks) has d = ⊎_elim (λ q. subst (IsUnder h s n v) q (inr (held_key h.held k (has k (has_head k ks))))) (λ r. segment ks (λ c g. has c (has_more k c ks g)) r) (has_cases (SegmentAt k) y (looks (read_segments ks (Got (room_in (picked_directory h.held)))) s) d)

      later : (o : Option Found) → Contains (looks (room_at h x o) s) y → IsUnder h s n v y
      later (Some found) d = absurd (let z : d.0 < 0 = d.1 in omega arith)
      later None d = go (nat_lt x.blocks 16) d
        where
          go : (b : Bool) → Contains (looks (if b then read_held h (Got (room_in (picked_directory h.held))) else Got NoRoom) s) y → IsUnder h s n v y
          go true d = segment (keys_of h.held) (λ k c. c) d
          go false d = absurd (let z : d.0 < 0 = d.1 in omega arith)

  -- a room is in the directory's blocks, or in a block that nobody has
  abbrev pub RoomStands : StoredNode → Room → Type 0
  RoomStands x (Inside q) = q < 56 * x.blocks
  RoomStands x (InBlock k) = n.owner k ≡ None
  RoomStands x NoRoom = Unit {0}

  pub room_stands : (x : StoredNode) → RoomStands x (run (find_room h x) s)
  room_stands x =
      let p = search x.small is_vacant 0 (8 * x.blocks) in
      rw (run-bind p (room_at h x) s) (subst (λ o. RoomStands x (run (room_at h x o) s)) (sym (run-search x.small is_vacant s (8 * x.blocks))) (by_least (least passes (7 * (8 * x.blocks))) refl))
    where
      passes : ℕ → Bool
      passes q = is_vacant (place_of s.place x.small q)

      in_stands : (o : Option ℕ) → picked_directory h.held ≡ o → RoomStands x (room_in o)
      in_stands None e = tt
      in_stands (Some k) e = disk.block k e

      by_least : (o : Option ℕ) → least passes (7 * (8 * x.blocks)) ≡ o → RoomStands x (run (room_at h x (found_in (place_of s.place x.small) o)) s)
      by_least (Some q) e = let l : q < 7 * (8 * x.blocks) = (least_some passes (7 * (8 * x.blocks)) q e).1 in omega arith
      by_least None e = go (nat_lt x.blocks 16)
        where
          go : (b : Bool) → RoomStands x (run (if b then read_held h (Got (room_in (picked_directory h.held))) else Got NoRoom) s)
          go false = tt
          go true = rw (run-segments (keys_of h.held) (Got (room_in (picked_directory h.held))) s) (in_stands (picked_directory h.held) refl)

  -- ---- walks

  -- the spot's directory is that of its inode, and was walked; and so is the place of its name
  pub record DirStands (dirs : List ℕ) (i : ℕ) (x : StoredNode) : Type 0 where
    pub is : s.inode i ≡ Some x
    pub kind_is : x.kind ≡ 2
    pub walked : Contains dirs i

  abbrev pub SpotStands : List ℕ → Spot → Type 0
  SpotStands dirs AtRoot = Unit {0}
  SpotStands dirs (AtName i x name q e) = DirStands dirs i x × (q < 56 * x.blocks) × HasKind s e.inode e.kind
  SpotStands dirs (AtGap i x name) = DirStands dirs i x
  SpotStands dirs (Lost r) = Unit {0}

  -- what a walk shows: its sectors are under the locks of its directories, those before it stay, and its spot stands
  pub record WalkStands (before : List ℕ) (seen : List Sector) (w : Walked) : Type 0 where
    pub under : (v : Plan) → HoldsAll h s n w.dirs v → (y : Sector) → Contains seen y → IsUnder h s n v y
    pub more : (i : ℕ) → Contains before i → Contains w.dirs i
    pub spot : SpotStands w.dirs w.spot

  nowhere : (dirs : List ℕ) (v : Spot) → SpotStands dirs v → WalkStands dirs [] (record { spot = v; dirs = dirs })
  nowhere dirs v stands = record { under = λ v held y c. absurd (let z : c.0 < 0 = c.1 in omega arith); more = λ i c. c; spot = stands }

  further : (seen later : List Sector) (dirs : List ℕ) (w z : Walked) → WalkStands dirs seen w → WalkStands w.dirs later z → WalkStands dirs (seen ++ later) z
  further seen later dirs w z a b = record {
    under = λ v held y c. ⊎_elim (λ d. a.under v (λ i e. held i (b.more i e)) y d) (λ d. b.under v held y d) (either seen later y c);
    more = λ i c. b.more i (a.more i c);
    spot = b.spot;
  }

  module _ (dirs : List ℕ) (i : ℕ) (x : StoredNode) (name : List ℕ) (is : s.inode i ≡ Some x) (two : x.kind ≡ 2) where
    abbrev p : Ask (Option Found)
    p = search x.small (is_named name) 0 (8 * x.blocks)

    abbrev f : Option Found → Walked
    f found = record { spot = spot_by i x name found; dirs = dirs ++ i ∷ [] }

    last : Contains (dirs ++ i ∷ []) i
    last = Contains-append_right dirs (i ∷ []) i (has_head i [])

    dir : DirStands (dirs ++ i ∷ []) i x
    dir = record { is = is; kind_is = two; walked = last }

    by_place : (q : ℕ) (o : Option StoredEntry) → place_of s.place x.small q ≡ o → q < 56 * x.blocks → SpotStands (dirs ++ i ∷ []) (spot_by i x name (Some (q, o)))
    by_place q None e l = dir
    by_place q (Some y) e l = (dir, l, disk.leads i x q y is two l e)

    abbrev passes : ℕ → Bool
    passes q = is_named name (place_of s.place x.small q)

    by_least : (o : Option ℕ) → least passes (7 * (8 * x.blocks)) ≡ o → SpotStands (dirs ++ i ∷ []) (spot_by i x name (found_in (place_of s.place x.small) o))
    by_least None e = dir
    by_least (Some q) e = let l : q < 7 * (8 * x.blocks) = (least_some passes (7 * (8 * x.blocks)) q e).1 in by_place q (place_of s.place x.small q) refl (omega arith)

    found : WalkStands dirs (looks p s ++ []) (f (run p s))
    found = record {
      under = λ v held y c. ⊎_elim (λ a. search_under v i x is (held i last) (is_named name) (8 * x.blocks) 0 (omega arith) y a) (λ b. absurd (let z : b.0 < 0 = b.1 in omega arith)) (either (looks p s) [] y c);
      more = λ j c. Contains-append_left dirs (i ∷ []) j c;
      spot = subst (λ o. SpotStands (dirs ++ i ∷ []) (spot_by i x name o)) (sym (run-search x.small (is_named name) s (8 * x.blocks))) (by_least (least passes (7 * (8 * x.blocks))) refl);
    }

    look_stands : WalkStands dirs (looks (look_up dirs i x name) s) (run (look_up dirs i x name) s)
    look_stands =
        subst (λ l. WalkStands dirs l (run (look_up dirs i x name) s)) (sym (looks-bind {B = Walked} p (λ found. Got (f found)) s))
        (subst (WalkStands dirs (looks p s ++ [])) (sym (run-bind {B = Walked} p (λ found. Got (f found)) s)) found)

    read_stands : WalkStands dirs (looks (in_inode dirs i name (Some x)) s) (run (in_inode dirs i name (Some x)) s)
    read_stands = go (x.kind == 2) refl
      where
        go : (b : Bool) → x.kind == 2 ≡ b → WalkStands dirs (looks (if b then look_up dirs i x name else Got (record { spot = Lost reply.NotDir; dirs = dirs })) s) (run (if b then look_up dirs i x name else Got (record { spot = Lost reply.NotDir; dirs = dirs })) s)
        go true e = look_stands
        go false e = absurd (let z : nat_eq x.kind 2 ≡ true = ap (λ k. nat_eq k 2) two in cc)

    -- the directory's own inode is read first
    read_last : (b : Bool) → x.kind == 2 ≡ b → Contains (run (if b then look_up dirs i x name else Got (record { spot = Lost reply.NotDir; dirs = dirs })) s).dirs i
    read_last true e = subst (λ w. Contains w.dirs i) (sym (run-bind {B = Walked} p (λ found. Got (f found)) s)) last
    read_last false e = absurd (let z : nat_eq x.kind 2 ≡ true = ap (λ k. nat_eq k 2) two in cc)

    pub step_stands : WalkStands dirs (looks (ReadInode i (in_inode dirs i name)) s) (run (ReadInode i (in_inode dirs i name)) s)
    step_stands = subst (λ o. WalkStands dirs (InodeAt i ∷ looks (in_inode dirs i name o) s) (run (in_inode dirs i name o) s)) (sym is)
        (record {
          under = λ v held y c. ⊎_elim (λ q. subst (IsUnder h s n v) q (inode_under v i x is (held i (read_last (x.kind == 2) refl)))) (λ d. read_stands.under v held y d) (has_cases (InodeAt i) y (looks (in_inode dirs i name (Some x)) s) c);
          more = read_stands.more;
          spot = read_stands.spot;
        })

  onward_stands : (next : List ℕ → ℕ → Ask Walked) (dirs : List ℕ) → ((j : ℕ) → HasKind s j 2 → WalkStands dirs (looks (next dirs j) s) (run (next dirs j) s)) → (v : Spot) → SpotStands dirs v →
      WalkStands dirs (looks (onward next dirs v) s) (run (onward next dirs v) s)
  onward_stands next dirs each AtRoot t = each 0 disk.root
  onward_stands next dirs each (AtGap i x name) t = nowhere dirs (Lost reply.NoEnt) tt
  onward_stands next dirs each (Lost r) t = nowhere dirs (Lost r) tt
  onward_stands next dirs each (AtName i x name q e) t = go (e.kind == 2) refl
    where
      go : (b : Bool) → e.kind == 2 ≡ b → WalkStands dirs (looks (if b then next dirs e.inode else Got (record { spot = Lost reply.NotDir; dirs = dirs })) s) (run (if b then next dirs e.inode else Got (record { spot = Lost reply.NotDir; dirs = dirs })) s)
      go true p = each e.inode (subst (HasKind s e.inode) (kind_two e.kind p) t.2)
      go false p = nowhere dirs (Lost reply.NotDir) tt

  from_stands : (path : List (List ℕ)) (dirs : List ℕ) (i : ℕ) → HasKind s i 2 → WalkStands dirs (looks (walk_from dirs i path) s) (run (walk_from dirs i path) s)
  from_stands [] dirs i k = nowhere dirs AtRoot tt
  from_stands (name ∷ []) dirs i k = step_stands dirs i k.node name k.is k.kind_is
  from_stands (name ∷ next ∷ names) dirs i k =
      let p = ReadInode i (in_inode dirs i name) in
      let on : List ℕ → ℕ → Ask Walked = λ more j. walk_from more j (next ∷ names) in
      let f : Walked → Ask Walked = λ w. onward on w.dirs w.spot in
      let a = step_stands dirs i k.node name k.is k.kind_is in
      let w = run p s in
      let b = onward_stands on w.dirs (λ j d. from_stands (next ∷ names) w.dirs j d) w.spot a.spot in
      subst (λ l. WalkStands dirs l (run (bind p f) s)) (sym (looks-bind {B = Walked} p f s))
      (subst (WalkStands dirs (looks p s ++ looks (f w) s)) (sym (run-bind {B = Walked} p f s)) (further (looks p s) (looks (f w) s) dirs w (run (f w) s) a b))

  pub walk_stands : (path : List (List ℕ)) → WalkStands [] (looks (walk path) s) (run (walk path) s)
  walk_stands path = from_stands path [] 0 disk.root

  -- a plan behind a walk, whose directories are among the nodes that were touched
  pub on_walk : (touched : List ℕ) (path : List (List ℕ)) (f : Walked → Ask Plan) → ((i : ℕ) → Contains (run (walk path) s).dirs i → Contains touched i) → Fine h s n touched (f (run (walk path) s)) → Fine h s n touched (bind (walk path) f)
  on_walk touched path f has r = on h s n touched (walk path) f (λ x c. (walk_stands path).under (run (f (run (walk path) s)) s) (λ i d. r.nodes i (has i d)) x c) r
