-- Locks whose segments are of the disk, and the sets and sectors that come with them.
use Rattle.std.proofs.Common.{◌≡◌, ◌<◌, ◌*◌, ◌/◌, ◌-◌, ℕ, zero, suc, Bool, true, false, if◌then◌else◌, is_some, List, [], ◌∷◌, ◌++◌, Option, Some, None, filter, fold, get_or, length, nat_lt, refl, ap, ◌∙◌, subst, arith}
use Rattle.std.proofs.lemmas.Bool.{and_parts, false≢true, ltb-true}
use Rattle.std.specs.BTreeMap.{insert_entry}
use Rattle.std.specs.List.{Contains, find}
use Rattle.std.specs.Map.{keys_of}
use Rattle.std.specs.Option.{unwrap_or}
use Rattle.std.specs.Ordering.{is_eq, match_ordering}
use Rattle.std.specs.declared.cmp.Ordering.{Ordering}
use Rattle.std.specs.declared.cmp.Ordering.TheVariants.{Less, Equal, Greater}
use Rattle.frang_base.specs.declared.lock.LockId.{LockId}
use Rattle.frang_base.specs.declared.lock.LockId.TheVariants.{Log, Segment, Node}
use Rattle.frang_base.specs.declared.lock.Mode.{Mode}
use Rattle.frang_base.specs.declared.reply.Reply.{Reply}
use Rattle.lock_definitions.specs.Order.{is_lock, lock_cmp}
use Rattle.lock_definitions.proofs.LockOrder.{found_lock, lock_itself}
use Rattle.disk_definitions.specs.declared.region.Region.{Region}
use Rattle.disk_definitions.specs.declared.region.Region.TheVariants as region
use Rattle.disk_definitions.specs.Ask.{Met, Sector, InodeAt, DirectoryAt, SegmentAt, BytesAt, LargeAt}
use Rattle.disk_definitions.specs.Ask.Met.{Needs, Has}
use Rattle.disk_definitions.specs.CoversAtHand.{cover_among, has_large, has_small, node_or_segment}
use Rattle.disk_definitions.specs.Edits.{Edit, SetInode, SetBit, SetUse, SetPlace, SetLarge, SetBytes, SetLargeBytes}
use Rattle.disk_definitions.specs.FitEdits.{IsFitEdit}
use Rattle.disk_definitions.specs.FoundLocks.{clear_soles, cleared_locks, edit_locks, edit_locks_of, finish_locks, from_end, full_locks, made_segments, makes_node, nodes_behind, step_locks}
use Rattle.disk_definitions.specs.Held.{Segments, inode_in}
use Rattle.disk_definitions.specs.LookedAt.{nodes_in, with_node, with_node_in}
use Rattle.disk_definitions.specs.Numbered.{sector_at, sector_in}
use Rattle.disk_definitions.specs.Picks.{is_free}
use Rattle.disk_definitions.specs.Plans.{Lock, says_full, shared_nodes, sole_nodes, sole_segments}
use Rattle.disk_definitions.specs.Regions.{region_of}
use Rattle.disk_definitions.specs.Written.{Cached, inode_at_hand}
use Rattle.disk_definitions.proofs.RegionLaws.{region_read}
use Rattle.tree_definitions.specs.Perform.{Step, Goes, Stops, Resolved}
use Rattle.set_definitions.specs.Sets.{LockSet, has_lock, joined, joined_all, mode_in, with_mode}
use Rattle.plan_laws.proofs.Covering.{has_head, has_more}
use Rattle.core_commits.specs.Standing.{AreSegmentsOf}

-- ---- numbers below a bound

abbrev pub AreBelow : ℕ → List ℕ → Type 0
AreBelow n [] = Unit {0}
AreBelow n (x ∷ xs) = (x < n) × AreBelow n xs

pub each_less : (n : ℕ) (xs : List ℕ) → ((k : ℕ) → Contains xs k → k < n) → AreBelow n xs
each_less n [] all = tt
each_less n (x ∷ xs) all = (all x (has_head x xs), each_less n xs (λ k c. all k (has_more x k xs c)))

both_below : (n : ℕ) (xs ys : List ℕ) → AreBelow n xs → AreBelow n ys → AreBelow n (xs ++ ys)
both_below n [] ys a b = b
both_below n (x ∷ xs) ys a b = (a.0, both_below n xs ys a.1 b)

-- so is the one at each place, and what stands for one past the end
at_below : (n : ℕ) (xs : List ℕ) (k : ℕ) → 0 < n → AreBelow n xs → get_or xs k 0 < n
at_below n [] k low all = low
at_below n (x ∷ xs) zero low all = all.0
at_below n (x ∷ xs) (suc k) low all = at_below n xs k low all.1

-- ---- locks

module _ (segments : ℕ) where
  abbrev pub IsThere : LockId → Type 0
  IsThere (Log n) = Unit {0}
  IsThere (Segment n) = n < segments
  IsThere (Node n) = Unit {0}

  abbrev pub AreThere : List Lock → Type 0
  AreThere [] = Unit {0}
  AreThere (need ∷ needs) = IsThere need.0 × AreThere needs

  pub all_there : (xs ys : List Lock) → AreThere xs → AreThere ys → AreThere (xs ++ ys)
  all_there [] ys a b = b
  all_there (x ∷ xs) ys a b = (a.0, all_there xs ys a.1 b)

  shared_there : (nodes : List ℕ) → AreThere (shared_nodes nodes)
  shared_there [] = tt
  shared_there (node ∷ nodes) = (tt, shared_there nodes)

  nodes_there : (nodes : List ℕ) → AreThere (sole_nodes nodes)
  nodes_there [] = tt
  nodes_there (node ∷ nodes) = (tt, nodes_there nodes)

  segments_there : (xs : List ℕ) → AreBelow segments xs → AreThere (sole_segments xs)
  segments_there [] all = tt
  segments_there (x ∷ xs) all = (all.0, segments_there xs all.1)

  -- ---- sets

  pub there_of : (set : LockSet) → AreSegmentsOf segments set → AreThere set
  there_of [] all = tt
  there_of (need ∷ set) all = (here need.0 refl, there_of set (λ k e. all k (later k (is_lock (Segment k) need.0) e)))
    where
      later : (k : ℕ) (b : Bool) → has_lock set (Segment k) ≡ true → is_some (if b then Some need.1 else mode_in set (Segment k)) ≡ true
      later k true e = refl
      later k false e = e

      here : (lock : LockId) → need.0 ≡ lock → IsThere lock
      here (Log n) e = tt
      here (Node n) e = tt
      here (Segment n) e = all n (ap (λ (b : Bool). is_some (if b then Some need.1 else mode_in set (Segment n))) (ap (is_lock (Segment n)) e ∙ ap is_eq (lock_itself (Segment n))))

  pub segments_of : (set : LockSet) → AreThere set → AreSegmentsOf segments set
  segments_of [] all k e = absurd (false≢true e)
  segments_of (need ∷ set) all k e = go (is_lock (Segment k) need.0) refl e (segments_of set all.1 k)
    where
      go : (b : Bool) → is_lock (Segment k) need.0 ≡ b → is_some (if b then Some need.1 else mode_in set (Segment k)) ≡ true → (has_lock set (Segment k) ≡ true → k < segments) → k < segments
      go true i j rest = subst IsThere (found_lock (Segment k) need.0 i) all.0
      go false i j rest = rest j

  inserted_there : (set : LockSet) (lock : LockId) (mode : Mode) → IsThere lock → AreThere set → AreThere (insert_entry lock_cmp set lock mode)
  inserted_there [] lock mode here all = (here, tt)
  inserted_there (need ∷ needs) lock mode here all = go (lock_cmp lock need.0) (inserted_there needs lock mode here all.1)
    where
      go : (o : Ordering) → AreThere (insert_entry lock_cmp needs lock mode) → AreThere (match_ordering o ((lock, mode) ∷ need ∷ needs) ((need.0, mode) ∷ needs) (need ∷ insert_entry lock_cmp needs lock mode))
      go Less rest = (here, all)
      go Equal rest = (all.0, all.1)
      go Greater rest = (all.0, rest)

  pub joined_there : (set : LockSet) (needs : List Lock) → AreThere needs → AreThere set → AreThere (joined_all set needs)
  joined_there set [] more all = all
  joined_there set (need ∷ needs) more all = joined_there (joined set need) needs more.1 (inserted_there set need.0 (with_mode (mode_in set need.0) need.1) more.0 all)

  -- ---- sectors that the disk has

  abbrev pub IsPlaced : Sector → Type 0
  IsPlaced (InodeAt i) = i < 64 * segments
  IsPlaced (DirectoryAt k part) = k < 1024 * segments
  IsPlaced (SegmentAt k) = k < segments
  IsPlaced (BytesAt k part) = k < 1024 * segments
  IsPlaced (LargeAt g part) = g < segments

  region_placed : (number : ℕ) (r : Option Region) → region_of segments number ≡ r → (y : Sector) → sector_in r ≡ Some y → IsPlaced y
  region_placed number None e y i = absurd (cc)
  region_placed number (Some region.Param) e y i = absurd (cc)
  region_placed number (Some (region.Log server slot)) e y i = absurd (cc)
  region_placed number (Some (region.Segment k)) e y i = let same : SegmentAt k ≡ y = cc in subst IsPlaced same (ltb-true k segments (region_read segments number (region.Segment k) e).1)
  region_placed number (Some (region.Inode j)) e y i = let same : InodeAt j ≡ y = cc in subst IsPlaced same (ltb-true j (64 * segments) (region_read segments number (region.Inode j) e).1)
  region_placed number (Some (region.Small k part)) e y i =
      let same : DirectoryAt k part ≡ y = cc in subst IsPlaced same (ltb-true k (1024 * segments) (and_parts (nat_lt k (1024 * segments)) (nat_lt part 8) (region_read segments number (region.Small k part) e).1).0)
  region_placed number (Some (region.Large g part)) e y i =
      let same : LargeAt g part ≡ y = cc in subst IsPlaced same (ltb-true g segments (and_parts (nat_lt g segments) (nat_lt part 2048) (region_read segments number (region.Large g part) e).1).0)

  -- the one with this number, else this one
  placed_or : (number : ℕ) (x : Sector) → IsPlaced x → IsPlaced (unwrap_or (sector_at segments number) x)
  placed_or number x l = go (sector_at segments number) refl
    where
      go : (o : Option Sector) → sector_at segments number ≡ o → IsPlaced (unwrap_or o x)
      go None e = l
      go (Some y) e = region_placed number (region_of segments number) refl y e

  -- its cover
  over_64 : (n m : ℕ) → n < 64 * m → n / 64 < m
  over_64 n m l = omega arith

  over_1024 : (n m : ℕ) → n < 1024 * m → n / 1024 < m
  over_1024 n m l = omega arith

  owned_there : (o : Option ℕ) (k : ℕ) → k < segments → IsThere (node_or_segment o k)
  owned_there None k l = l
  owned_there (Some node) k l = tt

  module _ (cached : Cached) (held : Segments) (nodes : List ℕ) where
    cover_there : (x : Sector) → IsPlaced x → IsThere (cover_among cached held nodes x)
    cover_there (InodeAt i) l = go (is_free (inode_in held i))
      where
        go : (b : Bool) → IsThere (if b then Segment (i / 64) else Node i)
        go true = over_64 i segments l
        go false = tt
    cover_there (DirectoryAt k part) l = owned_there (find (λ inode. has_small k (inode_at_hand cached inode)) nodes) (k / 1024) (over_1024 k segments l)
    cover_there (SegmentAt k) l = l
    cover_there (BytesAt k part) l = owned_there (find (λ inode. has_small k (inode_at_hand cached inode)) nodes) (k / 1024) (over_1024 k segments l)
    cover_there (LargeAt g part) l = owned_there (find (λ inode. has_large g (inode_at_hand cached inode)) nodes) g l

    pub needed_there : (number : ℕ) (x : Sector) → IsPlaced x → IsThere (cover_among cached held nodes (unwrap_or (sector_at segments number) x))
    needed_there number x l = cover_there (unwrap_or (sector_at segments number) x) (placed_or number x l)

  -- ---- the locks of a finished line

  edit_there : (owns : ℕ → ℕ → Bool) (nodes : List ℕ) (edit : Edit) → IsFitEdit segments edit → AreThere (edit_locks_of owns nodes edit)
  edit_there owns nodes (SetInode inode stored_node dated) fit = (tt, tt)
  edit_there owns nodes (SetBit inode used) fit = (over_64 inode segments fit, tt)
  edit_there owns nodes (SetUse block state) fit = (over_1024 block segments fit, tt)
  edit_there owns nodes (SetPlace block slot entry) fit = nodes_there (filter (λ inode. owns inode block) nodes)
  edit_there owns nodes (SetLarge segment used) fit = (fit, tt)
  edit_there owns nodes (SetBytes block part bytes) fit = tt
  edit_there owns nodes (SetLargeBytes segment part bytes) fit = tt

  edits_there : (owns : ℕ → ℕ → Bool) (nodes : List ℕ) (edits : List Edit) → ((edit : Edit) → Contains edits edit → IsFitEdit segments edit) → AreThere (edit_locks owns nodes edits)
  edits_there owns nodes [] fits = tt
  edits_there owns nodes (edit ∷ edits) fits =
      all_there (edit_locks_of owns nodes edit) (edit_locks owns nodes edits) (edit_there owns nodes edit (fits edit (has_head edit edits)))
      (edits_there owns nodes edits (λ other c. fits other (has_more edit other edits c)))

  full_there : (held : Segments) (reply : Reply) → AreBelow segments (keys_of held) → AreThere (full_locks held reply)
  full_there held reply inside = go (says_full reply)
    where
      go : (b : Bool) → AreThere (if b then sole_segments (keys_of held) else [])
      go true = segments_there (keys_of held) inside
      go false = tt

  pub finish_there : (owns : ℕ → ℕ → Bool) (held : Segments) (nodes : List ℕ) (reply : Reply) (edits : List Edit) → AreBelow segments (keys_of held) → ((edit : Edit) → Contains edits edit → IsFitEdit segments edit) →
      AreThere (finish_locks owns held nodes reply edits)
  finish_there owns held nodes reply edits inside fits =
      all_there (shared_nodes nodes ++ edit_locks owns nodes edits) (full_locks held reply)
      (all_there (shared_nodes nodes) (edit_locks owns nodes edits) (shared_there nodes) (edits_there owns nodes edits fits)) (full_there held reply inside)

  -- ---- the locks of a line that has a block cleared

  -- nodes that numbers of sectors tell are of the disk
  told_below : (nodes : List ℕ) (number : ℕ) (r : Option Region) → region_of segments number ≡ r → AreBelow (64 * segments) nodes → AreBelow (64 * segments) (with_node_in nodes r)
  told_below nodes number None e all = all
  told_below nodes number (Some region.Param) e all = all
  told_below nodes number (Some (region.Log server slot)) e all = all
  told_below nodes number (Some (region.Segment k)) e all = all
  told_below nodes number (Some (region.Inode i)) e all = both_below (64 * segments) nodes (i ∷ []) all (ltb-true i (64 * segments) (region_read segments number (region.Inode i) e).1, tt)
  told_below nodes number (Some (region.Small k part)) e all = all
  told_below nodes number (Some (region.Large g part)) e all = all

  all_told : (numbers nodes : List ℕ) → AreBelow (64 * segments) nodes → AreBelow (64 * segments) (fold (with_node segments) nodes numbers)
  all_told [] nodes all = all
  all_told (number ∷ numbers) nodes all = all_told numbers (with_node segments nodes number) (told_below nodes number (region_of segments number) refl all)

  pub nodes_below : (numbers : List ℕ) → AreBelow (64 * segments) (nodes_in segments numbers)
  nodes_below numbers = all_told numbers [] tt

  some_inode : (n : ℕ) → 0 < n → 0 < 64 * n
  some_inode n l = omega arith

  made_below : (made : Bool) (inode block : ℕ) → inode / 64 < segments → block / 1024 < segments → AreBelow segments (made_segments made inode ++ (block / 1024) ∷ [])
  made_below true inode block here low = (here, (low, tt))
  made_below false inode block here low = (low, tt)

  module _ (nodes : List ℕ) (block : ℕ) (all : AreBelow (64 * segments) nodes) (low : block / 1024 < segments) where
    last_below : from_end nodes 0 / 64 < segments
    last_below = over_64 (from_end nodes 0) segments (at_below (64 * segments) nodes (length nodes - 1 - 0) (some_inode segments (some (block / 1024) segments low)) all)
      where
        some : (n m : ℕ) → n < m → 0 < m
        some n m l = omega arith

    soles_there : (other : ℕ) (made : Bool) → AreThere (clear_soles other (from_end nodes 0) made block)
    soles_there other made =
        all_there (sole_nodes (other ∷ from_end nodes 0 ∷ [])) (sole_segments (made_segments made (from_end nodes 0) ++ (block / 1024) ∷ [])) (nodes_there (other ∷ from_end nodes 0 ∷ []))
        (segments_there (made_segments made (from_end nodes 0) ++ (block / 1024) ∷ []) (made_below made (from_end nodes 0) block last_below low))

    pub cleared_there : (met : Met Resolved) → AreThere (cleared_locks nodes block met)
    cleared_there (Needs sector) = tt
    cleared_there (Has walked) = go walked.step
      where
        go : (step : Step) → AreThere (step_locks nodes block step)
        go (Goes over) = all_there (shared_nodes nodes) (clear_soles (from_end nodes (nodes_behind over)) (from_end nodes 0) (makes_node over) block) (shared_there nodes)
            (soles_there (from_end nodes (nodes_behind over)) (makes_node over))
        go (Stops reply) = tt
