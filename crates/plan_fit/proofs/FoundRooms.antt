-- The room that is found for an entry is the disk's, and once a block of it is clear the plan is fit.
use Rattle.std.proofs.Common.{◌≡◌, ℕ, ◌+◌, ◌*◌, ◌/◌, ◌^◌, ◌<◌, ◌≤◌, ◌⊎◌, inl, inr, ⊎_elim, Bool, true, false, not, ◌&&◌, nat_lt, if◌then◌else◌, Option, Some, None, length, refl, sym, ◌∙◌, ap, subst, arith, is_some}
use Rattle.std.proofs.lemmas.Bool.Decides.{nat_tests}
use Rattle.std.specs.Map.{keys_of}
use Rattle.tree_definitions.specs.declared.node.Node.TheVariants.{Dir}
use Rattle.tree_definitions.specs.Entries.{Entries}
use Rattle.tree_definitions.specs.Tree.{FileTree, node_at, must_grow}
use Rattle.frang_base.specs.Functions.{put}
use Rattle.frang_base.proofs.Basics.{at_put, put_same, put_other}
use Rattle.disk_definitions.specs.Store.{Store, StoredNode, StoredEntry}
use Rattle.disk_definitions.specs.Store.Use.{Entries as OfEntries}
use Rattle.disk_definitions.specs.Standing.{IsMetadata}
use Rattle.disk_definitions.specs.Naming.{Naming, first_blocks, place_of}
use Rattle.disk_definitions.specs.Least.{least}
use Rattle.disk_definitions.specs.Held.{AreSegments, state_in}
use Rattle.disk_definitions.specs.Picks.{is_in_state, picked_directory}
use Rattle.disk_definitions.proofs.PickLaws.{for_a_directory}
use Rattle.disk_definitions.specs.Ask.{Got, ReadDirectory, run}
use Rattle.disk_definitions.specs.Walks.{search, is_vacant}
use Rattle.disk_definitions.specs.Plans.{Hand, Finish, Room, room_at, room_in, read_held, find_room, finish_in, with_block, must_clear}
use Rattle.disk_definitions.specs.Plans.Plan.{Clears, Finishes}
use Rattle.disk_definitions.specs.Plans.Room.{Inside, InBlock, NoRoom}
use Rattle.disk_definitions.specs.Meets.{IsOfTree, IsHandOf, is_directory_use}
use Rattle.plan_laws.proofs.Asking.{run-bind, run-segments}
use Rattle.plan_laws.proofs.Searching.{found_in, run-search}
use Rattle.plan_laws.proofs.Cases.{inode_by}
use Rattle.plan_laws.proofs.Picks.{block_some}
use Rattle.plan_laws.proofs.Places.{free_place, place_some}
use Rattle.disk_definitions.specs.FitEdits.{IsFitNode}
use Rattle.disk_definitions.specs.FitPlans.{IsFitStore, IsFitFinish, PlanIsFit}
use Rattle.disk_definitions.proofs.NodeLaws.{first_past}
use Rattle.plan_fit.proofs.Directories.{directory_fits}
use Rattle.plan_fit.proofs.Uses.{metadata_is}
use Rattle.plan_fit.proofs.Pieces.{MayEnter}
use Rattle.plan_fit.proofs.OnDisk.{node_fits, bounds, sized_fits, placed}

-- the uses at the end, once the room has the entry
abbrev pub Becomes : Store → Store → Room → Type 0
Becomes s t (Inside q) = t.use_of ≡ s.use_of
Becomes s t (InBlock k) = t.use_of ≡ put s.use_of k OfEntries
Becomes s t NoRoom = t.use_of ≡ s.use_of

-- a directory's blocks are so still
pub stays_used : (s t : Store) (room : Room) → Becomes s t room → (c : ℕ) → is_directory_use (s.use_of c) ≡ true → is_directory_use (t.use_of c) ≡ true
stays_used s t (Inside q) b c e = ap (λ f. is_directory_use (f c)) b ∙ e
stays_used s t NoRoom b c e = ap (λ f. is_directory_use (f c)) b ∙ e
stays_used s t (InBlock k) b c e = ap (λ f. is_directory_use (f c)) b ∙ at_put (λ u. is_directory_use u ≡ true) s.use_of k OfEntries c (λ i. refl) (λ d. e)

-- a free place inside, or a block that is picked
abbrev pub IsFound : Hand → ℕ → Entries → Room → Type 0
IsFound h blocks entries (Inside q) = (q < 56 * blocks) × (must_grow entries blocks ≡ false)
IsFound h blocks entries (InBlock k) = (blocks < 16) × (picked_directory h.held ≡ Some k)
IsFound h blocks entries NoRoom = Unit {0}

-- the block needs no clearing
abbrev pub IsClear : Hand → Room → Type 0
IsClear h (Inside q) = Unit {0}
IsClear h (InBlock k) = must_clear h k ≡ false
IsClear h NoRoom = Unit {0}

pub finished_fits : (h : Hand) (segments : ℕ) (s : Store) (room : Room) (f : Finish) → (IsClear h room → IsFitFinish h segments s f) → PlanIsFit h segments s (run (finish_in h room f) s)
finished_fits h segments s (Inside q) f c = c tt
finished_fits h segments s NoRoom f c = c tt
finished_fits h segments s (InBlock k) f c = go (must_clear h k) refl
  where
    go : (b : Bool) → must_clear h k ≡ b → PlanIsFit h segments s (run (if b then Got (Clears k f.locks) else ReadDirectory k 0 (λ p. Got (Finishes f))) s)
    go true e = tt
    go false e = c e

module _ (h : Hand) (s : Store) (tree : FileTree) (n : Naming) (of : IsOfTree s tree n) (hand : IsHandOf h s tree.segments) where
  are_segments : AreSegments h.held
  are_segments k x e = let l : k < tree.segments = hand.within k (ap is_some e) in let m : tree.segments ≤ 64 = of.few in omega arith

  -- a block that is picked and needs no clearing was a directory's, or is cached as zero
  block_known : (k : ℕ) → picked_directory h.held ≡ Some k → must_clear h k ≡ false → IsMetadata (s.use_of k) ⊎ (h.zeroed k ≡ true)
  block_known k e c = ⊎_elim
      (λ p. inl (metadata_is (s.use_of k) (ap is_directory_use (hand.states k 2 p.1))))
      (λ p. inr (known (h.zeroed k) (ap (λ o. is_in_state 0 o) p.0.1) c)) (for_a_directory h.held k are_segments e)
    where
      known : (z : Bool) → is_in_state 0 (state_in h.held k) ≡ true → (is_in_state 0 (state_in h.held k) && not z) ≡ false → z ≡ true
      known true q c = refl
      known false q c = absurd (let t : (is_in_state 0 (state_in h.held k) && true) ≡ true = ap (λ o. o && true) q in cc)

  module _ (d blocks : ℕ) (entries : Entries) (is : node_at tree d ≡ Some (Dir entries blocks)) where
    abbrev x : StoredNode
    x = inode_by n d (Dir entries blocks)

    abbrev row : ℕ → Option StoredEntry
    row = place_of s.place (first_blocks blocks (n.block d))

    abbrev vacant : ℕ → Bool
    vacant q = is_vacant (row q)

    in_block : (o : Option ℕ) → picked_directory h.held ≡ o → blocks < 16 → IsFound h blocks entries (room_in o)
    in_block None e l = tt
    in_block (Some k) e l = (l, e)

    room_is : (o : Option ℕ) → least vacant (56 * blocks) ≡ o → IsFound h blocks entries (run (room_at h x (found_in row o)) s)
    room_is (Some q) e =
        ((free_place s (node_at tree) n of.pictures d blocks entries is (of.well_formed.names d entries blocks is) q e).inside, place_some s (node_at tree) n of.pictures d blocks entries is (of.well_formed.names d entries blocks is) q e)
    room_is None e = by_blocks (nat_lt blocks 16) refl
      where
        by_blocks : (c : Bool) → nat_lt blocks 16 ≡ c → IsFound h blocks entries (run (if c then read_held h (Got (room_in (picked_directory h.held))) else Got NoRoom) s)
        by_blocks true f = rw (run-segments (keys_of h.held) (Got (room_in (picked_directory h.held))) s) (in_block (picked_directory h.held) refl (grind (arith, nat_tests)))
        by_blocks false f = tt

    pub room_found : IsFound h blocks entries (run (find_room h x) s)
    room_found =
        let size : 7 * (8 * blocks) ≡ 56 * blocks = omega arith in
        let e : run (search x.small is_vacant 0 (8 * blocks)) s ≡ found_in row (least vacant (56 * blocks)) = run-search x.small is_vacant s (8 * blocks) ∙ ap (λ k. found_in row (least vacant k)) size in
        subst (IsFound h blocks entries) (sym (run-bind (search x.small is_vacant 0 (8 * blocks)) (room_at h x) s ∙ ap (λ f. run (room_at h x f) s) e)) (room_is (least vacant (56 * blocks)) refl)

    -- what becomes a directory's is clear
    pub clear_after : (t : Store) (room : Room) → IsFound h blocks entries room → IsClear h room → Becomes s t room → (k : ℕ) → IsMetadata (t.use_of k) → IsMetadata (s.use_of k) ⊎ (h.zeroed k ≡ true)
    clear_after t (Inside q) f c b k m = inl (subst (λ u. IsMetadata (u k)) b m)
    clear_after t NoRoom f c b k m = inl (subst (λ u. IsMetadata (u k)) b m)
    clear_after t (InBlock j) f c b k m =
        at_put (λ u. IsMetadata u → IsMetadata (s.use_of k) ⊎ (h.zeroed k ≡ true)) s.use_of j OfEntries k
        (λ i. λ _. subst (λ z. IsMetadata (s.use_of z) ⊎ (h.zeroed z ≡ true)) (sym i) (block_known j f.1 c)) (λ d. λ m. inl m) (subst (λ u. IsMetadata (u k)) b m)

    module _ (fit : IsFitStore tree.segments s) where
      -- the directory with a block more
      grown_fits : (k size : ℕ) → k < 1024 * tree.segments → blocks < 16 → size ≤ 56 * (blocks + 1) → IsFitNode (record (with_block x k) { size = size })
      grown_fits k size l few room =
          let f = (node_fits s tree n of fit d (Dir entries blocks) is).1 in
          let most : tree.segments ≤ 64 = of.few in
          let low : k < 2 ^ 32 = omega arith in
          directory_fits size (n.stamp d) (blocks + 1) (put x.small blocks k) f.birth (λ j. at_put (λ c. c < 2 ^ 32) x.small blocks k j (λ i. low) (λ i. f.small j)) (omega arith) room
          (λ j m. put_other x.small blocks k j (λ i. omega arith) ∙ first_past blocks (n.block d) j (omega arith))

      pub may_enter : (t : Store) (room : Room) → IsFound h blocks entries room → Becomes s t room → MayEnter tree.segments t x room
      may_enter t NoRoom f b = tt
      may_enter t (Inside q) f b =
          let p = placed s tree n of fit d blocks entries is q f.0 in
          let l : length entries + 1 ≤ 56 * blocks = (let e = f.1 in grind (arith, nat_tests)) in
          (sized_fits s tree n of fit d blocks entries is (length entries + 1) l, (p.0, stays_used s t (Inside q) b (x.small (q / 56)) p.1))
      may_enter t (InBlock k) f b =
          let l : k < 1024 * tree.segments = (block_some h s tree n of hand k f.1).1 in
          let few : blocks < 16 = f.0 in
          let most : length entries ≤ 56 * blocks = (bounds s tree n of fit d blocks entries is).1 in
          (grown_fits k (length entries) l few (omega arith), grown_fits k (length entries + 1) l few (omega arith), (l, ap (λ u. is_directory_use (u k)) b ∙ ap is_directory_use (put_same s.use_of k OfEntries)))
