-- The block that a line has cleared is in the first state of a held bitmap, which is the disk's, and its segment is in the set sole.
use Rattle.std.proofs.Common.{◌≡◌, ◌<◌, ◌*◌, ◌/◌, ◌%◌, ◌^◌, ◌&&◌, ℕ, Bool, true, false, not, if◌then◌else◌, is_some, [], ◌∷◌, Option, Some, None, refl, sym, ap, ◌∙◌, subst, arith}
use Rattle.std.proofs.lemmas.Bool.{eqb-true, false≢true}
use Rattle.std.specs.List.{Contains}
use Rattle.std.specs.Option.{option_map}
use Rattle.frang_base.specs.declared.bitmap.Bitmap.{Bitmap}
use Rattle.frang_base.specs.declared.lock.LockId.{LockId}
use Rattle.frang_base.specs.declared.lock.LockId.TheVariants.{Segment}
use Rattle.frang_base.specs.declared.lock.Mode.{Mode}
use Rattle.frang_base.specs.declared.lock.Mode.TheVariants.{Shared, Sole}
use Rattle.lock_definitions.specs.Calls.{serves}
use Rattle.lock_definitions.specs.Locks.{held}
use Rattle.lock_definitions.specs.Order.{is_lock}
use Rattle.lock_definitions.proofs.LockOrder.{found_lock}
use Rattle.sector_bytes.specs.SectorMaps.{Ascend}
use Rattle.sector_bytes.specs.Sectors.{Sectors}
use Rattle.set_definitions.specs.Sets.{LockSet, has_lock, mode_in, segments_in}
use Rattle.tree_definitions.specs.Apply.{Applied}
use Rattle.tree_definitions.specs.Perform.{perform}
use Rattle.tree_definitions.specs.Touched.{shape_of}
use Rattle.tree_definitions.specs.Tree.{FileTree}
use Rattle.tree_definitions.specs.WellFormed.{IsNew}
use Rattle.disk_definitions.specs.Allowed.{IsAllowed}
use Rattle.disk_definitions.specs.Ask.{AtHand, looks}
use Rattle.disk_definitions.specs.Bitmaps.{block_state}
use Rattle.disk_definitions.specs.Held.{bitmap_of, state_in}
use Rattle.disk_definitions.specs.Meets.{IsHandOf, directory_blocks_in}
use Rattle.disk_definitions.specs.Missing.{first_missing}
use Rattle.disk_definitions.specs.OnDisk.{AreOfDisk, MetStands}
use Rattle.disk_definitions.specs.Picks.{is_in_state}
use Rattle.disk_definitions.specs.Plans.{Hand, must_clear}
use Rattle.disk_definitions.specs.Store.{store_of}
use Rattle.disk_definitions.specs.Written.{at_hand, hand_of, is_zeroed}
use Rattle.line_laws.proofs.OnDisk.{lines_stand}
use Rattle.line_laws.proofs.Zeroed.{zero_places}
use Rattle.line_histories.specs.LinePlans.{store_on}
use Rattle.line_histories.proofs.Hands.{hand_is}
use Rattle.core_definitions.specs.Plans.{Sight}
use Rattle.core_definitions.specs.Runs.{State as RunMoment}
use Rattle.sector_world.specs.World.{World}
use Rattle.core_world.specs.Ties.{AreTied}
use Rattle.core_world.specs.Sights.{AreStood}
use Rattle.core_commits.specs.Clears.{IsFreshBlock}
use Rattle.core_commits.specs.Cleared.{ClearedBlocksAreFresh, HasSegmentsSole}
use Rattle.core_commits.specs.Finished.{number_in, time_of}
use Rattle.core_commits.specs.Stages.{HasCleared, program_in, sight_in}
use Rattle.core_commits.specs.Standing.{AreSegmentsOf, AreWhole, StandsWhole, whole_disk}
use Rattle.core_commits.proofs.Needing.{served_mode}
use Rattle.core_commits.proofs.Sighting.{held_from, in_set, of_disk}
use Rattle.plan_laws.proofs.Covering.{has_head, has_more}

-- ---- a lock that is in the set sole is held alone

mode_there : (set : LockSet) (l : LockId) (m : Mode) → mode_in set l ≡ Some m → Contains set (l, m)
mode_there [] l m e = absurd (cc)
mode_there (need ∷ set) l m e = go (is_lock l need.0) refl e (mode_there set l m)
  where
    go : (b : Bool) → is_lock l need.0 ≡ b → (if b then Some need.1 else mode_in set l) ≡ Some m → (mode_in set l ≡ Some m → Contains set (l, m)) → Contains (need ∷ set) (l, m)
    go true p q rest =
        let mode : need.1 ≡ m = cc in
        let same : need ≡ (l, m) = ap (λ k. (k, need.1)) (found_lock l need.0 p) ∙ ap (λ x. (l, x)) mode in
        subst (Contains (need ∷ set)) same (has_head need set)
    go false p q rest = has_more need (l, m) set (rest q)

alone : (o : Option Mode) → serves o Sole ≡ true → o ≡ Some Sole
alone None e = absurd (false≢true e)
alone (Some Sole) e = refl
alone (Some Shared) e = absurd (false≢true e)

both_first : (x y : Bool) → (x && y) ≡ true → x ≡ true
both_first true y e = refl
both_first false y e = absurd (false≢true e)

module _ (s : RunMoment) (w : World) (tree : FileTree) (a block : ℕ) (on : StandsWhole s.core.setting.segments w tree) (t : AreTied s.core s.disk w) (stood : AreStood s.core.servers w)
    (long : AreWhole (s.core.servers a).cache) (sorted : Ascend (s.core.servers a).cache) (c : HasCleared s.core.setting s.core.locks a (s.core.servers a) block)
    (inside : AreSegmentsOf s.core.setting.segments c.line.under.set) (soles : HasSegmentsSole c.line.under.set) (allowed : IsAllowed c.line.operation)
    (new : IsNew (shape_of tree) (number_in s.core.setting c.line.under.line.number)) (small : number_in s.core.setting c.line.under.line.number < 2 ^ 64)
    (timely : time_of s.core.setting c.line.under.line.number < 2 ^ 64) where
  abbrev segments : ℕ
  segments = s.core.setting.segments

  abbrev set : LockSet
  set = c.line.under.set

  abbrev sight : Sight
  sight = sight_in s.core.setting (s.core.servers a) c.line.under

  abbrev disk : Sectors
  disk = whole_disk w

  abbrev known : AtHand
  known = at_hand sight.cached sight.held

  abbrev h : Hand
  h = hand_of sight.cached sight.held sight.all

  of : AreOfDisk sight.cached sight.held sight.all segments disk
  of = of_disk segments s.core.servers w tree a set on t.cached stood long sorted inside c.comes.bitmaps

  of_count : AreOfDisk sight.cached sight.held sight.all (shape_of tree).segments disk
  of_count = subst (λ k. AreOfDisk sight.cached sight.held sight.all k disk) (sym on.whole.of.count) of

  abbrev ever : ℕ
  ever = directory_blocks_in (store_of (shape_of tree).segments disk) (shape_of tree).segments

  abbrev applied : Applied
  applied = perform (shape_of tree) c.line.operation (number_in s.core.setting c.line.under.line.number) (time_of s.core.setting c.line.under.line.number) ever

  must : must_clear h block ≡ true
  must = (subst (MetStands sight.cached sight.held sight.all disk applied (first_missing known (looks (program_in s.core.setting (s.core.servers a) c.line.under c.line.operation) (store_of (shape_of tree).segments disk))))
      c.comes.met_is
      (lines_stand c.line.operation sight.cached sight.held sight.all disk (shape_of tree) (number_in s.core.setting c.line.under.line.number) (time_of s.core.setting c.line.under.line.number) ever allowed of_count on.below new small
      timely refl)).1

  state : state_in sight.held block ≡ Some 0
  state = go (state_in sight.held block) refl (both_first (is_in_state 0 (state_in sight.held block)) (not (h.zeroed block)) must)
    where
      go : (o : Option ℕ) → state_in sight.held block ≡ o → is_in_state 0 o ≡ true → state_in sight.held block ≡ Some 0
      go None e i = absurd (false≢true i)
      go (Some found) e i = e ∙ ap Some (eqb-true found 0 i)

  hand : IsHandOf h (store_on segments disk) segments
  hand = hand_is segments disk sight.held of.as_held sight.all (is_zeroed sight.cached) of.all_held (λ k slot e l. zero_places sight.cached disk of.as_cached segments k slot e l)

  -- the bitmap of its segment is held
  bitmap : (o : Option Bitmap) → bitmap_of sight.held (block / 1024) ≡ o → option_map (λ x. block_state x (block % 1024)) o ≡ Some 0 → IsFreshBlock segments w a block
  bitmap None e i = absurd (cc)
  bitmap (Some bits) e i =
      let low : block / 1024 < segments = (of.as_held (block / 1024) bits e).0 in
      let has : has_lock set (Segment (block / 1024)) ≡ true = in_set set (block / 1024) (held_from sight.cached (block / 1024) (segments_in set) bits e).0 in
      record {
        inside = inside_all block segments low;
        fresh = sym (on.uses block) ∙ hand.states block 0 state;
        held = t.locks.holds a (Segment (block / 1024)) ∙ go (mode_in set (Segment (block / 1024))) refl has;
      }
    where
      inside_all : (n m : ℕ) → n / 1024 < m → n < 1024 * m
      inside_all n m l = omega arith

      go : (m : Option Mode) → mode_in set (Segment (block / 1024)) ≡ m → is_some m ≡ true → held s.core.locks a (Segment (block / 1024)) ≡ Some Sole
      go None q j = absurd (false≢true j)
      go (Some mode) q j =
          alone (held s.core.locks a (Segment (block / 1024)))
          (subst (λ x. serves (held s.core.locks a (Segment (block / 1024))) x ≡ true) (soles (block / 1024) mode (mode_there set (Segment (block / 1024)) mode q))
          (served_mode s.core.locks a set c.line.served (Segment (block / 1024)) mode q))

  pub is_fresh : IsFreshBlock segments w a block
  is_fresh = bitmap (bitmap_of sight.held (block / 1024)) refl state

pub cleared_blocks_are_fresh : ClearedBlocksAreFresh
cleared_blocks_are_fresh s w tree a block on t stood long sorted c inside soles allowed new small timely = is_fresh s w tree a block on t stood long sorted c inside soles allowed new small timely
