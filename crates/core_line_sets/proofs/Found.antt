-- What a line over the disk of a tree needs is of the disk, and so are the locks that are found of it.
use Rattle.std.proofs.Common.{◌≡◌, ◌<◌, ◌/◌, ◌%◌, ◌^◌, ℕ, Bool, true, not, List, [], ◌∷◌, Option, Some, None, refl, sym, ap, ◌∙◌, subst, ⊎_elim}
use Rattle.std.proofs.lemmas.Bool.{and_parts, eqb-true, false≢true}
use Rattle.std.specs.List.{Contains}
use Rattle.std.specs.Map.{keys_of}
use Rattle.std.specs.Option.{option_map}
use Rattle.frang_base.specs.declared.bitmap.Bitmap.{Bitmap}
use Rattle.frang_base.specs.declared.op.Op.{Op}
use Rattle.sector_bytes.specs.Sectors.{Sectors}
use Rattle.tree_definitions.specs.Apply.{Applied}
use Rattle.tree_definitions.specs.Perform.{perform}
use Rattle.tree_definitions.specs.Tree.{FileTree, node_at}
use Rattle.tree_definitions.specs.WellFormed.{IsNew}
use Rattle.disk_definitions.specs.Allowed.{IsAllowed}
use Rattle.disk_definitions.specs.Ask.{Ask, AtHand, Has, InodeAt, DirectoryAt, SegmentAt, BytesAt, LargeAt, Needs, Sector, looks, meet}
use Rattle.disk_definitions.specs.Bitmaps.{block_state}
use Rattle.disk_definitions.specs.ChangeLaws.{FilesFit}
use Rattle.disk_definitions.specs.FitPlans.{IsFitStore}
use Rattle.disk_definitions.specs.FoundLocks.{cleared_locks, finish_locks, owns_at_hand}
use Rattle.disk_definitions.specs.Held.{Segments, bitmap_of, state_in}
use Rattle.disk_definitions.specs.Lines.{plan_of_line, resolved}
use Rattle.disk_definitions.specs.LookedAt.{nodes_in}
use Rattle.disk_definitions.specs.Meets.{IsHandOf, directory_blocks_in}
use Rattle.disk_definitions.specs.Missing.{first_missing}
use Rattle.disk_definitions.specs.Naming.{Naming}
use Rattle.disk_definitions.specs.OnDisk.{AreOfDisk, MetStands, StandsBelow}
use Rattle.disk_definitions.specs.Picks.{is_in_state}
use Rattle.disk_definitions.specs.Plans.{Finish, Hand, Lock, Plan, must_clear}
use Rattle.disk_definitions.specs.Plans.Plan.{Clears, Finishes}
use Rattle.disk_definitions.specs.Store.{Store, store_of}
use Rattle.disk_definitions.specs.Written.{Cached, at_hand, hand_of}
use Rattle.disk_definitions.proofs.Counts.{files_fit}
use Rattle.plan_fit.proofs.DecodedEntries.{disks_fit}
use Rattle.plan_fit.proofs.FileNodes.{fit_file}
use Rattle.plan_laws.specs.Inside.{AreInside, IsInside}
use Rattle.plan_laws.proofs.Covering.{has_cases, not_in_none}
use Rattle.plan_laws.proofs.Fine.{held_key}
use Rattle.line_laws.proofs.OnDisk.{lines_stand}
use Rattle.line_histories.specs.Done.{IsWholeDisk}
use Rattle.line_histories.specs.Files.{HoldsBytes}
use Rattle.line_histories.specs.LinePlans.{store_on}
use Rattle.line_histories.proofs.Filled.{IsInUse, in_use}
use Rattle.line_histories.proofs.Looked.{lines_look}
use Rattle.line_histories.proofs.NearSegments.{lines_look_in_segments}
use Rattle.line_sectors.proofs.AtHand.{edits_lie, is_hand_of, looks_inside, needed_missing}
use Rattle.core_line_sets.proofs.Placed.{AreBelow, AreThere, IsPlaced, cleared_there, each_less, finish_there, nodes_below}

each_inside : (segments : ℕ) (xs : List Sector) → AreInside segments xs → (x : Sector) → Contains xs x → IsInside segments x
each_inside segments [] all x c = absurd (not_in_none x c)
each_inside segments (y ∷ ys) all x c = ⊎_elim (λ e. subst (IsInside segments) e all.0) (λ d. each_inside segments ys all.1 x d) (has_cases y x ys c)

module _ (operation : Op) (cached : Cached) (held : Segments) (all : Bool) (segments birth when : ℕ) (disk : Sectors) (tree : FileTree) (naming : Naming) (of : AreOfDisk cached held all segments disk)
    (on : IsWholeDisk segments disk tree naming) where
  abbrev hand : Hand
  hand = hand_of cached held all

  abbrev known : AtHand
  known = at_hand cached held

  abbrev b : Store
  b = store_on segments disk

  abbrev p : Ask Plan
  p = plan_of_line (hand_of cached held all) birth when operation

  is_hand : IsHandOf hand b tree.segments
  is_hand = is_hand_of operation cached held all segments birth when disk tree naming of on

  fit : FilesFit (node_at tree)
  fit = files_fit b (node_at tree) naming on.of.of.pictures (λ i y e k. (fit_file y (all_fit.nodes i y e).1 k).size)
    where
      all_fit : IsFitStore segments (store_of segments disk)
      all_fit = disks_fit disk segments on.grammar on.whole

  used_here : (y : Sector) → HoldsBytes b y → IsInUse segments b y
  used_here y holds = subst (λ m. IsInUse m b y) on.of.count (in_use b tree naming on.of.of fit y holds)

  inside : AreInside segments (looks p b)
  inside = looks_inside operation cached held all segments birth when disk tree naming of on

  -- a sector at which it looks
  looked_placed : (x : Sector) → Contains (looks p b) x → IsPlaced segments x
  looked_placed (InodeAt i) c = each_inside segments (looks p b) inside (InodeAt i) c
  looked_placed (DirectoryAt k part) c = each_inside segments (looks p b) inside (DirectoryAt k part) c
  looked_placed (SegmentAt k) c = subst (λ m. k < m) on.of.count (lines_look_in_segments b tree naming on.of.of operation hand birth when is_hand k c)
  looked_placed (BytesAt k part) c = (used_here (BytesAt k part) (lines_look operation hand b birth when (BytesAt k part) c)).1
  looked_placed (LargeAt g part) c = (used_here (LargeAt g part) (lines_look operation hand b birth when (LargeAt g part) c)).1

  -- so is one that it needs
  pub needed_placed : (x : Sector) → meet p known ≡ Needs x → IsPlaced segments x
  needed_placed x e = looked_placed x (needed_missing operation cached held all segments birth when disk tree naming of on x e).0

  held_below : AreBelow segments (keys_of held)
  held_below = each_less segments (keys_of held) (λ k c. subst (λ m. k < m) on.of.count (is_hand.within k (held_key held k c)))

  -- the locks of a finished line, whichever nodes it looked at
  module _ (allowed : IsAllowed operation) (small : birth < 2 ^ 64) (timely : when < 2 ^ 64) where
    pub finish_found : (finish : Finish) → meet p known ≡ Has (Finishes finish) → (nodes : List ℕ) → AreThere segments (finish_locks (owns_at_hand cached) held nodes finish.reply finish.edits)
    finish_found finish e nodes =
        finish_there segments (owns_at_hand cached) held nodes finish.reply finish.edits held_below (edits_lie operation cached held all segments birth when disk tree naming of on finish allowed small timely e)

    -- of one that has a block cleared, by nodes that numbers of sectors tell
    module _ (below : StandsBelow disk tree) (new : IsNew tree birth) (block : ℕ) (found : List Lock) (e : meet p known ≡ Has (Clears block found)) where
      abbrev ever : ℕ
      ever = directory_blocks_in (store_of tree.segments disk) tree.segments

      abbrev applied : Applied
      applied = perform tree operation birth when ever

      of_count : AreOfDisk cached held all tree.segments disk
      of_count = subst (λ k. AreOfDisk cached held all k disk) (sym on.of.count) of

      must : must_clear hand block ≡ true
      must = (subst (MetStands cached held all disk applied (first_missing known (looks p (store_of tree.segments disk)))) e
          (lines_stand operation cached held all disk tree birth when ever allowed of_count below new small timely refl)).1

      state : state_in held block ≡ Some 0
      state = go (state_in held block) refl (and_parts (is_in_state 0 (state_in held block)) (not (hand.zeroed block)) must).0
        where
          go : (o : Option ℕ) → state_in held block ≡ o → is_in_state 0 o ≡ true → state_in held block ≡ Some 0
          go None q i = absurd (false≢true i)
          go (Some known) q i = q ∙ ap Some (eqb-true known 0 i)

      low : block / 1024 < segments
      low = go (bitmap_of held (block / 1024)) refl state
        where
          go : (o : Option Bitmap) → bitmap_of held (block / 1024) ≡ o → option_map (λ x. block_state x (block % 1024)) o ≡ Some 0 → block / 1024 < segments
          go None q i = absurd (cc)
          go (Some bits) q i = (of.as_held (block / 1024) bits q).0

      pub clear_found : (numbers : List ℕ) → AreThere segments (cleared_locks (nodes_in segments numbers) block (meet (resolved operation) known))
      clear_found numbers = cleared_there segments (nodes_in segments numbers) block (nodes_below segments numbers) low (meet (resolved operation) known)
