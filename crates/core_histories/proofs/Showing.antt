-- A line that is finished over what is at hand of a disk comes to the same over the disk's sectors with versions, where each sector of bytes that its outcome reads shows the disk's block.
use Rattle.std.proofs.Common.{ℕ, ◌≡◌, Bool, true, Option, Some, None, is_some, refl, sym, ap, ◌∙◌, subst}
use Rattle.std.specs.List.{Contains, filter_map, list_all}
use Rattle.std.specs.Map.{keys_of}
use Rattle.frang_base.specs.Functions.{member}
use Rattle.frang_base.specs.declared.op.Op.{Op}
use Rattle.frang_base.proofs.Tests.{same_tests}
use Rattle.sector_bytes.specs.Blocks.{Block}
use Rattle.sector_bytes.specs.SectorMaps.{Ascend}
use Rattle.sector_bytes.specs.Sectors.{Sectors}
use Rattle.sector_world.specs.Plans.{Outcome}
use Rattle.tree_definitions.specs.Numbers.{below as numbers_below}
use Rattle.tree_definitions.specs.Tree.{FileTree}
use Rattle.disk_definitions.specs.Ask.{Sector, InodeAt, DirectoryAt, SegmentAt, BytesAt, LargeAt, Ask, Has, meet, looks, number_of, run}
use Rattle.disk_definitions.specs.Held.{Segments, bitmap_of, state_in}
use Rattle.disk_definitions.specs.Lines.{plan_of_line}
use Rattle.disk_definitions.specs.Meets.{IsHandOf}
use Rattle.disk_definitions.specs.Missing.{first_missing, unless_missing}
use Rattle.disk_definitions.specs.Naming.{Naming}
use Rattle.disk_definitions.specs.OnDisk.{AreOfDisk}
use Rattle.disk_definitions.specs.Picks.{is_in_state}
use Rattle.disk_definitions.specs.Plans.{Finish, Hand, Plan}
use Rattle.disk_definitions.specs.Plans.Plan.{Finishes}
use Rattle.disk_definitions.specs.Store.{Store, store_of}
use Rattle.disk_definitions.specs.Written.{Cached, at_hand, hand_of, is_zeroed}
use Rattle.plan_laws.specs.Inside.{AreInside}
use Rattle.plan_laws.proofs.Deciding.{meets_where}
use Rattle.line_laws.proofs.AtHand.{agrees}
use Rattle.line_laws.proofs.Zeroed.{each_below, zero_places}
use Rattle.line_histories.specs.Done.{IsWholeDisk}
use Rattle.line_histories.specs.LinePlans.{hand_by, hand_on, plain, sector_plan, store_on}
use Rattle.line_histories.specs.Outcomes.{IsOfAPlan}
use Rattle.line_histories.specs.Planners.{cleared}
use Rattle.line_histories.proofs.Hands.{all_below, hand_is}
use Rattle.line_histories.proofs.HeldSegments.{hinted, there}
use Rattle.line_histories.proofs.LinesSound.{lines_are_sound}
use Rattle.line_histories.proofs.Lists.{filter_has, has_member}
use Rattle.line_histories.proofs.Outcomes.{outcomes_of_plans}
use Rattle.stop_laws.specs.Cells.{having}
use Rattle.stop_laws.proofs.Showing.{IsShownAt, run_shown}

nothing_missing : (o : Option Sector) (v w : Plan) → unless_missing o v ≡ Has w → v ≡ w
nothing_missing None v w e = cc
nothing_missing (Some x) v w e = absurd (cc)

abbrev hand_from : Segments → Bool → Hand
hand_from held all = record { held = held; all = all; zeroed = λ block. is_in_state 0 (state_in held block) }

module _ (op : Op) (cached : Cached) (held : Segments) (all : Bool) (segments : ℕ) (when : ℕ → ℕ) (n : ℕ) (disk : Sectors) (tree : FileTree) (naming : Naming) (f : Finish) (sorted : Ascend held)
    (of : AreOfDisk cached held all segments disk) (on : IsWholeDisk segments disk tree naming) (done : meet (plan_of_line (hand_of cached held all) n (when n) op) (at_hand cached held) ≡ Has (Finishes f)) where
  abbrev s : Store
  s = store_of segments disk

  abbrev b : Store
  b = store_on segments disk

  abbrev h : Hand
  h = hand_of cached held all

  abbrev p : Ask Plan
  p = plan_of_line h n (when n) op

  abbrev q : Ask Plan
  q = plan_of_line (cleared h) n (when n) op

  hand : IsHandOf h b tree.segments
  hand = subst (IsHandOf h b) (sym on.of.count)
      (hand_is segments disk held of.as_held all (is_zeroed cached) of.all_held (λ k slot e l. zero_places cached disk of.as_cached segments k slot e l))

  inside : AreInside segments (looks p s)
  inside = subst (AreInside segments) (sym (lines_are_sound.blind op h b n (when n) s.byte s.large_byte).0)
      (subst (λ k. AreInside k (looks p b)) on.of.count (lines_are_sound.inside op h b tree naming n (when n) on.of.of hand))

  over_bytes : run p s ≡ Finishes f
  over_bytes = nothing_missing (first_missing (at_hand cached held) (looks p s)) (run p s) (Finishes f)
      (sym (meets_where p (at_hand cached held) s (agrees cached held segments disk of.as_cached on.whole (looks p s) inside)) ∙ done)

  same_hand : hand_on segments disk (keys_of held) ≡ cleared h
  same_hand =
      ap (hand_by segments) (hinted segments disk held (there segments disk held sorted of.as_held))
      ∙ ap (hand_from held) (same_tests (list_all (λ k. is_some (bitmap_of held k)) (numbers_below segments)) all
      (λ e. of.all_held.1 (λ k l. each_below (λ k. is_some (bitmap_of held k)) segments e k l)) (λ e. all_below (λ k. is_some (bitmap_of held k)) segments (of.all_held.0 e)))

  -- where its outcome reads, the disk's blocks are shown
  module _ (o : Outcome) (comes : sector_plan segments when (keys_of held) n op disk ≡ Some o) (shown : ℕ → Option Block) (shows : (number : ℕ) → member number o.reads ≡ true → shown number ≡ Some (disk number)) where
    abbrev program : Ask Plan
    program = plan_of_line (hand_on segments disk (keys_of held)) n (when n) op

    of_plan : IsOfAPlan plan_of_line segments when (keys_of held) n op disk o
    of_plan = outcomes_of_plans plan_of_line segments when (keys_of held) n op disk o comes

    reads : (x : Sector) (number : ℕ) → plain x ≡ Some number → Contains (looks q s) x → member number o.reads ≡ true
    reads x number e i =
        let there_too : Contains (looks program b) x =
        subst (λ l. Contains l x) ((lines_are_sound.blind op (cleared h) b n (when n) s.byte s.large_byte).0 ∙ ap (λ z. looks (plan_of_line z n (when n) op) b) (sym same_hand)) i in
        ap (λ (z : Outcome). member number z.reads) of_plan.comes.outcome ∙ has_member number (filter_map plain (looks program b)) (filter_has plain (looks program b) x number e there_too)

    shown_there : (x : Sector) → Contains (looks q s) x → IsShownAt shown disk x
    shown_there (InodeAt i) c = tt
    shown_there (DirectoryAt k part) c = tt
    shown_there (SegmentAt k) c = tt
    shown_there (BytesAt k part) c = shows (number_of (BytesAt k part)) (reads (BytesAt k part) (number_of (BytesAt k part)) refl c)
    shown_there (LargeAt g part) c = shows (number_of (LargeAt g part)) (reads (LargeAt g part) (number_of (LargeAt g part)) refl c)

    pub comes_showing : run program (having shown b) ≡ Finishes f
    comes_showing =
        ap (λ z. run (plan_of_line z n (when n) op) (having shown b)) same_hand ∙ run_shown segments b shown disk q shown_there ∙ (lines_are_sound.clears op h s n (when n) f over_bytes).0
