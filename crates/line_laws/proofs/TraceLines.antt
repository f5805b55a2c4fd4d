-- A line looks inside the disk, so what is at hand agrees with the disk where it looked.
use Rattle.std.proofs.Common.{◌≡◌, ℕ, Bool, sym, subst}
use Rattle.frang_base.specs.declared.op.Op.{Op}
use Rattle.frang_base.specs.declared.op.Op.TheVariants as op
use Rattle.tree_definitions.specs.Tree.{FileTree}
use Rattle.sector_bytes.specs.Sectors.{Sectors}
use Rattle.disk_definitions.specs.Store.{Store, store_of}
use Rattle.disk_definitions.specs.Held.{Segments}
use Rattle.disk_definitions.specs.Ask.{Ask, AtHand, looks}
use Rattle.disk_definitions.specs.Missing.{is_at_hand}
use Rattle.disk_definitions.specs.OnDisk.{AreOfDisk, StandsBelow}
use Rattle.disk_definitions.specs.Plans.{Plan}
use Rattle.disk_definitions.specs.Written.{Cached, at_hand, hand_of, sectors_at_hand}
use Rattle.plan_laws.specs.Inside.{AreInside}
use Rattle.line_laws.proofs.AtHand.{agrees}
use Rattle.line_laws.proofs.Edited.{hand}
use Rattle.line_laws.proofs.OfDisk.{of_tree}
use Rattle.disk_definitions.specs.Traces.{traced}
use Rattle.plan_laws.proofs.Traces.{traces_follow_looks}
use Rattle.disk_definitions.specs.Lines.{plan_of_line}
use Rattle.line_laws.proofs.Inside.{lines_inside}
use Rattle.line_laws.specs.Traced.{FollowsLooks, LinesFollowTheDisk, LinesFollowWhatIsAtHand}
use Rattle.line_laws.proofs.TraceLooked.{looked_agrees, inside_first}
use Rattle.line_laws.proofs.TraceAtHand.{cached_at_hand, whole_at_hand}

module _ (o : Op) (cached : Cached) (held : Segments) (all : Bool) (sectors : Sectors) (tree : FileTree) (birth when : ℕ) (of : AreOfDisk cached held all tree.segments sectors) (below : StandsBelow sectors tree) where
  abbrev s : Store
  s = store_of tree.segments sectors

  abbrev c : AtHand
  c = at_hand cached held

  abbrev p : Ask Plan
  p = plan_of_line (hand_of cached held all) birth when o

  inside : AreInside tree.segments (looks p s)
  inside = lines_inside o (hand_of cached held all) s tree below.stands.naming birth when (of_tree sectors tree below) (hand op.Sync cached held all sectors tree birth when of below)

  pub follows_disk : FollowsLooks p c s
  follows_disk = traces_follow_looks p c s (looked_agrees c s p (agrees cached held tree.segments sectors of.as_cached below.whole (looks p s) inside))

  -- so it looked inside the disk
  looked_inside : AreInside tree.segments (traced p c).looked
  looked_inside = subst (AreInside tree.segments) (sym follows_disk) (inside_first tree.segments (is_at_hand c) (looks p s) inside)

  pub follows_at_hand : FollowsLooks p c (store_of tree.segments (sectors_at_hand cached held))
  follows_at_hand = traces_follow_looks p c (store_of tree.segments (sectors_at_hand cached held))
      (agrees cached held tree.segments (sectors_at_hand cached held) (cached_at_hand cached held all tree.segments sectors of) (whole_at_hand cached held all tree.segments sectors of below.whole) (traced p c).looked looked_inside)

pub lines_follow_the_disk : LinesFollowTheDisk
lines_follow_the_disk o cached held all sectors tree birth when of below = follows_disk o cached held all sectors tree birth when of below

pub lines_follow_what_is_at_hand : LinesFollowWhatIsAtHand
lines_follow_what_is_at_hand o cached held all sectors tree birth when of below = follows_at_hand o cached held all sectors tree birth when of below
