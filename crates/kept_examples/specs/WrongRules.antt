-- Six rules that would be wrong, each by a history that it allows and in which a recovery removes what is seen or synced, or leaves other than the log does.
use Rattle.std.specs.Prelude.{◌≡◌, true, false, List, [], ◌∷◌, length}
use Rattle.frang_base.specs.declared.lock.LockId.TheVariants as lock
use Rattle.frang_base.specs.declared.op.Op.TheVariants as op
use Rattle.frang_base.specs.declared.reply.Reply.TheVariants as reply
use Rattle.tree_definitions.specs.Removal.{keeps_known, left}
use Rattle.tree_laws.specs.Syncing.{stalled_along}
use Rattle.sector_world.specs.Seen.{Unmet}
use Rattle.byte_trees.specs.Deeds.{Deed, Says, items, steps}
use Rattle.byte_trees.specs.Telling.{numbered}
use Rattle.stop_laws.specs.Happened.{has_lost, what_stays}
use Rattle.stop_laws.specs.Synced.{AllSaid, says_synced}
use Rattle.kept_examples.specs.Meeting.{nobody_meets}
use Rattle.kept_examples.specs.Rows.{beside_it, did, in_it, is_refused_room, links, looks, makes, reads, reads_through, removes, said, tree, writes}

-- ---- rules on locks

-- by a wrong rule nobody met what the log of server 0 lost, and yet another server saw it; by the right one somebody met it
pub record IsWrongRule (wrong right : List Deed) : Type 0 where
  pub unmet : Unmet 0 0 (items wrong)
  pub seen : keeps_known 0 0 false tree (steps wrong) ≡ false
  pub met : nobody_meets 0 0 (items right) ≡ false

-- a directory that is changed under a lock that is shared
abbrev pub under_shared : List Deed
under_shared = looks (lock.Node 0 ∷ lock.Node 2 ∷ []) ∷ makes (lock.Node 9 ∷ lock.Segment 0 ∷ []) ∷ []

abbrev pub under_sole : List Deed
under_sole = looks (lock.Node 0 ∷ lock.Node 2 ∷ []) ∷ makes (lock.Node 2 ∷ lock.Node 9 ∷ lock.Segment 0 ∷ []) ∷ []

abbrev pub SharedIsWrong : Type 0
SharedIsWrong = IsWrongRule under_shared under_sole

-- a read that doesn't use the lock of what it reads
abbrev pub read_unseen : List Deed
read_unseen = reads (lock.Node 0 ∷ []) ∷ writes ∷ []

abbrev pub read_seen : List Deed
read_seen = reads (lock.Node 0 ∷ lock.Node 3 ∷ []) ∷ writes ∷ []

abbrev pub UnseenReadIsWrong : Type 0
UnseenReadIsWrong = IsWrongRule read_unseen read_seen

-- a link that is followed without its lock
abbrev pub link_untouched : List Deed
link_untouched = reads_through (lock.Node 0 ∷ lock.Node 1 ∷ lock.Node 3 ∷ []) ∷ links ∷ []

abbrev pub link_touched : List Deed
link_touched = reads_through (lock.Node 0 ∷ lock.Node 1 ∷ lock.Node 4 ∷ lock.Node 3 ∷ []) ∷ links ∷ []

abbrev pub UntouchedLinkIsWrong : Type 0
UntouchedLinkIsWrong = IsWrongRule link_untouched link_touched

-- an answer for want of room by the one segment that is held
abbrev pub one_segment : List Deed
one_segment = is_refused_room (lock.Node 0 ∷ lock.Node 2 ∷ lock.Segment 1 ∷ []) ∷ removes ∷ []

abbrev pub all_segments : List Deed
all_segments = is_refused_room (lock.Node 0 ∷ lock.Node 2 ∷ lock.Segment 0 ∷ lock.Segment 1 ∷ []) ∷ removes ∷ []

abbrev pub HeldSegmentsAreWrong : Type 0
HeldSegmentsAreWrong = IsWrongRule one_segment all_segments

-- ---- what makes sure

-- server 0 mounts, makes `/e/x` and unmounts
abbrev pub mounted : List Deed
mounted = Says (said 0 1 op.Mount reply.Mounted) ∷ []

abbrev pub before_unmount : List Deed
before_unmount = makes (lock.Node 2 ∷ lock.Node 9 ∷ lock.Segment 0 ∷ []) ∷ mounted

abbrev pub unmounted : List Deed
unmounted = Says (said 0 3 op.Unmount reply.Ok) ∷ before_unmount

-- by mounts and syncs alone its operations may go, and yet the unmount made them sure; by the right rule it says so, behind one that goes
pub record IsUnsureUnmount : Type 0 where
  pub by_syncs : AllSaid (λ server. 0) unmounted
  pub synced : keeps_known 0 0 false tree (steps unmounted) ≡ false
  pub says : says_synced (stalled_along 0 false (steps before_unmount)) (said 0 3 op.Unmount reply.Ok) ≡ true
  pub lost : has_lost 0 0 before_unmount ≡ true

-- ---- by which number a recovery goes

-- server 0 makes `/e/x` by line 2, of which its log has the record, looks at it by line 3, and makes `/e/y` by line 4, of which it lost the record
abbrev pub two_made : List Deed
two_made =
    did 0 4 (op.Create beside_it) reply.Ok [] [] ∷ did 0 3 (op.Stat in_it) (reply.File 0 1) [] [] ∷ did 0 2 (op.Create in_it) reply.Ok [] [] ∷ []

-- by the greatest number of the log's records a recovery leaves what the log does; by the greatest number ever used it leaves all, an entry more
pub record IsGreatestEver : Type 0 where
  pub right : left 0 (numbered 2) tree (steps two_made) ≡ steps (what_stays 0 (numbered 3) two_made)
  pub wrong : left 0 (numbered 4) tree (steps two_made) ≡ steps two_made
  pub more : (length (steps two_made) ≡ 3) × (length (steps (what_stays 0 (numbered 3) two_made)) ≡ 2)
