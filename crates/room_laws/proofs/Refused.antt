-- A line that is refused for want of room has each segment alone: only where all are at hand an allocation that finds nothing says so.
use Rattle.std.proofs.Common.{ℕ, ◌≡◌, ◌<◌, true, false, map, List, [], ◌++◌, refl, sym, ◌∙◌, subst}
use Rattle.std.proofs.lemmas.List.Elements.{Contains-append_right}
use Rattle.frang_base.specs.declared.lock.LockId.TheVariants as lock
use Rattle.frang_base.specs.declared.op.Op.{Op}
use Rattle.frang_base.specs.declared.reply.Reply.{Reply}
use Rattle.frang_base.specs.declared.reply.Reply.TheVariants as reply
use Rattle.tree_definitions.specs.Perform.{Step, Goes, Stops, resolved}
use Rattle.tree_definitions.specs.Touched.{is_nospace}
use Rattle.tree_definitions.specs.Tree.{FileTree}
use Rattle.disk_definitions.specs.Store.{Store}
use Rattle.disk_definitions.specs.Naming.{Naming}
use Rattle.disk_definitions.specs.Ask.{run}
use Rattle.disk_definitions.specs.Meets.{IsHandOf, IsOfTree}
use Rattle.disk_definitions.specs.PlanOf.{plan_of}
use Rattle.disk_definitions.specs.Plans.{Finish, Hand, says_full, shared_nodes}
use Rattle.disk_definitions.specs.Plans.Plan.{Finishes}
use Rattle.plan_laws.specs.Locks.{FinishIsCovered, IsSole, PlanIsCovered}
use Rattle.plan_laws.proofs.AllLocks.{locks_cover}
use Rattle.plan_laws.proofs.AllPlans.{says_full_exactly}
use Rattle.line_laws.proofs.Covered.{by_finish}
use Rattle.line_laws.proofs.Running.{run_performed}
use Rattle.room_laws.specs.Room.{RefusedLinesHoldAll}
use Rattle.room_laws.proofs.Walking.{none_stops, stops_wanted}

-- an answer for want of room is one of an allocation that found nothing
full_is : (r : Reply) → is_nospace r ≡ true → says_full r ≡ true
full_is reply.NoInode e = refl
full_is reply.NoDirBlock e = refl
full_is (reply.NoBlock m) e = refl
full_is reply.NoLarge e = refl
full_is _ e = absurd (cc)

module _ (hand : Hand) (store : Store) (tree : FileTree) (naming : Naming) (birth when : ℕ) (of : IsOfTree store tree naming) (at_hand : IsHandOf hand store tree.segments) where
  -- each segment is held alone
  abbrev HoldsAll : Finish → Type 0
  HoldsAll finish = (segment : ℕ) → segment < tree.segments → IsSole finish.locks (lock.Segment segment)

  plan_holds : (o : Op) (finish : Finish) → run (plan_of hand birth when o) store ≡ Finishes finish → is_nospace finish.reply ≡ true → HoldsAll finish
  plan_holds o finish is refused segment low =
      let full : says_full finish.reply ≡ true = full_is finish.reply refused in
      let all : hand.all ≡ true = ((says_full_exactly o hand store tree naming birth when of).0 (finish, is, full)).0 in
      let covered : FinishIsCovered hand finish = subst (PlanIsCovered hand) is (locks_cover o hand store birth when) in
      covered.full full segment (at_hand.all.0 all segment low)

  -- where the walk doesn't stop for want of room
  abbrev Holds : Step → Finish → Type 0
  Holds step finish = stops_wanted is_nospace refl refl refl step ≡ false → is_nospace finish.reply ≡ true → HoldsAll finish

  behind : (trail : List ℕ) (o : Op) (finish : Finish) → run (plan_of hand birth when o) store ≡ Finishes finish → Holds (Goes o) (record finish { locks = shared_nodes trail ++ finish.locks })
  behind trail o finish is none refused segment low = Contains-append_right (shared_nodes trail) finish.locks _ (plan_holds o finish is refused segment low)

  stopped : (trail : List ℕ) (r : Reply) → Holds (Stops r) (record { reply = r; edits = []; locks = shared_nodes trail })
  stopped trail r none refused segment low = absurd (let z : true ≡ false = sym refused ∙ none in cc)

pub refused_hold_all : RefusedLinesHoldAll
refused_hold_all o hand store tree naming birth when finish of at_hand is refused =
    let w = resolved tree o in
    by_finish hand store birth when (Holds hand store tree naming birth when of at_hand) (map naming.inode w.trail)
    (behind hand store tree naming birth when of at_hand (map naming.inode w.trail))
    (stopped hand store tree naming birth when of at_hand (map naming.inode w.trail))
    w.step finish (sym (run_performed hand store birth when tree naming of o) ∙ is) (none_stops is_nospace refl refl refl tree o) refused
