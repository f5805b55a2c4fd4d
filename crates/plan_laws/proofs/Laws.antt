-- The laws of what plans move, by the soundness of their edits.
use Rattle.std.proofs.Common.{ℕ, ◌≡◌, true, ◌∙◌, ap, subst, Option, Some, None, refl}
use Rattle.std.specs.Option.{unwrap_or}
use Rattle.frang_base.specs.declared.op.Op.{Op}
use Rattle.tree_definitions.specs.Tree.{FileTree, node_at}
use Rattle.disk_definitions.specs.Store.{Store, Use}
use Rattle.disk_definitions.specs.Naming.{Naming}
use Rattle.disk_definitions.specs.Edits.{edited_all}
use Rattle.disk_definitions.specs.Ask.{run}
use Rattle.disk_definitions.specs.Plans.{Hand, Finish}
use Rattle.disk_definitions.specs.Plans.Plan.{Finishes}
use Rattle.disk_definitions.specs.PlanOf.{plan_of}
use Rattle.disk_definitions.specs.Meets.{IsOfTree, IsHandOf, is_directory_use}
use Rattle.plan_laws.specs.Locks.{FinishIsCovered, PlanIsCovered}
use Rattle.plan_laws.proofs.AllLocks.{locks_cover}
use Rattle.plan_laws.proofs.AllFine.{edits_are_covered}
use Rattle.disk_definitions.specs.Moves.{first_said, use_said}
use Rattle.plan_laws.specs.Plans.{PlansMove, CoversFollowPlans, MovesAreOwned, DirectoriesStay, BytesAreOwned}
use Rattle.plan_laws.proofs.Moving.{covers_move}
use Rattle.plan_laws.proofs.Joining.{AreSound}
use Rattle.plan_laws.proofs.NamesSound.{IsSoundPlan}
use Rattle.plan_laws.proofs.AllSound.{plan_sound}
use Rattle.plan_laws.proofs.Owned.{owned}
use Rattle.plan_laws.proofs.Filled.{filled_own}

module _ (o : Op) (h : Hand) (s : Store) (tree : FileTree) (n : Naming) (birth when : ℕ) (f : Finish) (of : IsOfTree s tree n) (hand : IsHandOf h s tree.segments) (e : run (plan_of h birth when o) s ≡ Finishes f) where
  sound : AreSound s (edited_all s f.edits) f.edits
  sound = subst (IsSoundPlan s) e (plan_sound h s tree n of hand o birth when)

  covered : FinishIsCovered h f
  covered = subst (PlanIsCovered h) e (locks_cover o h s birth when)

  stays : (k : ℕ) → is_directory_use (s.use_of k) ≡ true → is_directory_use ((edited_all s f.edits).use_of k) ≡ true
  stays k d = ap is_directory_use (sound.tidy.uses k) ∙ go (first_said (use_said k) f.edits) refl
    where
      go : (v : Option Use) → first_said (use_said k) f.edits ≡ v → is_directory_use (unwrap_or v (s.use_of k)) ≡ true
      go None q = d
      go (Some u) q = sound.stay k u q d

pub plans_move : PlansMove
plans_move o h s tree n birth when f of hand e = (sound o h s tree n birth when f of hand e).tidy

pub covers_follow : CoversFollowPlans
covers_follow o h s tree n birth when f of hand e to m after =
    covers_move s (edited_all s f.edits) (node_at tree) (node_at to) n m f.edits of.pictures after.pictures (sound o h s tree n birth when f of hand e).tidy

pub moves_are_owned : MovesAreOwned
moves_are_owned o h s tree n birth when f of hand e =
    owned s (edited_all s f.edits) (node_at tree) n of.pictures f.edits (sound o h s tree n birth when f of hand e) f.locks (covered o h s tree n birth when f of hand e).edits

pub directories_stay : DirectoriesStay
directories_stay o h s tree n birth when f of hand e = stays o h s tree n birth when f of hand e

pub bytes_are_owned : BytesAreOwned
bytes_are_owned o h s tree n birth when f of hand e =
    filled_own s (edited_all s f.edits) (node_at tree) n of.pictures f.edits (sound o h s tree n birth when f of hand e) f.locks (covered o h s tree n birth when f of hand e).edits (edits_are_covered o h s tree n birth when f of hand e)
