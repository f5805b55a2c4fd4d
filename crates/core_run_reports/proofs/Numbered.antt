-- A line that has come to some stage is of a server and over a path, so it is numbered.
use Rattle.std.proofs.Common.{◌≡◌, ℕ, Bool, true, false, not, ◌&&◌, if◌then◌else◌, IsTrue, List, Option, Some, None, is_some, refl, subst}
use Rattle.std.proofs.lemmas.Bool.{and_parts, false≢true}
use Rattle.std.proofs.lemmas.Option.{none-some}
use Rattle.frang_base.specs.declared.op.Op.{Op}
use Rattle.tree_definitions.specs.Apply.{is_path_op}
use Rattle.tree_definitions.specs.Tree.{FileTree}
use Rattle.core_commits.specs.Moments.{LinesAreNumbered}
use Rattle.core_definitions.specs.Cores.{stage}
use Rattle.core_definitions.specs.LineGuards.{is_server}
use Rattle.core_definitions.specs.Lines.{Stage, Under, operation_of}
use Rattle.core_definitions.specs.Runs.{State as RunMoment}
use Rattle.core_definitions.specs.Servers.{Phase, Off, Up, Still, Doomed, Dead, asked_by, asks, is_off, is_open, is_up, stage_under}
use Rattle.core_definitions.specs.Settings.{setting_of}
use Rattle.core_laws.proofs.Memory.{staged}
use Rattle.core_line_steps.specs.Numbers.{UnderWayIsNumbered}
use Rattle.core_tree_reads.proofs.Bare.{who_is_bare}
use Rattle.core_world.specs.Journals.{Journal}
use Rattle.core_world.specs.Steps.{IsReached}
use Rattle.core_runs.specs.Kept.{StandsBeside}
use Rattle.sector_world.specs.World.{World}

off_not_up : (p : Phase) → IsTrue (is_off p) → IsTrue (is_up p) → ⊥
off_not_up Off o u = false≢true u
off_not_up Up o u = false≢true o
off_not_up Still o u = false≢true o
off_not_up (Doomed fate) o u = false≢true o
off_not_up Dead o u = false≢true o

asks_there : (b : Bool) (x : Option Stage) (at : Stage) → (if b then x else None) ≡ Some at → IsTrue b
asks_there true x at e = refl
asks_there false x at e = absurd (none-some at e)

module _ (s : RunMoment) (r : IsReached s) (a : ℕ) (at : Stage) (e : stage s.core a ≡ Some at) where
  is_of_server : IsTrue (is_server a)
  is_of_server = go (is_server a) refl
    where
      go : (b : Bool) → is_server a ≡ b → IsTrue b
      go true f = refl
      go false f =
          absurd
          (off_not_up (s.core.servers a).phase (who_is_bare (setting_of r.script r.segments r.number) r.disk s r.run a f).off (staged s.core a at e))

  is_over_paths : (under : Under) (operation : Op) → (s.core.servers a).under ≡ Some under → operation_of under.line.what ≡ Some operation → IsTrue (is_path_op operation)
  is_over_paths under operation has asked =
      let test : IsTrue (asks is_path_op (s.core.servers a)) =
      (and_parts (is_up (s.core.servers a).phase) (asks is_path_op (s.core.servers a))
      (asks_there (is_up (s.core.servers a).phase && asks is_path_op (s.core.servers a))
      (stage_under s.core.setting s.core.locks a (s.core.servers a).cache (s.core.servers a).under) at e)).1 in
      subst (λ o. IsTrue (asked_by is_path_op o)) asked
      (and_parts (not (is_some under.fixed)) (asked_by is_path_op (operation_of under.line.what)) (subst (λ u. IsTrue (is_open is_path_op u)) has test)).1

pub numbered_so : UnderWayIsNumbered → (s : RunMoment) (w : World) (journal : ℕ → Journal) (when : ℕ → ℕ) (first_tree : FileTree) (numbers : List ℕ) →
    StandsBeside s w journal when first_tree numbers → (a : ℕ) (at : Stage) → stage s.core a ≡ Some at → LinesAreNumbered s w when first_tree numbers a
numbered_so under_way s w journal when first_tree numbers beside a at e =
    under_way s w when first_tree numbers a beside.run.reached (is_of_server s beside.run.reached a at e) beside.numbered beside.asked (is_over_paths s beside.run.reached a at e)
