-- What a line goes on with again is what the definition makes of its stage.
use Rattle.std.proofs.Common.{◌≡◌, ℕ, Bool, true, false, ◌&&◌, if◌then◌else◌, Option, Some, None, List, [], ◌∷◌, refl, sym, ap, subst}
use Rattle.std.specs.List.Sorted.{IsStrictlySortedBy}
use Rattle.std.specs.Map.{keys_of}
use Rattle.std.specs.Option.{option_map}
use Rattle.frang_base.specs.declared.lock.LockId.{LockId}
use Rattle.frang_base.specs.declared.op.Op.{Op}
use Rattle.tree_definitions.specs.Apply.{is_path_op}
use Rattle.lock_definitions.specs.Locks.{Locks}
use Rattle.lock_definitions.specs.Order.{lock_cmp}
use Rattle.disk_definitions.specs.Plans.{Lock}
use Rattle.set_definitions.specs.Seen.{SeenSectors}
use Rattle.set_definitions.specs.Sets.{LockSet, joined_all, next_segment, to_ask}
use Rattle.core_definitions.specs.LineEffects.{again_by, set_anew, set_grown, with_under}
use Rattle.core_definitions.specs.Lines.{Stage, Moving, Growing, Under, missing_bitmaps, operation_of, stage_asked, stage_at, stage_held}
use Rattle.core_definitions.specs.Servers.{Server, asks, is_up, stage_of, stage_under, stage_with}
use Rattle.core_definitions.specs.Settings.{Setting, disk_logs}
use Rattle.kept_plans.specs.Kept.{IsKeptBeside}
use Rattle.kept_plans.specs.declared.kept.KeptPlan.{KeptPlan}
use Rattle.kept_plans.specs.declared.kept.KeptPlan.TheVariants as kept
use Rattle.server_core.specs.Effects.{GrowsTo}
use Rattle.line_stages.specs.Agains.{IsAgainAt}
use Rattle.line_stages.specs.Growing.{kept_grown, line_grown}
use Rattle.line_stages.specs.Reading.{held_stage, kept_stage, line_stage, path_line, plan_stage, stage_read}
use Rattle.line_stages.specs.Stages.{IsStage}
use Rattle.line_stages.specs.declared.stage.Stage.{Stage as CodeStage}
use Rattle.line_stages.specs.declared.stage.Stage.TheVariants as stages
use Rattle.line_stages.proofs.Planned.{GrowsBy, IsReadAs, plan_reads, set_then}
use Rattle.line_stages.proofs.Staged.{has_operation, plan_of_line}

-- ---- the effects

pub anew_is : (server : Server) (at : Option Stage) → at ≡ Some Moving → with_under server set_anew ≡ again_by disk_logs at server
anew_is server at e = sym (ap (λ s. again_by disk_logs s server) e)

pub grown_is : (server : Server) (at : Option Stage) (needs : List Lock) (seen : SeenSectors) → at ≡ Some (Growing needs seen) → with_under server (set_grown needs seen) ≡ again_by disk_logs at server
grown_is server at needs seen e = sym (ap (λ s. again_by disk_logs s server) e)

-- ---- which stages go on again

abbrev pub is_going : CodeStage → Bool
is_going stages.Moving = true
is_going stages.Growing = true
is_going stages.Finishing = true
is_going stage = false

-- nothing is made of a server at another stage
pub one_stays : (plan : Option KeptPlan) (server : Server) (code : Option CodeStage) (at : Option Stage) → IsStage plan server code at → ((stage : CodeStage) → code ≡ Some stage → is_going stage ≡ false)
    → again_by disk_logs at server ≡ server
one_stays plan server None at is out = ap (λ s. again_by disk_logs s server) is
one_stays plan server (Some (stages.Asking lock mode)) at is out = ap (λ s. again_by disk_logs s server) is
one_stays plan server (Some stages.Bitmaps) at is out = ap (λ s. again_by disk_logs s server) is
one_stays plan server (Some (stages.Fetching sector cover)) at is out = ap (λ s. again_by disk_logs s server) is
one_stays plan server (Some stages.Moving) at is out = absurd (let no = out stages.Moving refl in cc)
one_stays plan server (Some stages.Stopping) at is out = ap (λ s. again_by disk_logs s server) is
one_stays plan server (Some stages.Growing) at is out = absurd (let no = out stages.Growing refl in cc)
one_stays plan server (Some (stages.Clearing block)) at is out = ap (λ s. again_by disk_logs s server) is
one_stays plan server (Some stages.Finishing) at is out = absurd (let no = out stages.Finishing refl in cc)

-- ---- a set that grows

abbrev IsSorted : Under → Type 0
IsSorted under = IsStrictlySortedBy lock_cmp (keys_of under.set)

grows_to : (o : Option Under) (under : Under) (needs : List Lock) (set : LockSet) → o ≡ Some under → set ≡ joined_all under.set needs → GrowsTo o needs set
grows_to o under needs set at is = subst (λ x. GrowsTo x needs set) (sym at) is

module _ (setting : Setting) (locks : Locks) (number : ℕ) (server : Server) where
  -- a kept plan whose stage is that the set grows
  plan_grows : (plan : KeptPlan) (under : Under) (operation : Op) → server.under ≡ Some under → operation_of under.line.what ≡ Some operation → IsSorted under → IsKeptBeside setting server (Some plan)
      → plan_stage under.set plan ≡ stages.Growing
      → IsAgainAt server (Some (stage_held setting locks number server.cache under operation [])) (kept_grown under.set (next_segment setting.segments locks number under.set) (Some plan))
  plan_grows kept.Moved under operation at asked sorted is grows = absurd (cc)
  plan_grows (kept.Planned plan) under operation at asked sorted is grows =
      let next = next_segment setting.segments locks number under.set in
      let by : GrowsBy under.set next (kept.Planned plan) (stage_held setting locks number server.cache under operation []) =
      subst (λ code. IsReadAs under.set next (kept.Planned plan) code (stage_held setting locks number server.cache under operation [])) grows
      (plan_reads setting under operation server.cache next (kept.Planned plan) (plan_of_line setting locks number server (kept.Planned plan) under operation at asked is)) in
      record { needs = by.needs; grows = ap Some by.is; becomes = grows_to server.under under by.needs (set_then under.set next (kept.Planned plan)) at (by.becomes sorted) }

  line_grows : (plan : Option KeptPlan) (under : Under) (operation : Op) → server.under ≡ Some under → operation_of under.line.what ≡ Some operation → IsSorted under → IsKeptBeside setting server plan
      → line_stage under.set server.cache plan (to_ask locks number under.set) ≡ stages.Growing
      → IsAgainAt server (Some (stage_at setting locks number server.cache under operation)) (kept_grown under.set (next_segment setting.segments locks number under.set) plan)
  line_grows plan under operation at asked sorted is = go (to_ask locks number under.set)
    where
      by_plan : (plan : Option KeptPlan) → IsKeptBeside setting server plan → kept_stage under.set plan ≡ stages.Growing
          → IsAgainAt server (Some (stage_held setting locks number server.cache under operation [])) (kept_grown under.set (next_segment setting.segments locks number under.set) plan)
      by_plan None is grows = absurd (cc)
      by_plan (Some plan) is grows = plan_grows plan under operation at asked sorted is grows

      held : (missing : List (ℕ × LockId)) → held_stage under.set plan missing ≡ stages.Growing
          → IsAgainAt server (Some (stage_held setting locks number server.cache under operation missing)) (kept_grown under.set (next_segment setting.segments locks number under.set) plan)
      held [] grows = by_plan plan is grows
      held (one ∷ others) grows = absurd (cc)

      go : (need : Option Lock) → line_stage under.set server.cache plan need ≡ stages.Growing
          → IsAgainAt server (Some (stage_asked setting locks number server.cache under operation need)) (kept_grown under.set (next_segment setting.segments locks number under.set) plan)
      go (Some need) grows = absurd (cc)
      go None grows = held (missing_bitmaps under.set server.cache) grows

  pub stage_grows : (plan : Option KeptPlan) → IsKeptBeside setting server plan → ((under : Under) → server.under ≡ Some under → IsSorted under) → stage_read locks number server plan ≡ Some stages.Growing
      → IsAgainAt server (stage_of setting locks number server) (line_grown (next_segment setting.segments locks number) plan (path_line server))
  stage_grows plan is sorted = go (is_up server.phase && asks is_path_op server) refl
    where
      same_some : (a b : CodeStage) → Some a ≡ Some b → a ≡ b
      same_some a b e = cc

      by_operation : (under : Under) → server.under ≡ Some under → (is_up server.phase && asks is_path_op server) ≡ true → (x : Option Op) → operation_of under.line.what ≡ x
          → line_stage under.set server.cache plan (to_ask locks number under.set) ≡ stages.Growing
          → IsAgainAt server (stage_with setting locks number server.cache under x) (kept_grown under.set (next_segment setting.segments locks number under.set) plan)
      by_operation under at passes None asked grows = absurd (has_operation server under at passes asked)
      by_operation under at passes (Some operation) asked grows = line_grows plan under operation at asked (sorted under at) is grows

      by_under : (is_up server.phase && asks is_path_op server) ≡ true → (o : Option Under) → server.under ≡ o
          → option_map (λ under. line_stage under.set server.cache plan (to_ask locks number under.set)) o ≡ Some stages.Growing
          → IsAgainAt server (stage_under setting locks number server.cache o) (line_grown (next_segment setting.segments locks number) plan o)
      by_under passes None at grows = absurd (cc)
      by_under passes (Some under) at grows = by_operation under at passes (operation_of under.line.what) refl (same_some _ stages.Growing grows)

      go : (t : Bool) → (is_up server.phase && asks is_path_op server) ≡ t
          → option_map (λ under. line_stage under.set server.cache plan (to_ask locks number under.set)) (if t then server.under else None) ≡ Some stages.Growing
          → IsAgainAt server (if t then stage_under setting locks number server.cache server.under else None) (line_grown (next_segment setting.segments locks number) plan (if t then server.under else None))
      go true passes grows = by_under passes server.under refl grows
      go false passes grows = absurd (cc)
