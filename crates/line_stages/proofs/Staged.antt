-- The stage that is read off locks, a server and its kept plan is the definition's.
use Rattle.std.proofs.Common.{◌≡◌, ℕ, Bool, true, false, not, ◌&&◌, if◌then◌else◌, is_some, Option, Some, None, List, [], ◌∷◌, refl, sym, ap, ◌∙◌, subst}
use Rattle.std.specs.Option.{option_map}
use Rattle.frang_base.specs.declared.lock.LockId.{LockId}
use Rattle.frang_base.specs.declared.op.Op.{Op}
use Rattle.tree_definitions.specs.Apply.{is_path_op}
use Rattle.lock_definitions.specs.Locks.{Locks}
use Rattle.disk_definitions.specs.Plans.{Lock}
use Rattle.set_definitions.specs.Sets.{LockSet, next_segment, to_ask}
use Rattle.core_definitions.specs.Lines.{Stage, Fetching, Under, missing_bitmaps, operation_of, stage_asked, stage_at, stage_held}
use Rattle.core_definitions.specs.Logs.{is_none}
use Rattle.core_definitions.specs.Servers.{Server, asked_by, asks, is_open, is_up, stage_of, stage_under, stage_with}
use Rattle.core_definitions.specs.Settings.{Setting}
use Rattle.kept_plans.specs.Kept.{IsKeptBeside, IsPlanBy, IsPlanOf, IsPlanUnder}
use Rattle.kept_plans.specs.declared.kept.KeptPlan.{KeptPlan}
use Rattle.line_stages.specs.Reading.{held_stage, kept_stage, line_stage, plan_stage, stage_read}
use Rattle.line_stages.specs.Stages.{IsOneStage, IsStage, is_ready_under, missing_under, wants_plan}
use Rattle.line_stages.specs.declared.stage.Stage.{Stage as CodeStage}
use Rattle.line_stages.specs.declared.stage.Stage.TheVariants as stages
use Rattle.line_stages.proofs.Planned.{IsReadAs, plan_reads, seen_then}

-- ---- a stage that is read off a plan is the core's

pub one_read : (server : Server) (set : LockSet) (next : Option ℕ) (plan : KeptPlan) (code : CodeStage) (at : Stage) → IsReadAs set next plan code at → IsOneStage (Some plan) server code (Some at)
one_read server set next plan (stages.Asking lock mode) at is = absurd is
one_read server set next plan stages.Bitmaps at is = absurd is
one_read server set next plan (stages.Fetching sector cover) at is = ap Some is
one_read server set next plan stages.Moving at is = ap Some is
one_read server set next plan stages.Stopping at is = ap Some is
one_read server set next plan stages.Growing at is = record { needs = is.needs; seen = seen_then plan; is = ap Some is.is }
one_read server set next plan (stages.Clearing block) at is = ap Some is
one_read server set next plan stages.Finishing at is = record { outcome = is.outcome; is = ap Some is.is; comes = is.comes }

both : (a b : Bool) → (a && b) ≡ true → (a ≡ true) × (b ≡ true)
both true b e = (refl, e)
both false b e = absurd (cc)

-- an open line over paths has an operation
pub has_operation : (server : Server) (under : Under) → server.under ≡ Some under → (is_up server.phase && asks is_path_op server) ≡ true → operation_of under.line.what ≡ None → ⊥
has_operation server under at passes asked =
    let open_line : asks is_path_op server ≡ true = (both (is_up server.phase) (asks is_path_op server) passes).1 in
    let no_line : asks is_path_op server ≡ (not (is_some under.fixed) && false)
    = ap (λ o. is_open is_path_op o) at ∙ ap (λ x. not (is_some under.fixed) && asked_by is_path_op x) asked in
    let none : false ≡ true = (both (not (is_some under.fixed)) false (sym no_line ∙ open_line)).1 in
    cc

module _ (setting : Setting) (locks : Locks) (number : ℕ) (server : Server) where
  abbrev Beside : Option KeptPlan → Type 0
  Beside plan = IsKeptBeside setting server plan

  pub plan_of_line : (plan : KeptPlan) (under : Under) (operation : Op) → server.under ≡ Some under → operation_of under.line.what ≡ Some operation → IsPlanUnder setting server.under server.cache plan
      → IsPlanOf setting under operation server.cache plan
  plan_of_line plan under operation at asked is =
      subst (λ x. IsPlanBy setting under x server.cache plan) asked (subst (λ o. IsPlanUnder setting o server.cache plan) at is)

  abbrev sighted : Under → Op → Stage
  sighted under operation = stage_held setting locks number server.cache under operation []

  -- with its set held and its bitmaps at hand
  kept_reads : (plan : Option KeptPlan) (under : Under) (operation : Op) → server.under ≡ Some under → operation_of under.line.what ≡ Some operation → Beside plan → is_some plan ≡ true
      → IsOneStage plan server (kept_stage under.set plan) (Some (sighted under operation))
  kept_reads None under operation at asked is kept = absurd (cc)
  kept_reads (Some plan) under operation at asked is kept =
      one_read server under.set (next_segment setting.segments locks number under.set) plan (plan_stage under.set plan) (sighted under operation)
      (plan_reads setting under operation server.cache (next_segment setting.segments locks number under.set) plan (plan_of_line plan under operation at asked is))

  line_reads : (plan : Option KeptPlan) (under : Under) (operation : Op) → server.under ≡ Some under → operation_of under.line.what ≡ Some operation → Beside plan
      → ((not (is_some (to_ask locks number under.set)) && is_none (missing_bitmaps under.set server.cache)) ≡ true → is_some plan ≡ true)
      → IsOneStage plan server (line_stage under.set server.cache plan (to_ask locks number under.set)) (Some (stage_at setting locks number server.cache under operation))
  line_reads plan under operation at asked is wants = go (to_ask locks number under.set) wants
    where
      held : (missing : List (ℕ × LockId)) → missing_bitmaps under.set server.cache ≡ missing → (is_none missing ≡ true → is_some plan ≡ true)
          → IsOneStage plan server (held_stage under.set plan missing) (Some (stage_held setting locks number server.cache under operation missing))
      held [] e wants = kept_reads plan under operation at asked is (wants refl)
      held (one ∷ others) e wants =
          ap (λ (needs : List (ℕ × LockId)). Some (Fetching needs)) (sym e ∙ sym (ap (λ o. missing_under o server.cache) at))

      go : (need : Option Lock) → ((not (is_some need) && is_none (missing_bitmaps under.set server.cache)) ≡ true → is_some plan ≡ true)
          → IsOneStage plan server (line_stage under.set server.cache plan need) (Some (stage_asked setting locks number server.cache under operation need))
      go (Some need) wants = refl
      go None wants = held (missing_bitmaps under.set server.cache) refl wants

  pub stage_reads : (plan : Option KeptPlan) → (wants_plan locks number server ≡ true → is_some plan ≡ true) → Beside plan → IsStage plan server (stage_read locks number server plan) (stage_of setting locks number server)
  stage_reads plan wants is = go (is_up server.phase && asks is_path_op server) refl
    where
      by_operation : (under : Under) → server.under ≡ Some under → (is_up server.phase && asks is_path_op server) ≡ true → (x : Option Op) → operation_of under.line.what ≡ x
          → IsOneStage plan server (line_stage under.set server.cache plan (to_ask locks number under.set)) (stage_with setting locks number server.cache under x)
      by_operation under at passes None asked = absurd (has_operation server under at passes asked)
      by_operation under at passes (Some operation) asked =
          line_reads plan under operation at asked is (λ ready. wants (
          ap (λ t. t && is_ready_under locks number server.under server.cache) passes
          ∙ ap (λ o. is_ready_under locks number o server.cache) at ∙ ready))

      by_under : (is_up server.phase && asks is_path_op server) ≡ true → (o : Option Under) → server.under ≡ o
          → IsStage plan server (option_map (λ under. line_stage under.set server.cache plan (to_ask locks number under.set)) o) (stage_under setting locks number server.cache o)
      by_under passes None at = refl
      by_under passes (Some under) at = by_operation under at passes (operation_of under.line.what) refl

      go : (t : Bool) → (is_up server.phase && asks is_path_op server) ≡ t
          → IsStage plan server (option_map (λ under. line_stage under.set server.cache plan (to_ask locks number under.set)) (if t then server.under else None))
          (if t then stage_under setting locks number server.cache server.under else None)
      go true passes = by_under passes server.under refl
      go false passes = refl
