-- What is so of each form to which a line comes is so of how far it has come.
use Rattle.std.proofs.Common.{◌≡◌, ℕ, Bool, true, false, ◌&&◌, if◌then◌else◌, List, [], ◌∷◌, Option, Some, None, refl, subst}
use Rattle.std.specs.List.{list_any}
use Rattle.frang_base.specs.declared.lock.LockId.{LockId}
use Rattle.frang_base.specs.declared.op.Op.{Op}
use Rattle.frang_base.specs.declared.script.Line.{Line}
use Rattle.lock_definitions.specs.Locks.{Locks}
use Rattle.disk_definitions.specs.Ask.{Ask, Met, Sector, number_of}
use Rattle.disk_definitions.specs.Ask.Met.{Needs, Has}
use Rattle.disk_definitions.specs.Plans.{Finish, Lock, Plan}
use Rattle.disk_definitions.specs.Plans.Plan.{Lacks, Clears, Finishes}
use Rattle.tree_definitions.specs.Apply.{is_path_op}
use Rattle.cache_definitions.specs.Caches.{Cache}
use Rattle.set_definitions.specs.Seen.{Comparison, HasMoved, HasStopped, HasGoneThrough, SeenSectors, compared, seen_more}
use Rattle.set_definitions.specs.Sets.{LockSet, has_lock, lacks, next_segment, to_ask}
use Rattle.core_definitions.specs.Lines.{Stage, Asking, Fetching, Moving, Stopping, Growing, Clearing, Finishing, Under, missing_bitmaps, needed_mode, needing, once_through, operation_of, or_grown, sole_segment, stage_asked, stage_by, stage_held, stage_over}
use Rattle.core_definitions.specs.Plans.{Sight, clear_needs, examined_in, finish_needs, needed_cover, nodes_looked_at, outcome_of, planned, program_of, sight_of}
use Rattle.core_definitions.specs.Servers.{Server, asks, is_up, stage_of, stage_under, stage_with}
use Rattle.core_definitions.specs.Settings.{Setting}

-- the forms, where what a plan is made over is so: a lock to ask; bitmaps, or one sector that the plan needs; the locks by which the set grows; a block to clear; and what a finished plan comes to
pub record OfEachForm (Q : Sight → Type 0) (P : Stage → Type 0) : Type 0 where
  pub asking : (need : Lock) → P (Asking need)
  pub bitmaps : (set : LockSet) (cache : Cache) → P (Fetching (missing_bitmaps set cache))
  pub needed : (sector : Sector) (cover : LockId) → P (Fetching ((number_of sector, cover) ∷ []))
  pub moving : P Moving
  pub stopping : P Stopping
  pub found : (cover : LockId) (seen : SeenSectors) → P (Growing ((cover, needed_mode cover) ∷ []) seen)
  pub next : (segment : Option ℕ) (seen : SeenSectors) → P (Growing (sole_segment segment) seen)
  pub to_clear : (operation : Op) (nodes : List ℕ) (sight : Sight) (block : ℕ) (seen : SeenSectors) → P (Growing (clear_needs operation nodes sight block) seen)
  pub to_finish : (nodes : List ℕ) (sight : Sight) (finish : Finish) (seen : SeenSectors) → P (Growing (finish_needs nodes sight finish) seen)
  pub clearing : (block : ℕ) → P (Clearing block)
  pub finishing : (setting : Setting) (line : Line) (nodes : List ℕ) (sight : Sight) (finish : Finish) → Q sight → P (Finishing (outcome_of setting line nodes sight finish))

abbrev pub IfStage : (Stage → Type 0) → Option Stage → Type 0
IfStage P None = Unit {0}
IfStage P (Some at) = P at

module _ (Q : Sight → Type 0) (P : Stage → Type 0) (each : OfEachForm Q P) where
  once : (comparison : Comparison) (at : Stage) → P at → P (once_through comparison at)
  once HasGoneThrough at h = h
  once HasStopped at h = each.stopping
  once HasMoved at h = each.moving

  of_needing : (comparison : Comparison) (set : LockSet) (seen : SeenSectors) (sector : Sector) (cover : LockId) → P (needing comparison set seen (number_of sector) cover)
  of_needing comparison set seen sector cover = go (has_lock set cover)
    where
      go : (b : Bool) → P (if b then Fetching ((number_of sector, cover) ∷ []) else once_through comparison (Growing ((cover, needed_mode cover) ∷ []) seen))
      go true = each.needed sector cover
      go false = once comparison (Growing ((cover, needed_mode cover) ∷ []) seen) (each.found cover seen)

  grown : (set : LockSet) (needs : List Lock) (seen : SeenSectors) (at : Stage) → P (Growing needs seen) → P at → P (or_grown set needs seen at)
  grown set needs seen at more h = go (list_any (lacks set) needs)
    where
      go : (b : Bool) → P (if b then Growing needs seen else at)
      go true = more
      go false = h

  by_plan : (setting : Setting) (line : Line) (operation : Op) (sight : Sight) → Q sight → (set : LockSet) (next : Option ℕ) (comparison : Comparison) (seen : SeenSectors) (nodes : List ℕ) (met : Met Plan) →
      P (stage_by setting line operation sight set next comparison seen nodes met)
  by_plan setting line operation sight q set next comparison seen nodes (Needs sector) = of_needing comparison set seen sector (needed_cover setting.segments nodes sight sector)
  by_plan setting line operation sight q set next comparison seen nodes (Has Lacks) = once comparison (Growing (sole_segment next) seen) (each.next next seen)
  by_plan setting line operation sight q set next comparison seen nodes (Has (Clears block locks)) =
      once comparison (or_grown set (clear_needs operation nodes sight block) seen (Clearing block))
      (grown set (clear_needs operation nodes sight block) seen (Clearing block) (each.to_clear operation nodes sight block seen) (each.clearing block))
  by_plan setting line operation sight q set next comparison seen nodes (Has (Finishes finish)) =
      once comparison (or_grown set (finish_needs nodes sight finish) seen (Finishing (outcome_of setting line nodes sight finish)))
      (grown set (finish_needs nodes sight finish) seen (Finishing (outcome_of setting line nodes sight finish)) (each.to_finish nodes sight finish seen)
      (each.finishing setting line nodes sight finish q))

  over : (setting : Setting) (under : Under) (operation : Op) (next : Option ℕ) (sight : Sight) → Q sight → (comparison : Comparison) (program : Ask Plan) →
      P (stage_over setting under operation next sight comparison program)
  over setting under operation next sight q HasMoved program = each.moving
  over setting under operation next sight q HasStopped program =
      by_plan setting under.line operation sight q under.set next HasStopped (seen_more sight.cached under.seen (examined_in program sight)) (nodes_looked_at setting.segments program sight) (planned program sight)
  over setting under operation next sight q HasGoneThrough program =
      by_plan setting under.line operation sight q under.set next HasGoneThrough (seen_more sight.cached under.seen (examined_in program sight)) (nodes_looked_at setting.segments program sight) (planned program sight)

  held : (setting : Setting) (locks : Locks) (server : ℕ) (cache : Cache) → ((set : LockSet) → Q (sight_of setting.segments set cache)) → (under : Under) (operation : Op)
      (missing : List (ℕ × LockId)) → missing_bitmaps under.set cache ≡ missing →
      P (stage_held setting locks server cache under operation missing)
  held setting locks server cache sights under operation [] e =
      over setting under operation (next_segment setting.segments locks server under.set) (sight_of setting.segments under.set cache) (sights under.set) (compared under.seen (sight_of setting.segments under.set cache).cached)
      (program_of setting under.line operation (sight_of setting.segments under.set cache))
  held setting locks server cache sights under operation (missing ∷ others) e = subst (λ m. P (Fetching m)) e (each.bitmaps under.set cache)

  asked : (setting : Setting) (locks : Locks) (server : ℕ) (cache : Cache) → ((set : LockSet) → Q (sight_of setting.segments set cache)) → (under : Under) (operation : Op) (need : Option Lock) →
      P (stage_asked setting locks server cache under operation need)
  asked setting locks server cache sights under operation (Some need) = each.asking need
  asked setting locks server cache sights under operation None = held setting locks server cache sights under operation (missing_bitmaps under.set cache) refl

  pub at_stage : (setting : Setting) (locks : Locks) (number : ℕ) (server : Server) → ((set : LockSet) → Q (sight_of setting.segments set server.cache)) → IfStage P (stage_of setting locks number server)
  at_stage setting locks number server sights = go (is_up server.phase && asks is_path_op server)
    where
      with_operation : (under : Under) (operation : Option Op) → IfStage P (stage_with setting locks number server.cache under operation)
      with_operation under None = tt
      with_operation under (Some operation) = asked setting locks number server.cache sights under operation (to_ask locks number under.set)

      of_line : (under : Option Under) → IfStage P (stage_under setting locks number server.cache under)
      of_line None = tt
      of_line (Some under) = with_operation under (operation_of under.line.what)

      go : (b : Bool) → IfStage P (if b then stage_under setting locks number server.cache server.under else None)
      go true = of_line server.under
      go false = tt
