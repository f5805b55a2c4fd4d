-- How far a line has come tells of its plan: a finished one has a reply of the line's own, and one that only looks clears nothing and changes nothing.
use Rattle.std.proofs.Common.{ℕ, ◌≡◌, Bool, true, false, if◌then◌else◌, Option, Some, None, List, [], ◌∷◌, refl, sym, subst}
use Rattle.std.specs.List.{list_any}
use Rattle.frang_base.specs.declared.lock.LockId.{LockId}
use Rattle.frang_base.specs.declared.op.Op.{Op}
use Rattle.frang_base.specs.declared.script.Line.{Line}
use Rattle.tree_definitions.specs.Live.{number_of as operation_number, script_time, time_in}
use Rattle.tree_definitions.specs.Transcript.{may_change}
use Rattle.lock_definitions.specs.Locks.{Locks}
use Rattle.disk_definitions.specs.Ask.{Met, number_of}
use Rattle.disk_definitions.specs.Ask.Met.{Needs, Has}
use Rattle.disk_definitions.specs.Plans.{Finish, Lock, Plan}
use Rattle.disk_definitions.specs.Plans.Plan.{Lacks, Clears, Finishes}
use Rattle.disk_definitions.specs.Written.{hand_of}
use Rattle.cache_definitions.specs.Caches.{Cache}
use Rattle.set_definitions.specs.Seen.{Comparison, HasMoved, HasStopped, HasGoneThrough, SeenSectors, compared, seen_more}
use Rattle.core_definitions.specs.Lines.{Stage, Asking, Fetching, Moving, Stopping, Growing, Clearing, Finishing, Under, missing_bitmaps, needed_mode, needing, once_through, or_grown, sole_segment, stage_asked, stage_at, stage_by, stage_held, stage_over}
use Rattle.core_definitions.specs.Plans.{Outcome, Sight, clear_needs, examined_in, finish_needs, known_in, needed_cover, nodes_looked_at, outcome_of, planned, program_of, sight_of}
use Rattle.set_definitions.specs.Sets.{LockSet, has_lock, lacks, next_segment, to_ask}
use Rattle.core_definitions.specs.Settings.{Setting}
use Rattle.core_transcripts.proofs.Always.{Always, always_met}
use Rattle.core_transcripts.proofs.Lining.{line_looks, line_plain}
use Rattle.core_transcripts.proofs.Planning.{OnlyLooks, SaysPlain}
use Rattle.core_transcripts.proofs.Walking.{IsPlain}

-- ---- a test of stages by the plan

module _ (setting : Setting) (P : Stage → Type 0) (Q : Plan → Type 0) (asking : (need : Lock) → P (Asking need)) (fetching : (needs : List (ℕ × LockId)) → P (Fetching needs)) (moving : P Moving)
    (stopping : P Stopping) (growing : (needs : List Lock) (seen : SeenSectors) → P (Growing needs seen)) (clears : (block : ℕ) (locks : List Lock) → Q (Clears block locks) → P (Clearing block))
    (finishes : (line : Line) (nodes : List ℕ) (sight : Sight) (finish : Finish) → Q (Finishes finish) → P (Finishing (outcome_of setting line nodes sight finish))) where
  through : (comparison : Comparison) (stage : Stage) → P stage → P (once_through comparison stage)
  through HasGoneThrough stage p = p
  through HasStopped stage p = stopping
  through HasMoved stage p = moving

  grown : (set : LockSet) (needs : List Lock) (seen : SeenSectors) (stage : Stage) → P stage → P (or_grown set needs seen stage)
  grown set needs seen stage p = go (list_any (lacks set) needs)
    where
      go : (b : Bool) → P (if b then Growing needs seen else stage)
      go true = growing needs seen
      go false = p

  module _ (line : Line) (operation : Op) (sight : Sight) (set : LockSet) (next : Option ℕ) (comparison : Comparison) (seen : SeenSectors) (nodes : List ℕ) where
    needs_so : (sector : ℕ) (cover : LockId) → P (needing comparison set seen sector cover)
    needs_so sector cover = go (has_lock set cover)
      where
        go : (b : Bool) → P (if b then Fetching ((sector, cover) ∷ []) else once_through comparison (Growing ((cover, needed_mode cover) ∷ []) seen))
        go true = fetching ((sector, cover) ∷ [])
        go false = through comparison (Growing ((cover, needed_mode cover) ∷ []) seen) (growing ((cover, needed_mode cover) ∷ []) seen)

    by_plan : (met : Met Plan) → ((plan : Plan) → met ≡ Has plan → Q plan) → P (stage_by setting line operation sight set next comparison seen nodes met)
    by_plan (Needs sector) q = needs_so (number_of sector) (needed_cover setting.segments nodes sight sector)
    by_plan (Has Lacks) q = through comparison (Growing (sole_segment next) seen) (growing (sole_segment next) seen)
    by_plan (Has (Clears block locks)) q =
        through comparison (or_grown set (clear_needs operation nodes sight block) seen (Clearing block))
        (grown set (clear_needs operation nodes sight block) seen (Clearing block) (clears block locks (q (Clears block locks) refl)))
    by_plan (Has (Finishes finish)) q =
        through comparison (or_grown set (finish_needs nodes sight finish) seen (Finishing (outcome_of setting line nodes sight finish)))
        (grown set (finish_needs nodes sight finish) seen (Finishing (outcome_of setting line nodes sight finish)) (finishes line nodes sight finish (q (Finishes finish) refl)))

  pub stage_passes : (locks : Locks) (server : ℕ) (cache : Cache) (u : Under) (o : Op) → ((sight : Sight) → Always Q (program_of setting u.line o sight)) → P (stage_at setting locks server cache u o)
  stage_passes locks server cache u o always = asked (to_ask locks server u.set)
    where
      over : (next : Option ℕ) (sight : Sight) (comparison : Comparison) → P (stage_over setting u o next sight comparison (program_of setting u.line o sight))
      over next sight HasMoved = moving
      over next sight HasStopped =
          let program = program_of setting u.line o sight in
          by_plan u.line o sight u.set next HasStopped (seen_more sight.cached u.seen (examined_in program sight)) (nodes_looked_at setting.segments program sight) (planned program sight)
          (λ plan e. always_met Q program (known_in sight) plan (always sight) e)
      over next sight HasGoneThrough =
          let program = program_of setting u.line o sight in
          by_plan u.line o sight u.set next HasGoneThrough (seen_more sight.cached u.seen (examined_in program sight)) (nodes_looked_at setting.segments program sight) (planned program sight)
          (λ plan e. always_met Q program (known_in sight) plan (always sight) e)

      held : (missing : List (ℕ × LockId)) → P (stage_held setting locks server cache u o missing)
      held [] =
          over (next_segment setting.segments locks server u.set) (sight_of setting.segments u.set cache) (compared u.seen (sight_of setting.segments u.set cache).cached)
      held (one ∷ others) = fetching (one ∷ others)

      asked : (need : Option Lock) → P (stage_asked setting locks server cache u o need)
      asked (Some need) = asking need
      asked None = held (missing_bitmaps u.set cache)

-- ---- replies

abbrev pub StageIsPlain : Stage → Type 0
StageIsPlain (Finishing outcome) = IsPlain outcome.reply
StageIsPlain stage = Unit {0}

pub stage_plain : (setting : Setting) (locks : Locks) (server : ℕ) (cache : Cache) (u : Under) (o : Op) → StageIsPlain (stage_at setting locks server cache u o)
stage_plain setting locks server cache u o =
    stage_passes setting StageIsPlain SaysPlain (λ need. tt) (λ needs. tt) tt tt (λ needs seen. tt) (λ block locks q. tt) (λ line nodes sight finish q. q) locks server cache u o
    (λ sight. line_plain (hand_of sight.cached sight.held sight.all) (operation_number setting.run u.line.number) (time_in setting.run (script_time setting.script u.line.number)) o)

-- ---- looks

-- it comes to no clearing, and finished it has no record and sets or frees no bytes
pub record HasNoChanges (outcome : Outcome) : Type 0 where
  pub redo : outcome.redo ≡ None
  pub bytes : outcome.bytes ≡ []
  pub freed : outcome.freed ≡ []

abbrev pub StageLooks : Stage → Type 0
StageLooks (Clearing block) = ⊥
StageLooks (Finishing outcome) = HasNoChanges outcome
StageLooks stage = Unit {0}

no_changes : (setting : Setting) (line : Line) (nodes : List ℕ) (sight : Sight) (finish : Finish) → finish.edits ≡ [] → HasNoChanges (outcome_of setting line nodes sight finish)
no_changes setting line nodes sight finish e =
    subst (λ edits. HasNoChanges (outcome_of setting line nodes sight (record finish { edits = edits }))) (sym e) (record { redo = refl; bytes = refl; freed = refl })

pub stage_looks : (setting : Setting) (locks : Locks) (server : ℕ) (cache : Cache) (u : Under) (o : Op) → may_change o ≡ false → StageLooks (stage_at setting locks server cache u o)
stage_looks setting locks server cache u o e =
    stage_passes setting StageLooks OnlyLooks (λ need. tt) (λ needs. tt) tt tt (λ needs seen. tt) (λ block locks q. q) (λ line nodes sight finish q. no_changes setting line nodes sight finish q) locks server
    cache u o (λ sight. line_looks (hand_of sight.cached sight.held sight.all) (operation_number setting.run u.line.number) (time_in setting.run (script_time setting.script u.line.number)) o e)
