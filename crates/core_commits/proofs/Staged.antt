-- What a stage says of its line, by the cases of how far a line has come.
use Rattle.std.proofs.Common.{◌≡◌, ◌⊎◌, ◌&&◌, ℕ, Bool, true, false, not, if◌then◌else◌, is_some, IsTrue, List, [], ◌∷◌, Option, Some, None, refl, subst, inl, inr}
use Rattle.std.specs.List.{list_any}
use Rattle.frang_base.specs.declared.lock.LockId.{LockId}
use Rattle.frang_base.specs.declared.op.Op.{Op}
use Rattle.lock_definitions.specs.Locks.{Locks}
use Rattle.tree_definitions.specs.Apply.{is_path_op}
use Rattle.disk_definitions.specs.Ask.{Met, Sector, number_of}
use Rattle.disk_definitions.specs.Ask.Met.{Needs, Has}
use Rattle.disk_definitions.specs.Plans.{Finish, Lock, Plan}
use Rattle.disk_definitions.specs.Plans.Plan.{Lacks, Clears, Finishes}
use Rattle.set_definitions.specs.Seen.{Comparison, HasMoved, HasStopped, HasGoneThrough, SeenSectors, compared, seen_more}
use Rattle.set_definitions.specs.Sets.{has_lock, lacks, next_segment, to_ask}
use Rattle.core_definitions.specs.Lines.{Asking, Clearing, Fetching, Finishing, Growing, Moving, Stage, Stopping, Under, missing_bitmaps, needed_mode, needing, once_through, operation_of, or_grown, sole_segment, stage_asked, stage_at, stage_by, stage_held, stage_in_sight, stage_over}
use Rattle.core_definitions.specs.Plans.{Outcome, Sight, clear_needs, examined_in, finish_needs, needed_cover, outcome_of, planned}
use Rattle.core_definitions.specs.Servers.{Server, asked_by, is_open, is_up, stage_of, stage_under, stage_with}
use Rattle.core_definitions.specs.Settings.{Setting}
use Rattle.core_commits.specs.Stages.{HasCleared, IsFinished, IsNeeded, NeedsSectors, nodes_of_line, program_in, sight_in}

-- ---- by what a plan comes to

module _ (setting : Setting) (server : Server) (under : Under) (operation : Op) where
  abbrev sight : Sight
  sight = sight_in setting server under

  abbrev nodes : List ℕ
  nodes = nodes_of_line setting server under operation

  -- what the stage says of the plan
  abbrev Says : Met Plan → Stage → Type 0
  Says met (Asking need) = Unit {0}
  Says met (Fetching needs) = (sector : Sector) × (met ≡ Needs sector) × (has_lock under.set (needed_cover setting.segments nodes sight sector) ≡ true) × (needs ≡ (number_of sector, needed_cover setting.segments nodes sight sector) ∷ [])
  Says met Moving = Unit {0}
  Says met Stopping = Unit {0}
  Says met (Growing needs seen) = Unit {0}
  Says met (Clearing block) = (found : List Lock) × (met ≡ Has (Clears block found)) × (list_any (lacks under.set) (clear_needs operation nodes sight block) ≡ false)
  Says met (Finishing outcome) =
      (finish : Finish) × (met ≡ Has (Finishes finish)) × (list_any (lacks under.set) (finish_needs nodes sight finish) ≡ false) × (outcome ≡ outcome_of setting under.line nodes sight finish)

  once : (met : Met Plan) (comparison : Comparison) (at : Stage) → Says met at → Says met (once_through comparison at)
  once met HasGoneThrough at says = says
  once met HasStopped at says = tt
  once met HasMoved at says = tt

  grown : (met : Met Plan) (needs : List Lock) (seen : SeenSectors) (at : Stage) → (list_any (lacks under.set) needs ≡ false → Says met at) → Says met (or_grown under.set needs seen at)
  grown met needs seen at says = go (list_any (lacks under.set) needs) refl
    where
      go : (b : Bool) → list_any (lacks under.set) needs ≡ b → Says met (if b then Growing needs seen else at)
      go true e = tt
      go false e = says e

  of_needing : (met : Met Plan) (comparison : Comparison) (seen : SeenSectors) (number : ℕ) (cover : LockId) → (has_lock under.set cover ≡ true → Says met (Fetching ((number, cover) ∷ []))) →
      Says met (needing comparison under.set seen number cover)
  of_needing met comparison seen number cover says = go (has_lock under.set cover) refl
    where
      go : (b : Bool) → has_lock under.set cover ≡ b → Says met (if b then Fetching ((number, cover) ∷ []) else once_through comparison (Growing ((cover, needed_mode cover) ∷ []) seen))
      go true e = says e
      go false e = once met comparison (Growing ((cover, needed_mode cover) ∷ []) seen) tt

  by_plan : (next : Option ℕ) (comparison : Comparison) (seen : SeenSectors) (met : Met Plan) → Says met (stage_by setting under.line operation sight under.set next comparison seen nodes met)
  by_plan next comparison seen (Needs sector) = of_needing (Needs sector) comparison seen (number_of sector) (needed_cover setting.segments nodes sight sector) (λ e. (sector, refl, e, refl))
  by_plan next comparison seen (Has Lacks) = once (Has Lacks) comparison (Growing (sole_segment next) seen) tt
  by_plan next comparison seen (Has (Clears block found)) =
      once (Has (Clears block found)) comparison (or_grown under.set (clear_needs operation nodes sight block) seen (Clearing block))
      (grown (Has (Clears block found)) (clear_needs operation nodes sight block) seen (Clearing block) (λ e. (found, refl, e)))
  by_plan next comparison seen (Has (Finishes finish)) =
      once (Has (Finishes finish)) comparison (or_grown under.set (finish_needs nodes sight finish) seen (Finishing (outcome_of setting under.line nodes sight finish)))
      (grown (Has (Finishes finish)) (finish_needs nodes sight finish) seen (Finishing (outcome_of setting under.line nodes sight finish)) (λ e. (finish, refl, e, refl)))

  abbrev met_here : Met Plan
  met_here = planned (program_in setting server under operation) (sight_in setting server under)

  over : (next : Option ℕ) (comparison : Comparison) → Says met_here (stage_over setting under operation next sight comparison (program_in setting server under operation))
  over next HasMoved = tt
  over next HasStopped = by_plan next HasStopped (seen_more sight.cached under.seen (examined_in (program_in setting server under operation) sight)) met_here
  over next HasGoneThrough = by_plan next HasGoneThrough (seen_more sight.cached under.seen (examined_in (program_in setting server under operation) sight)) met_here

  -- with the set held
  abbrev SaysHeld : Stage → Type 0
  SaysHeld (Asking need) = Unit {0}
  SaysHeld (Fetching needs) = (missing_bitmaps under.set server.cache ≡ needs) ⊎ ((missing_bitmaps under.set server.cache ≡ []) × Says met_here (Fetching needs))
  SaysHeld Moving = Unit {0}
  SaysHeld Stopping = Unit {0}
  SaysHeld (Growing needs seen) = Unit {0}
  SaysHeld (Clearing block) = (missing_bitmaps under.set server.cache ≡ []) × Says met_here (Clearing block)
  SaysHeld (Finishing outcome) = (missing_bitmaps under.set server.cache ≡ []) × Says met_here (Finishing outcome)

  with_bitmaps : (at : Stage) → missing_bitmaps under.set server.cache ≡ [] → Says met_here at → SaysHeld at
  with_bitmaps (Asking need) e says = tt
  with_bitmaps (Fetching needs) e says = inr (e, says)
  with_bitmaps Moving e says = tt
  with_bitmaps Stopping e says = tt
  with_bitmaps (Growing needs seen) e says = tt
  with_bitmaps (Clearing block) e says = (e, says)
  with_bitmaps (Finishing outcome) e says = (e, says)

  held : (locks : Locks) (a : ℕ) (missing : List (ℕ × LockId)) → missing_bitmaps under.set server.cache ≡ missing → SaysHeld (stage_held setting locks a server.cache under operation missing)
  held locks a [] e =
      with_bitmaps (stage_in_sight setting under operation (next_segment setting.segments locks a under.set) sight) e (over (next_segment setting.segments locks a under.set) (compared under.seen sight.cached))
  held locks a (missing ∷ others) e = inl e

  -- wherever it has come: of stages past asking the set is held
  abbrev SaysAll : Locks → ℕ → Stage → Type 0
  SaysAll locks a (Asking need) = Unit {0}
  SaysAll locks a (Fetching needs) = (to_ask locks a under.set ≡ None) × SaysHeld (Fetching needs)
  SaysAll locks a Moving = Unit {0}
  SaysAll locks a Stopping = Unit {0}
  SaysAll locks a (Growing needs seen) = Unit {0}
  SaysAll locks a (Clearing block) = (to_ask locks a under.set ≡ None) × SaysHeld (Clearing block)
  SaysAll locks a (Finishing outcome) = (to_ask locks a under.set ≡ None) × SaysHeld (Finishing outcome)

  with_set : (locks : Locks) (a : ℕ) (at : Stage) → to_ask locks a under.set ≡ None → SaysHeld at → SaysAll locks a at
  with_set locks a (Asking need) e says = tt
  with_set locks a (Fetching needs) e says = (e, says)
  with_set locks a Moving e says = tt
  with_set locks a Stopping e says = tt
  with_set locks a (Growing needs seen) e says = tt
  with_set locks a (Clearing block) e says = (e, says)
  with_set locks a (Finishing outcome) e says = (e, says)

  all : (locks : Locks) (a : ℕ) → SaysAll locks a (stage_at setting locks a server.cache under operation)
  all locks a = go (to_ask locks a under.set) refl
    where
      go : (need : Option Lock) → to_ask locks a under.set ≡ need → SaysAll locks a (stage_asked setting locks a server.cache under operation need)
      go (Some need) e = tt
      go None e =
          with_set locks a (stage_held setting locks a server.cache under operation (missing_bitmaps under.set server.cache)) e (held locks a (missing_bitmaps under.set server.cache) refl)

-- ---- the line under way

-- the line over paths of a server that is up
record HasLine (setting : Setting) (locks : Locks) (a : ℕ) (server : Server) (at : Stage) : Type 0 where
  up : IsTrue (is_up server.phase)
  under : Under
  is : server.under ≡ Some under
  operation : Op
  asked : operation_of under.line.what ≡ Some operation
  path : IsTrue (is_path_op operation)
  at_is : stage_at setting locks a server.cache under operation ≡ at

line_of : (setting : Setting) (locks : Locks) (a : ℕ) (server : Server) (at : Stage) → stage_of setting locks a server ≡ Some at → HasLine setting locks a server at
line_of setting locks a server at e = go (is_up server.phase) refl server.under refl e
  where
    path_of : (fixed : Bool) (path : Bool) → (not fixed && path) ≡ true → path ≡ true
    path_of true path i = absurd (cc)
    path_of false path i = i

    with_operation : IsTrue (is_up server.phase) → (under : Under) → server.under ≡ Some under → (operation : Option Op) → operation_of under.line.what ≡ operation →
        IsTrue (not (is_some under.fixed) && asked_by is_path_op operation) → stage_with setting locks a server.cache under operation ≡ Some at → HasLine setting locks a server at
    with_operation up under i None j path k = absurd (cc)
    with_operation up under i (Some operation) j path k =
        let same : stage_at setting locks a server.cache under operation ≡ at = cc in
        record { up = up; under = under; is = i; operation = operation; asked = j; path = path_of (is_some under.fixed) (is_path_op operation) path; at_is = same }

    opened : IsTrue (is_up server.phase) → (under : Under) → server.under ≡ Some under → (b : Bool) → is_open is_path_op (Some under) ≡ b →
        (if b then stage_under setting locks a server.cache (Some under) else None) ≡ Some at → HasLine setting locks a server at
    opened up under i true path k = with_operation up under i (operation_of under.line.what) refl path k
    opened up under i false path k = absurd (cc)

    go : (u : Bool) → is_up server.phase ≡ u → (under : Option Under) → server.under ≡ under →
        (if u && is_open is_path_op under then stage_under setting locks a server.cache under else None) ≡ Some at → HasLine setting locks a server at
    go false up under i k = absurd (cc)
    go true up None i k = absurd (cc)
    go true up (Some under) i k = opened up under i (is_open is_path_op (Some under)) refl k

module _ (setting : Setting) (locks : Locks) (a : ℕ) (server : Server) where
  pub finished_lines_have_plans : (outcome : Outcome) → stage_of setting locks a server ≡ Some (Finishing outcome) → IsFinished setting locks a server outcome
  finished_lines_have_plans outcome e =
      let l : HasLine setting locks a server (Finishing outcome) = line_of setting locks a server (Finishing outcome) e in
      let says : SaysAll setting server l.under l.operation locks a (Finishing outcome) = subst (SaysAll setting server l.under l.operation locks a) l.at_is (all setting server l.under l.operation locks a) in
      record {
        line = record { up = l.up; under = l.under; is = l.is; operation = l.operation; asked = l.asked; path = l.path; served = says.0 };
        finish = says.1.1.0;
        comes = record { bitmaps = says.1.0; met_is = says.1.1.1 };
        has_locks = says.1.1.2;
        outcome_is = says.1.1.3;
      }

  pub clearing_lines_have_plans : (block : ℕ) → stage_of setting locks a server ≡ Some (Clearing block) → HasCleared setting locks a server block
  clearing_lines_have_plans block e =
      let l : HasLine setting locks a server (Clearing block) = line_of setting locks a server (Clearing block) e in
      let says : SaysAll setting server l.under l.operation locks a (Clearing block) = subst (SaysAll setting server l.under l.operation locks a) l.at_is (all setting server l.under l.operation locks a) in
      record {
        line = record { up = l.up; under = l.under; is = l.is; operation = l.operation; asked = l.asked; path = l.path; served = says.0 };
        found = says.1.1.0;
        comes = record { bitmaps = says.1.0; met_is = says.1.1.1 };
        has_locks = says.1.1.2;
      }

  pub fetching_lines_have_plans : (needs : List (ℕ × LockId)) → stage_of setting locks a server ≡ Some (Fetching needs) → NeedsSectors setting locks a server needs
  fetching_lines_have_plans needs e =
      let l : HasLine setting locks a server (Fetching needs) = line_of setting locks a server (Fetching needs) e in
      let says : SaysAll setting server l.under l.operation locks a (Fetching needs) = subst (SaysAll setting server l.under l.operation locks a) l.at_is (all setting server l.under l.operation locks a) in
      record {
        line = record { up = l.up; under = l.under; is = l.is; operation = l.operation; asked = l.asked; path = l.path; served = says.0 };
        which = by l says.1;
      }
    where
      by : (l : HasLine setting locks a server (Fetching needs)) → SaysHeld setting server l.under l.operation (Fetching needs) →
          (missing_bitmaps l.under.set server.cache ≡ needs) ⊎ IsNeeded setting server l.under l.operation needs
      by l (inl e) = inl e
      by l (inr p) = inr (record { sector = p.1.0; comes = record { bitmaps = p.0; met_is = p.1.1 }; covered = p.1.2; only = p.1.3 })
