-- The locks by which a set grows, where what a plan needs or comes to has locks of the disk.
use Rattle.std.proofs.Common.{◌≡◌, ◌<◌, ◌&&◌, ℕ, Bool, true, false, not, if◌then◌else◌, List, [], ◌∷◌, Option, Some, None, filter, slice_get, refl}
use Rattle.std.specs.List.{find, list_any}
use Rattle.std.specs.Option.{option_or}
use Rattle.frang_base.specs.declared.lock.LockId.{LockId}
use Rattle.frang_base.specs.declared.lock.LockId.TheVariants.{Segment}
use Rattle.frang_base.specs.declared.op.Op.{Op}
use Rattle.lock_definitions.specs.Holders.{is_sole, is_unheld}
use Rattle.lock_definitions.specs.Locks.{Locks}
use Rattle.tree_definitions.specs.Apply.{is_path_op}
use Rattle.tree_definitions.specs.Numbers.{below}
use Rattle.disk_definitions.specs.Ask.{Met, Sector, number_of}
use Rattle.disk_definitions.specs.Ask.Met.{Needs, Has}
use Rattle.disk_definitions.specs.Plans.{Finish, Lock, Plan}
use Rattle.disk_definitions.specs.Plans.Plan.{Lacks, Clears, Finishes}
use Rattle.set_definitions.specs.Seen.{Comparison, HasMoved, HasStopped, HasGoneThrough, SeenSectors, compared, seen_more}
use Rattle.set_definitions.specs.Sets.{LockSet, has_lock, lacks, next_segment, segments_outside, to_ask}
use Rattle.core_definitions.specs.Lines.{Stage, Asking, Fetching, Moving, Stopping, Growing, Clearing, Finishing, Under, missing_bitmaps, needed_mode, needing, once_through, operation_of, or_grown, sole_segment, stage_asked, stage_at, stage_by, stage_held, stage_over}
use Rattle.core_definitions.specs.Plans.{Sight, clear_needs, examined_in, finish_needs, needed_cover, outcome_of, planned}
use Rattle.core_definitions.specs.Servers.{Server, asks, is_up, stage_of, stage_under, stage_with}
use Rattle.core_definitions.specs.Settings.{Setting}
use Rattle.core_facts.proofs.StageForms.{IfStage}
use Rattle.line_histories.proofs.Owned.{below_less}
use Rattle.core_commits.specs.Stages.{nodes_of_line, program_in, sight_in}
use Rattle.core_line_sets.proofs.Placed.{AreBelow, AreThere, IsThere, each_less}

-- ---- the next segment that joins

abbrev pub IsBelow : ℕ → Option ℕ → Type 0
IsBelow n None = Unit {0}
IsBelow n (Some k) = k < n

all_pass : (n : ℕ) (test : ℕ → Bool) (xs : List ℕ) → AreBelow n xs → AreBelow n (filter test xs)
all_pass n test [] all = tt
all_pass n test (x ∷ xs) all = go (test x) (all_pass n test xs all.1)
  where
    go : (b : Bool) → AreBelow n (filter test xs) → AreBelow n (if b then x ∷ filter test xs else filter test xs)
    go true rest = (all.0, rest)
    go false rest = rest

one_found : (n : ℕ) (test : ℕ → Bool) (xs : List ℕ) → AreBelow n xs → IsBelow n (find test xs)
one_found n test [] all = tt
one_found n test (x ∷ xs) all = go (test x) (one_found n test xs all.1)
  where
    go : (b : Bool) → IsBelow n (find test xs) → IsBelow n (if b then Some x else find test xs)
    go true rest = all.0
    go false rest = rest

one_first : (n : ℕ) (xs : List ℕ) → AreBelow n xs → IsBelow n (slice_get xs 0)
one_first n [] all = tt
one_first n (x ∷ xs) all = all.0

one_of : (n : ℕ) (o p : Option ℕ) → IsBelow n o → IsBelow n p → IsBelow n (option_or o p)
one_of n None p a b = b
one_of n (Some k) p a b = a

next_below : (segments : ℕ) (locks : Locks) (a : ℕ) (set : LockSet) → IsBelow segments (next_segment segments locks a set)
next_below segments locks a set =
    one_of segments (find (λ segment. is_sole locks a (Segment segment)) (segments_outside segments set)) _ (one_found segments (λ segment. is_sole locks a (Segment segment)) (segments_outside segments set) outside)
    (one_of segments (find (λ segment. is_unheld locks (Segment segment)) (segments_outside segments set)) _ (one_found segments (λ segment. is_unheld locks (Segment segment)) (segments_outside segments set) outside)
    (one_first segments (segments_outside segments set) outside))
  where
    outside : AreBelow segments (segments_outside segments set)
    outside = all_pass segments (λ segment. not (has_lock set (Segment segment))) (below segments) (each_less segments (below segments) (λ k c. below_less segments k c))

sole_there : (n : ℕ) (next : Option ℕ) → IsBelow n next → AreThere n (sole_segment next)
sole_there n None low = tt
sole_there n (Some k) low = (low, tt)

-- ---- how far a line has come

-- by what its set grows
abbrev pub GrowsThere : ℕ → Stage → Type 0
GrowsThere n (Asking need) = Unit {0}
GrowsThere n (Fetching needs) = Unit {0}
GrowsThere n Moving = Unit {0}
GrowsThere n Stopping = Unit {0}
GrowsThere n (Growing needs seen) = AreThere n needs
GrowsThere n (Clearing block) = Unit {0}
GrowsThere n (Finishing outcome) = Unit {0}

-- what its plan needs or comes to has locks of the disk
pub record Finds (setting : Setting) (server : Server) (under : Under) (operation : Op) : Type 0 where
  pub needed : (sector : Sector) → planned (program_in setting server under operation) (sight_in setting server under) ≡ Needs sector →
      IsThere setting.segments (needed_cover setting.segments (nodes_of_line setting server under operation) (sight_in setting server under) sector)
  pub clears : (block : ℕ) (found : List Lock) → planned (program_in setting server under operation) (sight_in setting server under) ≡ Has (Clears block found) →
      AreThere setting.segments (clear_needs operation (nodes_of_line setting server under operation) (sight_in setting server under) block)
  pub finishes : (finish : Finish) → planned (program_in setting server under operation) (sight_in setting server under) ≡ Has (Finishes finish) →
      AreThere setting.segments (finish_needs (nodes_of_line setting server under operation) (sight_in setting server under) finish)

once : (n : ℕ) (comparison : Comparison) (at : Stage) → GrowsThere n at → GrowsThere n (once_through comparison at)
once n HasGoneThrough at h = h
once n HasStopped at h = tt
once n HasMoved at h = tt

module _ (setting : Setting) (server : Server) (under : Under) (operation : Op) where
  abbrev sight : Sight
  sight = sight_in setting server under

  abbrev nodes : List ℕ
  nodes = nodes_of_line setting server under operation

  abbrev met_here : Met Plan
  met_here = planned (program_in setting server under operation) (sight_in setting server under)

  grown : (needs : List Lock) (seen : SeenSectors) (at : Stage) → AreThere setting.segments needs → GrowsThere setting.segments at → GrowsThere setting.segments (or_grown under.set needs seen at)
  grown needs seen at more h = go (list_any (lacks under.set) needs)
    where
      go : (b : Bool) → GrowsThere setting.segments (if b then Growing needs seen else at)
      go true = more
      go false = h

  of_needing : (comparison : Comparison) (seen : SeenSectors) (number : ℕ) (cover : LockId) → IsThere setting.segments cover → GrowsThere setting.segments (needing comparison under.set seen number cover)
  of_needing comparison seen number cover here = go (has_lock under.set cover)
    where
      go : (b : Bool) → GrowsThere setting.segments (if b then Fetching ((number, cover) ∷ []) else once_through comparison (Growing ((cover, needed_mode cover) ∷ []) seen))
      go true = tt
      go false = once setting.segments comparison (Growing ((cover, needed_mode cover) ∷ []) seen) (here, tt)

  module _ (f : Finds setting server under operation) (next : Option ℕ) (low : IsBelow setting.segments next) where
    by_plan : (comparison : Comparison) (seen : SeenSectors) (met : Met Plan) → met_here ≡ met → GrowsThere setting.segments (stage_by setting under.line operation sight under.set next comparison seen nodes met)
    by_plan comparison seen (Needs sector) e = of_needing comparison seen (number_of sector) (needed_cover setting.segments nodes sight sector) (f.needed sector e)
    by_plan comparison seen (Has Lacks) e = once setting.segments comparison (Growing (sole_segment next) seen) (sole_there setting.segments next low)
    by_plan comparison seen (Has (Clears block found)) e =
        once setting.segments comparison (or_grown under.set (clear_needs operation nodes sight block) seen (Clearing block)) (grown (clear_needs operation nodes sight block) seen (Clearing block) (f.clears block found e) tt)
    by_plan comparison seen (Has (Finishes finish)) e =
        once setting.segments comparison (or_grown under.set (finish_needs nodes sight finish) seen (Finishing (outcome_of setting under.line nodes sight finish)))
        (grown (finish_needs nodes sight finish) seen (Finishing (outcome_of setting under.line nodes sight finish)) (f.finishes finish e) tt)

    over : (comparison : Comparison) → GrowsThere setting.segments (stage_over setting under operation next sight comparison (program_in setting server under operation))
    over HasMoved = tt
    over HasStopped = by_plan HasStopped (seen_more sight.cached under.seen (examined_in (program_in setting server under operation) sight)) met_here refl
    over HasGoneThrough = by_plan HasGoneThrough (seen_more sight.cached under.seen (examined_in (program_in setting server under operation) sight)) met_here refl

  module _ (locks : Locks) (a : ℕ) (finds : missing_bitmaps under.set server.cache ≡ [] → Finds setting server under operation) where
    held : (missing : List (ℕ × LockId)) → missing_bitmaps under.set server.cache ≡ missing → GrowsThere setting.segments (stage_held setting locks a server.cache under operation missing)
    held [] e = over (finds e) (next_segment setting.segments locks a under.set) (next_below setting.segments locks a under.set) (compared under.seen sight.cached)
    held (missing ∷ others) e = tt

    pub line_there : GrowsThere setting.segments (stage_at setting locks a server.cache under operation)
    line_there = go (to_ask locks a under.set)
      where
        go : (need : Option Lock) → GrowsThere setting.segments (stage_asked setting locks a server.cache under operation need)
        go (Some need) = tt
        go None = held (missing_bitmaps under.set server.cache) refl

module _ (setting : Setting) (locks : Locks) (a : ℕ) (server : Server)
    (finds : (under : Under) (operation : Op) → server.under ≡ Some under → operation_of under.line.what ≡ Some operation → missing_bitmaps under.set server.cache ≡ [] → Finds setting server under operation) where
  pub stage_there : IfStage (GrowsThere setting.segments) (stage_of setting locks a server)
  stage_there = go (is_up server.phase && asks is_path_op server)
    where
      with_operation : (under : Under) → server.under ≡ Some under → (operation : Option Op) → operation_of under.line.what ≡ operation →
          IfStage (GrowsThere setting.segments) (stage_with setting locks a server.cache under operation)
      with_operation under i None j = tt
      with_operation under i (Some operation) j = line_there setting server under operation locks a (finds under operation i j)

      of_line : (under : Option Under) → server.under ≡ under → IfStage (GrowsThere setting.segments) (stage_under setting locks a server.cache under)
      of_line None i = tt
      of_line (Some under) i = with_operation under i (operation_of under.line.what) refl

      go : (b : Bool) → IfStage (GrowsThere setting.segments) (if b then stage_under setting locks a server.cache server.under else None)
      go true = of_line server.under refl
      go false = tt
