-- The clauses of the order of writes that are of the core alone: on whose behalf a put is, in whose log, and who puts nothing.
use Rattle.std.specs.Prelude.{◌==◌, ℕ, Bool, true, not, ◌&&◌, ◌||◌, IsTrue, List, [], ◌∷◌}
use Rattle.frang_outside.specs.declared.act.Put.{Put}
use Rattle.frang_outside.specs.declared.act.Taken.TheVariants.{Written, Late}
use Rattle.disk_definitions.specs.Regions.{region_of}
use Rattle.core_definitions.specs.Effects.{Made, Says}
use Rattle.core_definitions.specs.Runs.{State as RunMoment, Run, first_state}
use Rattle.headline_definitions.specs.Beginning.{Beginning}
use Rattle.headline_definitions.specs.Laws.{setting_by}
use Rattle.headline_definitions.specs.Ordered.{Watch, first_watch, is_in_own_log, is_taker, watched}
use Rattle.headline_definitions.specs.Runs.{witnessed_in}
use Rattle.headline_definitions.specs.Witnessed.{Witnessed, Acted, Broke}

-- a put is on its server's own behalf, or on that of one whose recovery the server began last, which isn't done; one into a log is on that log's behalf; and its server isn't barred
abbrev pub is_put_in_turn : (segments : ℕ) → Watch → Put → Bool
is_put_in_turn segments watch put =
    (put.behalf.0 == put.server.0 || is_taker put.server.0 (watch.taker put.behalf.0)) && is_in_own_log put.behalf.0 (region_of segments put.sector.0) && not (watch.barred put.server.0)

-- of one that was witnessed: only puts that were written are asked
abbrev pub is_in_turn : (segments : ℕ) → Watch → Witnessed → Bool
is_in_turn segments watch (Acted (Made put Written)) = is_put_in_turn segments watch put
is_in_turn segments watch (Acted (Made put Late)) = true
is_in_turn segments watch (Acted (Says line)) = true
is_in_turn segments watch (Broke sector block) = true

-- each, by what the lines before it tell
abbrev pub are_in_turn : (segments : ℕ) → Watch → List Witnessed → Bool
are_in_turn segments watch [] = true
are_in_turn segments watch (one ∷ more) = is_in_turn segments watch one && are_in_turn segments (watched watch one) more

-- so it is of what is witnessed along every run over the logs of a disk
abbrev pub PutsAreInTurn : Type 0
PutsAreInTurn =
    (b : Beginning) (s : RunMoment) (run : Run (first_state (setting_by b) b.disk) s) →
    IsTrue (are_in_turn b.opening.tree.segments (first_watch b.opening.tree.segments b.disk) (witnessed_in (first_state (setting_by b) b.disk) s run))
