-- Moments along runs, and what an arrival rests on along runs of the theorem on sectors.
use Rattle.std.proofs.Common.{◌≡◌, ℕ, true, false, ◌&&◌, if◌then◌else◌, Bool, not, is_some, List, [], ◌∷◌, Some, None, map, refl, subst}
use Rattle.std.proofs.lemmas.Bool.{and_parts}
use Rattle.frang_base.specs.declared.op.Op.{Op}
use Rattle.lock_definitions.specs.Locks.{Locks}
use Rattle.tree_definitions.specs.Apply.{is_path_op}
use Rattle.core_definitions.specs.Lines.{Stage, Under, operation_of}
use Rattle.core_definitions.specs.Runs.{State as RunMoment, Run, Step, first_state, Stays, Goes}
use Rattle.core_definitions.specs.Servers.{Server, asked_by, asks, is_open, is_up, stage_of, stage_under}
use Rattle.core_definitions.specs.Settings.{Setting, setting_of}
use Rattle.sector_world.specs.Kinds.{Good}
use Rattle.sector_world.specs.Steps as sectors
use Rattle.sector_world.specs.Steps.{Event, after}
use Rattle.sector_world.specs.Steps.Event.{Fetch}
use Rattle.sector_world.specs.World.{World}
use Rattle.sector_world.proofs.Every.{good_step}
use Rattle.core_world.specs.Beside.{KnowsMore}
use Rattle.core_world.specs.Steps.{IsReached}
use Rattle.core_writes.specs.Arrivals.{AreAcknowledged}
use Rattle.core_writes.proofs.Acknowledging.{acknowledged_stay}

-- ---- a step more

pub run_step : (s v : RunMoment) → Run s v → (u : RunMoment) → Step v u → Run s u
run_step s v Stays u step = Goes step Stays
run_step s w (Goes {v = v} step run) u more = Goes step (run_step v w run u more)

abbrev pub reached_step : (s v : RunMoment) → IsReached s → Step s v → IsReached v
reached_step s v r step = record {
  bytes = r.bytes;
  script = r.script;
  read = r.read;
  segments = r.segments;
  number = r.number;
  disk = r.disk;
  run = run_step (first_state (setting_of r.script r.segments r.number) r.disk) s r.run v step;
}

-- ---- events by which no log is known less

abbrev pub AllKnow : World → List Event → Type 0
AllKnow w [] = Unit {0}
AllKnow w (event ∷ events) = KnowsMore w event × AllKnow (after w event) events

pub fetches_know : (w : World) (a : ℕ) (list : List ℕ) → AllKnow w (map (Fetch a) list)
fetches_know w a [] = tt
fetches_know w a (s ∷ list) = (tt, fetches_know (after w (Fetch a s)) a list)

pub acknowledged_run : (w : World) (events : List Event) (u : World) → sectors.Run w events u → AllKnow w events → Good w → AreAcknowledged w → AreAcknowledged u
acknowledged_run w [] u sectors.stays all g h = h
acknowledged_run w (event ∷ events) u (sectors.goes can rest) all g h = acknowledged_run (after w event) events u rest all.1 (good_step w event can g) (acknowledged_stay w event can all.0 g h)

-- ---- lines over paths

-- the operation of a server that has come to a stage is over paths
pub path_of : (setting : Setting) (locks : Locks) (a : ℕ) (server : Server) (at : Stage) → stage_of setting locks a server ≡ Some at → (under : Under) (operation : Op) → server.under ≡ Some under →
    operation_of under.line.what ≡ Some operation → is_path_op operation ≡ true
path_of setting locks a server at e under operation is what =
    subst (λ x. asked_by is_path_op x ≡ true) what
    (and_parts (not (is_some under.fixed)) (asked_by is_path_op (operation_of under.line.what)) (subst (λ x. is_open is_path_op x ≡ true) is (go (is_up server.phase) (asks is_path_op server) e))).1
  where
    go : (u p : Bool) → (if u && p then stage_under setting locks a server.cache server.under else None) ≡ Some at → p ≡ true
    go true true i = refl
    go true false i = absurd (cc)
    go false p i = absurd (cc)
