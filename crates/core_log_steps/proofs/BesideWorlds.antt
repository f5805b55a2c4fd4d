-- Step by step, with the world to which the step leads.
use Rattle.std.proofs.Common.{ap}
use Rattle.core_definitions.specs.Runs.{State, Step, Stays as Nothing, first_state}
use Rattle.core_definitions.specs.Settings.{setting_of}
use Rattle.core_laws.proofs.Along.{longer}
use Rattle.core_lives.specs.Steps.{journals_behind}
use Rattle.core_world.specs.Events.{LeadsStayGood}
use Rattle.core_world.specs.Steps.{IsReached}
use Rattle.core_readings.specs.Logs.{SealsBeginBehind, log_journal}
use Rattle.core_log_steps.specs.Journals.{LivesNameThese}
use Rattle.core_log_steps.specs.Seals.{SealsGoOnBeside}
use Rattle.core_log_steps.specs.Steps.{LogsGoOnBeside, LogsStandAtFirst}
use Rattle.core_log_steps.specs.Worlds.{FirstMomentsAreBeside, Goes, LivesStandBeside, LogsStandBeside, Stays}

reached_then : (s v : State) → IsReached s → Step s v → IsReached v
reached_then s v r step = record {
  bytes = r.bytes;
  script = r.script;
  read = r.read;
  segments = r.segments;
  number = r.number;
  disk = r.disk;
  run = longer (first_state (setting_of r.script r.segments r.number) r.disk) s v r.run step;
}

pub logs_stand_beside : LogsGoOnBeside → SealsGoOnBeside → LeadsStayGood → LogsStandBeside
logs_stand_beside logs seals good s v w u journal further b Stays = b
logs_stand_beside logs seals good s v w u journal further b (Goes {v = x} {further = k} step fit same leads rest) = logs_stand_beside logs seals good x v leads.world u k further
    (record {
      reached = reached_then s x b.reached step;
      world = leads.is;
      good = good w x k b.good leads;
      logs = logs s x step journal k b.reached fit b.logs same;
      behind = seals s x step w journal k b.reached b.world b.good fit b.logs same leads b.behind;
    }) rest

pub lives_stand_beside : LivesNameThese → LogsStandBeside → LivesStandBeside
lives_stand_beside names stand s v w journal step shown fit b on =
    stand s v w on.leads.world journal (journals_behind s v step journal) b (Goes step fit (λ a server. ap log_journal (names s v step journal shown a)) on.leads Stays)

pub first_beside : LogsStandAtFirst → SealsBeginBehind → FirstMomentsAreBeside
first_beside logs begin bytes script segments number disk w journal read zero world good = record {
  reached = record { bytes = bytes; script = script; read = read; segments = segments; number = number; disk = disk; run = Nothing };
  world = world;
  good = good;
  logs = logs bytes script segments number disk journal read zero;
  behind = begin (setting_of script segments number) disk w journal;
}
