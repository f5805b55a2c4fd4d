-- What stands of the logs goes on at each step with the journals that are named, and so does the room that they have.
use Rattle.std.proofs.Common.{◌≡◌, ℕ, ◌≤◌, ◌<◌, ◌+◌, ◌*◌, ◌^◌, Bool, true, false, if◌then◌else◌, is_some, IsTrue, Option, Some, None, refl, sym, ap, ◌∙◌, subst, arith}
use Rattle.std.proofs.lemmas.Bool.{false≢true}
use Rattle.frang_base.specs.Functions.{put}
use Rattle.frang_base.specs.declared.limits.TheConstants.{LOG_IN_FLIGHT_MAX, LOG_WINDOW}
use Rattle.frang_base.proofs.Basics.{at_put}
use Rattle.disk_definitions.specs.Logs.{log_end}
use Rattle.disk_definitions.specs.Replay.{slots_of}
use Rattle.lock_definitions.specs.Lease.{HasEnded}
use Rattle.ring_definitions.specs.Rings.{last}
use Rattle.core_definitions.specs.Cores.{next_of}
use Rattle.core_definitions.specs.LineGuards.{is_server}
use Rattle.core_definitions.specs.Lines.{Under}
use Rattle.core_definitions.specs.Runs.{Run, State, Step, Goes as Steps, Stays as Nothing, first_state}
use Rattle.core_definitions.specs.Servers.{is_dead, is_off}
use Rattle.core_definitions.specs.Settings.{Setting, setting_of}
use Rattle.core_facts.proofs.Turns.{step_turn, work_of}
use Rattle.core_journals.proofs.Answering.{Answering, Done, Ends, Goes as Open, Said, step_said}
use Rattle.core_journals.proofs.Rising.{Level, Rise, Ends as Ended, turn_rise}
use Rattle.core_journals.proofs.Standing.{before_of, log_by_turn}
use Rattle.core_journals.proofs.Turning.{Result, turn_next}
use Rattle.core_journals.specs.Journals.{IsLog}
use Rattle.core_journals.specs.Logs.{IsFit}
use Rattle.core_laws.proofs.Along.{longer}
use Rattle.core_laws.proofs.Kept.{setting_of_run}
use Rattle.core_laws.proofs.Windows.{windows_kept}
use Rattle.core_laws.specs.Leases.{LeasesEnd}
use Rattle.core_lives.proofs.Idling.{MarksMore}
use Rattle.core_lives.proofs.Rooming.{left_falls, one_less}
use Rattle.core_lives.specs.Room.{lines_left, reach_of}
use Rattle.core_transcripts.proofs.Numbering.{all_is_none}
use Rattle.core_transcripts.specs.Answers.{LinesUnderWayAreNext, ReadScriptsHaveOwnNumbers}
use Rattle.core_world.specs.Journals.{Journal}
use Rattle.core_world.specs.Steps.{IsReached}
use Rattle.core_readings.specs.Logs.{LogsAreOpen, log_journal}
use Rattle.core_log_steps.specs.Journals.{journals_next}
use Rattle.core_log_steps.specs.Steps.{Along, AreFit, AreStanding, Goes as Further, HasLogRoom, LogRoomIsRoom, LogsGoOnBeside, LogsStandAlong, RunsHaveJournals, StandingLogsAreOpen, Stays}
use Rattle.core_log_steps.proofs.Going.{Goes, Keeps, Turns, step_goes}
use Rattle.core_log_steps.proofs.Lives.{log_stays}

-- ---- room

-- a log that isn't off ends far below, and so does one that is
pub low_last : (off : Bool) (e n k : ℕ) → off ≡ false → (if off then e else n + LOG_IN_FLIGHT_MAX) + LOG_WINDOW * k ≤ 2 ^ 61 → n < 2 ^ 62
low_last true e n k off h = absurd (false≢true (sym off))
low_last false e n k off h = omega (arith, h)

low_end : (off : Bool) (e n k : ℕ) → off ≡ true → (if off then e else n + LOG_IN_FLIGHT_MAX) + LOG_WINDOW * k ≤ 2 ^ 61 → e < 2 ^ 62
low_end true e n k off h = omega (arith, h)
low_end false e n k off h = absurd (false≢true off)

pub log_room_is_room : LogRoomIsRoom
log_room_is_room s a room = less (reach_of (s.core.servers a) (slots_of s.disk a)) (lines_left s.core.setting.script s.core.answered a) room
  where
    less : (r n : ℕ) → r + LOG_WINDOW * n ≤ 2 ^ 61 → r + 100 * n ≤ 2 ^ 61
    less r n h = omega (arith, h)

pub fits : (s : State) (journal : ℕ → Journal) → AreFit s → AreStanding s journal → (a : ℕ) → IsTrue (is_server a) → IsFit s a
fits s journal fit stands a server = record {
  ring = stands.logs.small a server;
  end = λ off. low_end (is_off (s.core.servers a).phase) (log_end (slots_of s.disk a)) (last (s.core.servers a).ring) (lines_left s.core.setting.script s.core.answered a) off (stands.room a server);
  records = fit a server;
}

-- ---- a log

-- with this journal; and while its server is dead with its lease over the journal stays
pub record Onward (s v : State) (a : ℕ) (journal further : ℕ → Journal) : Type 0 where
  pub log : IsLog v a (log_journal (further a))
  pub still : IsTrue (is_dead (s.core.servers a).phase) → HasEnded s.core.now (s.core.servers a).expiry → log_journal (further a) ≡ log_journal (journal a)

pub log_goes : LeasesEnd → (s v : State) (r : IsReached s) (step : Step s v) (journal further : ℕ → Journal) → AreFit s → AreStanding s journal → Goes s journal further (work_of v) → (a : ℕ) →
    IsTrue (is_server a) → Onward s v a journal further
log_goes ends s v r step journal further fit stands (Turns t is) a server = record {
  log = subst (λ k. IsLog v a k) (x.exact ∙ is a) x.log;
  still = λ dead over. sym (x.exact ∙ is a) ∙ x.still dead over;
}
  where
    x : Result s (v.core.servers a) (work_of v) a (log_journal (journal a)) (turn_next s (work_of v) t a (log_journal (journal a)))
    x = log_by_turn ends r.script r.segments r.number r.disk s v r.run step t a server (log_journal (journal a)) (fits s journal fit stands a server) (stands.logs.stand a server)
log_goes ends s v r step journal further fit stands (Keeps lives now were same is) a server = record {
  log = subst (λ k. IsLog v a k) (is a)
      (log_stays ends r.script r.segments r.number r.disk s v r.run step a server (fits s journal fit stands a server) (log_journal (journal a)) (stands.logs.stand a server) lives were same);
  still = λ dead over. sym (is a);
}

-- ---- the lines of its server

module _ (ends : LeasesEnd) (next : LinesUnderWayAreNext) (own : ReadScriptsHaveOwnNumbers) (s v : State) (r : IsReached s) (step : Step s v) (journal : ℕ → Journal) (fit : AreFit s) (stands : AreStanding s journal) (a : ℕ)
    (server : IsTrue (is_server a)) where
  abbrev setting : Setting
  setting = setting_of r.script r.segments r.number

  answering : Answering s.core v.core
  answering = step_said s v step

  run_then : Run (first_state setting r.disk) v
  run_then = longer (first_state setting r.disk) s v r.run step

  script_is : v.core.setting.script ≡ s.core.setting.script
  script_is = ap (λ (x : Setting). x.script) (setting_of_run setting r.disk v run_then) ∙ sym (ap (λ (x : Setting). x.script) (setting_of_run setting r.disk s r.run))

  fewer : lines_left s.core.setting.script v.core.answered a ≤ lines_left s.core.setting.script s.core.answered a
  fewer = left_falls s.core.setting.script a v.core.answered s.core.answered answering.grows

  -- a line that was under way and isn't any more is answered
  one_answered : IsTrue (is_some (s.core.servers a).under) → (v.core.servers a).under ≡ None → lines_left s.core.setting.script v.core.answered a + 1 ≤ lines_left s.core.setting.script s.core.answered a
  one_answered was none = go (s.core.servers a).under refl was
    where
      go : (u : Option Under) → (s.core.servers a).under ≡ u → IsTrue (is_some u) → lines_left s.core.setting.script v.core.answered a + 1 ≤ lines_left s.core.setting.script s.core.answered a
      go None e t = absurd (false≢true t)
      go (Some under) e t = by_end (answering.ends a under e)
        where
          is_next : next_of s.core a ≡ Some under.line
          is_next = (next setting r.disk s (own r.bytes r.script r.read) r.run a under server e).0

          more : v.core.answered under.line.number ≡ true → MarksMore v.core.answered (put s.core.answered under.line.number true)
          more said n = at_put (λ x. x ≡ true → v.core.answered n ≡ true) s.core.answered under.line.number true n (λ i h. ap v.core.answered i ∙ said) (λ i h. answering.grows n h)

          add : (x y z : ℕ) → x ≤ y → y + 1 ≤ z → x + 1 ≤ z
          add x y z h l = omega (arith, h, l)

          by_end : Ends s.core v.core a under → lines_left s.core.setting.script v.core.answered a + 1 ≤ lines_left s.core.setting.script s.core.answered a
          by_end (Open some) = absurd (false≢true (sym (ap is_some none) ∙ some))
          by_end (Said is) =
              add (lines_left s.core.setting.script v.core.answered a) (lines_left s.core.setting.script (put s.core.answered under.line.number true) a) (lines_left s.core.setting.script s.core.answered a)
              (left_falls s.core.setting.script a v.core.answered (put s.core.answered under.line.number true) (more is)) (one_less s.core.setting.script a s.core.answered under.line is_next)
          by_end (Done all) = absurd (all_is_none s.core.setting.script s.core.answered a under.line all is_next)

  pub room_goes : HasLogRoom v a
  room_goes = subst (λ x. reach_of (v.core.servers a) (slots_of v.disk a) + LOG_WINDOW * lines_left x v.core.answered a ≤ 2 ^ 61) (sym script_is)
      (go (turn_rise s (work_of v) (step_turn s v step) a server (before_of ends r.script r.segments r.number r.disk s r.run a server (fits s journal fit stands a server))
      (windows_kept setting r.disk v run_then a) (log_journal (journal a)) (stands.logs.stand a server)))
    where
      level : (t u n m : ℕ) → t ≤ u → n ≤ m → u + LOG_WINDOW * m ≤ 2 ^ 61 → t + LOG_WINDOW * n ≤ 2 ^ 61
      level t u n m h l i = omega (arith, h, l, i)

      raised : (t u n m : ℕ) → t ≤ u + 192 → n + 1 ≤ m → u + LOG_WINDOW * m ≤ 2 ^ 61 → t + LOG_WINDOW * n ≤ 2 ^ 61
      raised t u n m h l i = omega (arith, h, l, i)

      go : Rise s a (v.core.servers a) v.disk → reach_of (v.core.servers a) (slots_of v.disk a) + LOG_WINDOW * lines_left s.core.setting.script v.core.answered a ≤ 2 ^ 61
      go (Level up) = level (reach_of (v.core.servers a) (slots_of v.disk a)) (reach_of (s.core.servers a) (slots_of s.disk a)) (lines_left s.core.setting.script v.core.answered a)
          (lines_left s.core.setting.script s.core.answered a) up fewer (stands.room a server)
      go (Ended was none up) = raised (reach_of (v.core.servers a) (slots_of v.disk a)) (reach_of (s.core.servers a) (slots_of s.disk a)) (lines_left s.core.setting.script v.core.answered a)
          (lines_left s.core.setting.script s.core.answered a) up (one_answered was none) (stands.room a server)

-- ---- the laws

pub logs_go_on : LeasesEnd → LinesUnderWayAreNext → ReadScriptsHaveOwnNumbers → LogsGoOnBeside
logs_go_on ends next own s v step journal further r fit stands same = record {
  logs = record {
    stand = λ a server. subst (λ k. IsLog v a k) (sym (same a server)) (log_goes ends s v r step journal (journals_next s v step journal) fit stands (step_goes s journal v step) a server).log;
    small = λ a server on. low_last (is_off (v.core.servers a).phase) (log_end (slots_of v.disk a)) (last (v.core.servers a).ring) (lines_left v.core.setting.script v.core.answered a) on (room a server);
  };
  room = room;
}
  where
    room : (a : ℕ) → IsTrue (is_server a) → HasLogRoom v a
    room a server = room_goes ends next own s v r step journal fit stands a server

pub logs_stand_along : LogsGoOnBeside → LogsStandAlong
logs_stand_along go s v journal further r stands Stays = (r, stands)
logs_stand_along go s v journal further r stands (Further {v = u} {further = k} step fit same rest) = logs_stand_along go u v k further (reached u step) (go s u step journal k r fit stands same) rest
  where
    reached : (x : State) → Step s x → IsReached x
    reached x to = record {
      bytes = r.bytes;
      script = r.script;
      read = r.read;
      segments = r.segments;
      number = r.number;
      disk = r.disk;
      run = longer (first_state (setting_of r.script r.segments r.number) r.disk) s x r.run to;
    }

-- where a run goes on it goes through each moment behind
pub runs_have_journals : RunsHaveJournals
runs_have_journals s v journal Nothing fit = (journal, Stays)
runs_have_journals s v journal (Steps {v = u} step rest) fit =
    let x : (further : ℕ → Journal) × Along u (journals_next s u step journal) v further = runs_have_journals u v (journals_next s u step journal) rest (λ m before after. fit m (Steps step before) after) in
    (x.0, Further step (fit s Nothing (Steps step rest)) (λ a server. refl) x.1)

pub standing_open : LogsAreOpen → StandingLogsAreOpen
standing_open open_ s journal stands = open_ s journal stands.logs
