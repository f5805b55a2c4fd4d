-- What the laws of first moments ask is so of the disk of an opening.
use Rattle.std.proofs.Common.{ℕ, ◌<◌, IsTrue, arith}
use Rattle.std.proofs.lemmas.Bool.Decides.{nat_tests}
use Rattle.frang_base.specs.declared.limits.TheConstants.{LOGS, SERVERS}
use Rattle.core_definitions.specs.LineGuards.{is_server}
use Rattle.core_definitions.specs.Settings.{setting_of}
use Rattle.core_world.specs.Events.{FirstMomentsAreGood, FirstMomentsAreWorlds}
use Rattle.core_world.specs.Journals.{AreZero}
use Rattle.core_lives.specs.Room.{FirstMomentsHaveRoom}
use Rattle.core_commits.specs.Moments.{FirstMomentsAreOfARun}
use Rattle.opening_laws.specs.FirstDisks.{IsFirstDisk, OpeningsAreFirstDisks, opened_files, opened_home, opened_logged, opened_world}
use Rattle.core_openings.specs.Openings.{OpeningsBeginRuns, OpeningsHaveZeroLogs}

pub zero_logs : OpeningsHaveZeroLogs
zero_logs opening disk is a slot server low = is.logs a slot (few a server) low
  where
    few : (a : ℕ) → IsTrue (is_server a) → a < LOGS
    few a h = grind (arith, nat_tests, h)

pub begin_runs : OpeningsHaveZeroLogs → FirstMomentsAreWorlds → FirstMomentsAreGood → FirstMomentsHaveRoom → FirstMomentsAreOfARun → OpeningsAreFirstDisks → OpeningsBeginRuns
begin_runs logs worlds good room runs disks bytes script opening disk is journal when numbers read times few = record {
  world = worlds (setting_of script segments opening.run) disk (opened_logged segments disk) (opened_files segments disk) (opened_home segments is.stands.naming) journal zero;
  good = good disk (opened_logged segments disk) (opened_files segments disk) (opened_home segments is.stands.naming);
  room = λ a server. room bytes script segments opening.run disk a read zero server;
  run =
      runs bytes script segments opening.run disk (opened_logged segments disk) (opened_files segments disk) (opened_home segments is.stands.naming) journal when opening.tree numbers read
      (λ sector low. is.whole sector) zero times first.stands first.follows first.parameters;
}
  where
    segments : ℕ
    segments = opening.tree.segments

    zero : AreZero disk
    zero = logs opening disk is

    first : IsFirstDisk segments numbers opening.tree (opened_world SERVERS segments is.stands.naming disk)
    first = disks opening disk is SERVERS numbers few
