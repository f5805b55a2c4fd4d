-- At first nothing is cached or in flight, no server is mounted, and nothing has been done; the logs of servers are at rest as those of a zero disk are.
use Rattle.std.proofs.Common.{◌≡◌, ◌+◌, ◌*◌, ◌^◌, ◌<◌, ◌≤◌, ℕ, Bool, true, false, if◌then◌else◌, IsTrue, [], refl, sym, subst, arith}
use Rattle.std.proofs.lemmas.Bool.{false≢true}
use Rattle.frang_base.specs.declared.lock.LockId.{LockId}
use Rattle.sector_bytes.specs.Blocks.{version_of, zero_block}
use Rattle.sector_bytes.specs.Bytes.{zeros}
use Rattle.sector_bytes.specs.Sectors.{Sectors}
use Rattle.disk_definitions.specs.Replay.{slots_of}
use Rattle.disk_definitions.proofs.WrittenFields.{zero_version}
use Rattle.ring_definitions.specs.Rings.{ring_at}
use Rattle.plan_laws.proofs.Covering.{not_in_none}
use Rattle.core_definitions.specs.LineGuards.{is_server}
use Rattle.core_definitions.specs.Runs.Run.{Stays}
use Rattle.core_definitions.specs.Servers as life
use Rattle.core_definitions.specs.Settings.{Setting, setting_of}
use Rattle.core_world.specs.Events.{FirstMomentsAreGood, FirstMomentsAreWorlds, first_world}
use Rattle.core_world.specs.Journals.{IsAtRest, Journal, sector_log}
use Rattle.core_world.proofs.First.{first_tied}
use Rattle.core_writes.proofs.Acknowledging.{acknowledged_first}
use Rattle.core_writes.proofs.Journaling.{landed_log}
use Rattle.core_lives.specs.Room.{FirstMomentsHaveRoom}
use Rattle.core_line_steps.proofs.Numbered.{first_are_numbered}
use Rattle.core_log_writes.proofs.Going.{logs_open_first}
use Rattle.core_log_writes.proofs.Marking.{ends_begin}
use Rattle.core_commit_steps.specs.First.{FirstMomentsStand}

some_number : (run line : ℕ) → 0 < run → 0 < run * 2 ^ 32 + line
some_number run line l = omega (arith, l)

zero_low : (n : ℕ) → 0 ≤ n
zero_low n = omega arith

abbrev zero_disk : Sectors
zero_disk sector = zero_block

module _ (worlds : FirstMomentsAreWorlds) (setting : Setting) (disk : Sectors) (logged of_files : ℕ → Bool) (home : ℕ → LockId) (journal : ℕ → Journal)
    (zero : (server slot : ℕ) → IsTrue (is_server server) → slot < 256 → slots_of disk server slot ≡ zeros 512) where
  -- no sector is older than on a zero disk
  rises : (s : ℕ) → version_of ((first_world zero_disk logged of_files home).disk s) ≤ version_of ((first_world disk logged of_files home).disk s)
  rises s = go (logged s) (version_of ((first_world disk logged of_files home).disk s))
    where
      go : (b : Bool) (n : ℕ) → version_of (if b then zero_block else zero_block) ≤ n
      go true n = subst (λ k. k ≤ n) (sym zero_version) (zero_low n)
      go false n = subst (λ k. k ≤ n) (sym zero_version) (zero_low n)

  rests : (a : ℕ) → IsTrue (is_server a) → IsAtRest (slots_of disk a) (sector_log (first_world disk logged of_files home) a)
  rests a who =
      landed_log 0 [] [] zero_disk disk (sector_log (first_world zero_disk logged of_files home) a) (λ s. version_of ((first_world disk logged of_files home).disk s)) a (journal a) (λ one number i of. i)
      (λ slot low. zero a slot who low) rises life.Off (ring_at 0) ((worlds setting zero_disk logged of_files home journal (λ server slot who low. refl)).journals a who)

pub first_stand : FirstMomentsAreWorlds → FirstMomentsAreGood → FirstMomentsHaveRoom → FirstMomentsStand
first_stand worlds good room bytes script segments run disk logged of_files home journal when first_tree numbers read whole zero times stands follows parameters some asked = record {
  run = record {
    reached = record { bytes = bytes; script = script; read = read; segments = segments; number = run; disk = disk; run = Stays };
    whole = whole;
    world = record {
      tied = first_tied (setting_of script segments run) disk logged of_files home;
      journals = λ a who. rests worlds (setting_of script segments run) disk logged of_files home journal zero a who;
      readings = λ by recovery who i. absurd (cc);
    };
    good = good disk logged of_files home;
    zeros = λ a s free. tt;
    lines = record { times = times; stands = stands; legal = record { live = tt; left = tt }; distinct = tt; follows = follows; parameters = parameters };
    sets = λ a under e. absurd (cc);
  };
  sixteen = refl;
  asked = asked;
  numbered = first_are_numbered (setting_of script segments run) _ (first_world disk logged of_files home) refl (λ a. refl) (λ line there. some_number run line.number some);
  cleared = record { pending = λ a s block m e free. absurd (cc); free = λ a s kept e dirty other plain. absurd (cc) };
  held = λ one lock there present place. absurd (not_in_none one there);
  ends = ends_begin (setting_of script segments run) disk logged of_files home journal;
  open_ = logs_open_first (setting_of script segments run) disk journal;
  none = λ sector e. (refl, refl);
  acknowledged = acknowledged_first disk logged of_files home;
  lasts = λ a who mounted. absurd (false≢true mounted);
  room = λ a who. room bytes script segments run disk a read zero who;
}
