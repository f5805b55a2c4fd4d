-- The host is never mounted, as the transcripts of the core's runs keep it.
use Rattle.std.proofs.Common.{◌≡◌, IsTrue, refl}
use Rattle.tree_definitions.specs.History.{fresh_opening}
use Rattle.core_definitions.specs.Runs.{first_state}
use Rattle.core_definitions.specs.Servers as life
use Rattle.core_definitions.specs.Settings.{Setting, setting_of}
use Rattle.core_laws.specs.Facts.{OffHasNoFlights}
use Rattle.core_transcripts.specs.Faults.{RunHasItsFaults, run_faults}
use Rattle.core_transcripts.specs.Scripts.{ReadScriptsAreNumbered}
use Rattle.core_transcripts.proofs.Running.{holds_of_run}
use Rattle.core_world.specs.Events.{HostsAreOff}

off_is : (p : life.Phase) → IsTrue (life.is_off p) → p ≡ life.Off
off_is life.Off off = refl
off_is life.Up off = absurd (cc)
off_is life.Still off = absurd (cc)
off_is (life.Doomed fate) off = absurd (cc)
off_is life.Dead off = absurd (cc)

pub hosts_off : OffHasNoFlights → RunHasItsFaults → ReadScriptsAreNumbered → HostsAreOff
hosts_off landed theirs numbered s r =
    let setting : Setting = setting_of r.script r.segments r.number in
    let tell = (theirs (first_state setting r.disk) s r.run).1 in
    off_is (s.core.servers 255).phase (holds_of_run (fresh_opening 1) setting r.disk (numbered r.bytes r.script r.read) (run_faults (first_state setting r.disk) s r.run) tell.stay landed s r.run tell.counted).fits.host
