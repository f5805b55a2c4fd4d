-- Two events, where the host is off.
use Rattle.core_world.proofs.Hosts.{hosts_off}
use Rattle.core_world.proofs.Living.{ticks}
use Rattle.core_world.proofs.laws.ticks_are_events.Goals as goal

pub returns : goal.returns
returns c =
    let hosts = hosts_off c.who_rests_has_nothing.ensures.landed c.runs_have_their_faults.ensures.theirs c.read_scripts_are_numbered.ensures.numbered in
    record { off = hosts; tick = ticks hosts }
