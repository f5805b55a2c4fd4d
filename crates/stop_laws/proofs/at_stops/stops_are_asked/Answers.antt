-- The law.
use Rattle.stop_laws.proofs.Asking as stopping
use Rattle.stop_laws.proofs.at_stops.stops_are_asked.Goals as goal

pub returns : goal.returns
returns c = record { asked = stopping.stops_are_asked }
