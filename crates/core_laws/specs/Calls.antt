-- What is heard of an event is an answer to what it asks of the outside, and the record has what was asked and answered.
use Rattle.std.specs.Prelude.{◌≡◌}
use Rattle.sector_bytes.specs.Sectors.{Sectors}
use Rattle.core_definitions.specs.Calls.{Answers, acts_by, call_of, fails_by}
use Rattle.core_definitions.specs.Cores.{Core}
use Rattle.core_definitions.specs.Effects.{MayHear, deeds_of}
use Rattle.core_definitions.specs.Events.{Event, Heard}
use Rattle.core_definitions.specs.Faults.{failing}
use Rattle.core_definitions.specs.Runs.{acts_of}

-- what may be heard of an event answers its call
abbrev pub CallsAreAnswered : Type 0
CallsAreAnswered = (c : Core) (disk : Sectors) (event : Event) (heard : Heard) → MayHear c disk event heard → Answers (call_of c event) heard

-- the record gets the put that was made, or the text that was said, and nothing else
abbrev pub RecordsHaveTheCalls : Type 0
RecordsHaveTheCalls = (c : Core) (event : Event) (heard : Heard) → acts_of (deeds_of c event heard) ≡ acts_by (call_of c event) heard

-- a failed call is of the one whose call it was
abbrev pub FailuresAreOfTheirCalls : Type 0
FailuresAreOfTheirCalls =
    (c : Core) (disk : Sectors) (event : Event) (heard : Heard) → MayHear c disk event heard → failing c event heard ≡ fails_by (call_of c event) heard
