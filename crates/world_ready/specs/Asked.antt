-- The events of a server that go by what is kept beside it.
use Rattle.std.specs.Prelude.{ℕ}
use Rattle.core_definitions.specs.Events.{Event}
use Rattle.core_definitions.specs.Events as core
use Rattle.world_ready.specs.declared.made.Asked.{Asked}
use Rattle.world_ready.specs.declared.made.Asked.TheVariants.{Ask, Fetch, Again, Clear, Commit, Issue, Doom}

abbrev pub event_for : ℕ → Asked → Event
event_for a (Ask lock mode) = core.Ask a lock mode
event_for a (Fetch sector) = core.Fetch a sector.0
event_for a Again = core.Again a
event_for a (Clear block) = core.Clear a block
event_for a Commit = core.Commit a
event_for a (Issue sector) = core.Issue a sector.0
event_for a Doom = core.Doom a

-- it is no write, which the host may issue too
abbrev pub IsOwn : Asked → Type 0
IsOwn (Issue sector) = ⊥
IsOwn (Ask lock mode) = Unit {0}
IsOwn (Fetch sector) = Unit {0}
IsOwn Again = Unit {0}
IsOwn (Clear block) = Unit {0}
IsOwn Commit = Unit {0}
IsOwn Doom = Unit {0}
