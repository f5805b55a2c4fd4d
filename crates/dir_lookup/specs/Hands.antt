-- What the code's plans have at hand, in the definitions of plans.
use Rattle.disk_definitions.specs.Ask.{Ask}
use Rattle.disk_definitions.specs.Plans.{Hand}
use Rattle.disk_definitions.specs.Written.{hand_of}
use Rattle.dir_lookup.specs.declared.hand.Hand.{Hand as CodeHand}
use Rattle.dir_lookup.specs.Reading.{Read, reading}

-- the definitions' hand
abbrev pub seen : CodeHand → Hand
seen hand = hand_of hand.sectors.now.entries hand.held.now hand.all

-- what a program comes to over it
abbrev pub over : {A : Type 0} → Ask A → CodeHand → Read A
over p hand = reading p hand.sectors.now.entries hand.held.now
