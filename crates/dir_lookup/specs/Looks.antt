-- The sectors at which a program looks over cached sectors, in order, before the first that isn't cached.
use Rattle.std.specs.Prelude.{ℕ, List, map}
use Rattle.disk_definitions.specs.Held.{Segments}
use Rattle.disk_definitions.specs.Ask.{Ask, number_of}
use Rattle.disk_definitions.specs.Written.{Cached, at_hand}
use Rattle.disk_definitions.specs.Traces.{traced}

abbrev pub looks_of : {A : Type 0} → Ask A → Cached → Segments → List ℕ
looks_of program cached held = map number_of (traced program (at_hand cached held)).looked
