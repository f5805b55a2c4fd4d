-- The sectors that a stage of the core needs, with their covers.
use Rattle.std.specs.Prelude.{ℕ, Option, Some, List, []}
use Rattle.frang_base.specs.declared.lock.LockId.{LockId}
use Rattle.core_definitions.specs.Lines.{Stage, Fetching}

abbrev pub needs_in : Option Stage → List (ℕ × LockId)
needs_in (Some (Fetching needs)) = needs
needs_in _ = []
