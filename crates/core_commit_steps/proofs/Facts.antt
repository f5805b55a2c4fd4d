-- What holds over every run of the core, on which the events of lines rest.
use Rattle.std.proofs.Common.{◌≡◌, ℕ, Ok, IsTrue, List}
use Rattle.frang_base.specs.declared.script.Line.{Line}
use Rattle.script_definitions.specs.ScriptText.{script_of}
use Rattle.script_places.specs.Placed.{ascends}
use Rattle.line_locks.specs.Lines.{SetCoversAreTrue}
use Rattle.core_laws.specs.Facts.{OffHasNoFlights, RecoveriesAreOfTheDead}
use Rattle.core_laws.specs.Leases.{LeasesLast}
use Rattle.core_laws.specs.Orders.{CoresAreInOrder}
use Rattle.core_facts.specs.Blocks.{CachedBlocksAreWhole}
use Rattle.core_facts.specs.LockSets.{SegmentsAreSole}
use Rattle.core_transcripts.specs.Answers.{LinesUnderWayAreNext, ReadScriptsHaveOwnNumbers}

pub record Facts : Type 0 where
  pub order : CoresAreInOrder
  pub cached : CachedBlocksAreWhole
  pub sole : SegmentsAreSole
  pub covers : SetCoversAreTrue
  pub of_dead : RecoveriesAreOfTheDead
  pub leases : LeasesLast
  pub off : OffHasNoFlights
  pub next : LinesUnderWayAreNext
  pub own : ReadScriptsHaveOwnNumbers
  pub ascending : (bytes : List ℕ) (script : List Line) → script_of bytes ≡ Ok script → IsTrue (ascends script)
