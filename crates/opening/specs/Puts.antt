-- What the puts of an opening leave in an outside: all of them, or those before one that was refused.
use Rattle.std.specs.Prelude.{◌≡◌, ℕ, ◌∷◌, ◌++◌}
use Rattle.frang_outside.specs.Outside.{State as Outside, NoneRose, OldOrNew, OneRose}
use Rattle.sector_bytes.specs.Blocks.{Block, zero_block}
use Rattle.sector_bytes.specs.Sectors.{SameSectors}
use Rattle.core_definitions.specs.Opening.{Puts, opening_deeds, opening_put, put_over}
use Rattle.core_definitions.specs.Runs.{acts_of}
use Rattle.core_definitions.specs.Scripts.{host_party}
use Rattle.hall_runs.specs.Outsets.{told_behind}
use Rattle.opening.specs.declared.puts.OpenFault.{OpenFault}
use Rattle.opening.specs.declared.puts.OpenFault.TheVariants.{Failed, NoMemory}

-- each was written: the sectors have them in their order, the record has them behind what it had, where it is told, no call failed, and the mark is the same
pub record HasPut (old new : Outside) (puts : Puts) : Type 0 where
  pub sectors : SameSectors new.sectors (put_over old.sectors puts)
  pub acts : new.acts ≡ told_behind old.acts (acts_of (opening_deeds puts))
  pub counts : NoneRose old new
  pub mark : new.mark ≡ old.mark

-- behind those that were written, the next was refused: it failed, its sector is this one and has the old bytes or the new ones, and the count of the host alone rose; or memory was wanting, and no sector
-- and no count changed
abbrev pub Refused : Outside → Outside → Puts → ℕ × Block → OpenFault → Type 0
Refused old new made next (Failed sector) = (next.0 ≡ sector.0) × OldOrNew (put_over old.sectors made) new.sectors (opening_put next) × OneRose old new host_party
Refused old new made next NoMemory = SameSectors new.sectors (put_over old.sectors made) × NoneRose old new

-- the first of them were written, and the one behind these was refused: the record has those that were written, where it is told, and the mark is the same
pub record StopsAt (old new : Outside) (puts : Puts) (fault : OpenFault) : Type 0 where
  pub made : Puts
  pub next : ℕ × Block
  pub left : Puts
  pub parts : puts ≡ made ++ next ∷ left
  pub acts : new.acts ≡ told_behind old.acts (acts_of (opening_deeds made))
  pub refused : Refused old new made next fault
  pub mark : new.mark ≡ old.mark

-- each of its sectors is zero
abbrev pub IsBlank : Outside → Type 0
IsBlank outside = SameSectors outside.sectors (λ sector. zero_block)

-- the first of all were written, and these are left
pub record PutSoFar (old now : Outside) (all left : Puts) : Type 0 where
  pub made : Puts
  pub parts : all ≡ made ++ left
  pub puts : HasPut old now made
