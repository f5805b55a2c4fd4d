-- The refilling of a copy that is out from the one in use.
use Rattle.std.specs.Prelude.{◌≡◌, ◌⊎◌, ℕ, ◌-◌, ◌^◌, List, [], ◌∷◌, ◌++◌, Option, Some, None, Result, Ok, Err}
use Rattle.frang_base.specs.declared.sector.Sector.{Sector}
use Rattle.frang_outside.specs.declared.act.Act.{Act}
use Rattle.frang_outside.specs.declared.act.Act.TheVariants.{Put as Acted}
use Rattle.frang_outside.specs.declared.act.Put.{Put}
use Rattle.frang_outside.specs.declared.act.Taken.TheVariants.{Written}
use Rattle.frang_outside.specs.declared.outside.PutFault.TheVariants.{Failed as PutFailed, NoMemory as PutNoMemory}
use Rattle.frang_outside.specs.FaultyOutside.{with_fault}
use Rattle.frang_outside.specs.Outside.{State, Follows, Rose}
use Rattle.petal_pair.specs.declared.in_use.InUse.{InUse}
use Rattle.petal_pair.specs.declared.in_use.InUse.TheVariants.{Both, FirstAlone, SecondAlone}
use Rattle.petal_pair.specs.declared.refilling.RefillFault.{RefillFault}
use Rattle.petal_pair.specs.declared.refilling.RefillFault.TheVariants.{Failed, NoMemory}
use Rattle.petal_pair.specs.PairedCalls.{GetFails, Gets, Puts}
use Rattle.petal_pair.specs.PairedCopies.{DifferAtMost, Paired}
use Rattle.sector_bytes.specs.Sectors.{Sectors, SameSectors}

-- the party of a refilling's calls: it is no server
abbrev pub refill_party : ℕ
refill_party = 255

-- the put by which a missed sector gets these bytes
abbrev pub refill_put : Sector → List ℕ → Put
refill_put sector bytes = record { server = record { 0 = 255 }; behalf = record { 0 = 255 }; stamp = 2 ^ 64 - 1; now = 0; sector = sector; bytes = bytes }

-- a sector is copied: it is got, and put as it was got
abbrev pub CopiesSector : State → State → State → State → Sector → Result (Unit {0}) RefillFault → Type 0
CopiesSector from from_after to to_after sector (Ok done) =
    Gets from from_after refill_party sector.0 (Ok (from.sectors sector.0)) × Puts to to_after (refill_put sector (from.sectors sector.0)) (Ok Written)
CopiesSector from from_after to to_after sector (Err Failed) =
    (GetFails from from_after refill_party × (to_after ≡ to)) ⊎ (Gets from from_after refill_party sector.0 (Ok (from.sectors sector.0)) × Puts to to_after (refill_put sector (from.sectors sector.0)) (Err PutFailed))
CopiesSector from from_after to to_after sector (Err NoMemory) =
    Gets from from_after refill_party sector.0 (Ok (from.sectors sector.0)) × Puts to to_after (refill_put sector (from.sectors sector.0)) (Err PutNoMemory)

-- the acts by which these sectors are copied
abbrev pub refilled : Sectors → List Sector → List Act
refilled sectors [] = []
refilled sectors (sector ∷ missed) = Acted (refill_put sector (sectors sector.0)) Written ∷ refilled sectors missed

-- a record with these acts more, where it is told
abbrev pub told_all : Option (List Act) → List Act → Option (List Act)
told_all None acts = None
told_all (Some before) acts = Some (before ++ acts)

-- the first of the missed sectors are copied, and the copies differ at most in those that are left; the copy in use has its sectors and its record, and the other
-- was put these sectors and no more
pub record HasCopied (from from_after to to_after : State) (missed left : List Sector) : Type 0 where
  pub done : List Sector
  pub all : missed ≡ done ++ left
  pub sectors : SameSectors from_after.sectors from.sectors
  pub acts : from_after.acts ≡ from.acts
  pub from_counts : Follows from from_after
  pub to_counts : Follows to to_after
  pub told : to_after.acts ≡ told_all to.acts (refilled from.sectors done)
  pub differ : DifferAtMost left to_after.sectors from_after.sectors

-- all are copied, or a count of a copy rose, or memory is wanting
abbrev pub Copies : State → State → State → State → List Sector → Result (Unit {0}) RefillFault → Type 0
Copies from from_after to to_after missed (Ok done) = HasCopied from from_after to to_after missed []
Copies from from_after to to_after missed (Err Failed) =
    (left : List Sector) × HasCopied from from_after to to_after missed left × (Rose (from.faults refill_party) (from_after.faults refill_party) ⊎ Rose (to.faults refill_party) (to_after.faults refill_party))
Copies from from_after to to_after missed (Err NoMemory) = (left : List Sector) × HasCopied from from_after to to_after missed left

-- the copy in use refills the one that is out
abbrev pub PairCopies : InUse → State → State → State → State → List Sector → Result (Unit {0}) RefillFault → Type 0
PairCopies Both first first_after second second_after missed result = ⊥
PairCopies FirstAlone first first_after second second_after missed result = Copies first first_after second second_after missed result
PairCopies SecondAlone first first_after second second_after missed result = Copies second second_after first first_after missed result

-- then both are in use; after a refusal the copy stays out, and the list as it was, and a failed refilling is counted
abbrev pub in_use_refilled : InUse → Result (Unit {0}) RefillFault → InUse
in_use_refilled in_use (Ok done) = Both
in_use_refilled in_use (Err fault) = in_use

abbrev pub missed_refilled : List Sector → Result (Unit {0}) RefillFault → List Sector
missed_refilled missed (Ok done) = []
missed_refilled missed (Err fault) = missed

abbrev pub faults_refilled : List ℕ → Result (Unit {0}) RefillFault → List ℕ
faults_refilled faults (Ok done) = faults
faults_refilled faults (Err Failed) = with_fault faults refill_party
faults_refilled faults (Err NoMemory) = faults

pub record PairRefilled {A B : Type 0} (first : A → State) (second : B → State) (old new : Paired A B) (result : Result (Unit {0}) RefillFault) : Type 0 where
  pub copies : PairCopies old.in_use (first old.first) (first new.first) (second old.second) (second new.second) old.missed result
  pub same : new ≡ record old {
    first = new.first;
    second = new.second;
    in_use = in_use_refilled old.in_use result;
    missed = missed_refilled old.missed result;
    faults = faults_refilled old.faults result;
  }
