-- Two copies of a disk: which are in use, in what they may differ, and what they mean as one disk.
use Rattle.std.specs.Prelude.{◌≡◌, ℕ, ◌&&◌, if◌then◌else◌, List, [], ◌∷◌, slice_index, Option, Some, None, is_some}
use Rattle.frang_base.specs.declared.sector.Sector.{Sector}
use Rattle.frang_outside.specs.declared.act.Act.{Act}
use Rattle.frang_outside.specs.Disk.{disk_after}
use Rattle.frang_outside.specs.Outside.{State, Accounts}
use Rattle.std.proofs.Common.{refl}
use Rattle.petal_pair.specs.declared.in_use.InUse.{InUse}
use Rattle.petal_pair.specs.declared.in_use.InUse.TheVariants.{Both, FirstAlone, SecondAlone}
use Rattle.sector_bytes.specs.Blocks.{zero_block}
use Rattle.sector_bytes.specs.Sectors.{Sectors, SameSectors}

-- the two copies; which are in use; the sectors missed by the one that is out, once for each put that it missed; the acts of the pair so far; and its counts of
-- faults
pub record Paired (A B : Type 0) : Type 0 where
  pub first : A
  pub second : B
  pub in_use : InUse
  pub missed : List Sector
  pub acts : List Act
  pub faults : List ℕ
  pub say_faults : ℕ

-- the copy that is out, 0 or 1
abbrev pub out_of : InUse → Option ℕ
out_of Both = None
out_of FirstAlone = Some 1
out_of SecondAlone = Some 0

-- the sectors of the first copy in use
abbrev pub sectors_used : InUse → State → State → Sectors
sectors_used Both first second = first.sectors
sectors_used FirstAlone first second = first.sectors
sectors_used SecondAlone first second = second.sectors

-- a sector is none of these
abbrev pub IsNoneOf : ℕ → List Sector → Type 0
IsNoneOf s [] = Unit {0}
IsNoneOf s (sector ∷ sectors) = (s ≡ sector.0 → ⊥) × IsNoneOf s sectors

-- two disks are equal but for at most these sectors
abbrev pub DifferAtMost : List Sector → Sectors → Sectors → Type 0
DifferAtMost missed a b = (s : ℕ) → IsNoneOf s missed → a s ≡ b s

-- two copies in use are equal in every sector, and nothing is missed; the one that is out differs at most in the missed sectors
abbrev pub AreCopies : InUse → List Sector → Sectors → Sectors → Type 0
AreCopies Both missed first second = SameSectors second first × (missed ≡ [])
AreCopies FirstAlone missed first second = DifferAtMost missed second first
AreCopies SecondAlone missed first second = DifferAtMost missed first second

-- the pair's own record, told where both copies tell theirs
abbrev pub told_by_both : Option (List Act) → Option (List Act) → List Act → Option (List Act)
told_by_both first second acts = if is_some first && is_some second then Some acts else None

-- the sectors that a record leaves where it is told, and else these
abbrev pub sectors_told : Option (List Act) → Sectors → Sectors
sectors_told None sectors = sectors
sectors_told (Some acts) sectors = disk_after acts

-- what a pair means, by what its copies mean: where its record is told, the sectors that it leaves, which are those of the first copy in use, and else these; its
-- own counts; and the mark of the first copy
abbrev pub pair_over : State → State → InUse → List Act → List ℕ → ℕ → State
pair_over first second in_use acts faults say_faults = record {
  sectors = sectors_told (told_by_both first.acts second.acts acts) (sectors_used in_use first second);
  acts = told_by_both first.acts second.acts acts;
  faults = λ party. slice_index faults party;
  say_faults = say_faults;
  mark = first.mark;
}

abbrev pub pair_state : {A B : Type 0} → (A → State) → (B → State) → Paired A B → State
pair_state first second p = pair_over (first p.first) (second p.second) p.in_use p.acts p.faults p.say_faults

-- what a pair keeps, by what its copies mean: its sectors are those of the first copy in use, and its copies differ at most as they may
pub record IsPaired (first second : State) (in_use : InUse) (missed : List Sector) (acts : List Act) : Type 0 where
  pub sectors : SameSectors (sectors_told (told_by_both first.acts second.acts acts) (sectors_used in_use first second)) (sectors_used in_use first second)
  pub copies : AreCopies in_use missed first.sectors second.sectors

abbrev pub IsPair : {A B : Type 0} → (A → State) → (B → State) → Paired A B → Type 0
IsPair first second p = IsPaired (first p.first) (second p.second) p.in_use p.missed p.acts

-- all sectors are zero
abbrev pub IsZero : Sectors → Type 0
IsZero sectors = (s : ℕ) → sectors s ≡ zero_block

-- a pair at first: both copies are in use, its record is empty, and its counts are 0
pub record IsFresh {A B : Type 0} (p : Paired A B) (first : A) (second : B) : Type 0 where
  pub first_is : p.first ≡ first
  pub second_is : p.second ≡ second
  pub in_use : p.in_use ≡ Both
  pub missed : p.missed ≡ []
  pub acts : p.acts ≡ []
  pub faults : (party : ℕ) → slice_index p.faults party ≡ 0
  pub say_faults : p.say_faults ≡ 0

-- a record that is told accounts for the sectors
accounts_told : (told : Option (List Act)) (sectors : Sectors) (acts : List Act) → told ≡ Some acts → SameSectors (sectors_told told sectors) (disk_after acts)
accounts_told told sectors acts is s = rw is refl

pub pair_accounts : {A B : Type 0} → (first : A → State) → (second : B → State) → (p : Paired A B) → Accounts (pair_state first second p)
pair_accounts first second p acts is = accounts_told (told_by_both (first p.first).acts (second p.second).acts p.acts) (sectors_used p.in_use (first p.first) (second p.second)) acts is
