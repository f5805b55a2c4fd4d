-- A pair whose first copy keeps the lines said and is never refilled: what ties the first copy to the pair, and what is given back.
use Rattle.std.specs.Prelude.{◌≡◌, ◌⊎◌, ◌≤◌, ℕ, Bool, true, false, not, List, [], ◌∷◌, ◌++◌, filter, slice_index, Option, Some, None}
use Rattle.frang_outside.specs.declared.act.Act.{Act}
use Rattle.frang_outside.specs.Outside.{State, Follows, Rose}
use Rattle.petal_pair.specs.PairedCopies.{IsZero}
use Rattle.petal_pair.specs.declared.in_use.InUse.{InUse}
use Rattle.petal_pair.specs.declared.in_use.InUse.TheVariants.{Both, FirstAlone, SecondAlone}
use Rattle.quiet_outside.specs.KeptLines.{fail_at_of, is_put, mark_below, puts_of, say_faults_below, texts_of}
use Rattle.quiet_pair.specs.FirstCopies.{AreLateFrom, HasPutsBefore}

-- ---- the tie

-- what acts say
abbrev pub says_of : List Act → List Act
says_of acts = filter (λ act. not (is_put act)) acts

-- a record is these acts, where it is told
abbrev pub TellsJust : Option (List Act) → List Act → Type 0
TellsJust None acts = Unit {0}
TellsJust (Some told) acts = told ≡ acts

-- so it is where the record is told
abbrev pub IfTold : Option (List Act) → Type 0 → Type 0
IfTold None so = Unit {0}
IfTold (Some told) so = so

-- a count of this outside can't rise
abbrev pub HasFullCount : State → Type 0
HasFullCount outset = (party : ℕ) × Rose (outset.faults party) (outset.faults party)

-- the first copy is out: its record has the first of the pair's acts, and of those behind them what they say; a count of it rose; and of its puts those from the one on that was to fail are late, but for
-- a count that can't rise
pub record IsOut (outset first : State) (acts : List Act) : Type 0 where
  pub front : List Act
  pub rest : List Act
  pub parts : acts ≡ front ++ rest
  pub told : TellsJust first.acts (front ++ says_of rest)
  pub rose : (party : ℕ) × Rose (outset.faults party) (first.faults party)
  pub late : IfTold first.acts (AreLateFrom (fail_at_of first.mark) front ⊎ HasFullCount outset)

-- the first copy's record is the pair's while it is in use, and no count of it rose while both are
abbrev pub FirstTies : State → State → InUse → List Act → Type 0
FirstTies outset first Both acts = TellsJust first.acts acts × ((party : ℕ) → first.faults party ≡ outset.faults party)
FirstTies outset first FirstAlone acts = TellsJust first.acts acts
FirstTies outset first SecondAlone acts = IsOut outset first acts

-- a call of the pair failed only where the second copy is out, or has a count of failed calls
abbrev pub HasCause : InUse → State → ℕ → ℕ → Type 0
HasCause in_use second party count = (count ≡ 0) ⊎ ((in_use ≡ FirstAlone) ⊎ (1 ≤ second.faults party))

-- what its type keeps; no say failed
pub record IsTied (outset first second : State) (in_use : InUse) (acts : List Act) (faults : List ℕ) (says : ℕ) : Type 0 where
  pub ties : FirstTies outset first in_use acts
  pub causes : (party : ℕ) → HasCause in_use second party (slice_index faults party)
  pub calm : says ≡ 0

-- whether the second copy is out
abbrev pub is_second_out : InUse → Bool
is_second_out Both = false
is_second_out FirstAlone = true
is_second_out SecondAlone = false

-- ---- at first

-- over an outside and a second copy whose record is told: all sectors are zero, its record is that of the outside, its counts are 0, and its mark has the number of the put that is to fail, the count of
-- failed says of the outside, and the mark of that
pub record HasBegun (fail_at : ℕ) (out begun : State) : Type 0 where
  pub sectors : IsZero begun.sectors
  pub acts : begun.acts ≡ out.acts
  pub faults : (party : ℕ) → begun.faults party ≡ 0
  pub says : begun.say_faults ≡ 0
  pub mark : begun.mark ≡ fail_at ∷ out.say_faults ∷ out.mark

-- ---- at the end

-- no count rose
abbrev pub NoneRoseSince : State → State → Type 0
NoneRoseSince outset below = (party : ℕ) → Rose (outset.faults party) (below.faults party) → ⊥

-- of a pair's acts an outside has these puts: the first of theirs, all of them where it wasn't out; and the lines are what the acts say. Where no count of the outside rose and the second copy isn't out, the
-- puts are all that come before the one of this number, and behind them late ones at most; or all, where there are no more
pub record HasFirstOf (fail_at : ℕ) (outset below : State) (in_use : InUse) (acts puts : List Act) (lines : List (List ℕ)) : Type 0 where
  pub left : List Act
  pub parts : puts_of acts ≡ puts ++ left
  pub all : (in_use ≡ SecondAlone → ⊥) → left ≡ []
  pub lines_are : lines ≡ texts_of acts
  pub up_to : NoneRoseSince outset below → (in_use ≡ FirstAlone → ⊥) → AreLateFrom fail_at puts × ((left ≡ []) ⊎ HasPutsBefore fail_at puts)

-- the same where the pair's record is told: then the outside's is, and has these puts
abbrev pub GivesPuts : ℕ → State → State → InUse → State → List (List ℕ) → Type 0
GivesPuts fail_at outset below in_use pair lines = (acts : List Act) → pair.acts ≡ Some acts → (puts : List Act) × (below.acts ≡ Some puts) × HasFirstOf fail_at outset below in_use acts puts lines

-- what is given back, by what the pair meant: the outside has the first of the pair's puts, no count of it fell, and its count of failed says and its mark are those that the pair's mark has
pub record GivesFirst (fail_at : ℕ) (outset below : State) (in_use : InUse) (pair : State) (lines : List (List ℕ)) : Type 0 where
  pub puts : GivesPuts fail_at outset below in_use pair lines
  pub follows : Follows outset below
  pub says : below.say_faults ≡ say_faults_below pair.mark
  pub mark : below.mark ≡ mark_below pair.mark
