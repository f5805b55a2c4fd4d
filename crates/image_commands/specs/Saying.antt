-- Which lines a record says.
use Rattle.std.specs.Prelude.{◌≡◌, ◌≤◌, ◌<◌, ℕ, Option, Some, Result, Ok, Err, List, map, take, length}
use Rattle.frang_base.specs.declared.said.Said.{Said}
use Rattle.frang_outside.specs.declared.act.Act.{Act}
use Rattle.frang_outside.specs.declared.act.Act.TheVariants as act
use Rattle.frang_outside.specs.declared.outside.SayFault.{SayFault}
use Rattle.frang_outside.specs.declared.outside.SayFault.TheVariants.{Failed, NoMemory as WantsMemory}
use Rattle.frang_outside.specs.Outside.{State, Rose, told_more}
use Rattle.tree_definitions.specs.SaidLines.{said_line}
use Rattle.image_commands.specs.declared.end.ImageEnd.{ImageEnd}
use Rattle.image_commands.specs.declared.end.ImageEnd.TheVariants as end

-- what is said as an act
abbrev pub said_act : Said → Act
said_act said = act.Said (said_line said)

-- the record, where it is told, is these lines and nothing else
abbrev pub Says : Option (List Act) → List Said → Type 0
Says told lines = (acts : List Act) → told ≡ Some acts → acts ≡ map said_act lines

-- the record, where it is told, is the first lines, and nothing else
pub record SaysSome (told : Option (List Act)) (lines : List Said) : Type 0 where
  pub count : ℕ
  pub few : count ≤ length lines
  pub says : Says told (take count lines)

-- one act more, or none
abbrev pub SaysOne : State → State → Act → Result (Unit {0}) SayFault → Type 0
SaysOne old new act (Ok done) = new.acts ≡ told_more old.acts act
SaysOne old new act (Err WantsMemory) = new.acts ≡ old.acts
SaysOne old new act (Err Failed) = (new.acts ≡ old.acts) × Rose old.say_faults new.say_faults

-- the lines are said, or the first of them until one wasn't, or until memory was short
abbrev pub SaysAll : State → State → List Said → ImageEnd → Type 0
SaysAll old new lines end.Done = Says new.acts lines
SaysAll old new lines end.NoMemory = SaysSome new.acts lines
SaysAll old new lines (end.Mute said) = (said < length lines) × Says new.acts (take said lines) × Rose old.say_faults new.say_faults
SaysAll old new lines _ = ⊥
