-- A party of a run, as the code has it, and what it means.
use Rattle.std.specs.Prelude.{Bool}
use Rattle.tree_definitions.specs.Transcript.{ServerState, Phase as ThePhase, Off as IsOff, Up as IsUp, Stalled as IsStalled, Dead as IsDead, Debt as TheDebt, Free as IsFree, Owes as DoesOwe, MayOwe as MightOwe}
use Rattle.transcript_rules.specs.declared.phases.Phase.{Phase}
use Rattle.transcript_rules.specs.declared.phases.Phase.TheVariants.{Off, Up, Stalled, Dead}
use Rattle.transcript_rules.specs.declared.phases.Debt.{Debt}
use Rattle.transcript_rules.specs.declared.phases.Debt.TheVariants.{Free, Owes, MayOwe}
use Rattle.transcript_rules.specs.declared.phases.Party.{Party}

abbrev pub phase_of : Phase → ThePhase
phase_of Off = IsOff
phase_of Up = IsUp
phase_of Stalled = IsStalled
phase_of Dead = IsDead

abbrev pub debt_of : Debt → TheDebt
debt_of Free = IsFree
debt_of Owes = DoesOwe
debt_of MayOwe = MightOwe

-- what the lines said tell of it
abbrev pub state_by : Party → ServerState
state_by p = record { phase = phase_of p.phase; debt = debt_of p.debt; may_die = p.may_die; just_died = p.just_died; under_recovery = p.under_recovery }
