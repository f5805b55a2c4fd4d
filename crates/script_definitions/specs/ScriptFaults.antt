-- Faults of scripts, and what is read in spite of them.
use Rattle.std.specs.Prelude.{ℕ, Result, Ok, Err}
use Rattle.script_definitions.specs.declared.fault.LineFault.{LineFault}
use Rattle.script_definitions.specs.declared.fault.LineFault.TheVariants as fault

-- the number of a kind of fault
abbrev pub kind_of : LineFault → ℕ
kind_of fault.NotText = 1
kind_of fault.UnknownWord = 2
kind_of fault.MissingWord = 3
kind_of fault.ExtraWord = 4
kind_of fault.BadNumber = 5
kind_of fault.BadPath = 6
kind_of fault.BadServer = 7
kind_of fault.TooManyLines = 8
kind_of fault.ScriptTooLong = 9
kind_of fault.TextTooLong = 10
kind_of fault.AfterHalt = 11

-- what is read by the way, or its fault
infixl 10 ◌>>=◌
abbrev pub ◌>>=◌ : {F A B : Type 0} → Result A F → (A → Result B F) → Result B F
(Ok x) >>= f = f x
(Err e) >>= f = Err e
