-- What readers answer: what their definitions give, unless memory is short.
use Rattle.std.specs.Prelude.{◌≡◌, Result, Ok, Err}
use Rattle.script_definitions.specs.declared.fault.LineFault.{LineFault}
use Rattle.script_definitions.specs.declared.fault.ScriptFault.{ScriptFault}
use Rattle.script_lang.specs.declared.refusal.Refusal.{Refusal}
use Rattle.script_lang.specs.declared.refusal.Refusal.TheVariants as refusal
use Rattle.script_lang.specs.declared.refusal.ReadFault.{ReadFault}
use Rattle.script_lang.specs.declared.refusal.ReadFault.TheVariants as read

-- words of a line, seen so, as their definition gives them; it takes no memory
abbrev pub AreWords : {X A : Type 0} → (X → A) → Result A LineFault → Result X LineFault → Type 0
AreWords view given (Ok x) = given ≡ Ok (view x)
AreWords view given (Err f) = given ≡ Err f

-- a part of a line as its definition gives it
abbrev pub Gives : {A : Type 0} → Result A LineFault → Result A Refusal → Type 0
Gives given (Ok x) = given ≡ Ok x
Gives given (Err refusal.NoMemory) = Unit {0}
Gives given (Err (refusal.Bad f)) = given ≡ Err f

-- what a definition with the numbers of lines gives
abbrev pub GivesNumbered : {A : Type 0} → Result A ScriptFault → Result A ReadFault → Type 0
GivesNumbered given (Ok x) = given ≡ Ok x
GivesNumbered given (Err read.NoMemory) = Unit {0}
GivesNumbered given (Err (read.Bad f)) = given ≡ Err f

-- what holds where the bytes are bad
abbrev pub IfBad : {X : Type 0} → Result X ReadFault → Type 0 → Type 0
IfBad (Ok x) P = Unit {0}
IfBad (Err read.NoMemory) P = Unit {0}
IfBad (Err (read.Bad f)) P = P
