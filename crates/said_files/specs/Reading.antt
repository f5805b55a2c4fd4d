-- The said lines that bytes are.
use Rattle.std.specs.Prelude.{◌≡◌, ℕ, ◌+◌, ◌==◌, if◌then◌else◌, Option, Some, None, Result, Ok, Err, List, [], ◌∷◌, ◌++◌}
use Rattle.std.specs.Global.{Vec}
use Rattle.frang_base.specs.declared.said.Said.{Said}
use Rattle.script_definitions.specs.SaidReading.{said_of}
use Rattle.said_files.specs.declared.reading.SaidFault.{SaidFault}
use Rattle.said_files.specs.declared.reading.SaidFault.TheVariants.{NoMemory, Bad}

-- one line more before others
abbrev pub with_said : ℕ → Option Said → Result (List Said) ℕ → Result (List Said) ℕ
with_said number None rest = Err number
with_said number (Some s) (Ok saids) = Ok (s ∷ saids)
with_said number (Some s) (Err bad) = Err bad

-- what is left behind the last line feed
abbrev pub at_end : ℕ → List ℕ → Result (List Said) ℕ
at_end number [] = Ok []
at_end number (b ∷ text) = Err number

-- the lines from one on, of which this text has been read; or the number of the first that is none
abbrev pub saids_from : ℕ → List ℕ → List ℕ → Result (List Said) ℕ
saids_from number text [] = at_end number text
saids_from number text (b ∷ bytes) =
    if b == 10 then with_said number (said_of (text ++ b ∷ [])) (saids_from (number + 1) [] bytes) else saids_from number (text ++ b ∷ []) bytes

-- lines behind those that have been read
abbrev pub behind : List Said → Result (List Said) ℕ → Result (List Said) ℕ
behind done (Ok more) = Ok (done ++ more)
behind done (Err bad) = Err bad

-- what a reader answers: the lines, or the number of the first bad one, unless memory is short
abbrev pub Fails : Result (List Said) ℕ → SaidFault → Type 0
Fails given NoMemory = Unit {0}
Fails given (Bad line) = given ≡ Err line

abbrev pub Answers : Result (List Said) ℕ → Result (Vec Said) SaidFault → Type 0
Answers given (Ok saids) = given ≡ Ok saids.items
Answers given (Err fault) = Fails given fault

-- a list with the line that a text is
abbrev pub Shows : Option Said → List Said → List Said → Type 0
Shows None old new = ⊥
Shows (Some s) old new = new ≡ old ++ s ∷ []

-- what pushing the line of a text answers: it is added, or none that can be said; want of memory may come instead
abbrev pub PushedLine : ℕ → List ℕ → List Said → List Said → Result (Unit {0}) SaidFault → Type 0
PushedLine number text old new (Ok done) = Shows (said_of text) old new
PushedLine number text old new (Err NoMemory) = Unit {0}
PushedLine number text old new (Err (Bad line)) = (said_of text ≡ None) × (line ≡ number)

-- what taking a byte answers, where these lines are to be given: the lines so far, the number and the text of the next give them with the bytes that are left
abbrev pub TakesByte : Result (List Said) ℕ → List Said → List ℕ → List ℕ → Result ℕ SaidFault → Type 0
TakesByte given saids text bytes (Ok next) = behind saids (saids_from next text bytes) ≡ given
TakesByte given saids text bytes (Err fault) = Fails given fault
