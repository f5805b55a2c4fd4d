-- The outside of the program: the sectors that it has in memory, and the says that failed. It tells no record.
use Rattle.std.specs.Prelude.{◌≡◌, ℕ, List, [], None, Result, Ok, Err}
use Rattle.std.specs.declared.io.Error.{Error}
use Rattle.frang_outside.specs.declared.outside.SayFault.{SayFault}
use Rattle.frang_outside.specs.declared.outside.SayFault.TheVariants.{Failed}
use Rattle.sector_bytes.specs.Sectors.{sectors_of}
use Rattle.frang_outside.specs.Outside.{State, Accounts, one_more}

-- the sectors that were written, and how many says have failed
pub record Standard : Type 0 where
  pub blocks : List (ℕ × List ℕ)
  pub say_faults : ℕ

-- what the outside of the program means
abbrev pub standard_state : Standard → State
standard_state o = record { sectors = sectors_of o.blocks; acts = None; faults = λ party. 0; say_faults = o.say_faults; mark = [] }

-- it tells no record that could fail to account for the sectors
pub standard_accounts : (o : Standard) → Accounts (standard_state o)
standard_accounts o acts told = cc

-- a say is answered as the printer answered; it fails exactly where that failed, and then it is counted
abbrev pub AnswersPrinted : Result (Unit {0}) Error → ℕ → ℕ → Result (Unit {0}) SayFault → Type 0
AnswersPrinted (Ok done) faults faults_after answer = (answer ≡ Ok done) × (faults_after ≡ faults)
AnswersPrinted (Err error) faults faults_after answer = (answer ≡ Err Failed) × (faults_after ≡ one_more faults)
