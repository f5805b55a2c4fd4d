-- The files of the system, which tell no contents, and what reading a file to its end gives.
use Rattle.std.specs.Prelude.{◌≡◌, ℕ, ◌<◌, ◌≤◌, List, length, Option, None, IfSome, Result, Ok, Err, Vec}
use Rattle.std.specs.declared.alloc.Global.{Global}
use Rattle.std.specs.IoError.{error_kind}
use Rattle.std.specs.declared.io.Error.{Error}
use Rattle.std.specs.declared.io.ErrorKind.TheVariants.{OutOfMemory}
use Rattle.frang_outside.specs.declared.files.FileFault.{FileFault}
use Rattle.frang_outside.specs.declared.files.FileFault.TheVariants.{Failed, TooLong, NoMemory}
use Rattle.frang_outside.specs.Files.{State}
use Rattle.frang_outside.specs.Outside.{one_more}

-- how many reads and writes have failed
pub record FileFaults : Type 0 where
  pub reads : ℕ
  pub writes : ℕ

-- what the files of the system mean
abbrev pub real_files_state : FileFaults → State
real_files_state faults = record { holds = None; read_faults = faults.reads; write_faults = faults.writes }

-- a failed call is counted, and want of memory isn't
abbrev pub CountsFault : ℕ → ℕ → FileFault → Type 0
CountsFault old new Failed = new ≡ one_more old
CountsFault old new TooLong = ⊥
CountsFault old new NoMemory = new ≡ old

-- the fault of a failed call is want of memory exactly where its error is
abbrev pub IsFaultOf : Error → FileFault → Type 0
IsFaultOf error Failed = error_kind error ≡ OutOfMemory → ⊥
IsFaultOf error TooLong = ⊥
IsFaultOf error NoMemory = error_kind error ≡ OutOfMemory

-- a call whose step ended with this error is refused
abbrev pub RefusedBy : {A : Type 0} → Error → ℕ → ℕ → Result A FileFault → Type 0
RefusedBy error faults faults_after (Ok done) = ⊥
RefusedBy error faults faults_after (Err fault) = IsFaultOf error fault × CountsFault faults faults_after fault

-- a write is answered as the system answered
abbrev pub AnswersWritten : Result (Unit {0}) Error → ℕ → ℕ → Result (Unit {0}) FileFault → Type 0
AnswersWritten (Ok done) faults faults_after answer = (answer ≡ Ok done) × (faults_after ≡ faults)
AnswersWritten (Err error) faults faults_after answer = RefusedBy error faults faults_after answer

-- bytes that were read to the end are within the limit, or they are too long
abbrev pub WithinLimit : List ℕ → ℕ → Result (Vec ℕ Global) FileFault → Type 0
WithinLimit bytes limit (Ok read) = (read.items ≡ bytes) × (length bytes ≤ limit)
WithinLimit bytes limit (Err TooLong) = limit < length bytes
WithinLimit bytes limit (Err fault) = ⊥

-- a reading to the end is answered as the system answered, with the bytes that came
abbrev pub AnswersRead : Result ℕ Error → List ℕ → ℕ → ℕ → ℕ → Result (Vec ℕ Global) FileFault → Type 0
AnswersRead (Ok count) bytes limit faults faults_after answer = WithinLimit bytes limit answer × (faults_after ≡ faults)
AnswersRead (Err error) bytes limit faults faults_after answer = RefusedBy error faults faults_after answer

-- reading to the end gives all bytes that were left, or finds more than the limit, where these bytes are known
abbrev pub ReadsWhole : Option (List ℕ) → ℕ → ℕ → ℕ → Result (Vec ℕ Global) FileFault → Type 0
ReadsWhole left limit faults faults_after (Ok read) = (length read.items ≤ limit) × IfSome left (λ bytes. bytes ≡ read.items) × (faults_after ≡ faults)
ReadsWhole left limit faults faults_after (Err TooLong) = IfSome left (λ bytes. limit < length bytes) × (faults_after ≡ faults)
ReadsWhole left limit faults faults_after (Err fault) = CountsFault faults faults_after fault

-- a read of a file goes as its opening went
abbrev pub ReadsOpened : {I : Type 0} → (I → Option (List ℕ)) → Result I Error → ℕ → ℕ → ℕ → Result (Vec ℕ Global) FileFault → Type 0
ReadsOpened left (Ok input) limit faults faults_after answer = ReadsWhole (left input) limit faults faults_after answer
ReadsOpened left (Err error) limit faults faults_after answer = RefusedBy error faults faults_after answer
