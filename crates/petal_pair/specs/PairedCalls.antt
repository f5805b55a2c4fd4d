-- What the calls of a pair ask of its copies, and what they leave.
use Rattle.std.specs.Prelude.{◌≡◌, ◌⊎◌, ℕ, List, [], ◌∷◌, ◌++◌, slice_index, Result, Ok, Err, is_err, true}
use Rattle.frang_base.specs.declared.sector.Sector.{Sector}
use Rattle.frang_outside.specs.declared.act.Act.{Act}
use Rattle.frang_outside.specs.declared.act.Act.TheVariants.{Put as Acted, Said}
use Rattle.frang_outside.specs.declared.act.Put.{Put}
use Rattle.frang_outside.specs.declared.act.Taken.{Taken}
use Rattle.frang_outside.specs.declared.act.Taken.TheVariants.{Written, Late}
use Rattle.frang_outside.specs.declared.outside.Failed.{Failed}
use Rattle.frang_outside.specs.declared.outside.PutFault.{PutFault}
use Rattle.frang_outside.specs.declared.outside.PutFault.TheVariants.{Failed as PutFailed, NoMemory as PutNoMemory}
use Rattle.frang_outside.specs.declared.outside.SayFault.{SayFault}
use Rattle.frang_outside.specs.declared.outside.SayFault.TheVariants.{Failed as SayFailed, NoMemory as SayNoMemory}
use Rattle.frang_outside.specs.FaultyOutside.{with_fault}
use Rattle.frang_outside.specs.Outside.{State, Follows, GetOutcome, OneRose, PutOutcome, SayOutcome, Rose, one_more}
use Rattle.petal_pair.specs.PairedCopies.{Paired}
use Rattle.petal_pair.specs.declared.in_use.InUse.{InUse}
use Rattle.petal_pair.specs.declared.in_use.InUse.TheVariants.{Both, FirstAlone, SecondAlone}
use Rattle.sector_bytes.specs.Sectors.{SameSectors}

-- what a copy was asked to get, and answered
pub record Gets (old new : State) (server sector : ℕ) (result : Result (List ℕ) Failed) : Type 0 where
  pub sectors : SameSectors new.sectors old.sectors
  pub acts : new.acts ≡ old.acts
  pub counts : Follows old new
  pub outcome : GetOutcome old new server sector result

-- a copy failed to get
pub record GetFails (old new : State) (server : ℕ) : Type 0 where
  pub sectors : SameSectors new.sectors old.sectors
  pub acts : new.acts ≡ old.acts
  pub counts : Follows old new
  pub rose : OneRose old new server

-- what a copy was asked to put, and answered
pub record Puts (old new : State) (put : Put) (result : Result Taken PutFault) : Type 0 where
  pub counts : Follows old new
  pub outcome : PutOutcome old new put result

-- what a copy was asked to say, and answered
pub record Says (old new : State) (line : List ℕ) (result : Result (Unit {0}) SayFault) : Type 0 where
  pub sectors : SameSectors new.sectors old.sectors
  pub counts : Follows old new
  pub outcome : SayOutcome old new line result

-- a get of two copies in use asks the first; where that fails it goes out, and the second is asked
abbrev pub BothGet : State → State → State → State → ℕ → ℕ → Result (List ℕ) Failed → InUse → Type 0
BothGet first first_after second second_after server sector (Ok block) Both = Gets first first_after server sector (Ok block) × (second_after ≡ second)
BothGet first first_after second second_after server sector (Err fault) Both = ⊥
BothGet first first_after second second_after server sector result FirstAlone = ⊥
BothGet first first_after second second_after server sector result SecondAlone = GetFails first first_after server × Gets second second_after server sector result

-- a get asks the copies in use
abbrev pub PairGets : InUse → InUse → State → State → State → State → ℕ → ℕ → Result (List ℕ) Failed → Type 0
PairGets Both in_use first first_after second second_after server sector result = BothGet first first_after second second_after server sector result in_use
PairGets FirstAlone in_use first first_after second second_after server sector result = (in_use ≡ FirstAlone) × Gets first first_after server sector result × (second_after ≡ second)
PairGets SecondAlone in_use first first_after second second_after server sector result = (in_use ≡ SecondAlone) × (first_after ≡ first) × Gets second second_after server sector result

-- a put to two copies in use that both stay goes to the first and then to the second: what the second may answer where the first answered so
abbrev pub SecondPuts : State → State → Put → Result Taken PutFault → Type 0
SecondPuts old new put (Ok Written) = Puts old new put (Ok Written)
SecondPuts old new put (Ok Late) = Puts old new put (Ok Late) ⊎ Puts old new put (Err PutNoMemory)
SecondPuts old new put (Err PutFailed) = ⊥
SecondPuts old new put (Err PutNoMemory) = new ≡ old

-- a put to two copies in use: where both stay, the first answers; where the first goes out, it has failed, and the second answers; where the second goes out, the
-- first wrote, and the second has failed or wanted memory
abbrev pub BothPut : State → State → State → State → Put → Result Taken PutFault → InUse → Type 0
BothPut first first_after second second_after put result Both = Puts first first_after put result × SecondPuts second second_after put result
BothPut first first_after second second_after put result FirstAlone =
    (result ≡ Ok Written) × Puts first first_after put (Ok Written) × (Puts second second_after put (Err PutFailed) ⊎ Puts second second_after put (Err PutNoMemory))
BothPut first first_after second second_after put result SecondAlone = Puts first first_after put (Err PutFailed) × Puts second second_after put result

-- a put goes to the copies in use
abbrev pub PairPuts : InUse → InUse → State → State → State → State → Put → Result Taken PutFault → Type 0
PairPuts Both in_use first first_after second second_after put result = BothPut first first_after second second_after put result in_use
PairPuts FirstAlone in_use first first_after second second_after put result = (in_use ≡ FirstAlone) × Puts first first_after put result × (second_after ≡ second)
PairPuts SecondAlone in_use first first_after second second_after put result = (in_use ≡ SecondAlone) × (first_after ≡ first) × Puts second second_after put result

-- the count of the copy that went out rose, or it is the second, and wanted memory where the first wrote
abbrev pub WentOut : InUse → InUse → State → State → State → State → ℕ → Type 0 → Type 0
WentOut Both Both first first_after second second_after server short = Unit {0}
WentOut Both FirstAlone first first_after second second_after server short = Rose (second.faults server) (second_after.faults server) ⊎ short
WentOut Both SecondAlone first first_after second second_after server short = Rose (first.faults server) (first_after.faults server)
WentOut FirstAlone in_use first first_after second second_after server short = in_use ≡ FirstAlone
WentOut SecondAlone in_use first first_after second second_after server short = in_use ≡ SecondAlone

-- each copy in use raised its count of this server
abbrev pub EachRose : InUse → State → State → State → State → ℕ → Type 0
EachRose Both first first_after second second_after server = Rose (first.faults server) (first_after.faults server) × Rose (second.faults server) (second_after.faults server)
EachRose FirstAlone first first_after second second_after server = Rose (first.faults server) (first_after.faults server)
EachRose SecondAlone first first_after second second_after server = Rose (second.faults server) (second_after.faults server)

-- whether a put that was so answered may have changed its sector: then a copy that is out missed it
abbrev pub missed_with : List Sector → Sector → Result Taken PutFault → List Sector
missed_with missed sector (Ok Written) = missed ++ sector ∷ []
missed_with missed sector (Ok Late) = missed
missed_with missed sector (Err PutFailed) = missed ++ sector ∷ []
missed_with missed sector (Err PutNoMemory) = missed

-- the missed sectors after a put: with its sector where a copy goes out in it, whatever is answered, and where one was out and the sector may have changed
abbrev pub missed_after : InUse → InUse → List Sector → Sector → Result Taken PutFault → List Sector
missed_after Both Both missed sector result = missed
missed_after Both FirstAlone missed sector result = missed ++ sector ∷ []
missed_after Both SecondAlone missed sector result = missed ++ sector ∷ []
missed_after FirstAlone in_use missed sector result = missed_with missed sector result
missed_after SecondAlone in_use missed sector result = missed_with missed sector result

-- the pair's own record and counts after an answered call
abbrev pub acts_put : List Act → Put → Result Taken PutFault → List Act
acts_put acts put (Ok taken) = acts ++ Acted put taken ∷ []
acts_put acts put (Err fault) = acts

abbrev pub faults_put : List ℕ → ℕ → Result Taken PutFault → List ℕ
faults_put faults server (Ok taken) = faults
faults_put faults server (Err PutFailed) = with_fault faults server
faults_put faults server (Err PutNoMemory) = faults

abbrev pub faults_get : List ℕ → ℕ → Result (List ℕ) Failed → List ℕ
faults_get faults server (Ok block) = faults
faults_get faults server (Err fault) = with_fault faults server

-- only the count of the server of a failed put rises
abbrev pub CountsPut : List ℕ → List ℕ → ℕ → Result Taken PutFault → Type 0
CountsPut old new server (Ok taken) = new ≡ old
CountsPut old new server (Err PutFailed) = Rose (slice_index old server) (slice_index new server) × ((other : ℕ) → (other ≡ server → ⊥) → slice_index new other ≡ slice_index old other)
CountsPut old new server (Err PutNoMemory) = new ≡ old

-- only the count of the server of a failed get rises
abbrev pub CountsGet : List ℕ → List ℕ → ℕ → Result (List ℕ) Failed → Type 0
CountsGet old new server (Ok block) = new ≡ old
CountsGet old new server (Err fault) = Rose (slice_index old server) (slice_index new server) × ((other : ℕ) → (other ≡ server → ⊥) → slice_index new other ≡ slice_index old other)

-- a put: what it put to the copies in use; only the other's missed sectors, the record and the count of its server change besides; a copy went out by one of its
-- two causes, and the pair failed only where each copy in use has
pub record PairPut {A B : Type 0} (first : A → State) (second : B → State) (old new : Paired A B) (put : Put) (result : Result Taken PutFault) : Type 0 where
  pub puts : PairPuts old.in_use new.in_use (first old.first) (first new.first) (second old.second) (second new.second) put result
  pub went_out : WentOut old.in_use new.in_use (first old.first) (first new.first) (second old.second) (second new.second) put.server.0
      (PutOutcome (first old.first) (first new.first) put (Ok Written) × PutOutcome (second old.second) (second new.second) put (Err PutNoMemory))
  pub failed : result ≡ Err PutFailed → EachRose old.in_use (first old.first) (first new.first) (second old.second) (second new.second) put.server.0
  pub missed : new.missed ≡ missed_after old.in_use new.in_use old.missed put.sector result
  pub acts : new.acts ≡ acts_put old.acts put result
  pub faults : new.faults ≡ faults_put old.faults put.server.0 result
  pub say_faults : new.say_faults ≡ old.say_faults

-- a get: what it asked of the copies in use; only the count of its server changes besides; a copy went out because it failed, and the pair failed only where each copy
-- in use has
pub record PairGot {A B : Type 0} (first : A → State) (second : B → State) (old new : Paired A B) (server sector : ℕ) (result : Result (List ℕ) Failed) : Type 0 where
  pub gets : PairGets old.in_use new.in_use (first old.first) (first new.first) (second old.second) (second new.second) server sector result
  pub went_out : WentOut old.in_use new.in_use (first old.first) (first new.first) (second old.second) (second new.second) server ⊥
  pub failed : is_err result ≡ true → EachRose old.in_use (first old.first) (first new.first) (second old.second) (second new.second) server
  pub same : new ≡ record old { first = new.first; second = new.second; in_use = new.in_use; faults = faults_get old.faults server result }

-- the pair's own record and its count of says after a say
abbrev pub acts_said : List Act → List ℕ → Result (Unit {0}) SayFault → List Act
acts_said acts line (Ok done) = acts ++ Said line ∷ []
acts_said acts line (Err fault) = acts

abbrev pub say_faults_said : ℕ → Result (Unit {0}) SayFault → ℕ
say_faults_said faults (Ok done) = faults
say_faults_said faults (Err SayFailed) = one_more faults
say_faults_said faults (Err SayNoMemory) = faults

-- a say: it goes to the first copy, in use or not, or wants memory before; only the record or the count of says changes besides; and it failed only where that copy's count of says rose
pub record PairSaid {A B : Type 0} (first : A → State) (second : B → State) (old new : Paired A B) (line : List ℕ) (result : Result (Unit {0}) SayFault) : Type 0 where
  pub says : Says (first old.first) (first new.first) line result ⊎ ((result ≡ Err SayNoMemory) × (new.first ≡ old.first))
  pub failed : result ≡ Err SayFailed → Rose (first old.first).say_faults (first new.first).say_faults
  pub same : new ≡ record old { first = new.first; acts = acts_said old.acts line result; say_faults = say_faults_said old.say_faults result }
