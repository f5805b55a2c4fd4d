-- An outside that keeps the lines said: what it means by the outside on which it stands, what its calls leave, and what is given back.
use Rattle.std.specs.Prelude.{◌≡◌, ◌⊎◌, ◌≤◌, ℕ, ◌+◌, ◌-◌, Bool, true, false, ◌&&◌, ◌==◌, nat_lt, nat_le, if◌then◌else◌, List, [], ◌∷◌, ◌++◌, length, take, drop, filter, filter_map, Option, Some, None, is_none, option_map, Result, Ok, Err}
use Rattle.frang_base.specs.declared.sector.ServerId.{ServerId}
use Rattle.frang_outside.specs.declared.act.Act.{Act}
use Rattle.frang_outside.specs.declared.act.Act.TheVariants.{Put as Acted, Said}
use Rattle.frang_outside.specs.declared.act.Put.{Put}
use Rattle.frang_outside.specs.declared.act.Taken.{Taken}
use Rattle.frang_outside.specs.declared.outside.PutFault.{PutFault}
use Rattle.frang_outside.specs.declared.outside.PutFault.TheVariants.{Failed as PutFailed}
use Rattle.frang_outside.specs.declared.outside.SayFault.{SayFault}
use Rattle.frang_outside.specs.declared.outside.SayFault.TheVariants.{Failed as SayFailed, NoMemory as SayNoMemory}
use Rattle.frang_outside.specs.Outside.{State, one_more}
use Rattle.sector_bytes.specs.Sectors.{SameSectors}

-- the outside on which it stands; the lines kept, in their order, and for each how many puts were answered before it; how many puts were answered; the number of
-- the put that is to fail, or 0; and the server of the put that has failed
pub record Quieted (O : Type 0) : Type 0 where
  pub out : O
  pub lines : List (List ℕ)
  pub befores : List ℕ
  pub puts : ℕ
  pub fail_at : ℕ
  pub failed : Option ServerId

-- acts, so many of which are behind, with each line at its place: behind so many of all of them
abbrev pub woven : ℕ → List ℕ → List (List ℕ) → List Act → List Act
woven behind [] lines acts = acts
woven behind (before ∷ befores) [] acts = acts
woven behind (before ∷ befores) (line ∷ lines) acts = take (before - behind) acts ++ Said line ∷ woven before befores lines (drop (before - behind) acts)

-- a party's count, with the put that has failed
abbrev pub with_failed : Option ServerId → ℕ → ℕ → ℕ
with_failed None party count = count
with_failed (Some server) party count = if server.0 == party then one_more count else count

-- what it means, by what the outside means on which it stands. Its mark is the number of the put that is to fail, the count of failed says below, and the mark below
abbrev pub state_over : State → List ℕ → List (List ℕ) → ℕ → Option ServerId → State
state_over below befores lines fail_at failed = record {
  sectors = below.sectors;
  acts = option_map (woven 0 befores lines) below.acts;
  faults = λ party. with_failed failed party (below.faults party);
  say_faults = 0;
  mark = fail_at ∷ below.say_faults ∷ below.mark;
}

abbrev pub quiet_state : {O : Type 0} → (O → State) → Quieted O → State
quiet_state state q = state_over (state q.out) q.befores q.lines q.fail_at q.failed

-- no act, where acts are told
abbrev pub NoneTold : Option (List Act) → Type 0
NoneTold told = (acts : List Act) → told ≡ Some acts → acts ≡ []

-- it at first
abbrev pub first_quiet : {O : Type 0} → O → ℕ → Quieted O
first_quiet out fail_at = record { out = out; lines = []; befores = []; puts = 0; fail_at = fail_at; failed = None }

-- what it means at first, by what the outside means on which it stands
abbrev pub first_over : State → ℕ → State
first_over below fail_at = record below { say_faults = 0; mark = fail_at ∷ below.say_faults ∷ below.mark }

abbrev pub is_put : Act → Bool
is_put (Acted put taken) = true
is_put (Said line) = false

-- the line that an act says
abbrev pub text_of : Act → Option (List ℕ)
text_of (Acted put taken) = None
text_of (Said line) = Some line

-- acts without what they say
abbrev pub puts_of : List Act → List Act
puts_of acts = filter is_put acts

-- the lines that acts say, in their order
abbrev pub texts_of : List Act → List (List ℕ)
texts_of acts = filter_map text_of acts

-- acts that are told are so many, and all of them puts
abbrev pub ArePuts : Option (List Act) → ℕ → Type 0
ArePuts None puts = Unit {0}
ArePuts (Some acts) puts = (length acts ≡ puts) × (puts_of acts ≡ acts) × (texts_of acts ≡ [])

-- numbers, one for each line, that rise from one number to another
abbrev pub Rises : ℕ → List ℕ → List (List ℕ) → ℕ → Type 0
Rises from [] [] to = from ≤ to
Rises from [] (line ∷ lines) to = ⊥
Rises from (before ∷ befores) [] to = ⊥
Rises from (before ∷ befores) (line ∷ lines) to = (from ≤ before) × Rises before befores lines to

-- what its type keeps
pub record IsQuieted (below : State) (befores : List ℕ) (lines : List (List ℕ)) (puts fail_at : ℕ) (failed : Option ServerId) : Type 0 where
  pub told : ArePuts below.acts puts
  pub places : Rises 0 befores lines puts
  pub sound : fail_at ≡ 0 → failed ≡ None

-- whether a put is the one that is to fail
abbrev pub is_due : {O : Type 0} → Quieted O → Put → Bool
is_due q put = is_none q.failed && (nat_lt 0 q.fail_at && (nat_le (q.fail_at - 1) q.puts && nat_le put.now put.stamp))

-- only the outside changes on which it stands
abbrev pub Passes : {O : Type 0} → Quieted O → Quieted O → Type 0
Passes old new = new ≡ record old { out = new.out }

-- a put that isn't the one that is to fail is answered by the outside on which it stands, and counted where it's answered
abbrev pub PassedPut : {O : Type 0} → Quieted O → Quieted O → Result Taken PutFault → Type 0
PassedPut old new (Ok taken) = new ≡ record old { out = new.out; puts = old.puts + 1 }
PassedPut old new (Err fault) = Passes old new

-- a put that is to fail does so, and changes nothing else; every other is passed on
abbrev pub QuietPut : {O : Type 0} → Quieted O → Quieted O → Put → Result Taken PutFault → Type 0
QuietPut old new put result = ((is_due old put ≡ true) × (result ≡ Err PutFailed) × (new ≡ record old { failed = Some put.server })) ⊎ ((is_due old put ≡ false) × PassedPut old new result)

-- a line said is kept behind the puts that are answered, and a say never fails
abbrev pub QuietSay : {O : Type 0} → Quieted O → Quieted O → List ℕ → Result (Unit {0}) SayFault → Type 0
QuietSay old new line (Ok done) = new ≡ record old { lines = old.lines ++ line ∷ []; befores = old.befores ++ old.puts ∷ [] }
QuietSay old new line (Err SayFailed) = ⊥
QuietSay old new line (Err SayNoMemory) = new ≡ old

-- a mark's number of the put that was to fail, its count of failed says below, and the mark below
abbrev pub fail_at_of : List ℕ → ℕ
fail_at_of [] = 0
fail_at_of (fail_at ∷ below) = fail_at

abbrev pub say_faults_below : List ℕ → ℕ
say_faults_below [] = 0
say_faults_below (fail_at ∷ []) = 0
say_faults_below (fail_at ∷ say_faults ∷ mark) = say_faults

abbrev pub mark_below : List ℕ → List ℕ
mark_below [] = []
mark_below (fail_at ∷ []) = []
mark_below (fail_at ∷ say_faults ∷ mark) = mark

-- what is given back, by what it meant that kept the lines: the outside on which it stood has its sectors; where acts were told, those acts without what they said,
-- and the lines are what they said; no count above its own, and the same counts where no put was to fail; and the count of says and the mark that its mark has
pub record GivesBack (quiet below : State) (kept : List (List ℕ)) : Type 0 where
  pub sectors : SameSectors below.sectors quiet.sectors
  pub acts : below.acts ≡ option_map puts_of quiet.acts
  pub lines : (acts : List Act) → quiet.acts ≡ Some acts → kept ≡ texts_of acts
  pub counts : (party : ℕ) → below.faults party ≤ quiet.faults party
  pub faults : fail_at_of quiet.mark ≡ 0 → (party : ℕ) → below.faults party ≡ quiet.faults party
  pub say_faults : below.say_faults ≡ say_faults_below quiet.mark
  pub mark : below.mark ≡ mark_below quiet.mark
