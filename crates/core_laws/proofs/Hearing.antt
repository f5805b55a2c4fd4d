-- What is heard of an event answers what it asks, and the record has what was asked and answered.
use Rattle.std.proofs.Common.{◌≡◌, ℕ, inl, inr, ◌∙◌, List, [], ◌∷◌, Option, Some, None, refl}
use Rattle.std.specs.List.{slice_get}
use Rattle.std.specs.Option.{option_map}
use Rattle.frang_base.specs.declared.reply.Reply.{Reply}
use Rattle.frang_base.specs.declared.said.Said.{Said}
use Rattle.sector_bytes.specs.SectorMaps.{value_at}
use Rattle.sector_bytes.specs.Sectors.{Sectors}
use Rattle.core_definitions.specs.Calls.{Answers, Get, acts_by, arrival_call, fails_by, load_call, say_call}
use Rattle.core_definitions.specs.Cores.{Core, due_at, stage, tree_lines}
use Rattle.core_definitions.specs.Effects.{Deed, Made, MayArrive, MayGet, MayLoad, Says, deeds_of, deeds_of_arrival, reply_by, says_answer, says_node, says_recovered}
use Rattle.core_definitions.specs.Events.{Begin, Ask, Fetch, Again, Clear, Commit, Answer, Give, Issue, Doom, Resume, Arrive, Lose, Die, Renew, Tick, Recover, Load, Look, Finish, HostLine, Close, Read, Show, End, Heard, Nothing, Got, GetFailed, Written, Late, PutFailed}
use Rattle.core_definitions.specs.Faults.{failing}
use Rattle.core_definitions.specs.Flights.{Flight}
use Rattle.core_definitions.specs.Lines.{Under}
use Rattle.core_definitions.specs.Recoveries.{Recovery}
use Rattle.core_definitions.specs.Runs.{acts_of}
use Rattle.core_definitions.specs.Scripts.{host_party}
use Rattle.core_laws.specs.Calls.{CallsAreAnswered, FailuresAreOfTheirCalls, RecordsHaveTheCalls}

-- ---- what is heard

said_answered : (deeds : List Deed) (heard : Heard) → heard ≡ Nothing → Answers (say_call deeds) heard
said_answered [] heard h = h
said_answered (Made put taken ∷ deeds) heard h = said_answered deeds heard h
said_answered (Says line ∷ deeds) heard h = h

get_answered : (disk : Sectors) (party sector : ℕ) (heard : Heard) → MayGet disk sector heard → Answers (Get party sector) heard
get_answered disk party sector (Got block) h = inl (block, refl)
get_answered disk party sector GetFailed h = inr refl
get_answered disk party sector Nothing h = absurd h
get_answered disk party sector Written h = absurd h
get_answered disk party sector Late h = absurd h
get_answered disk party sector (PutFailed new) h = absurd h

load_answered : (disk : Sectors) (by slot : ℕ) (recovery : Option Recovery) (heard : Heard) → MayLoad disk slot recovery heard → Answers (load_call by slot recovery) heard
load_answered disk by slot (Some recovery) (Got block) h = inl (block, refl)
load_answered disk by slot (Some recovery) GetFailed h = inr refl
load_answered disk by slot None heard h = absurd h
load_answered disk by slot (Some recovery) Nothing h = absurd h
load_answered disk by slot (Some recovery) Written h = absurd h
load_answered disk by slot (Some recovery) Late h = absurd h
load_answered disk by slot (Some recovery) (PutFailed new) h = absurd h

arrival_answered : (now ticket : ℕ) (flight : Option Flight) (heard : Heard) → MayArrive now flight heard → Answers (arrival_call now ticket flight) heard
arrival_answered now ticket (Some flight) Written h = inl refl
arrival_answered now ticket (Some flight) Late h = inr (inl refl)
arrival_answered now ticket (Some flight) (PutFailed new) h = inr (inr (new, refl))
arrival_answered now ticket None heard h = absurd h
arrival_answered now ticket (Some flight) Nothing h = absurd h
arrival_answered now ticket (Some flight) (Got block) h = absurd h
arrival_answered now ticket (Some flight) GetFailed h = absurd h

pub calls_are_answered : CallsAreAnswered
calls_are_answered c disk (Begin a) heard h = said_answered (deeds_of c (Begin a) Nothing) heard h
calls_are_answered c disk (Ask a lock mode) heard h = said_answered (deeds_of c (Ask a lock mode) Nothing) heard h
calls_are_answered c disk (Fetch a sector) heard h = get_answered disk a sector heard h
calls_are_answered c disk (Again a) heard h = said_answered (deeds_of c (Again a) Nothing) heard h
calls_are_answered c disk (Clear a block) heard h = said_answered (deeds_of c (Clear a block) Nothing) heard h
calls_are_answered c disk (Commit a) heard h = said_answered (deeds_of c (Commit a) Nothing) heard h
calls_are_answered c disk (Answer a) heard h = said_answered (deeds_of c (Answer a) Nothing) heard h
calls_are_answered c disk (Give a lock) heard h = said_answered (deeds_of c (Give a lock) Nothing) heard h
calls_are_answered c disk (Issue a sector) heard h = said_answered (deeds_of c (Issue a sector) Nothing) heard h
calls_are_answered c disk (Doom a) heard h = said_answered (deeds_of c (Doom a) Nothing) heard h
calls_are_answered c disk (Resume a) heard h = said_answered (deeds_of c (Resume a) Nothing) heard h
calls_are_answered c disk (Arrive ticket) heard h = arrival_answered c.now ticket (value_at c.flights ticket) heard h
calls_are_answered c disk (Lose ticket) heard h = said_answered (deeds_of c (Lose ticket) Nothing) heard h
calls_are_answered c disk (Die a) heard h = said_answered (deeds_of c (Die a) Nothing) heard h
calls_are_answered c disk (Renew a) heard h = said_answered (deeds_of c (Renew a) Nothing) heard h
calls_are_answered c disk Tick heard h = said_answered (deeds_of c Tick Nothing) heard h
calls_are_answered c disk (Recover dead by) heard h = said_answered (deeds_of c (Recover dead by) Nothing) heard h
calls_are_answered c disk (Load by slot) heard h = load_answered disk by slot (c.servers by).recovery heard h
calls_are_answered c disk (Look by sector) heard h = get_answered disk by sector heard h
calls_are_answered c disk (Finish by) heard h = said_answered (deeds_of c (Finish by) Nothing) heard h
calls_are_answered c disk (HostLine number) heard h = said_answered (deeds_of c (HostLine number) Nothing) heard h
calls_are_answered c disk (Close a) heard h = said_answered (deeds_of c (Close a) Nothing) heard h
calls_are_answered c disk (Read sector) heard h = get_answered disk host_party sector heard h
calls_are_answered c disk (Show place) heard h = said_answered (deeds_of c (Show place) Nothing) heard h
calls_are_answered c disk End heard h = said_answered (deeds_of c End Nothing) heard h

-- ---- what is recorded

-- one line, or nothing
abbrev IsOneLine : List Deed → Type 0
IsOneLine [] = Unit {0}
IsOneLine (Says line ∷ []) = Unit {0}
IsOneLine deeds = ⊥

line_recorded : (deeds : List Deed) (heard : Heard) → IsOneLine deeds → acts_of deeds ≡ acts_by (say_call deeds) heard
line_recorded [] heard one = refl
line_recorded (Says line ∷ []) heard one = refl
line_recorded (Says line ∷ deed ∷ deeds) heard one = absurd one
line_recorded (Made put taken ∷ deeds) heard one = absurd one

said_once : (a : ℕ) (under : Option Under) (answer : Option Reply) → IsOneLine (says_answer a under answer)
said_once a None None = tt
said_once a None (Some answer) = tt
said_once a (Some under) None = tt
said_once a (Some under) (Some answer) = tt

recovered_once : (c : Core) (recovery : Option Recovery) → IsOneLine (says_recovered c recovery)
recovered_once c None = tt
recovered_once c (Some recovery) = tt

node_once : (line : Option Said) → IsOneLine (says_node line)
node_once None = tt
node_once (Some line) = tt

load_recorded : (by slot : ℕ) (recovery : Option Recovery) (heard : Heard) → [] ≡ acts_by (load_call by slot recovery) heard
load_recorded by slot None heard = refl
load_recorded by slot (Some recovery) heard = refl

arrival_recorded : (now ticket : ℕ) (flight : Option Flight) (heard : Heard) → acts_of (deeds_of_arrival now heard flight) ≡ acts_by (arrival_call now ticket flight) heard
arrival_recorded now ticket None heard = refl
arrival_recorded now ticket (Some flight) Nothing = refl
arrival_recorded now ticket (Some flight) (Got block) = refl
arrival_recorded now ticket (Some flight) GetFailed = refl
arrival_recorded now ticket (Some flight) Written = refl
arrival_recorded now ticket (Some flight) Late = refl
arrival_recorded now ticket (Some flight) (PutFailed new) = refl

pub records_have_the_calls : RecordsHaveTheCalls
records_have_the_calls c (Begin a) heard = refl
records_have_the_calls c (Ask a lock mode) heard = refl
records_have_the_calls c (Fetch a sector) heard = refl
records_have_the_calls c (Again a) heard = refl
records_have_the_calls c (Clear a block) heard = refl
records_have_the_calls c (Commit a) heard = line_recorded (deeds_of c (Commit a) Nothing) heard (said_once a (c.servers a).under (reply_by (stage c a)))
records_have_the_calls c (Answer a) heard = line_recorded (deeds_of c (Answer a) Nothing) heard (said_once a (c.servers a).under (due_at c a))
records_have_the_calls c (Give a lock) heard = refl
records_have_the_calls c (Issue a sector) heard = refl
records_have_the_calls c (Doom a) heard = refl
records_have_the_calls c (Resume a) heard = refl
records_have_the_calls c (Arrive ticket) heard = arrival_recorded c.now ticket (value_at c.flights ticket) heard
records_have_the_calls c (Lose ticket) heard = refl
records_have_the_calls c (Die a) heard = refl
records_have_the_calls c (Renew a) heard = refl
records_have_the_calls c Tick heard = refl
records_have_the_calls c (Recover dead by) heard = refl
records_have_the_calls c (Load by slot) heard = load_recorded by slot (c.servers by).recovery heard
records_have_the_calls c (Look by sector) heard = refl
records_have_the_calls c (Finish by) heard = line_recorded (deeds_of c (Finish by) Nothing) heard (recovered_once c (c.servers by).recovery)
records_have_the_calls c (HostLine number) heard = refl
records_have_the_calls c (Close a) heard = refl
records_have_the_calls c (Read sector) heard = refl
records_have_the_calls c (Show place) heard = line_recorded (deeds_of c (Show place) Nothing) heard (node_once (slice_get (tree_lines c) place))
records_have_the_calls c End heard = refl

-- ---- what fails

none_fails : (deeds : List Deed) (heard : Heard) → None ≡ fails_by (say_call deeds) heard
none_fails [] heard = refl
none_fails (Made put taken ∷ deeds) heard = none_fails deeds heard
none_fails (Says line ∷ deeds) heard = refl

load_fails : (c : Core) (disk : Sectors) (by slot : ℕ) (recovery : Option Recovery) (heard : Heard) → MayLoad disk slot recovery heard →
    failing c (Load by slot) heard ≡ fails_by (load_call by slot recovery) heard
load_fails c disk by slot None heard h = absurd h
load_fails c disk by slot (Some recovery) Nothing h = refl
load_fails c disk by slot (Some recovery) (Got block) h = refl
load_fails c disk by slot (Some recovery) GetFailed h = refl
load_fails c disk by slot (Some recovery) Written h = refl
load_fails c disk by slot (Some recovery) Late h = refl
load_fails c disk by slot (Some recovery) (PutFailed new) h = refl

-- who writes, where its put fails
abbrev arrival_failing : Option Flight → Heard → Option ℕ
arrival_failing flight (PutFailed new) = option_map (λ one. one.server) flight
arrival_failing flight heard = None

arrival_fails : (now ticket : ℕ) (flight : Option Flight) (heard : Heard) → MayArrive now flight heard → arrival_failing flight heard ≡ fails_by (arrival_call now ticket flight) heard
arrival_fails now ticket None heard h = absurd h
arrival_fails now ticket (Some flight) Nothing h = refl
arrival_fails now ticket (Some flight) (Got block) h = refl
arrival_fails now ticket (Some flight) GetFailed h = refl
arrival_fails now ticket (Some flight) Written h = refl
arrival_fails now ticket (Some flight) Late h = refl
arrival_fails now ticket (Some flight) (PutFailed new) h = refl

arrive_failing : (c : Core) (ticket : ℕ) (heard : Heard) → failing c (Arrive ticket) heard ≡ arrival_failing (value_at c.flights ticket) heard
arrive_failing c ticket Nothing = refl
arrive_failing c ticket (Got block) = refl
arrive_failing c ticket GetFailed = refl
arrive_failing c ticket Written = refl
arrive_failing c ticket Late = refl
arrive_failing c ticket (PutFailed new) = refl

get_fails : (c : Core) (a sector : ℕ) (heard : Heard) → failing c (Fetch a sector) heard ≡ fails_by (Get a sector) heard
get_fails c a sector Nothing = refl
get_fails c a sector (Got block) = refl
get_fails c a sector GetFailed = refl
get_fails c a sector Written = refl
get_fails c a sector Late = refl
get_fails c a sector (PutFailed new) = refl

look_fails : (c : Core) (by sector : ℕ) (heard : Heard) → failing c (Look by sector) heard ≡ fails_by (Get by sector) heard
look_fails c by sector Nothing = refl
look_fails c by sector (Got block) = refl
look_fails c by sector GetFailed = refl
look_fails c by sector Written = refl
look_fails c by sector Late = refl
look_fails c by sector (PutFailed new) = refl

read_fails : (c : Core) (sector : ℕ) (heard : Heard) → failing c (Read sector) heard ≡ fails_by (Get host_party sector) heard
read_fails c sector Nothing = refl
read_fails c sector (Got block) = refl
read_fails c sector GetFailed = refl
read_fails c sector Written = refl
read_fails c sector Late = refl
read_fails c sector (PutFailed new) = refl

pub failures_are_of_their_calls : FailuresAreOfTheirCalls
failures_are_of_their_calls c disk (Begin a) heard h = none_fails (deeds_of c (Begin a) Nothing) heard
failures_are_of_their_calls c disk (Ask a lock mode) heard h = none_fails (deeds_of c (Ask a lock mode) Nothing) heard
failures_are_of_their_calls c disk (Fetch a sector) heard h = get_fails c a sector heard
failures_are_of_their_calls c disk (Again a) heard h = none_fails (deeds_of c (Again a) Nothing) heard
failures_are_of_their_calls c disk (Clear a block) heard h = none_fails (deeds_of c (Clear a block) Nothing) heard
failures_are_of_their_calls c disk (Commit a) heard h = none_fails (deeds_of c (Commit a) Nothing) heard
failures_are_of_their_calls c disk (Answer a) heard h = none_fails (deeds_of c (Answer a) Nothing) heard
failures_are_of_their_calls c disk (Give a lock) heard h = none_fails (deeds_of c (Give a lock) Nothing) heard
failures_are_of_their_calls c disk (Issue a sector) heard h = none_fails (deeds_of c (Issue a sector) Nothing) heard
failures_are_of_their_calls c disk (Doom a) heard h = none_fails (deeds_of c (Doom a) Nothing) heard
failures_are_of_their_calls c disk (Resume a) heard h = none_fails (deeds_of c (Resume a) Nothing) heard
failures_are_of_their_calls c disk (Arrive ticket) heard h = arrive_failing c ticket heard ∙ arrival_fails c.now ticket (value_at c.flights ticket) heard h
failures_are_of_their_calls c disk (Lose ticket) heard h = none_fails (deeds_of c (Lose ticket) Nothing) heard
failures_are_of_their_calls c disk (Die a) heard h = none_fails (deeds_of c (Die a) Nothing) heard
failures_are_of_their_calls c disk (Renew a) heard h = none_fails (deeds_of c (Renew a) Nothing) heard
failures_are_of_their_calls c disk Tick heard h = none_fails (deeds_of c Tick Nothing) heard
failures_are_of_their_calls c disk (Recover dead by) heard h = none_fails (deeds_of c (Recover dead by) Nothing) heard
failures_are_of_their_calls c disk (Load by slot) heard h = load_fails c disk by slot (c.servers by).recovery heard h
failures_are_of_their_calls c disk (Look by sector) heard h = look_fails c by sector heard
failures_are_of_their_calls c disk (Finish by) heard h = none_fails (deeds_of c (Finish by) Nothing) heard
failures_are_of_their_calls c disk (HostLine number) heard h = none_fails (deeds_of c (HostLine number) Nothing) heard
failures_are_of_their_calls c disk (Close a) heard h = none_fails (deeds_of c (Close a) Nothing) heard
failures_are_of_their_calls c disk (Read sector) heard h = read_fails c sector heard
failures_are_of_their_calls c disk (Show place) heard h = none_fails (deeds_of c (Show place) Nothing) heard
failures_are_of_their_calls c disk End heard h = none_fails (deeds_of c End Nothing) heard
