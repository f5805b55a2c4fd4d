-- Each prefix of what is witnessed along a run is what is witnessed along a run of which the same faults tell; so the headline holds at every prefix.
use Rattle.std.proofs.Common.{◌≡◌, ℕ, zero, suc, ◌≤◌, true, false, List, [], ◌∷◌, ◌++◌, length, take, Option, Some, None, refl, sym, ap, ◌∙◌, subst, arith}
use Rattle.std.specs.List.{slice_get}
use Rattle.frang_base.specs.declared.reply.Reply.{Reply}
use Rattle.frang_base.specs.declared.said.Said.{Said}
use Rattle.sector_bytes.specs.SectorMaps.{value_at}
use Rattle.tree_definitions.specs.Transcript.{Faults}
use Rattle.core_definitions.specs.Cores.{Core, due_at, stage, tree_lines}
use Rattle.core_definitions.specs.Effects.{reply_by, says_answer, says_node, says_recovered}
use Rattle.core_definitions.specs.Events.{Event, Begin, Ask, Fetch, Again, Clear, Commit, Answer, Give, Issue, Doom, Resume, Arrive, Lose, Die, Renew, Tick, Recover, Load, Look, Finish, HostLine, Close, Read, Show, End, Heard, Nothing, Got, GetFailed, Written, Late, PutFailed}
use Rattle.core_definitions.specs.Flights.{Flight}
use Rattle.core_definitions.specs.Lines.{Under}
use Rattle.core_definitions.specs.Recoveries.{Recovery}
use Rattle.core_definitions.specs.Runs.{State as RunMoment, Step, Event_, Enter, Hold, Flush, Relock, Note, Peek, PeekFails, Run, Stays, Goes}
use Rattle.core_transcripts.specs.Faults.{CountsEach, RunHasItsFaults, run_faults}
use Rattle.headline_definitions.specs.Headline.{Headline}
use Rattle.headline_definitions.specs.Runs.{witnessed_at, witnessed_by, witnessed_in, witnessed_of_arrival}
use Rattle.headline_definitions.specs.Witnessed.{Witnessed, told}
use Rattle.headline_runs.specs.Along.{BeginningsAreKept, RunsStandAlong}
use Rattle.headline_runs.specs.Laws.{EachPrefixHasItsFaults, RunsKeepTheHeadlineBySteps, RunsThroughWithFaults}
use Rattle.headline_runs.specs.Moments.{MomentsKeepTheHeadline, first_moment}

-- ---- one at most

abbrev IsOne : List Witnessed → Type 0
IsOne witnessed = length witnessed ≤ 1

no_more : 0 ≤ 1
no_more = omega arith

one_more : 1 ≤ 1
one_more = omega arith

answer_one : (a : ℕ) (under : Option Under) (answer : Option Reply) → IsOne (told (says_answer a under answer))
answer_one a None None = no_more
answer_one a None (Some answer) = no_more
answer_one a (Some under) None = no_more
answer_one a (Some under) (Some answer) = one_more

arrival_one : (now : ℕ) (heard : Heard) (flight : Option Flight) → IsOne (witnessed_of_arrival now heard flight)
arrival_one now heard None = no_more
arrival_one now Nothing (Some flight) = no_more
arrival_one now (Got block) (Some flight) = no_more
arrival_one now GetFailed (Some flight) = no_more
arrival_one now Written (Some flight) = one_more
arrival_one now Late (Some flight) = one_more
arrival_one now (PutFailed true) (Some flight) = one_more
arrival_one now (PutFailed false) (Some flight) = no_more

recovered_one : (c : Core) (recovery : Option Recovery) → IsOne (told (says_recovered c recovery))
recovered_one c None = no_more
recovered_one c (Some recovery) = one_more

node_one : (line : Option Said) → IsOne (told (says_node line))
node_one None = no_more
node_one (Some line) = one_more

event_one : (c : Core) (event : Event) (heard : Heard) → IsOne (witnessed_by c event heard)
event_one c (Begin a) heard = no_more
event_one c (Ask a lock mode) heard = no_more
event_one c (Fetch a sector) heard = no_more
event_one c (Again a) heard = no_more
event_one c (Clear a block) heard = no_more
event_one c (Commit a) heard = answer_one a (c.servers a).under (reply_by (stage c a))
event_one c (Answer a) heard = answer_one a (c.servers a).under (due_at c a)
event_one c (Give a lock) heard = no_more
event_one c (Issue a sector) heard = no_more
event_one c (Doom a) heard = no_more
event_one c (Resume a) heard = one_more
event_one c (Arrive ticket) heard = arrival_one c.now heard (value_at c.flights ticket)
event_one c (Lose ticket) heard = no_more
event_one c (Die a) heard = one_more
event_one c (Renew a) heard = no_more
event_one c Tick heard = no_more
event_one c (Recover dead by) heard = one_more
event_one c (Load by slot) heard = no_more
event_one c (Look by sector) heard = no_more
event_one c (Finish by) heard = recovered_one c (c.servers by).recovery
event_one c (HostLine number) heard = one_more
event_one c (Close a) heard = no_more
event_one c (Read sector) heard = no_more
event_one c (Show place) heard = node_one (slice_get (tree_lines c) place)
event_one c End heard = one_more

step_one : (s v : RunMoment) (step : Step s v) → IsOne (witnessed_at s v step)
step_one s v (Event_ event heard makes) = event_one s.core event heard
step_one s v (Enter a line is) = no_more
step_one s v (Hold a on is) = no_more
step_one s v (Flush a is) = no_more
step_one s v (Relock locks going are same wait) = no_more
step_one s v (Note line may) = one_more
step_one s v (Peek sector going) = no_more
step_one s v (PeekFails sector going) = no_more

-- ---- prefixes

none_taken : (k : ℕ) → [] ≡ take {A = Witnessed} k []
none_taken zero = refl
none_taken (suc k) = refl

-- a moment of a run before which the first so many were witnessed, and each failed call until there is counted
pub record ComesBy (s w : RunMoment) (run : Run s w) (faults : Faults) (k : ℕ) : Type 0 where
  pub moment : RunMoment
  pub before : Run s moment
  pub witnessed : witnessed_in s moment before ≡ take k (witnessed_in s w run)
  pub counted : CountsEach faults s moment before

module _ (faults : Faults) where
  through : (s v w : RunMoment) (step : Step s v) (run : Run v w) (k : ℕ) (added : List Witnessed) → witnessed_at s v step ≡ added → length added ≤ 1 → CountsEach faults s w (Goes step run) →
      ((n : ℕ) → ComesBy v w run faults n) → ComesBy s w (Goes step run) faults k
  through s v w step run k [] is few counted rest =
      let r = rest k in
      record {
        moment = r.moment;
        before = Goes step r.before;
        witnessed = ap (λ xs. xs ++ witnessed_in v r.moment r.before) is ∙ r.witnessed ∙ sym (ap (λ xs. take k (xs ++ witnessed_in v w run)) is);
        counted = (counted.0, r.counted);
      }
  through s v w step run zero (one ∷ []) is few counted rest = record { moment = s; before = Stays; witnessed = refl; counted = tt }
  through s v w step run (suc k) (one ∷ []) is few counted rest =
      let r = rest k in
      record {
        moment = r.moment;
        before = Goes step r.before;
        witnessed = ap (λ xs. xs ++ witnessed_in v r.moment r.before) is ∙ ap (λ xs. one ∷ xs) r.witnessed ∙ sym (ap (λ xs. take (suc k) (xs ++ witnessed_in v w run)) is);
        counted = (counted.0, r.counted);
      }
  through s v w step run k (one ∷ other ∷ more) is few counted rest = absurd (omega (arith, few))

  comes_by : (s w : RunMoment) (run : Run s w) (k : ℕ) → CountsEach faults s w run → ComesBy s w run faults k
  comes_by s w Stays k counted = record { moment = s; before = Stays; witnessed = none_taken k; counted = tt }
  comes_by s w (Goes {v = v} step run) k counted = through s v w step run k (witnessed_at s v step) refl (step_one s v step) counted (λ n. comes_by v w run n counted.1)

pub prefixes_have_faults : EachPrefixHasItsFaults
prefixes_have_faults s w run faults k tell =
    let x = comes_by faults s w run k tell.counted in
    record { moment = x.moment; before = x.before; witnessed = x.witnessed; tell = record { stay = tell.stay; counted = x.counted } }

-- ---- the headline

pub runs_keep_by_steps : RunHasItsFaults → EachPrefixHasItsFaults → BeginningsAreKept → RunsStandAlong → MomentsKeepTheHeadline → RunsKeepTheHeadlineBySteps
runs_keep_by_steps theirs prefixes at_first stand moments steps journals records b s run begins k =
    let faults = run_faults (first_moment b) s run in
    let x : RunsThroughWithFaults (first_moment b) s run faults k = prefixes (first_moment b) s run faults k (theirs (first_moment b) s run).1 in
    subst (Headline b faults) x.witnessed (moments b x.moment x.before faults (stand steps journals records at_first b x.moment x.before begins) x.tell)
