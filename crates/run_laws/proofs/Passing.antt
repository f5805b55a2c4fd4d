-- Each prefix of a run's record is the record of a run that goes on to its end: each step adds one deed at most.
use Rattle.std.proofs.Common.{◌≡◌, ◌⊎◌, inl, inr, ⊎_elim, ℕ, ◌≤◌, ◌<◌, ◌+◌, List, [], ◌++◌, length, take, sym, ap, ◌∙◌, arith, length-append}
use Rattle.std.proofs.lemmas.List.{take-append-le, take_all}
use Rattle.frang_base.proofs.Basics.{le_or_lt}
use Rattle.sector_bytes.specs.Sectors.{Sectors}
use Rattle.core_definitions.specs.Effects.{Deed, deeds_of_put}
use Rattle.core_definitions.specs.Events.{Heard, Nothing, Got, GetFailed, Written, Late, PutFailed}
use Rattle.core_definitions.specs.Cores.{Core}
use Rattle.core_definitions.specs.Flights.{Flight}
use Rattle.core_definitions.specs.Runs.{State, Step, Run, Stays, first_state}
use Rattle.core_definitions.specs.Settings.{Setting}
use Rattle.core_laws.proofs.Along.{along, longer}
use Rattle.run_laws.specs.Prefixes.{ComesBy, EachPrefixIsOfARun}
use Rattle.run_laws.proofs.Steps.{Leaves, NoDeed, LineSaid, WriteMade, StepLeaves, step_leaves}

no_more : 0 ≤ 1
no_more = omega arith

one_more : 1 ≤ 1
one_more = omega arith

put_one : (now : ℕ) (flight : Flight) (heard : Heard) → length (deeds_of_put now flight heard) ≤ 1
put_one now flight Nothing = no_more
put_one now flight (Got block) = no_more
put_one now flight GetFailed = no_more
put_one now flight Written = one_more
put_one now flight Late = one_more
put_one now flight (PutFailed new) = no_more

one_deed : (c : Core) (disk : Sectors) (deeds : List Deed) (behind : Sectors) → Leaves c disk deeds behind → length deeds ≤ 1
one_deed c disk deeds behind NoDeed = no_more
one_deed c disk deeds behind (LineSaid line) = one_more
one_deed c disk deeds behind (WriteMade ticket flight heard e) = put_one c.now flight heard

-- the first so many of a list with one more at most are the first so many of it, or all
first_or_all : (xs more : List Deed) (k : ℕ) → length more ≤ 1 → (take k (xs ++ more) ≡ take k xs) ⊎ (take k (xs ++ more) ≡ xs ++ more)
first_or_all xs more k few = ⊎_elim (λ low. inl (take-append-le k xs more low)) (λ high. inr (take_all k (xs ++ more) (all high (length-append xs more)))) (le_or_lt k (length xs))
  where
    all : length xs < k → length (xs ++ more) ≡ length xs + length more → length (xs ++ more) ≤ k
    all high e = omega (arith, few, high, e)

module _ (setting : Setting) (disk : Sectors) where
  abbrev first : State
  first = first_state setting disk

  comes_on : (s v : State) → Run first s → (step : Step s v) → (more : List Deed) → v.record_ ≡ s.record_ ++ more → length more ≤ 1 → ((k : ℕ) → ComesBy first s k) → (k : ℕ) → ComesBy first v k
  comes_on s v run step more is few each k = ⊎_elim sooner last (first_or_all s.record_ more k few)
    where
      sooner : take k (s.record_ ++ more) ≡ take k s.record_ → ComesBy first v k
      sooner e = record {
        moment = (each k).moment;
        before = (each k).before;
        behind = longer (each k).moment s v (each k).behind step;
        record_is = (each k).record_is ∙ sym e ∙ sym (ap (take k) is);
      }

      last : take k (s.record_ ++ more) ≡ s.record_ ++ more → ComesBy first v k
      last e = record { moment = v; before = longer first s v run step; behind = Stays; record_is = is ∙ sym e ∙ sym (ap (take k) is) }

  comes_after : (s v : State) → Run first s → Step s v → ((k : ℕ) → ComesBy first s k) → (k : ℕ) → ComesBy first v k
  comes_after s v run step = go (step_leaves s v step)
    where
      go : StepLeaves s v → ((k : ℕ) → ComesBy first s k) → (k : ℕ) → ComesBy first v k
      go left = comes_on s v run step left.deeds left.record_is (one_deed s.core s.disk left.deeds v.disk left.leaves)

  at_first : (k : ℕ) → ComesBy first first k
  at_first k = record { moment = first; before = Stays; behind = Stays; record_is = none_taken k }
    where
      none_taken : (k : ℕ) → [] ≡ take {A = Deed} k []
      none_taken k = sym (take_all k [] (omega arith))

pub prefixes_are_of_runs : EachPrefixIsOfARun
prefixes_are_of_runs setting disk s run = along setting disk (λ s. (k : ℕ) → ComesBy (first_state setting disk) s k) (comes_after setting disk) (at_first setting disk) s run
