-- What a turn leaves is kept, by each way that it goes. The lock and the worlds' code stand in none of this.
use Rattle.std.proofs.Common.{◌≡◌, ◌⊎◌, inl, inr, ℕ, ◌+◌, ◌-◌, ◌^◌, ◌<◌, ◌≤◌, ◌==◌, min, Bool, true, false, if◌then◌else◌, List, [], ◌∷◌, ◌++◌, length, Option, Some, None, Result, Ok, Err, refl, sym, ap, ◌∙◌, subst, arith, append-nil}
use Rattle.std.proofs.lemmas.Bool.{eqb-true}
use Rattle.frang_base.specs.declared.fault.NoMemory.{NoMemory}
use Rattle.frang_base.specs.declared.sector.Sector.{Sector}
use Rattle.frang_base.specs.declared.sector.ServerId.{ServerId}
use Rattle.frang_base.specs.declared.script.Line.{Line}
use Rattle.sector_bytes.specs.Sectors.{SameSectors}
use Rattle.frang_outside.specs.declared.outside.Failed.{Failed}
use Rattle.frang_outside.specs.declared.outside.SayFault.TheVariants as say_fault
use Rattle.frang_outside.specs.Outside.{State as Outside, Follows, OneRose, Rose, GetOutcome, SayOutcome}
use Rattle.petal_disk.specs.declared.ticket.Ticket.{Ticket}
use Rattle.petal_disk.specs.declared.ticket.Arrived.{Arrived}
use Rattle.petal_disk.specs.declared.ticket.Arrived.TheVariants as arrived
use Rattle.core_definitions.specs.Calls.{Call, NoCall, Get, MakePut, Say, acts_by, call_of, fails_by}
use Rattle.core_definitions.specs.Cores.{Core}
use Rattle.core_definitions.specs.Events.{Event, Heard, Arrive, Nothing, Got, GetFailed, Written, Late, PutFailed}
use Rattle.core_definitions.specs.Faults.{failed_calls, failing}
use Rattle.core_definitions.specs.Guards.{Can}
use Rattle.core_definitions.specs.Runs.{State as RunMoment, CanEnter, Enter, Makes, Run, Stays, Goes, entered, next, saids_of}
use Rattle.core_definitions.specs.Scripts.{host_party}
use Rattle.core_definitions.specs.Settings.{Setting}
use Rattle.hall_runs.specs.declared.event.Event.{Event as Named}
use Rattle.hall_runs.specs.declared.event.Call.TheVariants as call
use Rattle.hall_runs.specs.declared.event.Heard.TheVariants as told
use Rattle.hall_runs.specs.declared.event.End.{End}
use Rattle.hall_runs.specs.declared.event.End.TheVariants.{Ended, Mute, Fault}
use Rattle.hall_runs.specs.declared.event.Turn.{Turn}
use Rattle.hall_runs.specs.declared.event.Turn.TheVariants as turn
use Rattle.hall_runs.specs.Asking.{AsksPut, event_of, sector_by}
use Rattle.hall_runs.specs.Gates.{IsToEnter, IsToGive, NoLineToGive}
use Rattle.hall_runs.specs.Keeping.{Caused, HostFails, KeptAt, Kept}
use Rattle.hall_runs.specs.Outsets.{Outset, RunsTo, first_of}
use Rattle.hall_runs.specs.Turning.{Comes, Entered, EnteredTo, IsMade, IsTurn, OneEvent, Turned, TurnedTo, after_event, after_failed, turn_of}
use Rattle.hall_runs.proofs.Runs.{StepsTo, begins, begins_calm, fell_same, longer, one_of, says_in, steps, still, told_none, within_still}
use Rattle.hall_runs.proofs.Turning.{CallLaws, EventTo, FailsTo, arrives_failed, arrives_late, arrives_written, get_failed, got, quiet, said as told_line}
use Rattle.hall_runs.proofs.Views.{put_asked, viewed}
use Rattle.frang_hall.specs.declared.room.Finish.{Finish}
use Rattle.frang_hall.specs.Finishing.{Finished, Ran}
use Rattle.frang_hall.specs.Halls.{Made, MadeTo, given_after}
use Rattle.frang_hall.specs.Machines.{Stands, AsksSo, Arriving, Enters, Listed, NoneListed, Same, Stepping}
use Rattle.frang_hall.proofs.Gates.{may_enter}

-- it is over, or not, at each of its moments
abbrev pub IsOver : Stands → Bool → Type 0
IsOver after flag = (r : RunMoment) → after r → flag ≡ r.core.over

rose_from : (a b c : ℕ) → a ≤ b → Rose b c → Rose a c
rose_from a b c up rose = omega (arith, up, rose)

still_none : (n m more : ℕ) → n ≡ m + more → more ≡ 0 → m ≡ 0 → n ≡ 0
still_none n m more sum none before = omega (arith, sum, none, before)

then_one : (n m more : ℕ) → n ≡ m + more → more ≡ 1 → 1 ≤ n
then_one n m more sum one = omega (arith, sum, one)

count_on : (n m more said : ℕ) → n ≡ m + more → said ≡ m → said + more ≡ n
count_on n m more said sum is = omega (arith, sum, is)

-- ---- the ends of an event

-- after an event that it could make: no call of the host failed
finishes : (before after : Stands) (outset : Outset) (event : Event) (heard : Heard) (asked : Call) (r : RunMoment) (said more : ℕ) (s t : Outside) (flag : Bool) (kept : KeptAt before outset r None said s)
    → EventTo outset r event heard s t kept.runs asked → says_in (acts_by asked heard) ≡ more → one_of host_party (fails_by asked heard) ≡ 0 → after (next r event heard) → flag ≡ (next r event heard).core.over
    → MadeTo after outset event r (after_event flag).0 (said + more) t (Ok (after_event flag).1)
finishes before after outset event heard asked r said more s t flag kept goes says none stands is = by_flag flag is
  where
    v : RunMoment
    v = next r event heard

    count : said + more ≡ length (saids_of v.record_)
    count =
        subst (λ m. said + m ≡ length (saids_of v.record_)) says
        (count_on (length (saids_of v.record_)) (length (saids_of r.record_)) (says_in (acts_by asked heard)) said goes.count kept.count)

    host : failed_calls (first_of outset) v goes.steps.runs.run host_party ≡ 0
    host =
        still_none (failed_calls (first_of outset) v goes.steps.runs.run host_party) (failed_calls (first_of outset) r kept.runs.run host_party) (one_of host_party (fails_by asked heard))
        (goes.steps.calls host_party) none kept.host

    one : OneEvent r v event
    one = record { heard = heard; makes = goes.makes; next_is = refl }

    by_flag : (flag : Bool) → flag ≡ v.core.over → MadeTo after outset event r (after_event flag).0 (said + more) t (Ok (after_event flag).1)
    by_flag true is = record {
      moment = v;
      is = record { runs = goes.steps.runs; stands_for = stands; count = count; cause = sym is; host = host };
      run = goes.steps.run;
      comes = (refl, one);
    }
    by_flag false is = record {
      moment = v;
      is = record { runs = goes.steps.runs; stands_for = stands; count = count; cause = sym is; host = host };
      run = goes.steps.run;
      comes = (refl, one);
    }

-- after a failed call of a party at a sector
fails : (before after : Stands) (outset : Outset) (event : Event) (heard : Heard) (asked : Call) (r : RunMoment) (said : ℕ) (s t : Outside) (party : ServerId) (sector : Sector) (flag : Bool)
    (kept : KeptAt before outset r None said s) → EventTo outset r event heard s t kept.runs asked → call_of r.core event ≡ asked → says_in (acts_by asked heard) ≡ 0
    → fails_by asked heard ≡ Some party.0 → sector_by asked ≡ Some sector.0 → OneRose s t party.0 → after (next r event heard) → flag ≡ (next r event heard).core.over
    → MadeTo after outset event r (after_failed party sector flag).0 said t (Ok (after_failed party sector flag).1)
fails before after outset event heard asked r said s t party sector flag kept goes asks says fault at rose stands is = by_party (party.0 == host_party) refl
  where
    v : RunMoment
    v = next r event heard

    zero : said + 0 ≡ said
    zero = omega arith

    one_is : (b : Bool) → (party.0 == host_party) ≡ b → one_of host_party (fails_by asked heard) ≡ (if b then 1 else 0)
    one_is b e = ap (one_of host_party) fault ∙ ap (λ x. if x then 1 else 0) e

    by_party : (b : Bool) → (party.0 == host_party) ≡ b →
        MadeTo after outset event r (if b then (Some (Fault sector), turn.Fault sector) else after_event flag).0 said t
        (Ok (if b then (Some (Fault sector), turn.Fault sector) else after_event flag).1)
    by_party true e =
        let is_host : party.0 ≡ host_party = eqb-true party.0 host_party e in
        let own : Rose (s.faults host_party) (t.faults host_party) = subst (λ p. Rose (s.faults p) (t.faults p)) is_host rose.own in
        record {
          moment = v;
          is =
              record {
                runs = goes.steps.runs;
                stands_for = stands;
                count =
                    sym zero
                    ∙ count_on (length (saids_of v.record_)) (length (saids_of r.record_)) 0 said (goes.count ∙ ap (λ m. length (saids_of r.record_) + m) says) kept.count;
                cause = (
                  rose_from (outset.outside.faults host_party) (s.faults host_party) (t.faults host_party) (kept.runs.fell.faults host_party) own,
                  record {
                    before = r;
                    event = event;
                    heard = heard;
                    run = kept.runs.run;
                    makes = goes.makes;
                    failed = goes.failed ∙ fault ∙ ap Some is_host;
                    at = ap sector_by asks ∙ at;
                    on = Stays;
                  },
                );
                host =
                    then_one (failed_calls (first_of outset) v goes.steps.runs.run host_party) (failed_calls (first_of outset) r kept.runs.run host_party)
                    (one_of host_party (fails_by asked heard)) (goes.steps.calls host_party) (one_is true e);
              };
          run = goes.steps.run;
          comes = (
            refl,
            record {
              one = record { heard = heard; makes = goes.makes; next_is = refl };
              failed = goes.failed ∙ fault ∙ ap Some is_host;
              at = ap sector_by asks ∙ at;
            },
          );
        }
    by_party false e =
        subst (λ n. MadeTo after outset event r (after_event flag).0 n t (Ok (after_event flag).1)) zero
        (finishes before after outset event heard asked r said 0 s t flag kept goes says (one_is false e) stands is)

-- ---- the ways of an event

pub made_quiet : (laws : CallLaws) (w w' : Stands) (outset : Outset) (said : ℕ) (s : Outside) (event : Named) (flag : Bool) (ends : Option End × Turn) → AsksSo w event call.Nothing
    → Stepping w w' event told.Nothing → IsOver w' flag → ends ≡ after_event flag → Made w w' outset (event_of event) said s ends.0 said s (Ok ends.1)
made_quiet laws w w' outset said s event flag ends asks stepping is ends_is r kept =
    let a = asks r kept.stands_for in
    let goes = quiet laws outset r s (event_of event) kept.runs (fell_same s) a.0 a.1 in
    let stands : w' (next r (event_of event) Nothing) = stepping r kept.stands_for goes.makes in
    let zero : said + 0 ≡ said = omega arith in
    subst (λ (e : Option End × Turn). MadeTo w' outset (event_of event) r e.0 said s (Ok e.1)) (sym ends_is)
    (subst (λ n. MadeTo w' outset (event_of event) r (after_event flag).0 n s (Ok (after_event flag).1)) zero
    (finishes w w' outset (event_of event) Nothing NoCall r said 0 s s flag kept goes refl refl stands (is (next r (event_of event) Nothing) stands)))

pub made_said : (laws : CallLaws) (w w' : Stands) (outset : Outset) (said : ℕ) (s t : Outside) (event : Named) (text : List ℕ) (flag : Bool) (ends : Option End × Turn) → AsksSo w event (call.Say text)
    → Stepping w w' event told.Nothing → IsOver w' flag → SameSectors t.sectors s.sectors → Follows s t → SayOutcome s t text (Ok tt) → ends ≡ after_event flag
    → Made w w' outset (event_of event) said s ends.0 (said + 1) t (Ok ends.1)
made_said laws w w' outset said s t event text flag ends asks stepping is same fell outcome ends_is r kept =
    let a = asks r kept.stands_for in
    let goes = told_line laws outset r s t (event_of event) text kept.runs a.0 a.1 same fell outcome in
    let stands : w' (next r (event_of event) Nothing) = stepping r kept.stands_for goes.makes in
    subst (λ (e : Option End × Turn). MadeTo w' outset (event_of event) r e.0 (said + 1) t (Ok e.1)) (sym ends_is)
    (finishes w w' outset (event_of event) Nothing (Say text) r said 1 s t flag kept goes refl refl stands (is (next r (event_of event) Nothing) stands))

pub made_got : (laws : CallLaws) (w w' : Stands) (outset : Outset) (said : ℕ) (s t : Outside) (event : Named) (party : ServerId) (sector : Sector) (block : List ℕ) (flag : Bool) (ends : Option End × Turn)
    → AsksSo w event (call.Get party sector) → Stepping w w' event (told.Got block) → IsOver w' flag → SameSectors t.sectors s.sectors → t.acts ≡ s.acts → Follows s t
    → GetOutcome s t party.0 sector.0 (Ok block) → ends ≡ after_event flag → Made w w' outset (event_of event) said s ends.0 said t (Ok ends.1)
made_got laws w w' outset said s t event party sector block flag ends asks stepping is same acts fell outcome ends_is r kept =
    let a = asks r kept.stands_for in
    let goes = got laws outset r s t (event_of event) party.0 sector.0 block kept.runs a.0 a.1 same acts fell outcome.0 in
    let stands : w' (next r (event_of event) (Got block)) = stepping r kept.stands_for goes.makes in
    let zero : said + 0 ≡ said = omega arith in
    subst (λ (e : Option End × Turn). MadeTo w' outset (event_of event) r e.0 said t (Ok e.1)) (sym ends_is)
    (subst (λ n. MadeTo w' outset (event_of event) r (after_event flag).0 n t (Ok (after_event flag).1)) zero
    (finishes w w' outset (event_of event) (Got block) (Get party.0 sector.0) r said 0 s t flag kept goes refl refl stands (is (next r (event_of event) (Got block)) stands)))

pub made_get_failed : (laws : CallLaws) (w w' : Stands) (outset : Outset) (said : ℕ) (s t : Outside) (event : Named) (party : ServerId) (sector : Sector) (fault : Failed) (flag : Bool) (ends : Option End × Turn)
    → AsksSo w event (call.Get party sector) → Stepping w w' event told.GetFailed → IsOver w' flag → SameSectors t.sectors s.sectors → t.acts ≡ s.acts → Follows s t
    → GetOutcome s t party.0 sector.0 (Err fault) → ends ≡ after_failed party sector flag → Made w w' outset (event_of event) said s ends.0 said t (Ok ends.1)
made_get_failed laws w w' outset said s t event party sector fault flag ends asks stepping is same acts fell rose ends_is r kept =
    let a = asks r kept.stands_for in
    let goes = get_failed laws outset r s t (event_of event) party.0 sector.0 kept.runs a.0 a.1 same acts fell rose in
    let stands : w' (next r (event_of event) GetFailed) = stepping r kept.stands_for goes.makes in
    subst (λ (e : Option End × Turn). MadeTo w' outset (event_of event) r e.0 said t (Ok e.1)) (sym ends_is)
    (fails w w' outset (event_of event) GetFailed (Get party.0 sector.0) r said s t party sector flag kept goes a.1 refl refl refl rose stands (is (next r (event_of event) GetFailed) stands))

-- ---- writes

-- the event of a put is the arrival of its ticket
put_event : (r : RunMoment) (event : Event) (ticket party sector : ℕ) → Can r.core event → AsksPut r.core event ticket party sector → event ≡ Arrive ticket
put_event r event ticket party sector can asks = (put_asked r.core event ticket asks.put (viewed r.core event can) asks.call_is).event_is

pub made_put : (laws : CallLaws) (w w' : Stands) (outset : Outset) (said : ℕ) (s t : Outside) (event : Named) (ticket : Ticket) (party : ServerId) (sector : Sector) (flag : Bool) (ends : Option End × Turn)
    → AsksSo w event (call.Put ticket party sector) → Follows s t → Arriving w w' ticket.0 s t arrived.Written → IsOver w' flag → ends ≡ after_event flag
    → Made w w' outset (event_of event) said s ends.0 said t (Ok ends.1)
made_put laws w w' outset said s t event ticket party sector flag ends asks fell lands is ends_is r kept =
    let a = asks r kept.stands_for in
    let is_arrival : event_of event ≡ Arrive ticket.0 = put_event r (event_of event) ticket.0 party.0 sector.0 a.0 a.1 in
    let can : Can r.core (Arrive ticket.0) = subst (λ e. Can r.core e) is_arrival a.0 in
    let call_is : call_of r.core (Arrive ticket.0) ≡ MakePut ticket.0 a.1.put = subst (λ e. call_of r.core e ≡ MakePut ticket.0 a.1.put) is_arrival a.1.call_is in
    let l = lands r a.1.put kept.stands_for call_is in
    let goes = arrives_written laws outset r s t ticket.0 a.1.put kept.runs can call_is fell l.0 in
    let stands : w' (next r (Arrive ticket.0) Written) = l.1 goes.makes in
    let zero : said + 0 ≡ said = omega arith in
    subst (λ (e : Option End × Turn). MadeTo w' outset (event_of event) r e.0 said t (Ok e.1)) (sym ends_is)
    (subst (λ x. MadeTo w' outset x r (after_event flag).0 said t (Ok (after_event flag).1)) (sym is_arrival)
    (subst (λ n. MadeTo w' outset (Arrive ticket.0) r (after_event flag).0 n t (Ok (after_event flag).1)) zero
    (finishes w w' outset (Arrive ticket.0) Written (MakePut ticket.0 a.1.put) r said 0 s t flag kept goes refl refl stands (is (next r (Arrive ticket.0) Written) stands))))

pub made_put_late : (laws : CallLaws) (w w' : Stands) (outset : Outset) (said : ℕ) (s t : Outside) (event : Named) (ticket : Ticket) (party : ServerId) (sector : Sector) (stamp now : ℕ) (flag : Bool) (ends : Option End × Turn)
    → AsksSo w event (call.Put ticket party sector) → Follows s t → Arriving w w' ticket.0 s t (arrived.Late stamp now) → IsOver w' flag → ends ≡ after_event flag
    → Made w w' outset (event_of event) said s ends.0 said t (Ok ends.1)
made_put_late laws w w' outset said s t event ticket party sector stamp now flag ends asks fell lands is ends_is r kept =
    let a = asks r kept.stands_for in
    let is_arrival : event_of event ≡ Arrive ticket.0 = put_event r (event_of event) ticket.0 party.0 sector.0 a.0 a.1 in
    let can : Can r.core (Arrive ticket.0) = subst (λ e. Can r.core e) is_arrival a.0 in
    let call_is : call_of r.core (Arrive ticket.0) ≡ MakePut ticket.0 a.1.put = subst (λ e. call_of r.core e ≡ MakePut ticket.0 a.1.put) is_arrival a.1.call_is in
    let l = lands r a.1.put kept.stands_for call_is in
    let goes = arrives_late laws outset r s t ticket.0 a.1.put kept.runs can call_is fell l.0.2 in
    let stands : w' (next r (Arrive ticket.0) Late) = l.1 goes.makes in
    let zero : said + 0 ≡ said = omega arith in
    subst (λ (e : Option End × Turn). MadeTo w' outset (event_of event) r e.0 said t (Ok e.1)) (sym ends_is)
    (subst (λ x. MadeTo w' outset x r (after_event flag).0 said t (Ok (after_event flag).1)) (sym is_arrival)
    (subst (λ n. MadeTo w' outset (Arrive ticket.0) r (after_event flag).0 n t (Ok (after_event flag).1)) zero
    (finishes w w' outset (Arrive ticket.0) Late (MakePut ticket.0 a.1.put) r said 0 s t flag kept goes refl refl stands (is (next r (Arrive ticket.0) Late) stands))))

pub made_put_failed : (laws : CallLaws) (w w' : Stands) (outset : Outset) (said : ℕ) (s t : Outside) (event : Named) (ticket : Ticket) (party : ServerId) (sector : Sector) (flag : Bool) (ends : Option End × Turn)
    → AsksSo w event (call.Put ticket party sector) → Follows s t → Arriving w w' ticket.0 s t arrived.Failed → IsOver w' flag → ends ≡ after_failed party sector flag
    → Made w w' outset (event_of event) said s ends.0 said t (Ok ends.1)
made_put_failed laws w w' outset said s t event ticket party sector flag ends asks fell lands is ends_is r kept =
    let a = asks r kept.stands_for in
    let is_arrival : event_of event ≡ Arrive ticket.0 = put_event r (event_of event) ticket.0 party.0 sector.0 a.0 a.1 in
    let can : Can r.core (Arrive ticket.0) = subst (λ e. Can r.core e) is_arrival a.0 in
    let call_is : call_of r.core (Arrive ticket.0) ≡ MakePut ticket.0 a.1.put = subst (λ e. call_of r.core e ≡ MakePut ticket.0 a.1.put) is_arrival a.1.call_is in
    let l = lands r a.1.put kept.stands_for call_is in
    let so = arrives_failed laws outset r s t ticket.0 a.1.put kept.runs can call_is fell l.0 in
    let stands : w' (next r (Arrive ticket.0) (PutFailed so.new)) = l.1 so.new so.goes.makes in
    let rose : OneRose s t party.0 = subst (λ p. OneRose s t p) (sym a.1.party_is) l.0.3 in
    subst (λ (e : Option End × Turn). MadeTo w' outset (event_of event) r e.0 said t (Ok e.1)) (sym ends_is)
    (subst (λ x. MadeTo w' outset x r (after_failed party sector flag).0 said t (Ok (after_failed party sector flag).1)) (sym is_arrival)
    (fails w w' outset (Arrive ticket.0) (PutFailed so.new) (MakePut ticket.0 a.1.put) r said s t party sector flag kept so.goes call_is refl (ap Some (sym a.1.party_is)) (ap Some (sym a.1.sector_is)) rose
    stands (is (next r (Arrive ticket.0) (PutFailed so.new)) stands)))

-- ---- no event

-- nothing but perhaps counts of the outside has changed
wants : (w w' : Stands) (outset : Outset) (event : Event) (r : RunMoment) (said : ℕ) (s t : Outside) (want : NoMemory) → w' r → (kept : KeptAt w outset r None said s) → StepsTo outset r r s t kept.runs None
    → MadeTo w' outset event r None said t (Err want)
wants w w' outset event r said s t want stands kept stays = record {
  moment = r;
  is =
      record {
        runs = stays.runs;
        stands_for = stands;
        count = kept.count;
        cause = kept.cause;
        host = still_none (failed_calls (first_of outset) r stays.runs.run host_party) (failed_calls (first_of outset) r kept.runs.run host_party) 0 (stays.calls host_party) refl kept.host;
      };
  run = Stays;
  comes = (refl, refl);
}

made_wanting_so : (w w' : Stands) (outset : Outset) (event : Event) (said : ℕ) (s : Outside) (want : NoMemory) → Same w w' → Made w w' outset event said s None said s (Err want)
made_wanting_so w w' outset event said s want same r kept = record {
  moment = r;
  is = record { runs = kept.runs; stands_for = same r kept.stands_for; count = kept.count; cause = kept.cause; host = kept.host };
  run = Stays;
  comes = (refl, refl);
}

pub made_wanting : (w w' : Stands) (outset : Outset) (event : Event) (over : Option End) (said : ℕ) (s : Outside) (want : NoMemory) → over ≡ None → Same w w' → Made w w' outset event said s over said s (Err want)
made_wanting w w' outset event over said s want none same =
    subst (λ (o : Option End). Made w w' outset event said s o said s (Err want)) (sym none) (made_wanting_so w w' outset event said s want same)

made_put_wanting_so : (w w' : Stands) (outset : Outset) (said : ℕ) (s t : Outside) (event : Named) (ticket : Ticket) (party : ServerId) (sector : Sector) (want : NoMemory)
    → AsksSo w event (call.Put ticket party sector) → Follows s t → Arriving w w' ticket.0 s t arrived.NoMemory → Made w w' outset (event_of event) said s None said t (Err want)
made_put_wanting_so w w' outset said s t event ticket party sector want asks fell lands r kept =
    let a = asks r kept.stands_for in
    let is_arrival : event_of event ≡ Arrive ticket.0 = put_event r (event_of event) ticket.0 party.0 sector.0 a.0 a.1 in
    let l = lands r a.1.put kept.stands_for (subst (λ e. call_of r.core e ≡ MakePut ticket.0 a.1.put) is_arrival a.1.call_is) in
    wants w w' outset (event_of event) r said s t want l.1 kept (still outset r s t kept.runs l.0.0 l.0.1 fell)

pub made_put_wanting : (w w' : Stands) (outset : Outset) (over : Option End) (said : ℕ) (s t : Outside) (event : Named) (ticket : Ticket) (party : ServerId) (sector : Sector) (want : NoMemory) → over ≡ None
    → AsksSo w event (call.Put ticket party sector) → Follows s t → Arriving w w' ticket.0 s t arrived.NoMemory → Made w w' outset (event_of event) said s over said t (Err want)
made_put_wanting w w' outset over said s t event ticket party sector want none asks fell lands =
    subst (λ (o : Option End). Made w w' outset (event_of event) said s o said t (Err want)) (sym none) (made_put_wanting_so w w' outset said s t event ticket party sector want asks fell lands)

made_say_wanting_so : (w : Stands) (outset : Outset) (event : Event) (said : ℕ) (s t : Outside) (text : List ℕ) (want : NoMemory) → SameSectors t.sectors s.sectors → Follows s t
    → SayOutcome s t text (Err say_fault.NoMemory) → Made w w outset event said s None said t (Err want)
made_say_wanting_so w outset event said s t text want same fell outcome r kept =
    wants w w outset event r said s t want kept.stands_for kept (still outset r s t kept.runs same outcome.0 fell)

pub made_say_wanting : (w : Stands) (outset : Outset) (event : Event) (over : Option End) (said : ℕ) (s t : Outside) (text : List ℕ) (want : NoMemory) → over ≡ None → SameSectors t.sectors s.sectors → Follows s t
    → SayOutcome s t text (Err say_fault.NoMemory) → Made w w outset event said s over said t (Err want)
made_say_wanting w outset event over said s t text want none same fell outcome =
    subst (λ (o : Option End). Made w w outset event said s o said t (Err want)) (sym none) (made_say_wanting_so w outset event said s t text want same fell outcome)

pub made_mute : (w : Stands) (outset : Outset) (event : Event) (said : ℕ) (s t : Outside) (text : List ℕ) → SameSectors t.sectors s.sectors → Follows s t → SayOutcome s t text (Err say_fault.Failed)
    → Made w w outset event said s (Some Mute) said t (Ok turn.Mute)
made_mute w outset event said s t text same fell outcome r kept =
    let stays = still outset r s t kept.runs same outcome.0 fell in
    record {
      moment = r;
      is =
          record {
            runs = stays.runs;
            stands_for = kept.stands_for;
            count = kept.count;
            cause = rose_from outset.outside.say_faults s.say_faults t.say_faults kept.runs.fell.says outcome.1.own;
            host = still_none (failed_calls (first_of outset) r stays.runs.run host_party) (failed_calls (first_of outset) r kept.runs.run host_party) 0 (stays.calls host_party) refl kept.host;
          };
      run = Stays;
      comes = (refl, refl);
    }

-- what was kept by a world is kept by one that is the core of the same moments
pub made_same : (before mid after : Stands) (outset : Outset) (event : Event) (said : ℕ) (s : Outside) (over' : Option End) (said' : ℕ) (t : Outside) (result : Result Turn NoMemory)
    → Same before mid → Made mid after outset event said s over' said' t result → Made before after outset event said s over' said' t result
made_same before mid after outset event said s over' said' t result same made r kept =
    made r (record { runs = kept.runs; stands_for = same r kept.stands_for; count = kept.count; cause = kept.cause; host = kept.host })

-- ---- what is kept

pub kept_same : (before after : Stands) (outset : Outset) (over : Option End) (said : ℕ) (s : Outside) → Same before after → Kept before outset over said s → Kept after outset over said s
kept_same before after outset over said s same kept =
    record { moment = kept.moment; is = record { runs = kept.is.runs; stands_for = same kept.moment kept.is.stands_for; count = kept.is.count; cause = kept.is.cause; host = kept.is.host } }

pub kept_made : (before after : Stands) (outset : Outset) (event : Event) (over : Option End) (said : ℕ) (s : Outside) (over' : Option End) (said' : ℕ) (t : Outside) (result : Result Turn NoMemory)
    → over ≡ None → Made before after outset event said s over' said' t result → Kept before outset over said s → Kept after outset over' said' t
kept_made before after outset event over said s over' said' t result none made kept =
    let left = made kept.moment (subst (λ (o : Option End). KeptAt before outset kept.moment o said s) none kept.is) in record { moment = left.moment; is = left.is }

pub kept_new : (w : Stands) (outset : Outset) (s : Outside) → outset.outside ≡ s → w (first_of outset) → Kept w outset None 0 s
kept_new w outset s is stands =
    subst (λ t. Kept w outset None 0 t) is
    (record { moment = first_of outset; is = record { runs = begins outset; stands_for = stands; count = refl; cause = refl; host = begins_calm outset host_party } })

-- ---- a turn

abbrev pub Chosen : Type 1
Chosen = Core → Event → Type 0

-- it was over
pub turned_over : (chosen : Chosen) (w : Stands) (outset : Outset) (given : List ℕ) (worker : ℕ) (over : Option End) (end : End) (said : ℕ) (s : Outside) (answer : Turn) → over ≡ Some end → answer ≡ turn_of end
    → Turned chosen w w outset given worker over said s over said s (Ok answer)
turned_over chosen w outset given worker over end said s answer is answer_is r kept =
    record { moment = r; is = kept; run = Stays; made = subst (λ (o : Option End). IsMade chosen given worker r r o o (Ok answer)) (sym is) (refl, refl, ap Ok answer_is) }

-- a line is given to the gate
pub turned_gate : (chosen : Chosen) (w : Stands) (outset : Outset) (given : List ℕ) (worker : ℕ) (over : Option End) (said : ℕ) (s : Outside) (server line : ℕ) → over ≡ None
    → ((r : RunMoment) → w r → IsToGive r.core given worker server line) → Turned chosen w w outset given worker over said s over said s (Ok (turn.Gate (record { 0 = server }) line))
turned_gate chosen w outset given worker over said s server line none at r kept =
    record {
      moment = r;
      is = kept;
      run = Stays;
      made = subst (λ (o : Option End). IsMade chosen given worker r r o o (Ok (turn.Gate (record { 0 = server }) line))) (sym none) (refl, refl, at r kept.stands_for);
    }

at_same : (before after : Stands) (outset : Outset) (r : RunMoment) (over : Option End) (said : ℕ) (s : Outside) → Same before after → KeptAt before outset r over said s → KeptAt after outset r over said s
at_same before after outset r over said s same kept = record { runs = kept.runs; stands_for = same r kept.stands_for; count = kept.count; cause = kept.cause; host = kept.host }

-- nothing is enabled
pub turned_idle : (chosen : Chosen) (before after : Stands) (outset : Outset) (given : List ℕ) (worker : ℕ) (over : Option End) (said : ℕ) (s : Outside) → over ≡ None
    → ((r : RunMoment) → before r → NoLineToGive r.core given) → Same before after → NoneListed after → Turned chosen before after outset given worker over said s over said s (Ok turn.Idle)
turned_idle chosen before after outset given worker over said s none no_line same listed r kept =
    record {
      moment = r;
      is = at_same before after outset r over said s same kept;
      run = Stays;
      made = subst (λ (o : Option End). IsMade chosen given worker r r o o (Ok turn.Idle)) (sym none) (refl, refl, no_line r kept.stands_for, listed r (same r kept.stands_for));
    }

-- want of memory
pub turned_wanting : (chosen : Chosen) (before after : Stands) (outset : Outset) (given : List ℕ) (worker : ℕ) (over : Option End) (said : ℕ) (s : Outside) (want : NoMemory) → over ≡ None
    → ((r : RunMoment) → before r → NoLineToGive r.core given) → Same before after → Turned chosen before after outset given worker over said s over said s (Err want)
turned_wanting chosen before after outset given worker over said s want none no_line same r kept =
    record {
      moment = r;
      is = at_same before after outset r over said s same kept;
      run = Stays;
      made = subst (λ (o : Option End). IsMade chosen given worker r r o o (Err want)) (sym none) (refl, refl, no_line r kept.stands_for);
    }

-- an event that was chosen comes to the turn's answer
turn_comes : (chosen : Chosen) (given : List ℕ) (worker : ℕ) (r v : RunMoment) (event : Event) (over' : Option End) (result : Result Turn NoMemory) → NoLineToGive r.core given → chosen r.core event
    → Comes event r v over' result → IsTurn chosen given worker r v over' result
turn_comes chosen given worker r v event over' (Ok turn.Did) no_line is comes = (no_line, record { event = event; is_chosen = is; comes = comes })
turn_comes chosen given worker r v event over' (Ok turn.Ended) no_line is comes = (no_line, record { event = event; is_chosen = is; comes = comes })
turn_comes chosen given worker r v event over' (Ok turn.Mute) no_line is comes = (no_line, record { event = event; is_chosen = is; comes = comes })
turn_comes chosen given worker r v event over' (Ok (turn.Fault sector)) no_line is comes = (no_line, record { event = event; is_chosen = is; comes = comes })
turn_comes chosen given worker r v event over' (Err want) no_line is comes = (comes.0, comes.1, no_line)
turn_comes chosen given worker r v event over' (Ok (turn.Gate server line)) no_line is comes = absurd comes
turn_comes chosen given worker r v event over' (Ok turn.Idle) no_line is comes = absurd comes

pub turned_made : (chosen : Chosen) (before mid after : Stands) (outset : Outset) (given : List ℕ) (worker : ℕ) (event : Event) (over : Option End) (said : ℕ) (s : Outside) (over' : Option End) (said' : ℕ) (t : Outside) (result : Result Turn NoMemory)
    → over ≡ None → ((r : RunMoment) → before r → NoLineToGive r.core given) → Same before mid → ((r : RunMoment) → mid r → chosen r.core event) → Made mid after outset event said s over' said' t result
    → Turned chosen before after outset given worker over said s over' said' t result
turned_made chosen before mid after outset given worker event over said s over' said' t result none no_line same is made r kept =
    let left = made r (at_same before mid outset r None said s same (subst (λ (o : Option End). KeptAt before outset r o said s) none kept)) in
    record {
      moment = left.moment;
      is = left.is;
      run = left.run;
      made =
          subst (λ (o : Option End). IsMade chosen given worker r left.moment o over' result) (sym none)
          (turn_comes chosen given worker r left.moment event over' result (no_line r kept.stands_for) (is r (same r kept.stands_for)) left.comes);
    }

-- an event gives no line to the gate
given_by : (event : Event) (r v : RunMoment) (over' : Option End) (result : Result Turn NoMemory) (given : List ℕ) → Comes event r v over' result → given_after given result ≡ given
given_by event r v over' (Ok turn.Did) given comes = refl
given_by event r v over' (Ok turn.Ended) given comes = refl
given_by event r v over' (Ok turn.Mute) given comes = refl
given_by event r v over' (Ok (turn.Fault sector)) given comes = refl
given_by event r v over' (Err want) given comes = refl
given_by event r v over' (Ok (turn.Gate server line)) given comes = absurd comes
given_by event r v over' (Ok turn.Idle) given comes = absurd comes

pub given_made : (before mid after : Stands) (outset : Outset) (event : Event) (over : Option End) (said : ℕ) (s : Outside) (over' : Option End) (said' : ℕ) (t : Outside) (result : Result Turn NoMemory) (given : List ℕ)
    → over ≡ None → Same before mid → Made mid after outset event said s over' said' t result → Kept before outset over said s → given_after given result ≡ given
given_made before mid after outset event over said s over' said' t result given none same made kept =
    let left = made kept.moment (at_same before mid outset kept.moment None said s same (subst (λ (o : Option End). KeptAt before outset kept.moment o said s) none kept.is)) in
    given_by event kept.moment left.moment over' result given left.comes

-- ---- the gate

caused_on : (outset : Outset) (r : RunMoment) (s : Outside) (server : ℕ) (line : Line) (over : Option End) → CanEnter r.core server line → Caused over outset r s
    → Caused over outset (entered r line.number) s
caused_on outset r s server line None can c = c
caused_on outset r s server line (Some Ended) can c = c
caused_on outset r s server line (Some Mute) can c = c
caused_on outset r s server line (Some (Fault sector)) can c = (
  c.0,
  record {
    before = c.1.before;
    event = c.1.event;
    heard = c.1.heard;
    run = c.1.run;
    makes = c.1.makes;
    failed = c.1.failed;
    at = c.1.at;
    on = longer (next c.1.before c.1.event c.1.heard) r (entered r line.number) c.1.on (Enter server line can);
  },
)

same_fails : (over : Option End) (n m : ℕ) → n ≡ m + 0 → HostFails over m → HostFails over n
same_fails over n m sum fails = subst (λ k. HostFails over k) (omega (arith, sum)) fails

enters_to : (w w' : Stands) (outset : Outset) (over : Option End) (said : ℕ) (s : Outside) (r : RunMoment) (server : ℕ) (next : Line) → CanEnter r.core server next → w' (entered r next.number)
    → KeptAt w outset r over said s → KeptAt w' outset (entered r next.number) over said s
enters_to w w' outset over said s r server next can stands kept =
    let v = entered r next.number in
    let goes = steps outset r v (Enter server next can) s s [] kept.runs (sym (append-nil r.record_)) kept.runs.sectors (sym (told_none s.acts)) (fell_same s)
    (λ party. within_still (s.faults party) (s.faults party) (omega arith)) in
    record {
      runs = goes.runs;
      stands_for = stands;
      count = kept.count;
      cause = caused_on outset r s server next over can kept.cause;
      host = same_fails over (failed_calls (first_of outset) v goes.runs.run host_party) (failed_calls (first_of outset) r kept.runs.run host_party) (goes.calls host_party) kept.host;
    }

pub entered_one : (w w' : Stands) (outset : Outset) (given : List ℕ) (line : ℕ) (over : Option End) (said : ℕ) (s : Outside) (server : ℕ) → ((r : RunMoment) → w r → IsToEnter r.core given line server)
    → Enters w w' server → Entered w w' outset given line over said s
entered_one w w' outset given line over said s server is enters r kept =
    let at = is r kept.stands_for in
    let may = may_enter r.core server line at.1 in
    subst (λ n. EnteredTo w' outset given n r over said s) may.number
    (record {
      moment = entered r may.next.number;
      is = enters_to w w' outset over said s r server may.next may.can (enters r may.next kept.stands_for may.can) kept;
      run = Goes (Enter server may.next may.can) Stays;
      passed = inl (refl, (server, subst (λ n. IsToEnter r.core given n server) (sym may.number) at));
    })

pub entered_none : (w : Stands) (outset : Outset) (given : List ℕ) (line : ℕ) (over : Option End) (said : ℕ) (s : Outside) → ((r : RunMoment) → w r → (a : ℕ) → IsToEnter r.core given line a → ⊥)
    → Entered w w outset given line over said s
entered_none w outset given line over said s none r kept = record { moment = r; is = kept; run = Stays; passed = inr (refl, none r kept.stands_for) }

pub kept_entered : (w w' : Stands) (outset : Outset) (given : List ℕ) (line : ℕ) (over : Option End) (said : ℕ) (s : Outside) → Entered w w' outset given line over said s → Kept w outset over said s
    → Kept w' outset over said s
kept_entered w w' outset given line over said s entered kept = let left = entered kept.moment kept.is in record { moment = left.moment; is = left.is }

-- ---- the end

pub ran : (w : Stands) (outset : Outset) (over : Option End) (said : ℕ) (now : Outside) (result : Result Finish NoMemory) → Kept w outset over said now → Finished over said result
    → Ran outset.setting outset.outside now result
ran w outset over said now result kept finish = record {
  over = over;
  said = said;
  kept =
      record { moment = kept.moment; is = record { runs = kept.is.runs; stands_for = tt; count = kept.is.count; cause = kept.is.cause; host = kept.is.host } };
  finish = finish;
}
