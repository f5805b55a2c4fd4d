-- What a machine that counts promises, from what the machine in it does.
use Rattle.std.proofs.Common.{◌≡◌, ◌∙◌, ℕ, ◌-◌, ◌^◌, ◌<◌, true, ◌&&◌, nat_lt, List, Option, Some, None, Result, Ok, Err, refl, sym, ap, subst, arith}
use Rattle.std.specs.Prelude.{IfOk, IfSome}
use Rattle.std.proofs.lemmas.Bool.{and_parts}
use Rattle.std.proofs.lemmas.Bool.Decides.{nat_tests}
use Rattle.frang_base.specs.declared.fault.NoMemory.{NoMemory}
use Rattle.frang_outside.specs.declared.act.Put.{Put}
use Rattle.frang_outside.specs.Outside.{State as Outside}
use Rattle.petal_disk.specs.declared.ticket.Arrived.{Arrived}
use Rattle.petal_disk.specs.declared.ticket.Arrived.TheVariants as arrived
use Rattle.frang_board.specs.declared.figures.Figures.{Figures}
use Rattle.core_definitions.specs.Events.{Event, Arrive, Written, Late, PutFailed}
use Rattle.core_definitions.specs.Runs.{State as RunMoment}
use Rattle.hall_runs.specs.declared.event.Call.{Call}
use Rattle.hall_runs.specs.declared.event.Event.{Event as Named}
use Rattle.hall_runs.specs.declared.event.Heard.{Heard as Told}
use Rattle.hall_runs.specs.Asking.{event_of, heard_of}
use Rattle.frang_hall.specs.Machines.{Arriving, AsksSo, Drawn, Enters, IsReady, LandsBy, Listed, NoneListed, Same, Stands, Stepping}
use Rattle.watched_hall.specs.Counting.{Counts, HasRoom, figures_after, figures_in, has_room}
use Rattle.watched_hall.proofs.Events.{arrival_counted, event_counted}

below : (a b : ℕ) → nat_lt a b ≡ true → a < b
below a b e = grind (arith, nat_tests, e)

pub room : (f : Figures) → has_room f ≡ true → HasRoom f
room f e =
    let third = and_parts (nat_lt f.said (2 ^ 64 - 1) && nat_lt f.answered (2 ^ 64 - 1) && nat_lt f.dead (2 ^ 64 - 1)) (nat_lt f.recovered (2 ^ 64 - 1)) e in
    let second = and_parts (nat_lt f.said (2 ^ 64 - 1) && nat_lt f.answered (2 ^ 64 - 1)) (nat_lt f.dead (2 ^ 64 - 1)) third.0 in
    let first = and_parts (nat_lt f.said (2 ^ 64 - 1)) (nat_lt f.answered (2 ^ 64 - 1)) second.0 in
    (below f.said (2 ^ 64 - 1) first.0, below f.answered (2 ^ 64 - 1) first.1, below f.dead (2 ^ 64 - 1) second.1, below f.recovered (2 ^ 64 - 1) third.1)

module _ (before after : Stands) (figures : Figures) where
  pub counted_same : Same before after → Same (Counts before figures) (Counts after figures)
  counted_same same = λ r at. (same r at.0, at.1)

  pub counted_enters : (server : ℕ) → Enters before after server → Enters (Counts before figures) (Counts after figures) server
  counted_enters server enters = λ r line at can. (enters r line at.0 can, at.1)

  pub counted_steps : (event : Named) (heard : Told) → Stepping before after event heard → Stepping (Counts before figures) (Counts after (figures_after figures event)) event heard
  counted_steps event heard steps = λ r at makes.
      (steps r at.0 makes, ap (λ f. figures_after f event) at.1 ∙ sym (event_counted r.core event (heard_of heard) r.record_ makes.can))

  lands : (r : RunMoment) (ticket : ℕ) (answer : Arrived) → figures ≡ figures_in r.record_ → LandsBy after r ticket answer → LandsBy (Counts after figures) r ticket answer
  lands r ticket arrived.Written is by = λ makes. (by makes, is ∙ sym (arrival_counted r.core ticket Written r.record_))
  lands r ticket (arrived.Late stamp now) is by = λ makes. (by makes, is ∙ sym (arrival_counted r.core ticket Late r.record_))
  lands r ticket arrived.Failed is by = λ new makes. (by new makes, is ∙ sym (arrival_counted r.core ticket (PutFailed new) r.record_))
  lands r ticket arrived.NoMemory is by = (by, is)

  pub counted_arrives : (ticket : ℕ) (s t : Outside) (answer : Arrived) → Arriving before after ticket s t answer → Arriving (Counts before figures) (Counts after figures) ticket s t answer
  counted_arrives ticket s t answer arrives = λ r put at asks. let both = arrives r put at.0 asks in (both.0, lands r ticket answer at.1 both.1)

module _ (stands : Stands) (figures : Figures) where
  pub counted_some : (result : Result (Option Named) NoMemory) → IfOk result (λ found. IfSome found (Listed stands)) → IfOk result (λ found. IfSome found (Listed (Counts stands figures)))
  counted_some (Ok None) h = tt
  counted_some (Ok (Some event)) h = λ r at. h r at.0
  counted_some (Err want) h = tt

  pub counted_drawn : (draw : ℕ) (result : Result (Option Named) NoMemory) → IfOk result (λ found. IfSome found (Drawn stands draw)) → IfOk result (λ found. IfSome found (Drawn (Counts stands figures) draw))
  counted_drawn draw (Ok None) h = tt
  counted_drawn draw (Ok (Some event)) h = λ r at. h r at.0
  counted_drawn draw (Err want) h = tt

  pub counted_none : NoneListed stands → NoneListed (Counts stands figures)
  counted_none none = λ r at. none r at.0

  pub counted_ready : (room : Event → Type 0) (event : Named) (result : Result Call NoMemory) → HasRoom figures → IfOk result (IsReady stands room event)
      → IfOk result (IsReady (Counts stands figures) (λ e. room e × HasRoom figures) event)
  counted_ready room event (Ok call) own h = (λ r at. h.0 r at.0, (h.1, own))
  counted_ready room event (Err want) own h = tt
