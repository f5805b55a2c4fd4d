-- What an event leaves, by what it asked and how the outside answered.
use Rattle.std.proofs.Common.{◌≡◌, ◌⊎◌, inl, inr, ℕ, ◌+◌, ◌-◌, ◌^◌, ◌≤◌, ◌==◌, min, Bool, true, false, if◌then◌else◌, List, [], ◌∷◌, ◌++◌, length, Option, Some, None, Ok, Err, refl, sym, ap, ◌∙◌, subst, arith}
use Rattle.std.proofs.lemmas.Bool.{false≢true, eqb-true, eq-eqb}
use Rattle.sector_bytes.specs.SectorMaps.{value_at}
use Rattle.sector_bytes.specs.Sectors.{Sectors, SameSectors}
use Rattle.frang_outside.specs.declared.act.Act.{Act}
use Rattle.frang_outside.specs.declared.act.Act.TheVariants as act
use Rattle.frang_outside.specs.declared.act.Put.{Put}
use Rattle.frang_outside.specs.declared.act.Taken.TheVariants as taken
use Rattle.frang_outside.specs.declared.outside.Failed.{Failed}
use Rattle.frang_outside.specs.declared.outside.PutFault.TheVariants as put_fault
use Rattle.frang_outside.specs.declared.outside.SayFault.TheVariants as say_fault
use Rattle.frang_outside.specs.Disk.{written}
use Rattle.frang_outside.specs.Outside.{State as Outside, Follows, OneRose, GetOutcome, OldOrNew, PutOutcome, SayOutcome}
use Rattle.core_definitions.specs.Calls.{Call, NoCall, Get, MakePut, Say, acts_by, call_of, fails_by}
use Rattle.core_definitions.specs.Effects.{MayArrive, deeds_of, disk_after, disk_from, disk_with, put_of}
use Rattle.core_definitions.specs.Events.{Event, Arrive, Heard, Nothing, Got, GetFailed, Written, Late, PutFailed}
use Rattle.core_definitions.specs.Faults.{failing}
use Rattle.core_definitions.specs.Guards.{Can}
use Rattle.core_definitions.specs.Runs.{State as RunMoment, Event_, Makes, next, acts_of, saids_of}
use Rattle.core_laws.specs.Calls.{FailuresAreOfTheirCalls, RecordsHaveTheCalls}
use Rattle.hall_runs.specs.Outsets.{IsWithin, Outset, RunsTo, told_behind}
use Rattle.hall_runs.proofs.Runs.{StepsTo, one_of, saids_append, says_in, steps, told_none, told_one, within_none, within_rose, within_still}
use Rattle.hall_runs.proofs.Views.{IsArrival, IsGet, IsQuiet, get_asked, nothing_asked, put_asked, say_asked, viewed}

-- the laws on calls
pub record CallLaws : Type 0 where
  pub recorded : RecordsHaveTheCalls
  pub failed : FailuresAreOfTheirCalls

-- an event that asked this was made by what was heard
pub record EventTo (outset : Outset) (r : RunMoment) (event : Event) (heard : Heard) (s t : Outside) (kept : RunsTo outset r s) (call : Call) : Type 0 where
  pub makes : Makes r event heard
  pub steps : StepsTo outset r (next r event heard) s t kept (fails_by call heard)
  pub count : length (saids_of (next r event heard).record_) ≡ length (saids_of r.record_) + says_in (acts_by call heard)
  pub failed : failing r.core event heard ≡ fails_by call heard

makes_so : (laws : CallLaws) (outset : Outset) (r : RunMoment) (event : Event) (heard : Heard) (s t : Outside) (kept : RunsTo outset r s) (call : Call) → Makes r event heard → call_of r.core event ≡ call
    → SameSectors t.sectors (disk_after r.core r.disk event heard) → t.acts ≡ told_behind s.acts (acts_by call heard) → Follows s t
    → ((party : ℕ) → IsWithin (s.faults party) (one_of party (fails_by call heard)) (t.faults party)) → EventTo outset r event heard s t kept call
makes_so laws outset r event heard s t kept call makes asks sectors acts fell within =
    let recorded : acts_of (deeds_of r.core event heard) ≡ acts_by call heard = laws.recorded r.core event heard ∙ ap (λ x. acts_by x heard) asks in
    let failed : failing r.core event heard ≡ fails_by call heard = laws.failed r.core r.disk event heard makes.hears ∙ ap (λ x. fails_by x heard) asks in
    record {
      makes = makes;
      steps =
          subst (λ f. StepsTo outset r (next r event heard) s t kept f) failed
          (steps outset r (next r event heard) (Event_ event heard makes) s t (deeds_of r.core event heard) kept refl sectors (acts ∙ ap (told_behind s.acts) (sym recorded)) fell
          (λ party. subst (λ f. IsWithin (s.faults party) (one_of party f) (t.faults party)) (sym failed) (within party)));
      count = saids_append r.record_ (deeds_of r.core event heard) ∙ ap (λ a. length (saids_of r.record_) + says_in a) recorded;
      failed = failed;
    }

-- ---- nothing, and a line

pub quiet : (laws : CallLaws) (outset : Outset) (r : RunMoment) (s : Outside) (event : Event) (kept : RunsTo outset r s) → Follows s s → Can r.core event → call_of r.core event ≡ NoCall → EventTo outset r event Nothing s s kept NoCall
quiet laws outset r s event kept fell can asks =
    let is = nothing_asked r.core event (viewed r.core event can) asks in
    makes_so laws outset r event Nothing s s kept NoCall (record { can = can; hears = is.hears r.disk }) asks
    (λ sector. kept.sectors sector ∙ sym (ap (λ d. d sector) (is.disk_is r.disk)))
    (sym (told_none s.acts)) fell (λ party. within_none (s.faults party))

pub said : (laws : CallLaws) (outset : Outset) (r : RunMoment) (s t : Outside) (event : Event) (text : List ℕ) (kept : RunsTo outset r s) → Can r.core event → call_of r.core event ≡ Say text
    → SameSectors t.sectors s.sectors → Follows s t → SayOutcome s t text (Ok tt) → EventTo outset r event Nothing s t kept (Say text)
said laws outset r s t event text kept can asks same fell outcome =
    let is = say_asked r.core event text (viewed r.core event can) asks in
    makes_so laws outset r event Nothing s t kept (Say text) (record { can = can; hears = is.hears r.disk }) asks
    (λ sector. same sector ∙ kept.sectors sector ∙ sym (ap (λ d. d sector) (is.disk_is r.disk)))
    (outcome.0 ∙ told_one s.acts (act.Said text)) fell (λ party. within_still (s.faults party) (t.faults party) (fell.faults party))

-- ---- a get

pub got : (laws : CallLaws) (outset : Outset) (r : RunMoment) (s t : Outside) (event : Event) (party sector : ℕ) (block : List ℕ) (kept : RunsTo outset r s) → Can r.core event → call_of r.core event ≡ Get party sector
    → SameSectors t.sectors s.sectors → t.acts ≡ s.acts → Follows s t → block ≡ s.sectors sector → EventTo outset r event (Got block) s t kept (Get party sector)
got laws outset r s t event party sector block kept can asks same acts fell block_is =
    let is = get_asked r.core event party sector (viewed r.core event can) asks in
    makes_so laws outset r event (Got block) s t kept (Get party sector) (record { can = can; hears = is.hears r.disk (Got block) (block_is ∙ kept.sectors sector) }) asks
    (λ x. same x ∙ kept.sectors x ∙ sym (ap (λ d. d x) (is.disk_is r.disk (Got block))))
    (acts ∙ sym (told_none s.acts)) fell (λ p. within_still (s.faults p) (t.faults p) (fell.faults p))

nat_apart : (a b : ℕ) → (a == b) ≡ false → a ≡ b → ⊥
nat_apart a b e is = false≢true (sym e ∙ eq-eqb a b is)

-- what a count makes of its own party's failed call, and of another's
one_rose : (s t : Outside) (party p : ℕ) → Follows s t → OneRose s t party → (b : Bool) → (party == p) ≡ b → IsWithin (s.faults p) (if b then 1 else 0) (t.faults p)
one_rose s t party p fell rose true e =
    let same : party ≡ p = eqb-true party p e in subst (λ q. IsWithin (s.faults q) 1 (t.faults q)) same (within_rose (s.faults party) (t.faults party) rose.own)
one_rose s t party p fell rose false e = within_still (s.faults p) (t.faults p) (fell.faults p)

rises : (s t : Outside) (party p : ℕ) → Follows s t → OneRose s t party → IsWithin (s.faults p) (one_of p (Some party)) (t.faults p)
rises s t party p fell rose = one_rose s t party p fell rose (party == p) refl

pub get_failed : (laws : CallLaws) (outset : Outset) (r : RunMoment) (s t : Outside) (event : Event) (party sector : ℕ) (kept : RunsTo outset r s) → Can r.core event → call_of r.core event ≡ Get party sector
    → SameSectors t.sectors s.sectors → t.acts ≡ s.acts → Follows s t → OneRose s t party → EventTo outset r event GetFailed s t kept (Get party sector)
get_failed laws outset r s t event party sector kept can asks same acts fell rose =
    let is = get_asked r.core event party sector (viewed r.core event can) asks in
    makes_so laws outset r event GetFailed s t kept (Get party sector) (record { can = can; hears = is.hears r.disk GetFailed tt }) asks
    (λ x. same x ∙ kept.sectors x ∙ sym (ap (λ d. d x) (is.disk_is r.disk GetFailed)))
    (acts ∙ sym (told_none s.acts)) fell (λ p. rises s t party p fell rose)

-- ---- a write arrives

written_same : (a b : Sectors) (sector : ℕ) (block : List ℕ) → SameSectors a b → SameSectors (written a sector block) (written b sector block)
written_same a b sector block same x = go (sector == x)
  where
    go : (t : Bool) → (if t then block else a x) ≡ (if t then block else b x)
    go true = refl
    go false = same x

-- what may be heard of it, and the disk then
arrival_hears : (r : RunMoment) (ticket : ℕ) (put : Put) (heard : Heard) (is : IsArrival r.core (Arrive ticket) ticket put) → MayArrive r.core.now (Some is.flight) heard → MayArrive r.core.now (value_at r.core.flights ticket) heard
arrival_hears r ticket put heard is may = subst (λ f. MayArrive r.core.now f heard) (sym is.at) may

arrival_writes : (r : RunMoment) (ticket : ℕ) (put : Put) (heard : Heard) (is : IsArrival r.core (Arrive ticket) ticket put) → disk_after r.core r.disk (Arrive ticket) heard ≡ disk_with r.disk is.flight heard
arrival_writes r ticket put heard is = ap (disk_from r.disk heard) is.at

arrival : (r : RunMoment) (ticket : ℕ) (put : Put) → Can r.core (Arrive ticket) → call_of r.core (Arrive ticket) ≡ MakePut ticket put → IsArrival r.core (Arrive ticket) ticket put
arrival r ticket put can asks = put_asked r.core (Arrive ticket) ticket put (viewed r.core (Arrive ticket) can) asks

pub arrives_written : (laws : CallLaws) (outset : Outset) (r : RunMoment) (s t : Outside) (ticket : ℕ) (put : Put) (kept : RunsTo outset r s) → Can r.core (Arrive ticket) → call_of r.core (Arrive ticket) ≡ MakePut ticket put
    → Follows s t → PutOutcome s t put (Ok taken.Written) → EventTo outset r (Arrive ticket) Written s t kept (MakePut ticket put)
arrives_written laws outset r s t ticket put kept can asks fell outcome =
    let is = arrival r ticket put can asks in
    let own : PutOutcome s t (put_of r.core.now is.flight) (Ok taken.Written) = subst (λ p. PutOutcome s t p (Ok taken.Written)) is.put_is outcome in
    makes_so laws outset r (Arrive ticket) Written s t kept (MakePut ticket put) (record { can = can; hears = arrival_hears r ticket put Written is own.0 }) asks
    (λ x. own.1 x ∙ written_same s.sectors r.disk is.flight.sector is.flight.block kept.sectors x ∙ sym (ap (λ d. d x) (arrival_writes r ticket put Written is)))
    (outcome.2 ∙ told_one s.acts (act.Put put taken.Written)) fell (λ p. within_still (s.faults p) (t.faults p) (fell.faults p))

pub arrives_late : (laws : CallLaws) (outset : Outset) (r : RunMoment) (s t : Outside) (ticket : ℕ) (put : Put) (kept : RunsTo outset r s) → Can r.core (Arrive ticket) → call_of r.core (Arrive ticket) ≡ MakePut ticket put
    → Follows s t → PutOutcome s t put (Ok taken.Late) → EventTo outset r (Arrive ticket) Late s t kept (MakePut ticket put)
arrives_late laws outset r s t ticket put kept can asks fell outcome =
    let is = arrival r ticket put can asks in
    let own : PutOutcome s t (put_of r.core.now is.flight) (Ok taken.Late) = subst (λ p. PutOutcome s t p (Ok taken.Late)) is.put_is outcome in
    makes_so laws outset r (Arrive ticket) Late s t kept (MakePut ticket put) (record { can = can; hears = arrival_hears r ticket put Late is own.0 }) asks
    (λ x. own.1 x ∙ kept.sectors x ∙ sym (ap (λ d. d x) (arrival_writes r ticket put Late is)))
    (outcome.2 ∙ told_one s.acts (act.Put put taken.Late)) fell (λ p. within_still (s.faults p) (t.faults p) (fell.faults p))

-- a failed one left the old sector or the new one
pub record FailsTo (outset : Outset) (r : RunMoment) (s t : Outside) (ticket : ℕ) (put : Put) (kept : RunsTo outset r s) : Type 0 where
  pub new : Bool
  pub goes : EventTo outset r (Arrive ticket) (PutFailed new) s t kept (MakePut ticket put)

left_old : (a b : Sectors) (put : Put) (disk : Sectors) → OldOrNew a b put → b put.sector.0 ≡ a put.sector.0 → SameSectors a disk → SameSectors b disk
left_old a b put disk left own same x = go (put.sector.0 == x) refl
  where
    go : (t : Bool) → (put.sector.0 == x) ≡ t → b x ≡ disk x
    go true e = let at : put.sector.0 ≡ x = eqb-true put.sector.0 x e in subst (λ y. b y ≡ disk y) at (own ∙ same put.sector.0)
    go false e = left.others x (λ is. nat_apart put.sector.0 x e (sym is)) ∙ same x

left_new : (a b : Sectors) (put : Put) (disk : Sectors) → OldOrNew a b put → b put.sector.0 ≡ put.bytes → SameSectors a disk → SameSectors b (written disk put.sector.0 put.bytes)
left_new a b put disk left own same x = go (put.sector.0 == x) refl
  where
    go : (t : Bool) → (put.sector.0 == x) ≡ t → b x ≡ (if t then put.bytes else disk x)
    go true e = let at : put.sector.0 ≡ x = eqb-true put.sector.0 x e in subst (λ y. b y ≡ put.bytes) at own
    go false e = left.others x (λ is. nat_apart put.sector.0 x e (sym is)) ∙ same x

pub arrives_failed : (laws : CallLaws) (outset : Outset) (r : RunMoment) (s t : Outside) (ticket : ℕ) (put : Put) (kept : RunsTo outset r s) → Can r.core (Arrive ticket) → call_of r.core (Arrive ticket) ≡ MakePut ticket put
    → Follows s t → PutOutcome s t put (Err put_fault.Failed) → FailsTo outset r s t ticket put kept
arrives_failed laws outset r s t ticket put kept can asks fell outcome = go own.1.own
  where
    is : IsArrival r.core (Arrive ticket) ticket put
    is = arrival r ticket put can asks

    made : Put
    made = put_of r.core.now is.flight

    own : PutOutcome s t made (Err put_fault.Failed)
    own = subst (λ p. PutOutcome s t p (Err put_fault.Failed)) is.put_is outcome

    fails : (new : Bool) → SameSectors t.sectors (disk_with r.disk is.flight (PutFailed new)) → FailsTo outset r s t ticket put kept
    fails new sectors = record {
      new = new;
      goes =
          makes_so laws outset r (Arrive ticket) (PutFailed new) s t kept (MakePut ticket put) (record { can = can; hears = arrival_hears r ticket put (PutFailed new) is own.0 }) asks
          (λ x. sectors x ∙ sym (ap (λ d. d x) (arrival_writes r ticket put (PutFailed new) is)))
          (outcome.2 ∙ sym (told_none s.acts)) fell (λ p. rises s t put.server.0 p fell outcome.3);
    }

    go : (t.sectors made.sector.0 ≡ s.sectors made.sector.0) ⊎ (t.sectors made.sector.0 ≡ made.bytes) → FailsTo outset r s t ticket put kept
    go (inl old) = fails false (left_old s.sectors t.sectors made r.disk own.1 old kept.sectors)
    go (inr new) = fails true (left_new s.sectors t.sectors made r.disk own.1 new kept.sectors)
