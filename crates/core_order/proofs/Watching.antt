-- What the lines tell of recoveries against the core: who last began to recover is who has writes in flight for it, and who is barred is out. Step by step.
use Rattle.std.proofs.Common.{◌≡◌, ℕ, ◌<◌, ◌≤◌, ◌⊎◌, inl, inr, Bool, true, false, not, ◌&&◌, ◌||◌, ◌==◌, if◌then◌else◌, IsTrue, List, [], ◌∷◌, Option, Some, None, nat_lt, refl, sym, ap, ◌∙◌, subst, arith}
use Rattle.std.proofs.lemmas.Bool.{and_parts, both_ways, cases_eq, eq-eqb, eqb-true, false≢true, ltb-true}
use Rattle.std.proofs.lemmas.Option.{none-some, same_Some}
use Rattle.frang_base.specs.declared.said.Said.TheVariants as said
use Rattle.disk_definitions.proofs.Listed.{Among}
use Rattle.tree_definitions.specs.Touched.{is_mounted}
use Rattle.core_definitions.specs.Cores.{stage, writes}
use Rattle.sector_bytes.specs.SectorMaps.{value_at}
use Rattle.sector_bytes.specs.Sectors.{Sectors}
use Rattle.frang_base.specs.declared.script.Line.{Line}
use Rattle.lock_definitions.specs.declared.claim.LogHold.{LogHold}
use Rattle.lock_definitions.specs.Locks.{log_hold}
use Rattle.core_definitions.specs.Effects.{Made, Says}
use Rattle.core_definitions.specs.EndGuards.{CanRecover, is_hold_over}
use Rattle.core_definitions.specs.Flights.{Flight, OfLog, OfRecovery}
use Rattle.core_definitions.specs.LineGuards.{is_server}
use Rattle.core_definitions.specs.Recoveries.{Recovery, recovery_of}
use Rattle.core_definitions.specs.Runs.{State, Step, Run, first_state}
use Rattle.core_definitions.specs.Servers.{Server, is_dead}
use Rattle.core_definitions.specs.Settings.{Setting, setting_of}
use Rattle.core_definitions.specs.WriteEffects.{flight_of}
use Rattle.core_definitions.specs.WriteGuards.{CanIssue, is_worker}
use Rattle.core_definitions.specs.Writes.{Write}
use Rattle.core_facts.specs.Rescues.{IsByHolder}
use Rattle.core_facts.specs.Stamps.{StampsAreWithinLeases}
use Rattle.core_facts.proofs.Phases.{none_recovers, off_dead_not, recover_waits, taker_works}
use Rattle.core_facts.proofs.Rescuing.{by_holders}
use Rattle.core_facts.proofs.Taking.{on_the_dead, recoverers_hold}
use Rattle.core_facts.proofs.Turns.{step_turn, work_of}
use Rattle.core_facts.proofs.WriteKinds.{NextOfLog, Places, Rescues, Wanted, wanted_is}
use Rattle.core_journals.specs.Reports.{IsAtWork}
use Rattle.core_journals.proofs.Changing.{Change, Kept, Read, Taken, Written_, turn_recovery}
use Rattle.core_journals.proofs.FlightChanges.{Flew, FlightFrom, New, is_rescue, turn_flights, turn_now}
use Rattle.core_laws.specs.Leases.{LeasesEnd}
use Rattle.core_laws.proofs.Along.{longer}
use Rattle.core_laws.proofs.FlightLists.{in_flights}
use Rattle.core_laws.proofs.Guarding.{Of4}
use Rattle.core_laws.proofs.Membership.{in_contains}
use Rattle.core_laws.proofs.Memory.{dead_of}
use Rattle.core_laws.proofs.Resting.{good_of_run}
use Rattle.headline_definitions.specs.Ordered.{barred_after, taker_after}
use Rattle.headline_definitions.specs.Runs.{witnessed_at}
use Rattle.headline_definitions.specs.Witnessed.{Witnessed, Acted, Broke}
use Rattle.core_order.proofs.Saying.{recovers_from}
use Rattle.core_order.proofs.Seeing.{Answers, Begins, Ends, Faded, Failed, IsQuiet, Out, Puts, Quiet, Sees, Silent, Told_, step_sees}

-- ---- what the lines tell

abbrev pub taker_by : (ℕ → Option ℕ) → Witnessed → ℕ → Option ℕ
taker_by taker (Acted (Says line)) = taker_after taker line
taker_by taker (Acted (Made put taken)) = taker
taker_by taker (Broke sector block) = taker

abbrev pub barred_by : (ℕ → Bool) → Witnessed → ℕ → Bool
barred_by barred (Acted (Says line)) = barred_after barred line
barred_by barred (Acted (Made put taken)) = barred
barred_by barred (Broke sector block) = barred

abbrev pub taker_behind : (ℕ → Option ℕ) → List Witnessed → ℕ → Option ℕ
taker_behind taker [] = taker
taker_behind taker (one ∷ more) = taker_behind (taker_by taker one) more

abbrev pub barred_behind : (ℕ → Bool) → List Witnessed → ℕ → Bool
barred_behind barred [] = barred
barred_behind barred (one ∷ more) = barred_behind (barred_by barred one) more

-- what is quiet tells nothing
quiet_taker : (taker : ℕ → Option ℕ) (ws : List Witnessed) (d : ℕ) → IsQuiet ws → taker_behind taker ws d ≡ taker d
quiet_taker taker ws d Silent = refl
quiet_taker taker ws d (Told_ (said.Answer a number r) e) = refl
quiet_taker taker ws d (Told_ (said.Dead a) e) = refl
quiet_taker taker ws d (Told_ (said.Recovering a by) e) = absurd (false≢true e)
quiet_taker taker ws d (Told_ (said.Recovered a kept) e) = absurd (false≢true e)
quiet_taker taker ws d (Told_ (said.Renewed a) e) = refl
quiet_taker taker ws d (Told_ (said.Node path kind size links) e) = refl
quiet_taker taker ws d (Told_ (said.Redo op) e) = refl
quiet_taker taker ws d (Told_ (said.Backup line) e) = refl
quiet_taker taker ws d (Told_ (said.Locks line) e) = refl
quiet_taker taker ws d (Told_ (said.Shown text) e) = refl
quiet_taker taker ws d (Told_ said.End e) = refl
quiet_taker taker ws d (Faded put) = refl
quiet_taker taker ws d (Failed sector block) = refl

quiet_barred : (barred : ℕ → Bool) (ws : List Witnessed) (a : ℕ) → IsQuiet ws → barred_behind barred ws a ≡ barred a
quiet_barred barred ws a Silent = refl
quiet_barred barred ws a (Told_ (said.Answer b number r) e) = absurd (false≢true e)
quiet_barred barred ws a (Told_ (said.Dead b) e) = refl
quiet_barred barred ws a (Told_ (said.Recovering b by) e) = absurd (false≢true e)
quiet_barred barred ws a (Told_ (said.Recovered b kept) e) = refl
quiet_barred barred ws a (Told_ (said.Renewed b) e) = refl
quiet_barred barred ws a (Told_ (said.Node path kind size links) e) = refl
quiet_barred barred ws a (Told_ (said.Redo op) e) = refl
quiet_barred barred ws a (Told_ (said.Backup line) e) = refl
quiet_barred barred ws a (Told_ (said.Locks line) e) = refl
quiet_barred barred ws a (Told_ (said.Shown text) e) = refl
quiet_barred barred ws a (Told_ said.End e) = refl
quiet_barred barred ws a (Faded put) = refl
quiet_barred barred ws a (Failed sector block) = refl

-- ---- the core

out_later : (now later : ℕ) (server : Server) → now ≤ later → Out now server → Out later server
out_later now later server h (inl off) = inl off
out_later now later server h (inr dead) = inr (dead.0, above server.expiry dead.1)
  where
    above : (n : ℕ) → n < now → n < later
    above n l = omega (arith, h, l)

-- what the lines tell of a moment: who recovers is who last began it, and so is who has a write in flight for it that may still come in time; a write of a log is on its server's own
-- behalf; and who is barred is out
pub record IsTold (s : State) (taker : ℕ → Option ℕ) (barred : ℕ → Bool) : Type 0 where
  pub works : (by dead : ℕ) → IsAtWork s by dead → taker dead ≡ Some by
  pub rescues : (one : ℕ × Flight) → Among one s.core.flights → one.1.purpose ≡ OfRecovery → s.core.now ≤ one.1.stamp → taker one.1.behalf ≡ Some one.1.server
  pub logs : (one : ℕ × Flight) → Among one s.core.flights → (number : ℕ) → one.1.purpose ≡ OfLog number → one.1.behalf ≡ one.1.server
  pub bars : (a : ℕ) → barred a ≡ true → Out s.core.now (s.core.servers a) × IsTrue (is_server a)

by_taken : (b : Bool) (P : Option ℕ → Type 0) (x y : Option ℕ) → (b ≡ true → P x) → (b ≡ false → P y) → P (if b then x else y)
by_taken true P x y t f = t refl
by_taken false P x y t f = f refl

module _ (ends : LeasesEnd) (within : StampsAreWithinLeases) (script : List Line) (segments number : ℕ) (disk : Sectors) where
  abbrev pub first : State
  first = first_state (setting_of script segments number) disk

  abbrev setting : Setting
  setting = setting_of script segments number

  module _ (s v : State) (reached : Run first s) (step : Step s v) (taker : ℕ → Option ℕ) (barred : ℕ → Bool) (told : IsTold s taker barred) where
    abbrev ws : List Witnessed
    ws = witnessed_at s v step

    sees : Sees s v.core ws
    sees = step_sees s (good_of_run setting disk s reached) v step

    later : Run first v
    later = longer first s v reached step

    -- ---- who recovers

    -- one that was at work beside this step
    was_at_work : (by d : ℕ) (xs : List Witnessed) → Sees s v.core xs → IsAtWork s by d → IsAtWork v by d → taker_behind taker xs d ≡ Some by
    was_at_work by d xs (Quiet quiet all) old new = quiet_taker taker xs d quiet ∙ told.works by d old
    was_at_work by d xs (Answers a line r all) old new = told.works by d old
    was_at_work by d xs (Begins other from can is b) old new = absurd (none_recovers s.core other from can by old.recovers.recovery.dead old.works (ap dead_of old.recovers.is))
    was_at_work by d xs (Ends ender recovery can has end) old new =
        let same : by ≡ ender = (good_of_run setting disk s reached).one by ender old.recovers.recovery.dead recovery.dead old.works can.can.who (ap dead_of old.recovers.is) (ap dead_of has) in
        absurd (none-some new.recovers.recovery (sym (ap (λ n. (v.core.servers n).recovery) same ∙ end.gone) ∙ new.recovers.is))
    was_at_work by d xs (Puts ticket flight going e early all) old new = told.works by d old

    -- one that begins
    begins_at_work : (by d : ℕ) (xs : List Witnessed) → Sees s v.core xs → IsAtWork v by d → (s.core.servers by).recovery ≡ None → taker_behind taker xs d ≡ Some by
    begins_at_work by d xs (Quiet quiet all) new none = absurd (none-some new.recovers.recovery (sym ((all by).idle none) ∙ new.recovers.is))
    begins_at_work by d xs (Answers a line r all) new none = absurd (none-some new.recovers.recovery (sym (all.idle by none) ∙ new.recovers.is))
    begins_at_work by d xs (Begins other from can is b) new none = go (cases_eq by from)
      where
        go : (by ≡ from) ⊎ (by ≡ from → ⊥) → (if other == d then Some from else taker d) ≡ Some by
        go (inr n) = absurd (none-some new.recovers.recovery (sym (b.others by n none) ∙ new.recovers.is))
        go (inl same) =
            let recovery_is : recovery_of other ≡ new.recovers.recovery = same_Some (recovery_of other) new.recovers.recovery (sym b.own ∙ ap (λ n. (v.core.servers n).recovery) (sym same) ∙ new.recovers.is) in
            let is_d : other ≡ d = ap (λ (x : Recovery). x.dead) recovery_is ∙ new.recovers.of in
            ap (λ t. if t then Some from else taker d) (eq-eqb other d is_d) ∙ ap (λ n. Some n) (sym same)
    begins_at_work by d xs (Ends ender recovery can has end) new none = absurd (none-some new.recovers.recovery (sym ((end.all by).idle none) ∙ new.recovers.is))
    begins_at_work by d xs (Puts ticket flight going e early all) new none = absurd (none-some new.recovers.recovery (sym ((all by).idle none) ∙ new.recovers.is))

    works_on : (by d : ℕ) → IsAtWork v by d → taker_behind taker ws d ≡ Some by
    works_on by d at = go (turn_recovery s (work_of v) (step_turn s v step) (good_of_run setting disk s reached) by at.works at.recovers.recovery at.recovers.is)
      where
        before : (old : Recovery) → IsTrue (is_worker s.core by) → (s.core.servers by).recovery ≡ Some old → old.dead ≡ at.recovers.recovery.dead → taker_behind taker ws d ≡ Some by
        before old who has same = was_at_work by d ws sees (recovers_from s by d old who has (same ∙ at.recovers.of)) at

        idle : (can : CanRecover s.core at.recovers.recovery.dead by) → (o : Option Recovery) → (s.core.servers by).recovery ≡ o → o ≡ None
        idle can None e = refl
        idle can (Some old) e = absurd (none_recovers s.core at.recovers.recovery.dead by can by old.dead (taker_works s.core at.recovers.recovery.dead by can) (ap dead_of e))

        go : Change s v.disk by at.recovers.recovery → taker_behind taker ws d ≡ Some by
        go (Kept old who has same slots acked) = before old who has same
        go (Read old slot block who has wants got is) = before old who has (ap (λ (x : Recovery). x.dead) is)
        go (Written_ old ticket flight who has e by_ purpose present early wrote is) = before old who has (ap (λ (x : Recovery). x.dead) is)
        go (Taken can is) = begins_at_work by d ws sees at (idle can (s.core.servers by).recovery refl)

    -- ---- writes in flight for a recovery

    module _ (one : ℕ × Flight) (there : Among one v.core.flights) (of : one.1.purpose ≡ OfRecovery) (early : v.core.now ≤ one.1.stamp) where
      holder : IsByHolder v.core one.1
      holder = by_holders ends script segments number disk v later one (in_contains v.core.flights one there) of early

      -- who had last begun has the log still, unless a recovery begins or ends beside it
      kept_taker : (xs : List Witnessed) → Sees s v.core xs → taker one.1.behalf ≡ Some one.1.server → taker_behind taker xs one.1.behalf ≡ Some one.1.server
      kept_taker xs (Quiet quiet all) was = quiet_taker taker xs one.1.behalf quiet ∙ was
      kept_taker xs (Answers a line r all) was = was
      kept_taker xs (Puts ticket flight going e early all) was = was
      kept_taker xs (Begins other from can is b) was = by_taken (other == one.1.behalf) (λ o. o ≡ Some one.1.server) (Some from) (taker one.1.behalf) here (λ e. was)
        where
          here : (other == one.1.behalf) ≡ true → Some from ≡ Some one.1.server
          here e =
              let held = recoverers_hold setting disk v later from (recovery_of other) b.works b.own in
              let same = same_Some held.0 holder.hold (sym held.1 ∙ ap (λ d. log_hold_of d) (eqb-true other one.1.behalf e) ∙ holder.taken) in
              ap (λ n. Some n) (sym held.2 ∙ ap (λ h. h.by.0) same ∙ holder.by)
            where
              log_hold_of : ℕ → Option LogHold
              log_hold_of d = log_hold v.core.locks d
      kept_taker xs (Ends ender recovery can has end) was = by_taken (recovery.dead == one.1.behalf) (λ o. o ≡ Some one.1.server) None (taker one.1.behalf) (λ e. absurd (gone e)) (λ e. was)
        where
          gone : (recovery.dead == one.1.behalf) ≡ true → ⊥
          gone e =
              both_ways (is_dead (v.core.servers recovery.dead).phase) (off_dead_not (v.core.servers recovery.dead).phase end.off)
              (subst (λ d. IsTrue (is_dead (v.core.servers d).phase)) (sym (eqb-true recovery.dead one.1.behalf e)) (on_the_dead setting disk v later one.1.behalf holder.hold holder.taken))

      -- one that is issued is of a recovery at work
      issued_taker : (a sector : ℕ) (write : Write) → CanIssue s.core a sector → value_at (writes s.core a) sector ≡ Some write → one.1 ≡ flight_of s.core a sector write → taker one.1.behalf ≡ Some one.1.server
      issued_taker a sector write can e is =
          subst (λ (f : Flight). taker f.behalf ≡ Some f.server) (sym is)
          (go (wanted_is s.core.setting s.core.locks a (s.core.servers a) (stage s.core a) sector write e))
        where
          kind : write.purpose ≡ OfRecovery
          kind = ap (λ (f : Flight). f.purpose) (sym is) ∙ of

          go : Wanted s.core.setting.logs s.core.setting.segments a (s.core.servers a) sector write → taker write.behalf ≡ Some a
          go (Rescues recovery block has among w) =
              ap taker (ap (λ (x : Write). x.behalf) w) ∙ told.works a recovery.dead (recovers_from s a recovery.dead recovery can.issuable.who has refl)
          go (Places cached dirt among d w) = absurd (false≢true (ap is_rescue (sym (ap (λ (x : Write). x.purpose) w) ∙ kind)))
          go (NextOfLog n block next at w) = absurd (false≢true (ap is_rescue (sym (ap (λ (x : Write). x.purpose) w) ∙ kind)))

      from_flight : FlightFrom s one.1 → taker one.1.behalf ≡ Some one.1.server
      from_flight (New a sector write can e is) = issued_taker a sector write can e is
      from_flight (Flew was) =
          ap taker (sym was.same.behalf)
          ∙ told.rescues was.old was.there (was.same.rescue of) (before s.core.now v.core.now one.1.stamp was.old.1.stamp (turn_now s (work_of v) (step_turn s v step)) early was.same.stamp)
          ∙ ap (λ n. Some n) was.same.server
        where
          before : (now later stamp old : ℕ) → now ≤ later → later ≤ stamp → old ≡ stamp → now ≤ old
          before now later stamp old h i e = omega (arith, h, i, e)

      rescues_on : taker_behind taker ws one.1.behalf ≡ Some one.1.server
      rescues_on = kept_taker ws sees (from_flight (in_flights (FlightFrom s) v.core.flights one there (turn_flights s (work_of v) (step_turn s v step))))

    -- ---- writes of logs

    module _ (one : ℕ × Flight) (there : Among one v.core.flights) (n : ℕ) (of : one.1.purpose ≡ OfLog n) where
      issued_own : (a sector : ℕ) (write : Write) → value_at (writes s.core a) sector ≡ Some write → one.1 ≡ flight_of s.core a sector write → one.1.behalf ≡ one.1.server
      issued_own a sector write e is =
          subst (λ (f : Flight). f.behalf ≡ f.server) (sym is) (go (wanted_is s.core.setting s.core.locks a (s.core.servers a) (stage s.core a) sector write e))
        where
          kind : write.purpose ≡ OfLog n
          kind = ap (λ (f : Flight). f.purpose) (sym is) ∙ of

          go : Wanted s.core.setting.logs s.core.setting.segments a (s.core.servers a) sector write → write.behalf ≡ a
          go (Rescues recovery block has among w) = absurd (false≢true (sym (ap is_rescue (sym (ap (λ (x : Write). x.purpose) w) ∙ kind))))
          go (Places cached dirt among d w) = ap (λ (x : Write). x.behalf) w
          go (NextOfLog m block next at w) = ap (λ (x : Write). x.behalf) w

      logs_from : FlightFrom s one.1 → one.1.behalf ≡ one.1.server
      logs_from (New a sector write can e is) = issued_own a sector write e is
      logs_from (Flew was) = sym was.same.behalf ∙ told.logs was.old was.there n (was.same.log n of) ∙ was.same.server

      logs_on : one.1.behalf ≡ one.1.server
      logs_on = logs_from (in_flights (FlightFrom s) v.core.flights one there (turn_flights s (work_of v) (step_turn s v step)))

    -- ---- who is barred

    still_out : (a : ℕ) → Out s.core.now (v.core.servers a) → Out v.core.now (v.core.servers a)
    still_out a = out_later s.core.now v.core.now (v.core.servers a) (turn_now s (work_of v) (step_turn s v step))

    bars_by : (a : ℕ) (xs : List Witnessed) → Sees s v.core xs → barred_behind barred xs a ≡ true → Out s.core.now (v.core.servers a) × IsTrue (is_server a)
    bars_by a xs (Quiet quiet all) e = let o = told.bars a (sym (quiet_barred barred xs a quiet) ∙ e) in ((all a).out s.core.now o.0, o.1)
    bars_by a xs (Answers b line r all) e =
        let h = and_parts (barred a) (not (b == a && is_mounted r)) e in let o = told.bars a h.0 in
        (all.out a (λ same. unmounted (b == a) (is_mounted r) (eq-eqb b a (sym same)) h.1) s.core.now o.0, o.1)
      where
        unmounted : (x m : Bool) → x ≡ true → IsTrue (not (x && m)) → m ≡ false
        unmounted true true e h = absurd (false≢true h)
        unmounted true false e h = refl
        unmounted false m e h = absurd (false≢true e)
    bars_by a xs (Begins dead by can is b) e = go (barred a) refl e
      where
        waits : Of4 (is_server dead) (is_dead (s.core.servers dead).phase) (nat_lt (s.core.servers dead).expiry s.core.now) (is_hold_over s.core.now (log_hold s.core.locks dead))
        waits = recover_waits s.core dead by can

        go : (t : Bool) → barred a ≡ t → t || dead == a ≡ true → Out s.core.now (v.core.servers a) × IsTrue (is_server a)
        go true f e = let o = told.bars a f in (b.out a s.core.now o.0, o.1)
        go false f e =
            let same : dead ≡ a = eqb-true dead a e in
            (b.out a s.core.now (subst (λ n. Out s.core.now (s.core.servers n)) same (inr (waits.p1, ltb-true (s.core.servers dead).expiry s.core.now waits.p2))), subst (λ n. IsTrue (is_server n)) same waits.p0)
    bars_by a xs (Ends ender recovery can has end) e = let o = told.bars a e in ((end.all a).out s.core.now o.0, o.1)
    bars_by a xs (Puts ticket flight going e early all) f = let o = told.bars a f in ((all a).out s.core.now o.0, o.1)

    pub told_on : IsTold v (taker_behind taker ws) (barred_behind barred ws)
    told_on = record {
      works = works_on;
      rescues = λ one there of early. rescues_on one there of early;
      logs = λ one there n of. logs_on one there n of;
      bars = λ a e. let o = bars_by a ws sees e in (still_out a o.0, o.1);
    }

  pub told_first : IsTold first (λ server. None) (λ server. false)
  told_first = record {
    works = λ by dead at. absurd (none-some at.recovers.recovery at.recovers.is);
    rescues = λ one i of early. absurd i;
    logs = λ one i n of. absurd i;
    bars = λ a e. absurd (false≢true e);
  }
