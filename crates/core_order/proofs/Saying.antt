-- Each recovery says the greatest operation that its log had on the disk where it last began: step by step, by the disks on which those at work began.
use Rattle.std.proofs.Common.{◌≡◌, ℕ, ◌⊎◌, inl, inr, Bool, true, false, ◌==◌, if◌then◌else◌, IsTrue, List, [], ◌∷◌, ◌++◌, Option, Some, None, refl, sym, ap, ◌∙◌, subst, append-nil}
use Rattle.std.proofs.lemmas.Bool.{and_from, and_parts, cases_eq, eq-eqb, false≢true}
use Rattle.std.proofs.lemmas.Option.{none-some, same_Some}
use Rattle.frang_base.specs.declared.said.Said.TheVariants as said
use Rattle.frang_base.specs.declared.script.Line.{Line}
use Rattle.disk_definitions.specs.Logs.{greatest_operation}
use Rattle.disk_definitions.specs.Replay.{greatest_of}
use Rattle.sector_bytes.specs.Sectors.{Sectors}
use Rattle.core_definitions.specs.Effects.{Deed, Says, says_recovered}
use Rattle.core_definitions.specs.EndGuards.{CanRecover}
use Rattle.core_definitions.specs.Events.{Nothing}
use Rattle.core_definitions.specs.Recoveries.{Recovery, recovery_of, redos}
use Rattle.core_definitions.specs.Runs.{State, Step, Run, Stays, Goes, first_state}
use Rattle.core_definitions.specs.Settings.{setting_of}
use Rattle.core_definitions.specs.WriteGuards.{is_worker}
use Rattle.core_facts.proofs.Phases.{none_recovers, taker_works}
use Rattle.core_facts.proofs.Turns.{step_turn, work_of}
use Rattle.core_journals.specs.Reports.{At, Began, Goes as Onward, IsAtWork, RecoveriesReportTheLogAsItStood}
use Rattle.core_journals.proofs.Changing.{Change, Kept, Read, Taken, Written_, turn_recovery}
use Rattle.core_laws.proofs.Along.{longer}
use Rattle.core_laws.proofs.Memory.{dead_of}
use Rattle.core_laws.proofs.Resting.{good_of_run}
use Rattle.headline_definitions.specs.AllLogs.{AllLogs, disk_logs, greatest_at}
use Rattle.headline_definitions.specs.Headline.{all_say_greatest, begun_on, say_greatest, says_greatest}
use Rattle.headline_definitions.specs.Laws.{setting_by}
use Rattle.headline_definitions.specs.Prefixes.{EachPrefixIsWitnessed}
use Rattle.headline_definitions.specs.Runs.{witnessed_at, witnessed_in}
use Rattle.headline_definitions.specs.Witnessed.{Witnessed, disk_behind, disk_by}
use Rattle.headline_definitions.proofs.Meaning.{makes_disk}
use Rattle.core_order.specs.Reports.{RecoveriesSayTheGreatest, RecoveriesAlwaysSayTheGreatest}
use Rattle.core_order.proofs.Seeing.{Answers, Begins, Ends, Faded, Failed, IsQuiet, Puts, Quiet, Sees, Silent, Told_, step_sees}

-- ---- lists

-- the disks on which recoveries last began, behind these
abbrev begun_behind : (ℕ → Sectors) → Sectors → List Witnessed → ℕ → Sectors
begun_behind begun disk [] = begun
begun_behind begun disk (one ∷ more) = begun_behind (begun_on begun disk one) (disk_by disk one) more

says_both : (logs : AllLogs) (begun : ℕ → Sectors) (disk : Sectors) (xs ys : List Witnessed) → IsTrue (all_say_greatest logs begun disk xs) →
    IsTrue (all_say_greatest logs (begun_behind begun disk xs) (disk_behind disk xs) ys) → IsTrue (all_say_greatest logs begun disk (xs ++ ys))
says_both logs begun disk [] ys p q = q
says_both logs begun disk (x ∷ xs) ys p q =
    let h = and_parts (says_greatest logs begun x) (all_say_greatest logs (begun_on begun disk x) (disk_by disk x) xs) p in
    and_from (says_greatest logs begun x) (all_say_greatest logs (begun_on begun disk x) (disk_by disk x) (xs ++ ys)) h.0
    (says_both logs (begun_on begun disk x) (disk_by disk x) xs ys h.1 q)

-- what is quiet begins nothing, and says nothing of what is kept
quiet_begun : (begun : ℕ → Sectors) (disk : Sectors) (ws : List Witnessed) (server : ℕ) → IsQuiet ws → begun_behind begun disk ws server ≡ begun server
quiet_begun begun disk ws server Silent = refl
quiet_begun begun disk ws server (Told_ (said.Answer a number r) e) = refl
quiet_begun begun disk ws server (Told_ (said.Dead a) e) = refl
quiet_begun begun disk ws server (Told_ (said.Recovering a by) e) = absurd (false≢true e)
quiet_begun begun disk ws server (Told_ (said.Recovered a kept) e) = refl
quiet_begun begun disk ws server (Told_ (said.Renewed a) e) = refl
quiet_begun begun disk ws server (Told_ (said.Node path kind size links) e) = refl
quiet_begun begun disk ws server (Told_ (said.Redo op) e) = refl
quiet_begun begun disk ws server (Told_ (said.Backup line) e) = refl
quiet_begun begun disk ws server (Told_ (said.Locks line) e) = refl
quiet_begun begun disk ws server (Told_ (said.Shown text) e) = refl
quiet_begun begun disk ws server (Told_ said.End e) = refl
quiet_begun begun disk ws server (Faded put) = refl
quiet_begun begun disk ws server (Failed sector block) = refl

quiet_says : (logs : AllLogs) (begun : ℕ → Sectors) (disk : Sectors) (ws : List Witnessed) → IsQuiet ws → IsTrue (all_say_greatest logs begun disk ws)
quiet_says logs begun disk ws Silent = refl
quiet_says logs begun disk ws (Told_ (said.Answer a number r) e) = refl
quiet_says logs begun disk ws (Told_ (said.Dead a) e) = refl
quiet_says logs begun disk ws (Told_ (said.Recovering a by) e) = refl
quiet_says logs begun disk ws (Told_ (said.Recovered a kept) e) = absurd (false≢true e)
quiet_says logs begun disk ws (Told_ (said.Renewed a) e) = refl
quiet_says logs begun disk ws (Told_ (said.Node path kind size links) e) = refl
quiet_says logs begun disk ws (Told_ (said.Redo op) e) = refl
quiet_says logs begun disk ws (Told_ (said.Backup line) e) = refl
quiet_says logs begun disk ws (Told_ (said.Locks line) e) = refl
quiet_says logs begun disk ws (Told_ (said.Shown text) e) = refl
quiet_says logs begun disk ws (Told_ said.End e) = refl
quiet_says logs begun disk ws (Faded put) = refl
quiet_says logs begun disk ws (Failed sector block) = refl

-- ---- those at work

pub recovers_from : (s : State) (by dead : ℕ) (r : Recovery) → IsTrue (is_worker s.core by) → (s.core.servers by).recovery ≡ Some r → r.dead ≡ dead → IsAtWork s by dead
recovers_from s by dead r who has of = record { works = who; recovers = record { recovery = r; is = has; of = of } }

-- the disk of a step is that of what it witnesses
pub disk_made : (s v : State) (step : Step s v) → v.disk ≡ disk_behind s.disk (witnessed_at s v step)
disk_made s v step = makes_disk s v (Goes step Stays) ∙ ap (disk_behind s.disk) (append-nil (witnessed_at s v step))

-- the number that a recovery says in these
abbrev kept_in : List Deed → ℕ
kept_in (Says (said.Recovered server kept) ∷ more) = kept.0
kept_in _ = 0

module _ (reports : RecoveriesReportTheLogAsItStood) (script : List Line) (segments number : ℕ) (disk : Sectors) where
  abbrev first : State
  first = first_state (setting_of script segments number) disk

  -- each that is at work began on that disk
  abbrev BeganOn : State → (ℕ → Sectors) → Type 0
  BeganOn s begun = (by dead : ℕ) → IsAtWork s by dead → (b : Began first s by dead) × (b.since.disk ≡ begun dead)

  module _ (s v : State) (reached : Run first s) (step : Step s v) (begun : ℕ → Sectors) (known : BeganOn s begun) where
    -- nothing begins beside one that is at work
    begun_same : (by dead d : ℕ) (ws : List Witnessed) → IsAtWork s by dead → Sees s v.core ws → begun d ≡ begun_behind begun s.disk ws d
    begun_same by dead d ws at (Quiet quiet all) = sym (quiet_begun begun s.disk ws d quiet)
    begun_same by dead d ws at (Answers a line r all) = refl
    begun_same by dead d ws at (Begins other taker can is b) =
        absurd (none_recovers s.core other taker can by at.recovers.recovery.dead at.works (ap dead_of at.recovers.is))
    begun_same by dead d ws at (Ends ender recovery can has end) = refl
    begun_same by dead d ws at (Puts ticket flight going e early all) = refl

    on : (by dead : ℕ) → IsAtWork v by dead → Began first s by dead → Began first v by dead
    on by dead at b = record { before = b.before; since = b.since; reached = b.reached; can = b.can; step = b.step; works = Onward b.works step at }

    module _ (by dead : ℕ) (at : IsAtWork v by dead) where
      abbrev now : Recovery
      now = at.recovers.recovery

      -- one that was at work goes on
      before : (old : Recovery) → IsTrue (is_worker s.core by) → (s.core.servers by).recovery ≡ Some old → old.dead ≡ now.dead →
          (b : Began first v by dead) × (b.since.disk ≡ begun_behind begun s.disk (witnessed_at s v step) dead)
      unfolding on
      before old who has same =
          let was : IsAtWork s by dead = recovers_from s by dead old who has (same ∙ at.recovers.of) in
          let o = known by dead was in
          (on by dead at o.0, o.1 ∙ begun_same by dead dead (witnessed_at s v step) was (step_sees s (good_of_run (setting_of script segments number) disk s reached) v step))

      idle : (can : CanRecover s.core now.dead by) → IsTrue (is_worker s.core by) → (s.core.servers by).recovery ≡ None
      idle can who = go (s.core.servers by).recovery refl
        where
          go : (o : Option Recovery) → (s.core.servers by).recovery ≡ o → o ≡ None
          go None e = refl
          go (Some old) e = absurd (none_recovers s.core now.dead by can by old.dead who (ap dead_of e))

      none_now : {X : Type 0} → (v.core.servers by).recovery ≡ None → X
      none_now e = absurd (none-some now (sym e ∙ at.recovers.is))

      -- one that begins begins on this disk
      begins_here : (ws : List Witnessed) → Sees s v.core ws → v.disk ≡ disk_behind s.disk ws → (s.core.servers by).recovery ≡ None → v.disk ≡ begun_behind begun s.disk ws dead
      begins_here ws (Quiet quiet all) made none = none_now ((all by).idle none)
      begins_here ws (Answers a line r all) made none = none_now (all.idle by none)
      begins_here ws (Begins other taker can is b) made none = go (cases_eq by taker)
        where
          same : (b : Bool) → b ≡ true → s.disk ≡ (if b then s.disk else begun dead)
          same true e = refl
          same false e = absurd (false≢true e)

          go : (by ≡ taker) ⊎ (by ≡ taker → ⊥) → v.disk ≡ (if other == dead then s.disk else begun dead)
          go (inl e) =
              let same_recovery : recovery_of other ≡ now = same_Some (recovery_of other) now (sym b.own ∙ ap (λ n. (v.core.servers n).recovery) (sym e) ∙ at.recovers.is) in
              made ∙ same (other == dead) (eq-eqb other dead (ap (λ (x : Recovery). x.dead) same_recovery ∙ at.recovers.of))
          go (inr n) = none_now (b.others by n none)
      begins_here ws (Ends ender recovery can has end) made none = none_now ((end.all by).idle none)
      begins_here ws (Puts ticket flight going e early all) made none = none_now ((all by).idle none)

      begins : (can : CanRecover s.core now.dead by) → IsTrue (is_worker s.core by) → (b : Began first v by dead) × (b.since.disk ≡ begun_behind begun s.disk (witnessed_at s v step) dead)
      begins can who = (
        record { before = s; since = v; reached = reached; can = subst (λ d. CanRecover s.core d by) at.recovers.of can; step = step; works = At at },
        begins_here (witnessed_at s v step) (step_sees s (good_of_run (setting_of script segments number) disk s reached) v step) (disk_made s v step) (idle can who),
      )

      came : Change s v.disk by now → (b : Began first v by dead) × (b.since.disk ≡ begun_behind begun s.disk (witnessed_at s v step) dead)
      came (Kept old who has same slots acked) = before old who has same
      came (Read old slot block who has wants got is) = before old who has (ap (λ (x : Recovery). x.dead) is)
      came (Written_ old ticket flight who has e by_ purpose present early wrote is) = before old who has (ap (λ (x : Recovery). x.dead) is)
      came (Taken can is) = begins can (taker_works_ can)
        where
          taker_works_ : CanRecover s.core now.dead by → IsTrue (is_worker s.core by)
          taker_works_ can = taker_works s.core now.dead by can

    known_on : BeganOn v (begun_behind begun s.disk (witnessed_at s v step))
    known_on by dead at =
        came by dead at
        (turn_recovery s (work_of v) (step_turn s v step) (good_of_run (setting_of script segments number) disk s reached) by at.works at.recovers.recovery at.recovers.is)

    -- what is said is the greatest operation on that disk
    says_so : (ws : List Witnessed) → Sees s v.core ws → IsTrue (all_say_greatest disk_logs begun s.disk ws)
    says_so ws (Quiet quiet all) = quiet_says disk_logs begun s.disk ws quiet
    says_so ws (Answers a line r all) = refl
    says_so ws (Begins other taker can is b) = refl
    says_so ws (Ends by recovery can has end) = and_from (kept == greatest_at disk_logs (begun recovery.dead) recovery.dead) true (eq-eqb kept (greatest_at disk_logs (begun recovery.dead) recovery.dead) is) refl
      where
        kept : ℕ
        kept = greatest_operation (redos s.core.setting.logs recovery)

        o : (b : Began first s by recovery.dead) × (b.since.disk ≡ begun recovery.dead)
        o = known by recovery.dead (recovers_from s by recovery.dead recovery can.can.who has refl)

        is : kept ≡ greatest_of (begun recovery.dead) recovery.dead
        is =
            ap kept_in (sym (ap (says_recovered s.core) has) ∙ reports script segments number disk s by recovery.dead o.0 Nothing can)
            ∙ ap (λ (d : Sectors). greatest_of d recovery.dead) o.1
    says_so ws (Puts ticket flight going e early all) = refl

  says_on : (s w : State) → Run first s → (begun : ℕ → Sectors) → BeganOn s begun → (run : Run s w) → IsTrue (all_say_greatest disk_logs begun s.disk (witnessed_in s w run))
  says_on s w reached begun known Stays = refl
  says_on s w reached begun known (Goes {v = v} step run) =
      says_both disk_logs begun s.disk (witnessed_at s v step) (witnessed_in v w run)
      (says_so s v reached step begun known (witnessed_at s v step) (step_sees s (good_of_run (setting_of script segments number) disk s reached) v step))
      (subst (λ (d : Sectors). IsTrue (all_say_greatest disk_logs (begun_behind begun s.disk (witnessed_at s v step)) d (witnessed_in v w run))) (disk_made s v step)
      (says_on v w (longer first s v reached step) (begun_behind begun s.disk (witnessed_at s v step)) (known_on s v reached step begun known) run))

  says_all : (s : State) (run : Run first s) → IsTrue (all_say_greatest disk_logs (λ server. disk) disk (witnessed_in first s run))
  says_all s run = says_on first s Stays (λ server. disk) (λ by dead at. absurd (none-some at.recovers.recovery at.recovers.is)) run

-- ---- in the words of the laws

pub runs_say : RecoveriesReportTheLogAsItStood → RecoveriesSayTheGreatest
runs_say reports b s run logs =
    subst (λ l. IsTrue (all_say_greatest l (λ server. b.disk) b.disk (witnessed_in (first_state (setting_by b) b.disk) s run))) (sym logs)
    (says_all reports b.script b.opening.tree.segments b.opening.run b.disk s run)

pub prefixes_say : RecoveriesReportTheLogAsItStood → EachPrefixIsWitnessed → RecoveriesAlwaysSayTheGreatest
prefixes_say reports through b s run logs k =
    let t = through (first_state (setting_by b) b.disk) s run k in subst (λ ws. IsTrue (say_greatest b ws)) t.witnessed (runs_say reports b t.moment t.before logs)
