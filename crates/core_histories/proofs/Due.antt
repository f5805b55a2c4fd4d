-- Over every run the line under way at a server is of the script, and an answer that is due leaves the tree.
use Rattle.std.proofs.Common.{ℕ, ◌≡◌, ◌≤◌, inl, inr, Bool, true, false, not, ◌&&◌, ◌==◌, if◌then◌else◌, IsTrue, IsSome, is_some, Option, Some, None, refl, sym, ap, ◌∙◌, subst}
use Rattle.std.proofs.lemmas.Bool.{and_from, and_parts, false≢true, not-true}
use Rattle.disk_definitions.proofs.Listed.{Among}
use Rattle.frang_base.specs.declared.op.Op.{Op}
use Rattle.frang_base.specs.declared.reply.Reply.{Reply}
use Rattle.tree_definitions.specs.History.{fresh_opening}
use Rattle.tree_definitions.specs.Live.{line_of}
use Rattle.tree_definitions.specs.Touched.{is_ok, is_sync, is_unmount}
use Rattle.tree_definitions.specs.Transcript.{Faults, is_mount}
use Rattle.core_definitions.specs.Cores.{due_at}
use Rattle.core_definitions.specs.Flights.{Flights}
use Rattle.core_definitions.specs.LineGuards.{CanAnswer}
use Rattle.core_definitions.specs.Lines.{Under, operation_of}
use Rattle.core_definitions.specs.Runs.{State, first_state, saids_of}
use Rattle.core_definitions.specs.Servers.{Server, answer_of, asked_by, asks, due_under, is_answering, is_open, own_answer_of}
use Rattle.core_definitions.specs.Settings.{LogRules, Setting, setting_of}
use Rattle.core_laws.specs.Facts.{OffHasNoFlights}
use Rattle.core_transcripts.specs.Faults.{run_faults}
use Rattle.core_transcripts.specs.Scripts.{ReadScriptsAreNumbered}
use Rattle.core_transcripts.specs.Transcripts.{IsNumbered}
use Rattle.core_transcripts.proofs.Answering.{HasOperation, is_under, operation_under}
use Rattle.core_transcripts.proofs.Fits.{Fits, IsUnder, LineFits, Told, asked_of, key_of}
use Rattle.core_transcripts.proofs.Fitting.{told_of}
use Rattle.core_transcripts.proofs.Numbering.{all_is_none, found_in, line_is}
use Rattle.core_transcripts.proofs.Rising.{run_has_its_faults}
use Rattle.core_transcripts.proofs.Running.{Holds, holds_of_run}
use Rattle.core_world.specs.Steps.{IsReached}
use Rattle.core_lives.specs.Idle.{is_mounted_answer}
use Rattle.core_histories.specs.Answers.{AnswersAreDue, IsDue, IsOfTheScript, LinesUnderWayAreOfTheScript}
use Rattle.core_histories.proofs.Fixed.{IsFixed, IsOwn, fixed_form, fixed_leaves, fixed_mounts_none, fixed_pays, fixed_syncs_none, own_form}

module _ (numbers : ReadScriptsAreNumbered) (ashore : OffHasNoFlights) (s : State) (r : IsReached s) where
  abbrev pub setting : Setting
  setting = setting_of r.script r.segments r.number

  abbrev pub faults : Faults
  faults = run_faults (first_state setting r.disk) s r.run

  pub numbered : IsNumbered r.script
  numbered = numbers r.bytes r.script r.read

  pub stay : (early late server : ℕ) → early ≤ late → faults early server ≡ true → faults late server ≡ true
  stay = (run_has_its_faults (first_state setting r.disk) s r.run).1.stay

  -- what is told of the servers fits them
  pub holds : Holds (fresh_opening 1) setting r.disk numbered faults stay ashore (saids_of s.record_) s.core
  holds = holds_of_run (fresh_opening 1) setting r.disk numbered faults stay ashore s r.run (run_has_its_faults (first_state setting r.disk) s r.run).1.counted

  abbrev Now : ℕ → Told
  Now a = told_of r.script faults (saids_of s.record_) s.core.answered a

  pub fits : (a : ℕ) → Fits (key_of (s.core.servers a)) (Now a)
  fits a = holds.fits.servers a

  -- ---- the line under way
  module _ (a : ℕ) (u : Under) (under : (s.core.servers a).under ≡ Some u) where
    it : IsUnder (s.core.servers a).phase (s.core.servers a).owes (Now a) (asked_of u)
    it = is_under (s.core.servers a).phase (s.core.servers a).owes (Now a) (s.core.servers a).under u under (fits a).under

    has : HasOperation (s.core.servers a).phase (s.core.servers a).owes (Now a) u.line u.fixed u.get_failed
    has = operation_under (s.core.servers a).phase (s.core.servers a).owes (Now a) u it

    there : Among u.line r.script
    there = (found_in (λ line. line.who.0 == a && not (s.core.answered line.number)) r.script u.line it.next).0

    pub of_script : IsOfTheScript s u
    of_script = record {
      operation = has.operation;
      asked = has.is;
      there = subst (λ z. line_of z.script u.line.number ≡ Some u.line) (sym holds.same) (line_is r.script u.line numbered.apart there);
    }

    pub unanswered : s.core.answered u.line.number ≡ false
    unanswered =
        not-true (s.core.answered u.line.number)
        (and_parts (u.line.who.0 == a) (not (s.core.answered u.line.number)) (found_in (λ line. line.who.0 == a && not (s.core.answered line.number)) r.script u.line it.next).1).1

    none_all : IsTrue (Now a).all → ⊥
    none_all all = all_is_none r.script s.core.answered a u.line all it.next

    -- ---- its answer
    module _ (answer : Reply) (due : due_at s.core a ≡ Some answer) where
      abbrev o : Op
      o = has.operation

      abbrev server : Server
      server = s.core.servers a

      by_fixed : u.fixed ≡ Some answer → IsDue s a
      unfolding of_script has
      by_fixed e = record {
        under = u;
        is = under;
        line = of_script;
        answer = answer;
        due = due;
        leaves = fixed_leaves server.owes o answer form;
        mounts = λ m. absurd (false≢true (sym (fixed_mounts_none server.owes o answer form) ∙ m));
        syncs = λ k. let p = and_parts (is_sync o) (is_ok answer) k in absurd (fixed_syncs_none server.owes o answer form p.0 p.1);
        ends = λ k. let p = and_parts (is_unmount o) (is_ok answer) k in inr (fixed_pays server.owes o answer form p.0 p.1);
      }
        where
          form : IsFixed server.owes o answer
          form = fixed_form server.phase server.owes (Now a).state (Now a).all (Now a).faulted o answer u.get_failed (fits a).phase none_all
              (subst (λ x. LineFits server.phase server.owes (Now a).state (Now a).faulted o x u.get_failed) e has.fits)

      asks_so : (test : Op → Bool) → u.fixed ≡ None → test o ≡ true → asks test server ≡ true
      asks_so test e h =
          ap (is_open test) under ∙ ap (λ x. not (is_some x) && asked_by test (operation_of u.line.what)) e ∙ ap (asked_by test) has.is ∙ h

      by_own : u.fixed ≡ None → own_answer_of s.core.setting.logs s.core.flights a server u (operation_of u.line.what) ≡ Some answer → IsDue s a
      unfolding of_script has
      by_own e own = record {
        under = u;
        is = under;
        line = of_script;
        answer = answer;
        due = due;
        leaves = form.leaves;
        mounts = λ m. and_from (asks is_mount server) (is_mounted_answer (due_at s.core a)) (asks_so is_mount e (form.mounts m)) (ap is_mounted_answer due ∙ m);
        syncs = λ k. asks_so is_sync e (and_parts (is_sync o) (is_ok answer) k).0;
        ends = λ k. inl (asks_so is_unmount e (and_parts (is_unmount o) (is_ok answer) k).0);
      }
        where
          form : IsOwn o answer
          form = own_form s.core.setting.logs s.core.flights a server u answer o
              (sym (ap (own_answer_of s.core.setting.logs s.core.flights a server u) has.is) ∙ own)

      by_either : (fixed : Option Reply) → u.fixed ≡ fixed → answer_of fixed (own_answer_of s.core.setting.logs s.core.flights a server u (operation_of u.line.what)) ≡ Some answer → IsDue s a
      by_either (Some x) e f = by_fixed (e ∙ f)
      by_either None e f = by_own e f

pub lines_under_way : ReadScriptsAreNumbered → OffHasNoFlights → LinesUnderWayAreOfTheScript
lines_under_way numbers ashore s a u r under = of_script numbers ashore s r a u under

-- ---- what is due

record IsUnderWay (logs : LogRules) (flights : Flights) (a : ℕ) (server : Server) (answer : Reply) : Type 0 where
  u : Under
  is : server.under ≡ Some u
  from : answer_of u.fixed (own_answer_of logs flights a server u (operation_of u.line.what)) ≡ Some answer

under_way : (logs : LogRules) (flights : Flights) (a : ℕ) (server : Server) (answer : Reply) (b : Bool) (o : Option Under) → server.under ≡ o →
    (if b then due_under logs flights a server o else None) ≡ Some answer → IsUnderWay logs flights a server answer
under_way logs flights a server answer true None is e = absurd (cc)
under_way logs flights a server answer true (Some u) is e = record { u = u; is = is; from = e }
under_way logs flights a server answer false o is e = absurd (cc)

some_of : (o : Option Reply) → IsSome o → (answer : Reply) × (o ≡ Some answer)
some_of None h = absurd (false≢true h)
some_of (Some answer) h = (answer, refl)

pub answers_are_due : ReadScriptsAreNumbered → OffHasNoFlights → AnswersAreDue
answers_are_due numbers ashore s a r makes =
    let can : CanAnswer s.core a = makes.can.can in
    let d = some_of (due_at s.core a) can.due in
    let x = under_way s.core.setting.logs s.core.flights a (s.core.servers a) d.0 (is_answering (s.core.servers a).phase) (s.core.servers a).under refl d.1 in
    by_either numbers ashore s r a x.u x.is d.0 d.1 x.u.fixed refl x.from
