-- Over every run: it is over exactly where the lines said or a failed call of the host tell so; and the clock comes to its last moment at most.
use Rattle.std.proofs.Common.{ℕ, ◌≡◌, ◌≤◌, Bool, true, false, not, ◌||◌, ◌==◌, IsTrue, nat_lt, refl, sym, ◌∙◌, subst, arith}
use Rattle.std.proofs.lemmas.Bool.{false≢true, and_parts, not-true}
use Rattle.std.proofs.lemmas.Bool.Decides.{nat_tests}
use Rattle.std.proofs.lemmas.List.Elements.{filter_map-append}
use mathlib.Core.Bool.{or_assoc}
use Rattle.frang_base.specs.declared.limits.TheConstants.{LAST_TICK}
use Rattle.sector_bytes.specs.Sectors.{Sectors}
use Rattle.tree_definitions.specs.History.{Opening}
use Rattle.tree_definitions.specs.Transcript.{is_over}
use Rattle.core_definitions.specs.Scripts.{host_party}
use Rattle.core_definitions.specs.Settings.{Setting}
use Rattle.core_definitions.specs.Effects.{after, deeds_of}
use Rattle.core_definitions.specs.Runs.{State, Step, Event_, Enter, Hold, Flush, Relock, Note, Peek, PeekFails, Run, Stays, Goes, first_state, goes_on, is_note, said_by, saids_of}
use Rattle.core_definitions.specs.Faults.{failing, fails_at, is_of}
use Rattle.core_laws.specs.Facts.{OffHasNoFlights}
use Rattle.core_laws.proofs.Along.{longer}
use Rattle.core_transcripts.specs.Faults.{has_failed, run_faults}
use Rattle.core_transcripts.specs.Transcripts.{IsNumbered}
use Rattle.core_transcripts.proofs.Rising.{run_has_its_faults}
use Rattle.core_transcripts.proofs.Running.{Holds, holds_of_run}
use Rattle.core_transcripts.proofs.Overs.{clock_stands, ends_so, host_fails}

-- ---- tests

-- by what ends it and what doesn't
told_by : (over spoken x fails : Bool) → x ≡ false → (over ≡ false → spoken ≡ false) → (fails ≡ true → over ≡ true) → (over ≡ true → (spoken || fails) ≡ true) → over ≡ (spoken || (x || fails))
told_by over spoken true fails e open_ host ends = absurd (false≢true (sym e))
told_by false true false fails e open_ host ends = absurd (false≢true (sym (open_ refl)))
told_by false false false true e open_ host ends = absurd (false≢true (host refl))
told_by false false false false e open_ host ends = refl
told_by true true false fails e open_ host ends = refl
told_by true false false true e open_ host ends = refl
told_by true false false false e open_ host ends = absurd (false≢true (ends refl))

none_yet : (over spoken x : Bool) → over ≡ false → over ≡ (spoken || x) → x ≡ false
none_yet over true x e t = absurd (false≢true (sym e ∙ t))
none_yet over false x e t = sym t ∙ e

no_more : (over spoken x : Bool) → over ≡ (spoken || x) → over ≡ (spoken || (x || false))
no_more over true x t = t
no_more over false true t = t
no_more over false false t = t

ends_it : (spoken x : Bool) → true ≡ (spoken || (x || true))
ends_it true x = refl
ends_it false true = refl
ends_it false false = refl

module _ (opening : Opening) (setting : Setting) (disk : Sectors) (numbered : IsNumbered setting.script) (ashore : OffHasNoFlights) where
  module _ (s : State) (run : Run (first_state setting disk) s) where
    holds : Holds opening setting disk numbered (run_faults (first_state setting disk) s run) (run_has_its_faults (first_state setting disk) s run).1.stay ashore (saids_of s.record_) s.core
    holds =
        holds_of_run opening setting disk numbered (run_faults (first_state setting disk) s run) (run_has_its_faults (first_state setting disk) s run).1.stay ashore s run
        (run_has_its_faults (first_state setting disk) s run).1.counted

    goes_on_saying : s.core.over ≡ false → is_over setting.script (saids_of s.record_) ≡ false
    goes_on_saying = holds.fits.going

  abbrev Told : State → Bool → Type 0
  Told s x = s.core.over ≡ (is_over setting.script (saids_of s.record_) || x)

  step_told : (s v : State) (before : Run (first_state setting disk) s) (step : Step s v) (x : Bool) → Told s x → Told v (x || is_of host_party (fails_at s v step))
  step_told s v before (Event_ event heard makes) x t =
      told_by (after s.core event heard).over (is_over setting.script (saids_of v.record_)) x (is_of host_party (failing s.core event heard))
      (none_yet s.core.over (is_over setting.script (saids_of s.record_)) x going t) (goes_on_saying v (longer (first_state setting disk) s v before (Event_ event heard makes)))
      (host_fails s.core event heard makes.can.can)
      (λ e. subst (λ z. (is_over z.script (saids_of v.record_) || is_of host_party (failing s.core event heard)) ≡ true) (holds s before).same
      (subst (λ ss. (is_over s.core.setting.script ss || is_of host_party (failing s.core event heard)) ≡ true) (sym (filter_map-append said_by s.record_ (deeds_of s.core event heard)))
      (ends_so s.core (saids_of s.record_) (subst (λ z. IsNumbered z.script) (sym (holds s before).same) numbered) going event heard s.disk makes.can.can makes.hears e)))
    where
      going : s.core.over ≡ false
      going = not-true s.core.over makes.can.going
  step_told s v before (Enter a line can) x t = no_more s.core.over (is_over setting.script (saids_of s.record_)) x t
  step_told s v before (Hold a on may) x t = no_more s.core.over (is_over setting.script (saids_of s.record_)) x t
  step_told s v before (Flush a may) x t = no_more s.core.over (is_over setting.script (saids_of s.record_)) x t
  step_told s v before (Relock locks going are same wait) x t = no_more s.core.over (is_over setting.script (saids_of s.record_)) x t
  step_told s v before (Note line may) x t =
      told_by s.core.over (is_over setting.script (saids_of v.record_)) x false (none_yet s.core.over (is_over setting.script (saids_of s.record_)) x going t)
      (goes_on_saying v (longer (first_state setting disk) s v before (Note line may))) (λ e. absurd (false≢true e)) (λ e. absurd (false≢true (sym going ∙ e)))
    where
      going : s.core.over ≡ false
      going = not-true s.core.over (and_parts (not s.core.over) (s.core.shown == 0) (and_parts (is_note line) (goes_on s.core) may).1).0
  step_told s v before (Peek sector going) x t = no_more s.core.over (is_over setting.script (saids_of s.record_)) x t
  step_told s v before (PeekFails sector going) x t = ends_it (is_over setting.script (saids_of s.record_)) x

  run_told : (s v : State) → Run (first_state setting disk) s → (run : Run s v) (x : Bool) → Told s x → Told v (x || has_failed s v run host_party)
  run_told s v before Stays x t = no_more s.core.over (is_over setting.script (saids_of s.record_)) x t
  run_told s w before (Goes {v = v} step run) x t =
      subst (λ b. Told w b) (or_assoc x (is_of host_party (fails_at s v step)) (has_failed v w run host_party))
      (run_told v w (longer (first_state setting disk) s v before step) run (x || is_of host_party (fails_at s v step)) (step_told s v before step x t))

  pub end_told : (s : State) (run : Run (first_state setting disk) s) → s.core.over ≡ (is_over setting.script (saids_of s.record_) || has_failed (first_state setting disk) s run host_party)
  end_told s run = run_told (first_state setting disk) s Stays run false refl

-- ---- the clock

clock_step : (s v : State) → Step s v → s.core.now ≤ LAST_TICK → v.core.now ≤ LAST_TICK
clock_step s v (Event_ event heard makes) h = clock_stands s.core event heard makes.can.can h
clock_step s v (Enter a line can) h = h
clock_step s v (Hold a on may) h = h
clock_step s v (Flush a may) h = h
clock_step s v (Relock locks going are same wait) h = h
clock_step s v (Note line may) h = h
clock_step s v (Peek sector going) h = h
clock_step s v (PeekFails sector going) h = h

clock_run : (s v : State) → Run s v → s.core.now ≤ LAST_TICK → v.core.now ≤ LAST_TICK
clock_run s v Stays h = h
clock_run s w (Goes {v = v} step run) h = clock_run v w run (clock_step s v step h)

none_least : (n : ℕ) → 0 ≤ n
none_least n = omega arith

pub clock_ends : (setting : Setting) (disk : Sectors) (s : State) → Run (first_state setting disk) s → s.core.now ≤ LAST_TICK
clock_ends setting disk s run = clock_run (first_state setting disk) s run (none_least LAST_TICK)

-- ---- nothing may happen

last_moment : (now last : ℕ) → now ≤ last → IsTrue (not (nat_lt now last)) → IsTrue (now == last)
last_moment now last h n = grind (arith, nat_tests, h, n)

last_of : (over told gate : Bool) (late last : Bool) → over ≡ told → (IsTrue late → IsTrue last) → IsTrue (over || gate || late) → IsTrue (told || gate || last)
last_of true true gate late last e m h = refl
last_of true false gate late last e m h = absurd (false≢true (sym e))
last_of false true gate late last e m h = refl
last_of false false true late last e m h = refl
last_of false false false late last e m h = m h

pub nothing_told : (over told gate : Bool) (now : ℕ) → now ≤ LAST_TICK → over ≡ told → IsTrue (over || gate || not (nat_lt now LAST_TICK)) → IsTrue (told || gate || now == LAST_TICK)
nothing_told over told gate now h e t = last_of over told gate (not (nat_lt now LAST_TICK)) (now == LAST_TICK) e (last_moment now LAST_TICK h) t
