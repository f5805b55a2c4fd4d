-- Over every run: step by step no more is due or said of a server than the calls of it that failed.
use Rattle.std.proofs.Common.{ℕ, suc, ◌≡◌, ◌≤◌, ◌<◌, ◌+◌, Bool, true, false, ◌||◌, if◌then◌else◌, IsTrue, not, List, [], ◌∷◌, ◌++◌, Some, filter, length, nat_eq, refl, sym, ap, ◌∙◌, subst, append_assoc, arith}
use Rattle.std.proofs.lemmas.Bool.{false≢true, eqb-true, and_parts}
use Rattle.frang_base.specs.declared.said.Said.{Said}
use Rattle.frang_base.specs.declared.said.Said.TheVariants as said
use Rattle.frang_base.specs.declared.script.Line.{Line}
use Rattle.sector_bytes.specs.Sectors.{Sectors}
use Rattle.tree_definitions.specs.History.{Opening}
use Rattle.tree_definitions.specs.Transcript.{Faults, io_answers, is_io_of, is_unexplained, may_be_dirty, unexplained_deaths, unexplained_from}
use Rattle.tree_definitions.proofs.NodeBlocks.{none_before}
use Rattle.core_definitions.specs.Scripts.{host_party}
use Rattle.core_definitions.specs.Servers.{is_still, wanting_all_up}
use Rattle.core_definitions.specs.Settings.{Setting}
use Rattle.core_definitions.specs.Cores.{clean_at}
use Rattle.core_definitions.specs.Effects.{Says, deeds_of}
use Rattle.core_definitions.specs.LineGuards.{is_server}
use Rattle.core_definitions.specs.Runs.{State, Step, Event_, Enter, Hold, Flush, Relock, Note, Peek, PeekFails, Run, Stays, Goes, first_state, goes_on, is_note, saids_of}
use Rattle.core_definitions.specs.Faults.{failed_calls, fails_at, is_of}
use Rattle.core_laws.specs.Facts.{OffHasNoFlights}
use Rattle.core_laws.proofs.Along.{longer}
use Rattle.core_transcripts.specs.Faults.{has_failed, run_faults}
use Rattle.core_transcripts.specs.Transcripts.{IsNumbered}
use Rattle.core_transcripts.proofs.Fits.{key_of}
use Rattle.core_transcripts.proofs.Rising.{run_has_its_faults}
use Rattle.core_transcripts.proofs.Running.{Holds, holds_of_run, still_is_dirty, said_more}
use Rattle.core_transcripts.proofs.Steady.{wanting_steady}
use Rattle.core_transcripts.proofs.Called.{CallFits, IsAside, called}
use Rattle.core_transcripts.proofs.Due.{Pays, aside_pays, death_due, io_due, nil_right, one_if, same_pays}
use Rattle.core_transcripts.proofs.Paying.{event_pays}

-- ---- lines behind lines

one_later : (n m k : ℕ) → n ≡ m + k → suc n ≡ suc m + k
one_later n m k e = omega (arith, e)

count_more : (test : Said → Bool) (xs ys : List Said) → length (filter test (xs ++ ys)) ≡ length (filter test xs) + length (filter test ys)
count_more test [] ys = none_before (length (filter test ys))
count_more test (x ∷ xs) ys = go (test x) (count_more test xs ys)
  where
    go : (b : Bool) → length (filter test (xs ++ ys)) ≡ length (filter test xs) + length (filter test ys) →
        length (if b then x ∷ filter test (xs ++ ys) else filter test (xs ++ ys)) ≡ length (if b then x ∷ filter test xs else filter test xs) + length (filter test ys)
    go true rest = one_later (length (filter test (xs ++ ys))) (length (filter test xs)) (length (filter test ys)) rest
    go false rest = rest

sums : (d n m k : ℕ) → n ≡ m + k → d + n ≡ (d + m) + k
sums d n m k e = omega (arith, e)

unexplained_more : (script : List Line) (i : ℕ) (before xs ys : List Said) →
    unexplained_from script i before (xs ++ ys) ≡ unexplained_from script i before xs + unexplained_from script i (before ++ xs) ys
unexplained_more script i before [] ys =
    none_before (unexplained_from script i before ys) ∙ ap (λ b. 0 + unexplained_from script i b ys) (sym (nil_right before))
unexplained_more script i before (x ∷ xs) ys =
    sums (if is_unexplained script i before x then 1 else 0) (unexplained_from script i (before ++ x ∷ []) (xs ++ ys)) (unexplained_from script i (before ++ x ∷ []) xs)
    (unexplained_from script i (before ++ x ∷ xs) ys)
    (unexplained_more script i (before ++ x ∷ []) xs ys
    ∙ ap (λ b. unexplained_from script i (before ++ x ∷ []) xs + unexplained_from script i b ys) (append_assoc before (x ∷ []) xs))

-- ---- a moment

-- what is due and said of a server, of `io` and of deaths that nothing explains
abbrev io_level : ℕ → State → ℕ
io_level i s = io_due (key_of (s.core.servers i)) + io_answers i (saids_of s.record_)

abbrev death_level : List Line → ℕ → State → ℕ
death_level script i s = death_due (key_of (s.core.servers i)) + unexplained_deaths script i (saids_of s.record_)

abbrev Calls : List Line → State → Type 0
Calls script s = (i : ℕ) → CallFits (s.core.servers i).phase (s.core.servers i).failed (called script i (saids_of s.record_))

record Climbs (script : List Line) (i : ℕ) (s v : State) (fails : ℕ) : Type 0 where
  answers : io_level i v ≤ io_level i s + fails
  deaths : death_level script i v ≤ death_level script i s + fails
  calls : CallFits (v.core.servers i).phase (v.core.servers i).failed (called script i (saids_of v.record_))

climbs_by : (l m k n t fails : ℕ) → l + n ≤ k + fails → t ≡ m + n → l + t ≤ (k + m) + fails
climbs_by l m k n t fails h e = omega (arith, h, e)

-- from what is said at the step
climbs : (script : List Line) (i : ℕ) (s v : State) (more : List Said) (fails : ℕ) → saids_of v.record_ ≡ saids_of s.record_ ++ more →
    Pays script (saids_of s.record_) more i (key_of (s.core.servers i)) (key_of (v.core.servers i)) fails → Climbs script i s v fails
climbs script i s v more fails e p = record {
  answers =
      climbs_by (io_due (key_of (v.core.servers i))) (io_answers i (saids_of s.record_)) (io_due (key_of (s.core.servers i))) (io_answers i more) (io_answers i (saids_of v.record_)) fails p.answers
      (ap (λ ss. io_answers i ss) e ∙ count_more (is_io_of i) (saids_of s.record_) more);
  deaths =
      climbs_by (death_due (key_of (v.core.servers i))) (unexplained_deaths script i (saids_of s.record_)) (death_due (key_of (s.core.servers i)))
      (unexplained_from script i (saids_of s.record_) more) (unexplained_deaths script i (saids_of v.record_)) fails p.deaths
      (ap (λ ss. unexplained_deaths script i ss) e ∙ unexplained_more script i [] (saids_of s.record_) more);
  calls = subst (λ ss. CallFits (v.core.servers i).phase (v.core.servers i).failed (called script i ss)) (sym e) p.calls;
}

-- ---- steps

module _ (opening : Opening) (setting : Setting) (disk : Sectors) (numbered : IsNumbered setting.script) (ashore : OffHasNoFlights) where
  module _ (s : State) (before : Run (first_state setting disk) s) (h : Calls setting.script s) where
    abbrev own_faults : Faults
    own_faults = run_faults (first_state setting disk) s before

    holds : Holds opening setting disk numbered own_faults (run_has_its_faults (first_state setting disk) s before).1.stay ashore (saids_of s.record_) s.core
    holds =
        holds_of_run opening setting disk numbered own_faults (run_has_its_faults (first_state setting disk) s before).1.stay ashore s before
        (run_has_its_faults (first_state setting disk) s before).1.counted

    lease : (a : ℕ) → IsTrue (is_server a) → IsTrue (is_still (s.core.servers a).phase) → IsTrue (not (clean_at s.core a)) → IsTrue (may_be_dirty setting.script a (saids_of s.record_))
    lease = still_is_dirty opening setting disk numbered own_faults (run_has_its_faults (first_state setting disk) s before).1.stay ashore s before holds

    -- whatever calls fail
    failed_silently : (v : State) (i fails : ℕ) → saids_of v.record_ ≡ saids_of s.record_ → key_of (v.core.servers i) ≡ key_of (s.core.servers i) → Climbs setting.script i s v fails
    failed_silently v i fails e k =
        climbs setting.script i s v [] fails (e ∙ sym (nil_right (saids_of s.record_)))
        (same_pays setting.script (saids_of s.record_) i (key_of (s.core.servers i)) (h i) (key_of (v.core.servers i)) fails k)

    nothing_said : (v : State) (i : ℕ) → saids_of v.record_ ≡ saids_of s.record_ → key_of (v.core.servers i) ≡ key_of (s.core.servers i) → Climbs setting.script i s v 0
    nothing_said v i e k = failed_silently v i 0 e k

    flushed_key : (a i : ℕ) (b : Bool) → nat_eq i a ≡ b → key_of (if b then wanting_all_up (s.core.servers a) else s.core.servers i) ≡ key_of (s.core.servers i)
    flushed_key a i true e = wanting_steady (s.core.servers a) ∙ ap (λ j. key_of (s.core.servers j)) (sym (eqb-true i a e))
    flushed_key a i false e = refl

    note_aside : (i : ℕ) (line : Said) → IsTrue (is_note line) → IsAside i line
    note_aside i (said.Backup number) n = tt
    note_aside i (said.Locks number) n = tt
    note_aside i line n = absurd (false≢true n)

    step_climbs : (v : State) (step : Step s v) (i : ℕ) → Climbs setting.script i s v (if is_of i (fails_at s v step) then 1 else 0)
    step_climbs v (Event_ event heard makes) i =
        climbs setting.script i s v (saids_of (deeds_of s.core event heard)) (one_if (is_of i (fails_at s v (Event_ event heard makes)))) (said_more s.record_ (deeds_of s.core event heard))
        (event_pays setting.script own_faults s.core (saids_of s.record_) holds.fits lease h event heard s.disk makes.can.can makes.hears i)
    step_climbs v (Enter a line can) i = nothing_said v i refl refl
    step_climbs v (Hold a on may) i = nothing_said v i refl refl
    step_climbs v (Flush a may) i = nothing_said v i refl (flushed_key a i (nat_eq i a) refl)
    step_climbs v (Relock locks going are same wait) i = nothing_said v i refl refl
    step_climbs v (Note line may) i =
        climbs setting.script i s v (line ∷ []) 0 (said_more s.record_ (Says line ∷ []))
        (aside_pays setting.script (saids_of s.record_) i (key_of (s.core.servers i)) (h i) line (key_of (s.core.servers i)) (key_of (s.core.servers i)).saves 0 refl
        (note_aside i line (and_parts (is_note line) (goes_on s.core) may).0))
    step_climbs v (Peek sector going) i = nothing_said v i refl refl
    step_climbs v (PeekFails sector going) i = failed_silently v i (if is_of i (Some host_party) then 1 else 0) refl refl

  -- ---- runs

  climbs_all : (a b c d e : ℕ) → b ≤ a + d → c ≤ b + e → c ≤ a + (d + e)
  climbs_all a b c d e h k = omega (arith, h, k)

  stays_there : (a : ℕ) → a ≤ a + 0
  stays_there a = omega arith

  record Rises (i : ℕ) (s v : State) (fails : ℕ) : Type 0 where
    answers : io_level i v ≤ io_level i s + fails
    deaths : death_level setting.script i v ≤ death_level setting.script i s + fails

  run_climbs : (s v : State) → Run (first_state setting disk) s → (run : Run s v) → Calls setting.script s → (i : ℕ) → Rises i s v (failed_calls s v run i)
  run_climbs s v before Stays h i = record { answers = stays_there (io_level i s); deaths = stays_there (death_level setting.script i s) }
  run_climbs s w before (Goes {v = v} step run) h i =
      let here : Climbs setting.script i s v (if is_of i (fails_at s v step) then 1 else 0) = step_climbs s before h v step i in
      let rest : Rises i v w (failed_calls v w run i) =
      run_climbs v w (longer (first_state setting disk) s v before step) run (λ j. (step_climbs s before h v step j).calls) i in
      record {
        answers = climbs_all (io_level i s) (io_level i v) (io_level i w) (if is_of i (fails_at s v step) then 1 else 0) (failed_calls v w run i) here.answers rest.answers;
        deaths =
            climbs_all (death_level setting.script i s) (death_level setting.script i v) (death_level setting.script i w) (if is_of i (fails_at s v step) then 1 else 0) (failed_calls v w run i)
            here.deaths rest.deaths;
      }

  -- at first nothing is due and nothing is said
  first_calls : Calls setting.script (first_state setting disk)
  first_calls i = tt

  from_first : (a m d : ℕ) → a + m ≤ (0 + 0) + d → m ≤ d
  from_first a m d h = omega (arith, h)

  pub io_within : (s : State) (run : Run (first_state setting disk) s) (i : ℕ) → io_answers i (saids_of s.record_) ≤ failed_calls (first_state setting disk) s run i
  io_within s run i =
      from_first (io_due (key_of (s.core.servers i))) (io_answers i (saids_of s.record_)) (failed_calls (first_state setting disk) s run i)
      (run_climbs (first_state setting disk) s Stays run first_calls i).answers

  pub deaths_within : (s : State) (run : Run (first_state setting disk) s) (i : ℕ) →
      unexplained_deaths setting.script i (saids_of s.record_) ≤ failed_calls (first_state setting disk) s run i
  deaths_within s run i =
      from_first (death_due (key_of (s.core.servers i))) (unexplained_deaths setting.script i (saids_of s.record_)) (failed_calls (first_state setting disk) s run i)
      (run_climbs (first_state setting disk) s Stays run first_calls i).deaths

-- a server of which a call failed has failed calls
pub some_failed : (s v : State) (run : Run s v) (i : ℕ) → has_failed s v run i ≡ true → 0 < failed_calls s v run i
some_failed s v Stays i e = absurd (false≢true e)
some_failed s w (Goes {v = v} step run) i e = go (is_of i (fails_at s v step)) (has_failed v w run i) (failed_calls v w run i) e (some_failed v w run i)
  where
    one_first : (n : ℕ) → 0 < 1 + n
    one_first n = omega arith

    behind : (n : ℕ) → 0 < n → 0 < 0 + n
    behind n h = omega (arith, h)

    go : (b r : Bool) (n : ℕ) → (b || r) ≡ true → (r ≡ true → 0 < n) → 0 < (if b then 1 else 0) + n
    go true r n e rest = one_first n
    go false r n e rest = behind n (rest e)
