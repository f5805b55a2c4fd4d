-- The numbers of a log stay small: at each step they rise only where a line is answered, and there are so many lines.
use Rattle.std.proofs.Common.{◌≡◌, ℕ, suc, ◌≤◌, ◌<◌, ◌+◌, ◌*◌, ◌^◌, Bool, true, false, if◌then◌else◌, is_some, IsTrue, List, [], ◌∷◌, length, Option, Some, None, refl, sym, ap, ◌∙◌, subst, arith}
use Rattle.std.proofs.Math.Nat.{le_refl}
use Rattle.std.proofs.lemmas.Bool.{false≢true}
use Rattle.frang_base.specs.declared.script.Line.{Line}
use Rattle.disk_definitions.proofs.Listed.{Among}
use Rattle.disk_definitions.specs.Logs.{log_end}
use Rattle.disk_definitions.specs.Replay.{slots_of}
use Rattle.sector_bytes.specs.Sectors.{Sectors}
use Rattle.ring_definitions.specs.Rings.{last}
use Rattle.core_definitions.specs.Cores.{next_of}
use Rattle.core_definitions.specs.LineGuards.{is_server}
use Rattle.core_definitions.specs.Lines.{Under}
use Rattle.core_definitions.specs.Runs.{State, Step, Run, Stays, Goes, first_state}
use Rattle.core_definitions.specs.Servers.{is_off}
use Rattle.core_definitions.specs.Settings.{Setting, setting_of}
use Rattle.core_facts.proofs.Turns.{work_of, step_turn}
use Rattle.core_laws.proofs.Along.{along, longer}
use Rattle.core_laws.proofs.Kept.{setting_of_run}
use Rattle.core_laws.proofs.Windows.{windows_kept}
use Rattle.core_laws.specs.Leases.{LeasesEnd}
use Rattle.core_transcripts.proofs.Numbering.{all_is_none, of_next}
use Rattle.core_transcripts.specs.Answers.{HaveOwnNumbers, LinesUnderWayAreNext}
use Rattle.core_journals.specs.Journals.{IsAtRest, IsLog, Journal, journal_at}
use Rattle.core_journals.specs.Logs.{HasFitRecords, IsFit, Onward}
use Rattle.core_journals.proofs.Answering.{Answering, Done, Ends, Goes as GoesOn, Said, no_more, one_less, step_said, unanswered}
use Rattle.core_journals.proofs.Rising.{Level, Rise, Ends as Ended, top, turn_rise}
use Rattle.core_journals.proofs.Standing.{before_of, log_begins, log_goes_on}

module _ (ends : LeasesEnd) (next : LinesUnderWayAreNext) (script : List Line) (segments number : ℕ) (disk : Sectors) (own : HaveOwnNumbers script) (few : length script < 2 ^ 53) (a : ℕ) (server : IsTrue (is_server a))
    (rest : IsAtRest (slots_of disk a)) (small : log_end (slots_of disk a) < 2 ^ 61) where
  abbrev setting : Setting
  setting = setting_of script segments number

  abbrev waits : State → ℕ
  waits s = length (unanswered s.core.answered script)

  abbrev Bound : State → Type 0
  Bound s = top (s.core.servers a) s.disk a + 192 * waits s ≤ log_end (slots_of disk a) + 192 * length script

  fit_if : (x : Bool) (e n u k l : ℕ) → (if x then e else n + 64) + 192 * u ≤ k + 192 * l → l < 2 ^ 53 → k < 2 ^ 61 → (x ≡ false → n < 2 ^ 62) × (IsTrue x → e < 2 ^ 62)
  fit_if true e n u k l h i m = ((λ f. absurd (false≢true (sym f))), (λ t. low e u k l h i m))
    where
      low : (e u k l : ℕ) → e + 192 * u ≤ k + 192 * l → l < 2 ^ 53 → k < 2 ^ 61 → e < 2 ^ 62
      low e u k l h i m = omega (arith, h, i, m)
  fit_if false e n u k l h i m = ((λ f. low n u k l h i m), (λ t. absurd (false≢true t)))
    where
      low : (n u k l : ℕ) → n + 64 + 192 * u ≤ k + 192 * l → l < 2 ^ 53 → k < 2 ^ 61 → n < 2 ^ 62
      low n u k l h i m = omega (arith, h, i, m)

  fit_of : (s : State) → Bound s → HasFitRecords s a → IsFit s a
  fit_of s bound records =
      let r = fit_if (is_off (s.core.servers a).phase) (log_end (slots_of s.disk a)) (last (s.core.servers a).ring) (waits s) (log_end (slots_of disk a)) (length script) bound few small in
      record { ring = r.0; end = r.1; records = records }

  -- a step
  module _ (s v : State) (run : Run (first_state setting disk) s) (step : Step s v) where
    answering : Answering s.core v.core
    answering = step_said s v step

    level : (t u n m k : ℕ) → t ≤ u → n ≤ m → u + 192 * m ≤ k → t + 192 * n ≤ k
    level t u n m k h i b = omega (arith, h, i, b)

    raised : (t u n m k : ℕ) → t ≤ u + 192 → suc n ≤ m → u + 192 * m ≤ k → t + 192 * n ≤ k
    raised t u n m k h i b = omega (arith, h, i, b)

    fewer_wait : waits v ≤ waits s
    fewer_wait = no_more s.core.answered v.core.answered answering.grows script

    script_is : s.core.setting.script ≡ script
    script_is = ap (λ (x : Setting). x.script) (setting_of_run setting disk s run)

    -- a line that was under way and isn't any more is answered
    one_answered : IsTrue (is_some (s.core.servers a).under) → (v.core.servers a).under ≡ None → suc (waits v) ≤ waits s
    one_answered was none = go (s.core.servers a).under refl was
      where
        go : (u : Option Under) → (s.core.servers a).under ≡ u → IsTrue (is_some u) → suc (waits v) ≤ waits s
        go None e t = absurd (false≢true t)
        go (Some under) e t = by_end (answering.ends a under e)
          where
            open_ : (next_of s.core a ≡ Some under.line) × (s.core.answered under.line.number ≡ false)
            open_ = next setting disk s own run a under server e

            there : Among under.line script
            there = subst (Among under.line) script_is (of_next s.core.setting.script s.core.answered a under.line open_.0).there

            by_end : Ends s.core v.core a under → suc (waits v) ≤ waits s
            by_end (GoesOn some) = absurd (false≢true (sym (ap is_some none) ∙ some))
            by_end (Said is) = one_less s.core.answered v.core.answered answering.grows script under.line there open_.1 is
            by_end (Done all) = absurd (all_is_none s.core.setting.script s.core.answered a under.line all open_.0)

    bound_step : (j : Journal) → IsLog s a j → IsFit s a → Bound s → Bound v
    bound_step j log fit bound =
        go (turn_rise s (work_of v) (step_turn s v step) a server (before_of ends script segments number disk s run a server fit)
        (windows_kept setting disk v (longer (first_state setting disk) s v run step) a) j log)
      where
        go : Rise s a (v.core.servers a) v.disk → Bound v
        go (Level up) = level (top (v.core.servers a) v.disk a) (top (s.core.servers a) s.disk a) (waits v) (waits s) (log_end (slots_of disk a) + 192 * length script) up fewer_wait bound
        go (Ended was none up) =
            raised (top (v.core.servers a) v.disk a) (top (s.core.servers a) s.disk a) (waits v) (waits s) (log_end (slots_of disk a) + 192 * length script) up (one_answered was none) bound

  -- over every run
  abbrev Standing : State → Type 0
  Standing s = Bound s × ((j : Journal) × IsLog s a j)

  abbrev RecordsTo : State → Type 0
  RecordsTo s = (v : State) → Run (first_state setting disk) v → Run v s → HasFitRecords v a

  none_answered : (lines : List Line) → length (unanswered (λ n. false) lines) ≡ length lines
  none_answered [] = refl
  none_answered (x ∷ xs) = ap suc (none_answered xs)

  stands : (s : State) → Run (first_state setting disk) s → RecordsTo s → Standing s
  stands =
      along setting disk (λ s. RecordsTo s → Standing s)
      (λ s v run step p fits.
      let x : Standing s = p (λ u to from. fits u to (longer u s v from step)) in
      let fit : IsFit s a = fit_of s x.0 (fits s run (Goes step Stays)) in
      let o : Onward s v a x.1.0 = log_goes_on ends script segments number disk s v run step a server x.1.0 fit x.1.1 in
      (bound_step s v run step x.1.0 x.1.1 fit x.0, (o.next, o.log)))
      (λ fits. (
        subst (λ n. log_end (slots_of disk a) + 192 * n ≤ log_end (slots_of disk a) + 192 * length script) (sym (none_answered script)) (le_refl (log_end (slots_of disk a) + 192 * length script)),
        (journal_at (slots_of disk a), log_begins script segments number disk a (journal_at (slots_of disk a)) rest),
      ))

  pub numbers_stay_small : (s : State) → Run (first_state setting disk) s → RecordsTo s → IsFit s a × ((j : Journal) × IsLog s a j)
  numbers_stay_small s run fits = let x : Standing s = stands s run fits in (fit_of s x.0 (fits s run Stays), x.1)
