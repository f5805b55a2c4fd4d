-- By the lines said who is off, up, stalled or dead is so whatever faults are told; and that fits the servers of the core.
use Rattle.std.proofs.Common.{ℕ, ◌≡◌, ◌⊎◌, inl, inr, ◌==◌, ◌+◌, Bool, true, false, not, if◌then◌else◌, IsTrue, Option, Some, None, List, [], ◌∷◌, length, refl, sym, ap, ◌∙◌}
use Rattle.std.proofs.lemmas.Bool.{false≢true}
use Rattle.std.specs.List.{list_any}
use Rattle.frang_base.specs.declared.op.What.{What}
use Rattle.frang_base.specs.declared.op.What.TheVariants.{Server, Host}
use Rattle.frang_base.specs.declared.reply.Reply.{Reply}
use Rattle.frang_base.specs.declared.said.Said.{Said}
use Rattle.frang_base.specs.declared.said.Said.TheVariants as said
use Rattle.frang_base.specs.declared.script.Line.{Line}
use Rattle.tree_definitions.specs.Live.{line_of}
use Rattle.tree_definitions.specs.Transcript.{Faults, Phase, ServerState, after_asked, after_death, after_line, after_renewal, after_said, first_state, is_mounted_or_dead, is_node, is_off as is_told_off, no_faults, phase_after, state_from, state_of}
use Rattle.tree_definitions.specs.Transcript.Phase.{Off as ToldOff, Up as ToldUp, Stalled, Dead as ToldDead}
use Rattle.core_definitions.specs.Cores.{is_all_answered}
use Rattle.core_definitions.specs.LineGuards.{is_server}
use Rattle.core_definitions.specs.Runs.{State, saids_of}
use Rattle.core_definitions.specs.Scripts.{all_answered}
use Rattle.core_definitions.specs.Servers as life
use Rattle.core_definitions.specs.Servers.{is_off}
use Rattle.core_laws.specs.Facts.{OffHasNoFlights}
use Rattle.core_transcripts.specs.Scripts.{ReadScriptsAreNumbered}
use Rattle.core_transcripts.proofs.Fits.{PhaseFits, key_of}
use Rattle.core_transcripts.proofs.Fitting.{AtRest}
use Rattle.core_world.specs.Steps.{IsReached}
use Rattle.core_histories.specs.Phases.{TreesAreSaidAtRest, WhoIsMountedIsTold, WhoIsOffIsTold}
use Rattle.core_histories.proofs.Due.{faults, fits, holds}

-- ---- whatever faults are told

module _ (script : List Line) (a : ℕ) where
  either : (own : Bool) (t u x y : ServerState) → u.phase ≡ t.phase → y.phase ≡ x.phase → (if own then y else u).phase ≡ (if own then x else t).phase
  either true t u x y same then_ = then_
  either false t u x y same then_ = same

  of_what : (t u : ServerState) (w : What) (r : Reply) → u.phase ≡ t.phase → (after_asked u w r).phase ≡ (after_asked t w r).phase
  of_what t u (Server o) r same = ap (λ p. phase_after p o r) same
  of_what t u (Host h) r same = same

  of_line : (t u : ServerState) (l : Option Line) (r : Reply) → u.phase ≡ t.phase → (after_line u l r).phase ≡ (after_line t l r).phase
  of_line t u None r same = same
  of_line t u (Some l) r same = of_what t u l.what r same

  one_more : (e f : Bool) (t u : ServerState) (x : Said) → u.phase ≡ t.phase → (after_said script a f u x).phase ≡ (after_said script a e t x).phase
  one_more e f t u (said.Answer s n r) same = either (s.0 == a) t u (after_line t (line_of script n) r) (after_line u (line_of script n) r) same (of_line t u (line_of script n) r same)
  one_more e f t u (said.Dead s) same = either (s.0 == a) t u (after_death t e) (after_death u f) same refl
  one_more e f t u (said.Recovering s by) same = either (s.0 == a) t u (record t { under_recovery = true }) (record u { under_recovery = true }) same same
  one_more e f t u (said.Recovered s kept) same = either (s.0 == a) t u (record t { phase = ToldOff }) (record u { phase = ToldOff }) same refl
  one_more e f t u (said.Renewed s) same = either (s.0 == a) t u (after_renewal t) (after_renewal u) same refl
  one_more e f t u x same = same

  from_there : (f g : Faults) (place : ℕ) (t u : ServerState) (saids : List Said) → u.phase ≡ t.phase → (state_from script g a place u saids).phase ≡ (state_from script f a place t saids).phase
  from_there f g place t u [] same = same
  from_there f g place t u (x ∷ saids) same =
      from_there f g (place + 1) (after_said script a (f place a) t x) (after_said script a (g place a) u x) saids (one_more (f place a) (g place a) t u x same)

  same_phase : (f : Faults) (saids : List Said) → (state_of script no_faults a saids).phase ≡ (state_of script f a saids).phase
  same_phase f saids = from_there f no_faults 0 first_state first_state saids refl

-- ---- of the core

mounted_fits : (p : life.Phase) (q : Phase) (all faulted : Bool) → PhaseFits p q all faulted → is_off p ≡ false → not (is_told_off q) ≡ true
mounted_fits life.Off q all faulted h e = absurd (false≢true (sym e))
mounted_fits life.Up ToldUp all faulted h e = refl
mounted_fits life.Up ToldOff all faulted h e = absurd h
mounted_fits life.Up Stalled all faulted h e = refl
mounted_fits life.Up ToldDead all faulted h e = refl
mounted_fits life.Still ToldOff all faulted h e = absurd h
mounted_fits life.Still q all faulted h e = refl
mounted_fits (life.Doomed fate) ToldOff all faulted h e = absurd h
mounted_fits (life.Doomed fate) q all faulted h e = refl
mounted_fits life.Dead ToldOff all faulted h e = absurd h
mounted_fits life.Dead q all faulted h e = refl

off_fits : (p : life.Phase) (q : Phase) (all faulted : Bool) → PhaseFits p q all faulted → is_off p ≡ true → all ≡ false → not (is_told_off q) ≡ false
off_fits life.Off ToldOff all faulted h e open_ = refl
off_fits life.Off ToldUp all faulted h e open_ = absurd (false≢true (sym open_ ∙ h))
off_fits life.Off Stalled all faulted h e open_ = absurd h
off_fits life.Off ToldDead all faulted h e open_ = absurd h
off_fits life.Up q all faulted h e open_ = absurd (false≢true e)
off_fits life.Still q all faulted h e open_ = absurd (false≢true e)
off_fits (life.Doomed fate) q all faulted h e open_ = absurd (false≢true e)
off_fits life.Dead q all faulted h e open_ = absurd (false≢true e)

module _ (numbers : ReadScriptsAreNumbered) (ashore : OffHasNoFlights) (s : State) (a : ℕ) (r : IsReached s) where
  abbrev saids : List Said
  saids = saids_of s.record_

  is_told : is_mounted_or_dead s.core.setting.script saids a ≡ not (is_told_off (state_of r.script (faults numbers ashore s r) a saids).phase)
  is_told =
      ap (λ z. is_mounted_or_dead z.script saids a) (holds numbers ashore s r).same ∙ ap (λ p. not (is_told_off p)) (same_phase r.script a (faults numbers ashore s r) saids)

  told_mounted : is_off (s.core.servers a).phase ≡ false → is_mounted_or_dead s.core.setting.script saids a ≡ true
  told_mounted e =
      is_told
      ∙ mounted_fits (s.core.servers a).phase (state_of r.script (faults numbers ashore s r) a saids).phase (all_answered r.script s.core.answered) (faults numbers ashore s r (length saids) a)
      (fits numbers ashore s r a).phase e

  told_off : is_off (s.core.servers a).phase ≡ true → is_all_answered s.core ≡ false → is_mounted_or_dead s.core.setting.script saids a ≡ false
  told_off e open_ =
      is_told
      ∙ off_fits (s.core.servers a).phase (state_of r.script (faults numbers ashore s r) a saids).phase (all_answered r.script s.core.answered) (faults numbers ashore s r (length saids) a)
      (fits numbers ashore s r a).phase e (sym (ap (λ z. all_answered z.script s.core.answered) (holds numbers ashore s r).same) ∙ open_)

  at_rest : IsTrue (is_server a) → list_any is_node saids ≡ true → is_off (s.core.servers a).phase ≡ true
  at_rest server shown = go (holds numbers ashore s r).fits.resting
    where
      go : (list_any is_node saids ≡ false) ⊎ AtRest r.script (λ i. key_of (s.core.servers i)) s.core.answered → is_off (s.core.servers a).phase ≡ true
      go (inl none) = absurd (false≢true (sym none ∙ shown))
      go (inr rest) = rest.off a server

pub who_is_mounted : ReadScriptsAreNumbered → OffHasNoFlights → WhoIsMountedIsTold
who_is_mounted numbers ashore s a r e = told_mounted numbers ashore s a r e

pub who_is_off : ReadScriptsAreNumbered → OffHasNoFlights → WhoIsOffIsTold
who_is_off numbers ashore s a r e open_ = told_off numbers ashore s a r e open_

pub trees_at_rest : ReadScriptsAreNumbered → OffHasNoFlights → TreesAreSaidAtRest
trees_at_rest numbers ashore s a r server shown = at_rest numbers ashore s a r server shown
