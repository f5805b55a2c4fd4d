-- A server is doomed only where the lines said call for its death or a call of its present mount failed; and a death that they call for is explained by them.
use Rattle.std.proofs.Common.{ℕ, ◌≡◌, Bool, true, false, not, ◌&&◌, ◌||◌, IsTrue, List, Option, Some, None, filter, length, nat_eq, refl, sym, ap, ◌∙◌, subst}
use Rattle.std.proofs.lemmas.Bool.{false≢true, and_from, or_left}
use Rattle.frang_base.specs.declared.op.Op.{Op}
use Rattle.frang_base.specs.declared.reply.Reply.{Reply}
use Rattle.frang_base.specs.declared.said.Said.{Said}
use Rattle.frang_base.specs.declared.said.Said.TheVariants as said
use Rattle.frang_base.specs.declared.script.Line.{Line}
use Rattle.tree_definitions.specs.Transcript.{Faults, Phase as ToldPhase, ServerState, is_answer_of, is_called_for, is_in_mount as is_told_in_mount, is_unexplained, may_be_dirty, may_die_now, next_line as told_next, no_faults, state_of}
use Rattle.tree_definitions.specs.Transcript.Phase.{Off as ToldOff, Up as ToldUp, Stalled, Dead as ToldDead}
use Rattle.core_definitions.specs.Lines.{operation_of}
use Rattle.core_definitions.specs.Scripts.{next_line}
use Rattle.core_definitions.specs.Servers.{Fate, Phase, Off, Up, Still, Doomed, Dead, is_still, is_up}
use Rattle.core_definitions.specs.Cores.{Core, clean_at}
use Rattle.core_definitions.specs.Effects.{id_of}
use Rattle.core_definitions.specs.WriteGuards.{CanDoom}
use Rattle.core_transcripts.proofs.Dooming.{is_doomed_so}
use Rattle.core_transcripts.proofs.Fits.{Asked, AskFits, DoomFits, Fits, Key, LineFits, PhaseFits, Told, UnderFits, key_of}
use Rattle.core_transcripts.proofs.Fitting.{told_of}
use Rattle.core_transcripts.proofs.Happening.{CoreFits}
use Rattle.core_transcripts.proofs.Lives.{doomed_in_mount}
use Rattle.core_transcripts.proofs.Numbering.{next_by_count}
use Rattle.core_transcripts.proofs.Called.{called, called_alike, state_alike}

-- ---- its count of faults told as its own

or_not : (b : Bool) → IsTrue (not b || b)
or_not true = refl
or_not false = refl

phase_so : (p : Phase) (q : ToldPhase) (all e own : Bool) → IsTrue (is_up p || is_still p) → PhaseFits p q all e → PhaseFits p q all own
phase_so Up ToldUp all e own m h = tt
phase_so Up ToldOff all e own m h = absurd h
phase_so Up Stalled all e own m h = absurd h
phase_so Up ToldDead all e own m h = absurd h
phase_so Still Stalled all e own m h = tt
phase_so Still ToldOff all e own m h = absurd h
phase_so Still ToldUp all e own m h = absurd h
phase_so Still ToldDead all e own m h = absurd h
phase_so Off q all e own m h = absurd (false≢true m)
phase_so (Doomed f) q all e own m h = absurd (false≢true m)
phase_so Dead q all e own m h = absurd (false≢true m)

line_so : (p : Phase) (owes : Bool) (t : ServerState) (e own : Bool) (o : Op) (fixed : Option Reply) (got : Bool) → IsTrue (is_up p || is_still p) → LineFits p owes t e o fixed got →
    LineFits p owes t own o fixed got
line_so Up owes t e own o (Some r) got m h = h
line_so Up owes t e own o None got m h = h
line_so Still owes t e own o (Some r) got m h = absurd h
line_so Still owes t e own o None got m h = absurd h
line_so Off owes t e own o fixed got m h = absurd (false≢true m)
line_so (Doomed f) owes t e own o fixed got m h = absurd (false≢true m)
line_so Dead owes t e own o fixed got m h = absurd (false≢true m)

ask_so : (p : Phase) (owes : Bool) (t : ServerState) (e own : Bool) (o : Option Op) (fixed : Option Reply) (got : Bool) → IsTrue (is_up p || is_still p) → AskFits p owes t e o fixed got →
    AskFits p owes t own o fixed got
ask_so p owes t e own None fixed got m h = absurd h
ask_so p owes t e own (Some o) fixed got m h = line_so p owes t e own o fixed got m h

under_so : (p : Phase) (owes : Bool) (t : Told) (own : Bool) (asked : Option Asked) → IsTrue (is_up p || is_still p) → UnderFits p owes t asked → UnderFits p owes (record t { faulted = own }) asked
under_so p owes t own None m h = tt
under_so p owes t own (Some asked) m h = record {
  next = h.next;
  hosts = h.hosts;
  awake = h.awake;
  line = ask_so p owes t.state t.faulted own (operation_of asked.line.what) asked.fixed asked.get_failed m h.line;
}

doom_so : (p : Phase) (t : Told) → IsTrue (is_up p || is_still p) → DoomFits p t
doom_so Up t m = tt
doom_so Still t m = tt
doom_so Off t m = absurd (false≢true m)
doom_so (Doomed f) t m = absurd (false≢true m)
doom_so Dead t m = absurd (false≢true m)

-- what is told of a server in its mount fits it all the same
own_fits : (k : Key) (t : Told) → IsTrue (is_up k.phase || is_still k.phase) → Fits k t → Fits k (record t { faulted = k.failed })
own_fits k t m g = record {
  phase = phase_so k.phase t.state.phase t.all t.faulted k.failed m g.phase;
  owing = g.owing;
  calm = g.calm;
  armed = g.armed;
  failed = or_not k.failed;
  doomed = doom_so k.phase (record t { faulted = k.failed }) m;
  under = under_so k.phase k.owes t k.failed k.asked m g.under;
}

-- ---- a doom

module _ (script : List Line) (f : Faults) (c : Core) (saids : List Said) (g : CoreFits script f saids c) where
  abbrev Now : ℕ → Told
  Now a = told_of script f saids c.answered a

  -- its next line, by the lines said
  next_told : (a : ℕ) → told_next a script saids ≡ next_line script c.answered a
  next_told a = next_by_count script c.answered a (length (filter (is_answer_of a) saids)) (g.firsts a)

  called_so : (a : ℕ) → called script a saids ≡ is_called_for (Now a).state (Now a).next (Now a).dirty
  called_so a =
      called_alike (state_of script f a saids) (state_of script no_faults a saids) (told_next a script saids) (may_be_dirty script a saids) (state_alike script f no_faults a saids)
      ∙ ap (λ n. is_called_for (state_of script f a saids) n (may_be_dirty script a saids)) (next_told a)

  module _ (a : ℕ) (can : CanDoom c a) (lease : IsTrue (is_still (c.servers a).phase) → IsTrue (not (clean_at c a)) → IsTrue (may_be_dirty script a saids)) where
    pub doomed_mounted : IsTrue (is_up (c.servers a).phase || is_still (c.servers a).phase)
    doomed_mounted = (is_doomed_so c a (Now a) (g.servers a) can (λ s n. or_left (may_be_dirty script a saids) (f (length saids) a) (lease s n))).mount

    pub doomed_calls : IsTrue (called script a saids || (c.servers a).failed)
    doomed_calls =
        subst (λ b. IsTrue (b || (c.servers a).failed)) (sym (called_so a))
        (is_doomed_so c a (record (Now a) { faulted = (c.servers a).failed }) (own_fits (key_of (c.servers a)) (Now a) doomed_mounted (g.servers a)) can
        (λ s n. or_left (may_be_dirty script a saids) (c.servers a).failed (lease s n))).cause

  -- ---- a death

  or_none : (x : Bool) → IsTrue x → IsTrue (x || false)
  or_none true h = refl
  or_none false h = absurd (false≢true h)

  no_more : (b x : Bool) → IsTrue x → (b && not x) ≡ false
  no_more true true h = refl
  no_more false true h = refl
  no_more b false h = absurd (false≢true h)

  pub death_explained : (a : ℕ) (fate : Fate) → (c.servers a).phase ≡ Doomed fate → IsTrue (called script a saids) → is_unexplained script a saids (said.Dead (id_of a)) ≡ false
  death_explained a fate is h =
      no_more (nat_eq a a) (may_die_now script no_faults saids a)
      (and_from (is_told_in_mount (state_of script no_faults a saids).phase) (called script a saids || false)
      (subst (λ p. IsTrue (is_told_in_mount p)) (sym (state_alike script f no_faults a saids).phase)
      (doomed_in_mount fate (Now a).state.phase (Now a).all (Now a).faulted (subst (λ p. PhaseFits p (Now a).state.phase (Now a).all (Now a).faulted) is (g.servers a).phase)))
      (or_none (called script a saids) h))
