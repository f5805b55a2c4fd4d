-- The lines of servers' lives: deaths, renewals, and recoveries with their ends.
use Rattle.std.proofs.Common.{ℕ, ◌≡◌, ◌≤◌, Bool, true, false, ◌&&◌, ◌||◌, if◌then◌else◌, IsTrue, List, [], ◌∷◌, ◌++◌, Option, Some, None, filter, length, nat_eq, nat_lt, refl, sym, ap, ◌∙◌, subst}
use Rattle.std.proofs.lemmas.Bool.{false≢true, or_right, or_left, and_parts, both_ways, and_from, eqb-true, eq-eqb}
use Rattle.std.specs.Option.{option_map}
use Rattle.std.proofs.lemmas.Option.{same_Some, none-some}
use Rattle.frang_base.specs.Functions.{put}
use Rattle.frang_base.specs.declared.said.Said.{Said}
use Rattle.frang_base.specs.declared.said.Said.TheVariants as said
use Rattle.frang_base.specs.declared.sector.OpNo.{OpNo}
use Rattle.tree_definitions.specs.History.{Opening}
use Rattle.tree_definitions.specs.Transcript.{Faults, Phase as ToldPhase, after_death, after_renewal, after_said, dirty_after, goes_on, is_answer_of, is_called_for, is_dead as is_told_dead, is_in_mount as is_told_in_mount, is_stalled, is_up as is_told_up, may_be_dirty, may_die_now, may_be_renewed, may_be_recovered, may_recover, next_line as told_next, state_of}
use Rattle.tree_definitions.specs.Transcript.Phase.{Off as ToldOff, Up as ToldUp, Stalled, Dead as ToldDead}
use Rattle.disk_definitions.specs.Logs.{greatest_operation}
use Rattle.core_definitions.specs.Recoveries.{Recovery, recovery_of, redos}
use Rattle.core_definitions.specs.Scripts.{host_party}
use Rattle.core_definitions.specs.Servers.{Fate, Phase, Off, Up, Still, Doomed, Dead, Server, is_dead, is_doomed, is_off, is_still, is_up}
use Rattle.core_definitions.specs.Cores.{Core}
use Rattle.core_definitions.specs.LineGuards.{is_server}
use Rattle.core_definitions.specs.WriteGuards.{CanDie, CanResume}
use Rattle.core_definitions.specs.EndGuards.{CanFinish, CanRecover, is_hold_over, none_up}
use Rattle.core_definitions.specs.WriteEffects.{died, died_in, died_with, resumed, up_again}
use Rattle.core_definitions.specs.EndEffects.{finished_by, finished_from, recovered, recovering}
use Rattle.core_definitions.specs.Effects.{Says, id_of, says_recovered}
use Rattle.lock_definitions.specs.Locks.{log_hold}
use Rattle.core_laws.proofs.Guarding.{Of4, of_4}
use Rattle.core_laws.proofs.Memory.{Good, dead_is, works}
use Rattle.core_laws.proofs.Resting.{server_no_host}
use Rattle.core_transcripts.specs.Transcripts.{IsNumbered, MaySayButTree}
use Rattle.core_transcripts.proofs.Fits.{DoomFits, Fits, Key, PhaseFits, Told, key_of, rises}
use Rattle.core_transcripts.proofs.Fitting.{key_works, told_of}
use Rattle.core_transcripts.proofs.Happening.{CoreFits, Turn, Quiet, Speaks, lines_go_on}
use Rattle.core_transcripts.proofs.Lives.{died_fits, doomed_in_mount, phase_told, recovered_fits, recovering_fits, recovering_state, resumed_fits}
use Rattle.core_transcripts.proofs.Numbering.{next_by_count, numbers_turn}
use Rattle.core_transcripts.proofs.Saying.{dirty_push, state_push}
use Rattle.core_transcripts.proofs.Spoken.{IsLife, life_fitting, rises_one, told_rises}
use Rattle.core_transcripts.proofs.Replies.{phase_is}

doomed_is : (p : Phase) → IsTrue (is_doomed p) → (fate : Fate) × (p ≡ Doomed fate)
doomed_is (Doomed fate) h = (fate, refl)
doomed_is Off h = absurd (false≢true h)
doomed_is Up h = absurd (false≢true h)
doomed_is Still h = absurd (false≢true h)
doomed_is Dead h = absurd (false≢true h)

doomed_off_not : (p : Phase) (fate : Fate) → p ≡ Doomed fate → IsTrue (is_off p) → ⊥
doomed_off_not p fate e h = false≢true (sym (ap is_off e) ∙ h)

still_off_not : (p : Phase) → IsTrue (is_still p) → IsTrue (is_off p) → ⊥
still_off_not Off s h = false≢true s
still_off_not Up s h = false≢true h
still_off_not Still s h = false≢true h
still_off_not (Doomed f) s h = false≢true h
still_off_not Dead s h = false≢true h

dead_off_not : (p : Phase) → IsTrue (is_dead p) → IsTrue (is_off p) → ⊥
dead_off_not Off s h = false≢true s
dead_off_not Up s h = false≢true h
dead_off_not Still s h = false≢true h
dead_off_not (Doomed f) s h = false≢true h
dead_off_not Dead s h = false≢true h

told_dead : (p : Phase) (t : Told) → IsTrue (is_dead p) → PhaseFits p t.state.phase t.all t.faulted → IsTrue (is_told_dead t.state.phase)
told_dead p t h fits = go t.state.phase (subst (λ q. PhaseFits q t.state.phase t.all t.faulted) (dead_is p h) fits)
  where
    go : (q : ToldPhase) → PhaseFits Dead q t.all t.faulted → IsTrue (is_told_dead q)
    go ToldDead f = refl
    go ToldOff f = absurd f
    go ToldUp f = absurd f
    go Stalled f = absurd f

told_up : (p : Phase) (t : Told) → IsTrue (is_up p) → PhaseFits p t.state.phase t.all t.faulted → IsTrue (is_told_up t.state.phase)
told_up p t h fits = go t.state.phase (subst (λ q. PhaseFits q t.state.phase t.all t.faulted) (phase_is p h) fits)
  where
    go : (q : ToldPhase) → PhaseFits Up q t.all t.faulted → IsTrue (is_told_up q)
    go ToldUp f = refl
    go ToldOff f = absurd f
    go ToldDead f = absurd f
    go Stalled f = absurd f

module _ (opening : Opening) (f : Faults) (stay : (early late server : ℕ) → early ≤ late → f early server ≡ true → f late server ≡ true) (c : Core) (saids : List Said)
    (numbered : IsNumbered c.setting.script) (going : c.over ≡ false) (g : CoreFits c.setting.script f saids c) (good : Good c) where
  abbrev Now : ℕ → Told
  Now i = told_of c.setting.script f saids c.answered i

  abbrev Then : Said → ℕ → Told
  Then x i = told_of c.setting.script f (saids ++ x ∷ []) c.answered i

  abbrev Life : Said → Type 0
  Life x = IsLife c.setting.script numbered.apart f stay saids (λ i. key_of (c.servers i)) c.answered c.over c.shown g x

  more_faults : (i : ℕ) (x : Said) → IsTrue (Now i).faulted → IsTrue (Then x i).faulted
  more_faults i x h = rises_one c.setting.script numbered.apart f stay saids (λ i. key_of (c.servers i)) c.answered c.over c.shown g i x h

  -- one of which nothing is said stays as it is told
  stays_told : (x : Said) → Life x → (i : ℕ) → after_said c.setting.script i (f (length saids) i) (state_of c.setting.script f i saids) x ≡ state_of c.setting.script f i saids →
      (IsTrue (may_be_dirty c.setting.script i saids) → IsTrue (dirty_after c.setting.script i (may_be_dirty c.setting.script i saids) x)) →
      Fits (key_of (c.servers i)) (Then x i)
  stays_told x life i same dirty =
      rises (key_of (c.servers i)) (Now i) (Then x i)
      (told_rises c.setting.script numbered.apart f stay saids (λ i. key_of (c.servers i)) c.answered c.over c.shown g x life i same dirty) (g.servers i)

  -- ---- Die
  module _ (a : ℕ) (can : CanDie c a) (fate : Fate) (is : (c.servers a).phase ≡ Doomed fate) where
    abbrev dead_line : Said
    dead_line = said.Dead (id_of a)

    dead_life : Life dead_line
    dead_life = record { answers_none = λ n. refl; of_none = λ who. refl; halts_none = refl; ends_not = refl; tells_none = refl }

    abbrev dead_servers : ℕ → Server
    dead_servers = put c.servers a (died_with fate (c.servers a))

    own_state : state_of c.setting.script f a (saids ++ dead_line ∷ []) ≡ after_death (state_of c.setting.script f a saids) (f (length saids) a)
    own_state = state_push c.setting.script f a saids dead_line ∙ ap (λ b. if b then after_death (state_of c.setting.script f a saids) (f (length saids) a) else state_of c.setting.script f a saids) (eq-eqb a a refl)

    each_dead : (i : ℕ) (b : Bool) → nat_eq i a ≡ b → Fits (key_of (if b then died_with fate (c.servers a) else c.servers i)) (Then dead_line i)
    each_dead i true e =
        subst (λ j. Fits (key_of (died_with fate (c.servers a))) (Then dead_line j)) (sym (eqb-true i a e))
        (died_fits (c.servers a) fate (Now a) (Then dead_line a) is own_state (more_faults a dead_line) refl (λ n h. h) (g.servers a))
    each_dead i false e =
        stays_told dead_line dead_life i (ap (λ b. if b then after_death (state_of c.setting.script f i saids) (f (length saids) i) else state_of c.setting.script f i saids) (numbers_turn i a e)) (λ h. h)

    -- a log that is recovered isn't its own
    others_recover : (i d : ℕ) (b : Bool) → nat_eq i a ≡ b → IsTrue (key_works i (key_of (if b then died_with fate (c.servers a) else c.servers i))) →
        (key_of (if b then died_with fate (c.servers a) else c.servers i)).saves ≡ Some d → (state_of c.setting.script f d (saids ++ dead_line ∷ [])).under_recovery ≡ true
    others_recover i d true e w s = absurd (none-some d s)
    others_recover i d false e w s = go (nat_eq a d) refl
      where
        go : (b : Bool) → nat_eq a d ≡ b → (state_of c.setting.script f d (saids ++ dead_line ∷ [])).under_recovery ≡ true
        go true q = absurd (both_ways (is_dead (c.servers a).phase) (ap is_dead is) (subst (λ k. IsTrue (is_dead (c.servers k).phase)) (sym (eqb-true a d q)) (good.saved i d w s).0))
        go false q =
            ap (λ z. z.under_recovery)
            (state_push c.setting.script f d saids dead_line ∙ ap (λ b. if b then after_death (state_of c.setting.script f d saids) (f (length saids) d) else state_of c.setting.script f d saids) q)
            ∙ g.rescues i d w s

    off_dead : (i : ℕ) (b : Bool) → nat_eq i a ≡ b → IsTrue (is_off (c.servers i).phase) → IsTrue (is_off (if b then died_with fate (c.servers a) else c.servers i).phase)
    off_dead i true e h = absurd (doomed_off_not (c.servers i).phase fate (ap (λ j. (c.servers j).phase) (eqb-true i a e) ∙ is) h)
    off_dead i false e h = h

    called : IsTrue (is_called_for (state_of c.setting.script f a saids) (told_next a c.setting.script saids) (may_be_dirty c.setting.script a saids) || f (length saids) a)
    called =
        subst (λ n. IsTrue (is_called_for (state_of c.setting.script f a saids) n (may_be_dirty c.setting.script a saids) || f (length saids) a))
        (sym (next_by_count c.setting.script c.answered a (length (filter (is_answer_of a) saids)) (g.firsts a)))
        (subst (λ p. DoomFits p (Now a)) is (g.servers a).doomed)

    death_turn : Turn (MaySayButTree c.setting.script opening f) c.setting.script f saids (Says dead_line ∷ []) (died_in c a (Doomed fate))
    death_turn =
        Speaks dead_line refl
        (and_from (goes_on c.setting.script saids) (may_die_now c.setting.script f saids a)
        (lines_go_on opening f stay c saids numbered going g (λ at. doomed_off_not (c.servers a).phase fate is (at.off a can.server)))
        (and_from (is_told_in_mount (state_of c.setting.script f a saids).phase) (is_called_for (state_of c.setting.script f a saids) (told_next a c.setting.script saids) (may_be_dirty c.setting.script a saids) || f (length saids) a)
        (doomed_in_mount fate (state_of c.setting.script f a saids).phase (Now a).all (Now a).faulted (subst (λ p. PhaseFits p (Now a).state.phase (Now a).all (Now a).faulted) is (g.servers a).phase)) called))
        (life_fitting c.setting.script numbered.apart f stay saids (λ i. key_of (c.servers i)) c.answered c.over c.shown g dead_line dead_life (λ i. key_of (dead_servers i))
        (λ i. each_dead i (nat_eq i a) refl) (λ i d w s. others_recover i d (nat_eq i a) refl w s) (λ i h. off_dead i (nat_eq i a) refl h))

  pub die_turn : (a : ℕ) → CanDie c a → Turn (MaySayButTree c.setting.script opening f) c.setting.script f saids (Says (said.Dead (id_of a)) ∷ []) (died c a)
  die_turn a can =
      let d : (fate : Fate) × ((c.servers a).phase ≡ Doomed fate) = doomed_is (c.servers a).phase can.doomed in
      subst (λ p. Turn (MaySayButTree c.setting.script opening f) c.setting.script f saids (Says (said.Dead (id_of a)) ∷ []) (died_in c a p)) (sym d.1) (death_turn a can d.0 d.1)

  -- ---- Resume
  module _ (a : ℕ) (can : CanResume c a) where
    abbrev renewed_line : Said
    renewed_line = said.Renewed (id_of a)

    still : IsTrue (is_still (c.servers a).phase)
    still = (and_parts (is_still (c.servers a).phase) (nat_lt (c.servers a).expiry c.now) can.past).0

    renewed_life : Life renewed_line
    renewed_life = record { answers_none = λ n. refl; of_none = λ who. refl; halts_none = refl; ends_not = refl; tells_none = refl }

    renewed_state : state_of c.setting.script f a (saids ++ renewed_line ∷ []) ≡ after_renewal (state_of c.setting.script f a saids)
    renewed_state = state_push c.setting.script f a saids renewed_line ∙ ap (λ b. if b then after_renewal (state_of c.setting.script f a saids) else state_of c.setting.script f a saids) (eq-eqb a a refl)

    each_renewed : (i : ℕ) (b : Bool) → nat_eq i a ≡ b → Fits (key_of (if b then up_again c.setting c.now (c.servers a) else c.servers i)) (Then renewed_line i)
    each_renewed i true e =
        subst (λ j. Fits (key_of (up_again c.setting c.now (c.servers a))) (Then renewed_line j)) (sym (eqb-true i a e))
        (resumed_fits c.setting (c.servers a) c.now (Now a) (Then renewed_line a) still renewed_state (more_faults a renewed_line) (g.servers a))
    each_renewed i false e =
        stays_told renewed_line renewed_life i (ap (λ b. if b then after_renewal (state_of c.setting.script f i saids) else state_of c.setting.script f i saids) (numbers_turn i a e)) (λ h. h)

    renewed_recovery : (d : ℕ) (b : Bool) → nat_eq a d ≡ b → (state_of c.setting.script f d (saids ++ renewed_line ∷ [])).under_recovery ≡ (state_of c.setting.script f d saids).under_recovery
    renewed_recovery d true q = ap (λ z. z.under_recovery) (state_push c.setting.script f d saids renewed_line ∙ ap (λ b. if b then after_renewal (state_of c.setting.script f d saids) else state_of c.setting.script f d saids) q)
    renewed_recovery d false q = ap (λ z. z.under_recovery) (state_push c.setting.script f d saids renewed_line ∙ ap (λ b. if b then after_renewal (state_of c.setting.script f d saids) else state_of c.setting.script f d saids) q)

    renewed_rescues : (i d : ℕ) (b : Bool) → nat_eq i a ≡ b → IsTrue (key_works i (key_of (if b then up_again c.setting c.now (c.servers a) else c.servers i))) →
        (key_of (if b then up_again c.setting c.now (c.servers a) else c.servers i)).saves ≡ Some d → (state_of c.setting.script f d (saids ++ renewed_line ∷ [])).under_recovery ≡ true
    renewed_rescues i d true e w s = absurd (none-some d s)
    renewed_rescues i d false e w s = renewed_recovery d (nat_eq a d) refl ∙ g.rescues i d w s

    off_renewed : (i : ℕ) (b : Bool) → nat_eq i a ≡ b → IsTrue (is_off (c.servers i).phase) → IsTrue (is_off (if b then up_again c.setting c.now (c.servers a) else c.servers i).phase)
    off_renewed i true e h = absurd (still_off_not (c.servers a).phase still (subst (λ j. IsTrue (is_off (c.servers j).phase)) (eqb-true i a e) h))
    off_renewed i false e h = h

    pub resume_turn : Turn (MaySayButTree c.setting.script opening f) c.setting.script f saids (Says renewed_line ∷ []) (resumed c a)
    resume_turn =
        Speaks renewed_line refl
        (and_from (goes_on c.setting.script saids) (may_be_renewed c.setting.script f saids a)
        (lines_go_on opening f stay c saids numbered going g (λ at. still_off_not (c.servers a).phase still (at.off a can.server)))
        (subst (λ q. IsTrue (is_stalled q)) (sym (phase_told (c.servers a) (Now a) still (g.servers a))) refl))
        (life_fitting c.setting.script numbered.apart f stay saids (λ i. key_of (c.servers i)) c.answered c.over c.shown g renewed_line renewed_life (λ i. key_of (put c.servers a (up_again c.setting c.now (c.servers a)) i))
        (λ i. each_renewed i (nat_eq i a) refl) (λ i d w s. renewed_rescues i d (nat_eq i a) refl w s) (λ i h. off_renewed i (nat_eq i a) refl h))

  -- ---- Recover
  module _ (dead by : ℕ) (can : CanRecover c dead by) where
    abbrev begins_line : Said
    begins_line = said.Recovering (id_of dead) (id_of by)

    waits : Of4 (is_server dead) (is_dead (c.servers dead).phase) (nat_lt (c.servers dead).expiry c.now) (is_hold_over c.now (log_hold c.locks dead))
    waits = of_4 (is_server dead) (is_dead (c.servers dead).phase) (nat_lt (c.servers dead).expiry c.now) (is_hold_over c.now (log_hold c.locks dead)) can.waits

    begins_life : Life begins_line
    begins_life = record { answers_none = λ n. refl; of_none = λ who. refl; halts_none = refl; ends_not = refl; tells_none = refl }

    begins_state : (i : ℕ) (b : Bool) → nat_eq dead i ≡ b →
        state_of c.setting.script f i (saids ++ begins_line ∷ []) ≡ (if b then recovering_state (state_of c.setting.script f i saids) else state_of c.setting.script f i saids)
    begins_state i b e = state_push c.setting.script f i saids begins_line ∙ ap (λ b. if b then recovering_state (state_of c.setting.script f i saids) else state_of c.setting.script f i saids) e

    more_dirty : (i : ℕ) → IsTrue (may_be_dirty c.setting.script i saids) → IsTrue (may_be_dirty c.setting.script i (saids ++ begins_line ∷ []))
    more_dirty i h = subst (λ d. IsTrue d) (sym (dirty_push c.setting.script i saids begins_line)) (or_left (may_be_dirty c.setting.script i saids) (nat_eq by i) h)

    each_begun : (i : ℕ) (b : Bool) → nat_eq dead i ≡ b → (k : Key) → Fits k (Now i) → Fits k (Then begins_line i)
    each_begun i true e k h =
        rises k (record (Now i) { state = recovering_state (state_of c.setting.script f i saids) }) (Then begins_line i)
        (record { state = begins_state i true e; dirty = more_dirty i; faulted = more_faults i begins_line; next = refl; hosts = λ n h. h; all = λ h. h }) (recovering_fits k (Now i) h)
    each_begun i false e k h =
        rises k (Now i) (Then begins_line i) (record { state = begins_state i false e; dirty = more_dirty i; faulted = more_faults i begins_line; next = refl; hosts = λ n h. h; all = λ h. h }) h

    -- who takes the log is the same in all else
    abbrev taker : Server
    taker = record (c.servers by) { recovery = Some (recovery_of dead) }

    taker_fits : Fits (key_of (c.servers by)) (Then begins_line by) → Fits (key_of taker) (Then begins_line by)
    taker_fits h = record { phase = h.phase; owing = h.owing; calm = h.calm; armed = h.armed; failed = h.failed; doomed = h.doomed; under = h.under }

    each_after : (i : ℕ) (b : Bool) → nat_eq i by ≡ b → Fits (key_of (if b then taker else c.servers i)) (Then begins_line i)
    each_after i true e = subst (λ j. Fits (key_of taker) (Then begins_line j)) (sym (eqb-true i by e)) (taker_fits (each_begun by (nat_eq dead by) refl (key_of (c.servers by)) (g.servers by)))
    each_after i false e = each_begun i (nat_eq dead i) refl (key_of (c.servers i)) (g.servers i)

    kept_recovery : (d : ℕ) → (state_of c.setting.script f d saids).under_recovery ≡ true → (state_of c.setting.script f d (saids ++ begins_line ∷ [])).under_recovery ≡ true
    kept_recovery d h = go (nat_eq dead d) refl
      where
        go : (b : Bool) → nat_eq dead d ≡ b → (state_of c.setting.script f d (saids ++ begins_line ∷ [])).under_recovery ≡ true
        go true e = ap (λ z. z.under_recovery) (begins_state d true e)
        go false e = ap (λ z. z.under_recovery) (begins_state d false e) ∙ h

    taken_rescues : (i d : ℕ) (b : Bool) → nat_eq i by ≡ b → IsTrue (key_works i (key_of (if b then taker else c.servers i))) → (key_of (if b then taker else c.servers i)).saves ≡ Some d →
        (state_of c.setting.script f d (saids ++ begins_line ∷ [])).under_recovery ≡ true
    taken_rescues i d true e w s = ap (λ z. z.under_recovery) (begins_state d true (subst (λ k. nat_eq dead k ≡ true) (same_Some dead d s) (eq-eqb dead dead refl)))
    taken_rescues i d false e w s = kept_recovery d (g.rescues i d w s)

    off_taken : (i : ℕ) (b : Bool) → nat_eq i by ≡ b → IsTrue (is_off (c.servers i).phase) → IsTrue (is_off (if b then taker else c.servers i).phase)
    off_taken i true e h = subst (λ j. IsTrue (is_off (c.servers j).phase)) (eqb-true i by e) h
    off_taken i false e h = h

    by_may : (s u h n : Bool) → (IsTrue u → IsTrue (is_told_up (state_of c.setting.script f by saids).phase)) → (h ≡ true → IsTrue (nat_eq by 255)) → IsTrue ((s && u) || (h && n)) →
        IsTrue (nat_eq by 255 || is_told_up (state_of c.setting.script f by saids).phase)
    by_may true true h n up host t = or_right (nat_eq by 255) (is_told_up (state_of c.setting.script f by saids).phase) (up refl)
    by_may true false true n up host t = or_left (nat_eq by 255) (is_told_up (state_of c.setting.script f by saids).phase) (host refl)
    by_may true false false n up host t = absurd (false≢true t)
    by_may false u true n up host t = or_left (nat_eq by 255) (is_told_up (state_of c.setting.script f by saids).phase) (host refl)
    by_may false u false n up host t = absurd (false≢true t)

    pub recover_turn : Turn (MaySayButTree c.setting.script opening f) c.setting.script f saids (Says begins_line ∷ []) (recovering c dead by)
    recover_turn =
        Speaks begins_line refl
        (and_from (goes_on c.setting.script saids) (may_recover c.setting.script f saids dead by)
        (lines_go_on opening f stay c saids numbered going g (λ at. dead_off_not (c.servers dead).phase waits.p1 (at.off dead waits.p0)))
        (and_from (is_told_dead (state_of c.setting.script f dead saids).phase) (nat_eq by 255 || is_told_up (state_of c.setting.script f by saids).phase)
        (told_dead (c.servers dead).phase (Now dead) waits.p1 (g.servers dead).phase)
        (by_may (is_server by) (is_up (c.servers by).phase) (nat_eq by host_party) (none_up c) (λ u. told_up (c.servers by).phase (Now by) u (g.servers by).phase) (λ h. h) can.taker)))
        (life_fitting c.setting.script numbered.apart f stay saids (λ i. key_of (c.servers i)) c.answered c.over c.shown g begins_line begins_life (λ i. key_of (put c.servers by taker i))
        (λ i. each_after i (nat_eq i by) refl) (λ i d w s. taken_rescues i d (nat_eq i by) refl w s) (λ i h. off_taken i (nat_eq i by) refl h))

  -- ---- Finish
  module _ (by : ℕ) (recovery : Recovery) (has : (c.servers by).recovery ≡ Some recovery) (w : IsTrue (works by (c.servers by))) (kept : OpNo) where
    abbrev done_line : Said
    done_line = said.Recovered (id_of recovery.dead) kept

    was : IsTrue (is_dead (c.servers recovery.dead).phase) × IsTrue (is_server recovery.dead)
    was = good.saved by recovery.dead w (ap (option_map (λ r. r.dead)) has)

    done_life : Life done_line
    done_life = record { answers_none = λ n. refl; of_none = λ who. refl; halts_none = refl; ends_not = refl; tells_none = refl }

    done_state : (i : ℕ) (b : Bool) → nat_eq recovery.dead i ≡ b →
        state_of c.setting.script f i (saids ++ done_line ∷ []) ≡ (if b then record (state_of c.setting.script f i saids) { phase = ToldOff } else state_of c.setting.script f i saids)
    done_state i b e = state_push c.setting.script f i saids done_line ∙ ap (λ b. if b then record (state_of c.setting.script f i saids) { phase = ToldOff } else state_of c.setting.script f i saids) e

    done_recovery : (d : ℕ) (b : Bool) → nat_eq recovery.dead d ≡ b → (state_of c.setting.script f d (saids ++ done_line ∷ [])).under_recovery ≡ (state_of c.setting.script f d saids).under_recovery
    done_recovery d true e = ap (λ z. z.under_recovery) (done_state d true e)
    done_recovery d false e = ap (λ z. z.under_recovery) (done_state d false e)

    abbrev without_it : Server
    without_it = record (c.servers by) { recovery = None }

    without_fits : (x : Told) → Fits (key_of (c.servers by)) x → Fits (key_of without_it) x
    without_fits x h = record { phase = h.phase; owing = h.owing; calm = h.calm; armed = h.armed; failed = h.failed; doomed = h.doomed; under = h.under }

    others_done : (i : ℕ) (b : Bool) → nat_eq i by ≡ b → nat_eq i recovery.dead ≡ false → Fits (key_of (if b then without_it else c.servers i)) (Then done_line i)
    others_done i true e n =
        subst (λ j. Fits (key_of without_it) (Then done_line j)) (sym (eqb-true i by e))
        (without_fits (Then done_line by)
        (stays_told done_line done_life by (ap (λ b. if b then record (state_of c.setting.script f by saids) { phase = ToldOff } else state_of c.setting.script f by saids)
        (numbers_turn by recovery.dead (subst (λ j. nat_eq j recovery.dead ≡ false) (eqb-true i by e) n))) (λ h. h)))
    others_done i false e n =
        stays_told done_line done_life i (ap (λ b. if b then record (state_of c.setting.script f i saids) { phase = ToldOff } else state_of c.setting.script f i saids) (numbers_turn i recovery.dead n)) (λ h. h)

    each_done : (i : ℕ) (b : Bool) → nat_eq i recovery.dead ≡ b → Fits (key_of (if b then recovered (c.servers recovery.dead) else put c.servers by without_it i)) (Then done_line i)
    each_done i true e =
        subst (λ j. Fits (key_of (recovered (c.servers recovery.dead))) (Then done_line j)) (sym (eqb-true i recovery.dead e))
        (recovered_fits (c.servers recovery.dead) (Now recovery.dead) (Then done_line recovery.dead) (dead_is (c.servers recovery.dead).phase was.0) (done_state recovery.dead true (eq-eqb recovery.dead recovery.dead refl))
        (more_faults recovery.dead done_line) refl (λ n h. h) (g.servers recovery.dead))
    each_done i false e = others_done i (nat_eq i by) refl e

    rescues_others : (i d : ℕ) (b : Bool) → nat_eq i by ≡ b → IsTrue (key_works i (key_of (if b then without_it else c.servers i))) → (key_of (if b then without_it else c.servers i)).saves ≡ Some d →
        (state_of c.setting.script f d (saids ++ done_line ∷ [])).under_recovery ≡ true
    rescues_others i d true e v s = absurd (none-some d s)
    rescues_others i d false e v s = done_recovery d (nat_eq recovery.dead d) refl ∙ g.rescues i d v s

    rescues_done : (i d : ℕ) (b : Bool) → nat_eq i recovery.dead ≡ b → IsTrue (key_works i (key_of (if b then recovered (c.servers recovery.dead) else put c.servers by without_it i))) →
        (key_of (if b then recovered (c.servers recovery.dead) else put c.servers by without_it i)).saves ≡ Some d → (state_of c.setting.script f d (saids ++ done_line ∷ [])).under_recovery ≡ true
    rescues_done i d true e v s =
        absurd (off_works_not (is_server i) (nat_eq i host_party) (server_no_host i (subst (λ j. IsTrue (is_server j)) (sym (eqb-true i recovery.dead e)) was.1)) v)
      where
        off_works_not : (s h : Bool) → h ≡ false → IsTrue ((s && false) || h) → ⊥
        off_works_not true true e w = false≢true (sym e)
        off_works_not true false e w = false≢true w
        off_works_not false true e w = false≢true (sym e)
        off_works_not false false e w = false≢true w
    rescues_done i d false e v s = rescues_others i d (nat_eq i by) refl v s

    off_others : (i : ℕ) (b : Bool) → nat_eq i by ≡ b → IsTrue (is_off (c.servers i).phase) → IsTrue (is_off (if b then without_it else c.servers i).phase)
    off_others i true e h = subst (λ j. IsTrue (is_off (c.servers j).phase)) (eqb-true i by e) h
    off_others i false e h = h

    off_done : (i : ℕ) (b : Bool) → nat_eq i recovery.dead ≡ b → IsTrue (is_off (c.servers i).phase) → IsTrue (is_off (if b then recovered (c.servers recovery.dead) else put c.servers by without_it i).phase)
    off_done i true e h = refl
    off_done i false e h = off_others i (nat_eq i by) refl h

    done_turn : Turn (MaySayButTree c.setting.script opening f) c.setting.script f saids (Says done_line ∷ []) (finished_by c by recovery.dead)
    done_turn =
        Speaks done_line refl
        (and_from (goes_on c.setting.script saids) (may_be_recovered c.setting.script f saids recovery.dead)
        (lines_go_on opening f stay c saids numbered going g (λ at. dead_off_not (c.servers recovery.dead).phase was.0 (at.off recovery.dead was.1)))
        (and_from (is_told_dead (state_of c.setting.script f recovery.dead saids).phase) (state_of c.setting.script f recovery.dead saids).under_recovery
        (told_dead (c.servers recovery.dead).phase (Now recovery.dead) was.0 (g.servers recovery.dead).phase) (g.rescues by recovery.dead w (ap (option_map (λ r. r.dead)) has))))
        (life_fitting c.setting.script numbered.apart f stay saids (λ i. key_of (c.servers i)) c.answered c.over c.shown g done_line done_life
        (λ i. key_of (put (put c.servers by without_it) recovery.dead (recovered (c.servers recovery.dead)) i)) (λ i. each_done i (nat_eq i recovery.dead) refl)
        (λ i d v s. rescues_done i d (nat_eq i recovery.dead) refl v s) (λ i h. off_done i (nat_eq i recovery.dead) refl h))

  pub finish_turn : (by : ℕ) → CanFinish c by → Turn (MaySayButTree c.setting.script opening f) c.setting.script f saids (says_recovered c (c.servers by).recovery) (finished_from c by (c.servers by).recovery)
  finish_turn by can = go (c.servers by).recovery refl
    where
      go : (o : Option Recovery) → (c.servers by).recovery ≡ o →
          Turn (MaySayButTree c.setting.script opening f) c.setting.script f saids (says_recovered c (c.servers by).recovery) (finished_from c by (c.servers by).recovery)
      go None e = subst (λ o. Turn (MaySayButTree c.setting.script opening f) c.setting.script f saids (says_recovered c o) (finished_from c by o)) (sym e) (Quiet refl g)
      go (Some recovery) e =
          subst (λ o. Turn (MaySayButTree c.setting.script opening f) c.setting.script f saids (says_recovered c o) (finished_from c by o)) (sym e)
          (done_turn by recovery e can.who (record { 0 = greatest_operation (redos c.setting.logs recovery) }))
