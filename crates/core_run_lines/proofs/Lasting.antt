-- The last operation of each mounted server stays settled, or its log acknowledged to its end, at a step that isn't of lines.
use Rattle.std.proofs.Common.{◌≡◌, ◌≢◌, ◌⊎◌, ◌+◌, ◌≤◌, ◌||◌, ℕ, Bool, true, false, if◌then◌else◌, IsTrue, List, [], ◌∷◌, Some, nat_eq, refl, sym, ap, ◌∙◌, subst, inl, inr, ⊎_elim, arith, le_refl, le_trans}
use Rattle.std.proofs.lemmas.Bool.{eqb-true, false≢true}
use Rattle.std.proofs.lemmas.Bool.Decides.{nat_tests}
use Rattle.frang_base.specs.Functions.{put}
use Rattle.frang_base.proofs.Basics.{put_other}
use Rattle.tree_definitions.specs.Tree.{FileTree}
use Rattle.core_definitions.specs.Cores.{clean_at}
use Rattle.core_definitions.specs.EndGuards.{is_through}
use Rattle.core_definitions.specs.Events.{Event, Begin, Ask, Fetch, Again, Clear, Commit, Answer, Give, Issue, Doom, Resume, Arrive, Lose, Die, Renew, Tick, Recover, Load, Look, Finish, HostLine, Close, Read, Show, End, Heard, Nothing}
use Rattle.core_definitions.specs.Recoveries.{Recovery}
use Rattle.core_definitions.specs.Rings.{is_all_reached}
use Rattle.core_definitions.specs.Runs.{State as RunMoment, Makes, Step, Event_, Enter, Hold, Flush, Relock, Note, Peek, PeekFails}
use Rattle.core_definitions.specs.Servers as life
use Rattle.core_definitions.specs.Servers.{is_dead, is_in_mount}
use Rattle.core_definitions.specs.Settings.{setting_of}
use Rattle.sector_world.specs.Histories.{Entry, settled}
use Rattle.sector_world.specs.Histories.Entry.{Did, Mounted, Recovered, Synced}
use Rattle.sector_world.specs.Steps.{Event as SectorEvent, Run, after}
use Rattle.sector_world.specs.Steps.Event.{Do, Finish as EndRecovery}
use Rattle.sector_world.specs.Steps.Run.{goes, stays}
use Rattle.sector_world.specs.World.{World}
use Rattle.core_world.specs.Events.{IsSameStory}
use Rattle.core_world.specs.Journals.{IsOwn, Journal}
use Rattle.core_world.specs.Quiet.{AllQuiet, IsQuiet}
use Rattle.core_lives.specs.Idle.{begins_mount, ends_mount, tells_sync}
use Rattle.core_log_marks.proofs.Counting.{beside_own}
use Rattle.core_histories.specs.Steps.{HasStoryAt, HasStoryOf}
use Rattle.core_histories.specs.Told.{HasItsStory}
use Rattle.core_commit_steps.specs.Lasts.{KeepsReached}
use Rattle.core_run_ties.specs.Ties.{StandsFurther}
use Rattle.core_runs.specs.Kept.{IsKeptAlong}
use Rattle.core_runs.specs.Open.{is_line_step, is_of_lines}
use Rattle.core_run_lines.specs.Dirt.{LastsGoOn}
use Rattle.core_run_lines.proofs.Dirty.{DirtLaws, bare_dead, has_recovery}
use Rattle.core_run_lines.proofs.Turning.{step_keeps}

-- ---- how many recoveries of a server have ended

abbrev ended_in : ℕ → List Entry → ℕ
ended_in a [] = 0
ended_in a (Recovered d k ∷ h) = if nat_eq d a then ended_in a h + 1 else ended_in a h
ended_in a (Did c ∷ h) = ended_in a h
ended_in a (Synced d n ∷ h) = ended_in a h
ended_in a (Mounted d n ∷ h) = ended_in a h

one_more : (b : Bool) (n : ℕ) → n ≤ (if b then n + 1 else n)
one_more true n = omega arith
one_more false n = le_refl n

more_ended : (a : ℕ) (w : World) (e : SectorEvent) → ended_in a w.history ≤ ended_in a (after w e).history
more_ended a w (EndRecovery r) = one_more (nat_eq r.dead a) (ended_in a w.history)
more_ended a w e = le_refl (ended_in a w.history)

run_ended : (a : ℕ) (w : World) (events : List SectorEvent) (u : World) → Run w events u → ended_in a w.history ≤ ended_in a u.history
run_ended a w [] u stays = le_refl (ended_in a w.history)
run_ended a w (e ∷ es) u (goes can rest) = le_trans (more_ended a w e) (run_ended a (after w e) es u rest)

-- where none has, the last operation is as it was
not_more : (n : ℕ) → n + 1 ≤ n → ⊥
not_more n l = omega (arith, l)

at_end : (last : ℕ → ℕ) (d k a n : ℕ) → (if nat_eq d a then n + 1 else n) ≤ n → put last d k a ≡ last a
at_end last d k a n l = put_other last d k a (λ e. not_more n (subst (λ b. (if b then n + 1 else n) ≤ n) (alike e) l))
  where
    alike : a ≡ d → nat_eq d a ≡ true
    alike e = grind (arith, nat_tests)

quiet_last : (a segments : ℕ) (w : World) (e : SectorEvent) → IsQuiet segments w e → ended_in a (after w e).history ≤ ended_in a w.history → (after w e).last a ≡ w.last a
quiet_last a segments w (Do c) q none = absurd q
quiet_last a segments w (EndRecovery r) q none = at_end w.last r.dead (w.durable r.dead) a (ended_in a w.history) none
quiet_last a segments w e q none = refl

run_last : (a segments : ℕ) (w : World) (events : List SectorEvent) (u : World) → Run w events u → AllQuiet segments w events → ended_in a u.history ≤ ended_in a w.history → u.last a ≡ w.last a
run_last a segments w [] u stays quiet none = refl
run_last a segments w (e ∷ es) u (goes can rest) quiet none =
    run_last a segments (after w e) es u rest quiet.1 (le_trans none (more_ended a w e)) ∙ quiet_last a segments w e quiet.0 (le_trans (run_ended a (after w e) es u rest) none)

-- ---- what a step tells of a server that is mounted

record TellsNoEnd (w u : World) (a : ℕ) : Type 0 where
  ended : ended_in a u.history ≤ ended_in a w.history
  own : (m : ℕ) → IsOwn a m (settled w.history) → IsOwn a m (settled u.history)

none_more : (n m : ℕ) → m ≡ n → m ≤ n
none_more n m e = subst (λ k. k ≤ n) (sym e) (le_refl n)

tells_none : (w u : World) (a : ℕ) (entries : List Entry) → u.history ≡ entries → ended_in a entries ≡ ended_in a w.history → settled entries ≡ settled w.history → TellsNoEnd w u a
tells_none w u a entries is none same = record {
  ended = none_more (ended_in a w.history) (ended_in a u.history) (ap (ended_in a) is ∙ none);
  own = λ m i. subst (IsOwn a m) (sym (ap settled is ∙ same)) i;
}

not_dead : (p : life.Phase) → IsTrue (is_in_mount p) → IsTrue (is_dead p) → ⊥
not_dead life.Dead m d = false≢true m
not_dead life.Off m d = false≢true d
not_dead life.Up m d = false≢true d
not_dead life.Still m d = false≢true d
not_dead (life.Doomed fate) m d = false≢true d

module _ (laws : DirtLaws) (first : World) (s : RunMoment) (w : World) (journal : ℕ → Journal) (when : ℕ → ℕ) (first_tree : FileTree) (numbers : List ℕ)
    (kept : IsKeptAlong (StandsFurther first) s w journal when first_tree numbers) (a : ℕ) (mounted : IsTrue (is_in_mount (s.core.servers a).phase)) where
  by_same : (u : World) → IsSameStory w u → TellsNoEnd w u a
  by_same u story = tells_none w u a w.history story.history refl refl

  by_its : (b c : Bool) (u : World) (n : ℕ) → HasItsStory b c w u n → TellsNoEnd w u a
  by_its true c u n story = tells_none w u a (Mounted n (w.last n) ∷ w.history) story.history refl refl
  by_its false true u n story = tells_none w u a (Synced n (w.last n) ∷ w.history) story.history refl refl
  by_its false false u n story = by_same u story

  by_end : (u : World) (by : ℕ) → Makes s (Finish by) Nothing → HasStoryOf when first_tree numbers s w u kept.told (Finish by) → TellsNoEnd w u a
  by_end u by m story = record {
    ended = none_more (ended_in a w.history) (ended_in a u.history) (ap (ended_in a) (story f.0 f.1).entry.history ∙ ap (λ b. if b then ended_in a w.history + 1 else ended_in a w.history) apart);
    own = λ k i. subst (λ h. IsOwn a k (settled h)) (sym (story f.0 f.1).entry.history) (beside_own a k (Recovered f.0.dead (w.durable f.0.dead)) w.history other i);
  }
    where
      f : (recovery : Recovery) × ((s.core.servers by).recovery ≡ Some recovery)
      f = has_recovery (is_through s.core) (s.core.servers by).recovery m.can.can.ended

      other : f.0.dead ≢ a
      other e =
          not_dead (s.core.servers a).phase mounted
          (subst (λ n. IsTrue (is_dead (s.core.servers n).phase)) e
          (laws.dead (setting_of kept.beside.run.reached.script kept.beside.run.reached.segments kept.beside.run.reached.number) kept.beside.run.reached.disk s kept.beside.run.reached.run by f.0 m.can.can.who f.1).1)

      apart : nat_eq f.0.dead a ≡ false
      apart = go (nat_eq f.0.dead a) refl
        where
          go : (b : Bool) → nat_eq f.0.dead a ≡ b → b ≡ false
          go true e = absurd (other (eqb-true f.0.dead a e))
          go false e = refl

  by_event : (u : World) (event : Event) (heard : Heard) → Makes s event heard → is_of_lines s.core event ≡ false → HasStoryOf when first_tree numbers s w u kept.told event → TellsNoEnd w u a
  by_event u (Commit b) heard m n story = absurd (false≢true (sym n))
  by_event u (Answer b) heard m n story = by_its (begins_mount s.core b) (ends_mount s.core b || tells_sync s.core b) u b story
  by_event u (Close b) heard m n story = by_its false (clean_at s.core b) u b story
  by_event u (Finish by) heard m n story = by_end u by (subst (Makes s (Finish by)) m.hears m) story
  by_event u (Begin b) heard m n story = by_same u story
  by_event u (Ask b lock mode) heard m n story = by_same u story
  by_event u (Fetch b sector) heard m n story = by_same u story
  by_event u (Again b) heard m n story = by_same u story
  by_event u (Clear b block) heard m n story = by_same u story
  by_event u (Give b lock) heard m n story = by_same u story
  by_event u (Issue b sector) heard m n story = by_same u story
  by_event u (Doom b) heard m n story = by_same u story
  by_event u (Resume b) heard m n story = by_same u story
  by_event u (Arrive ticket) heard m n story = by_same u story
  by_event u (Lose ticket) heard m n story = by_same u story
  by_event u (Die b) heard m n story = by_same u story
  by_event u (Renew b) heard m n story = by_same u story
  by_event u Tick heard m n story = by_same u story
  by_event u (Recover dead by) heard m n story = by_same u story
  by_event u (Load by slot) heard m n story = by_same u story
  by_event u (Look by sector) heard m n story = by_same u story
  by_event u (HostLine number) heard m n story = by_same u story
  by_event u (Read sector) heard m n story = by_same u story
  by_event u (Show place) heard m n story = by_same u story
  by_event u End heard m n story = by_same u story

  by_step : (v : RunMoment) (u : World) (step : Step s v) → is_line_step s v step ≡ false → HasStoryAt when first_tree numbers s v w u kept.told step → TellsNoEnd w u a
  by_step v u (Event_ event heard makes) n story = by_event u event heard makes n story
  by_step v u (Enter b line can) n story = by_same u story
  by_step v u (Hold b on may) n story = by_same u story
  by_step v u (Flush b may) n story = by_same u story
  by_step v u (Relock locks going are alike wait) n story = by_same u story
  by_step v u (Note line may) n story = by_same u story
  by_step v u (Peek sector going) n story = by_same u story
  by_step v u (PeekFails sector going) n story = by_same u story

-- ---- the law

pub lasts_on : DirtLaws → (first : World) → LastsGoOn first
lasts_on laws first s v w journal when first_tree numbers step kept plain leads quiet story a server mounted = ⊎_elim before (λ all. inr all) (here mounted)
  where
    here : KeepsReached (s.core.servers a) (v.core.servers a)
    here = (step_keeps s kept.beside.run.reached (bare_dead laws first s w journal when first_tree numbers kept) v step plain a).mounted

    before : (IsTrue (is_in_mount (s.core.servers a).phase) × (IsTrue (is_all_reached (s.core.servers a).ring) → IsTrue (is_all_reached (v.core.servers a).ring))) →
        IsOwn a (leads.world.last a) (settled leads.world.history) ⊎ IsTrue (is_all_reached (v.core.servers a).ring)
    before old =
        let t = by_step laws first s w journal when first_tree numbers kept a old.0 v leads.world step plain story in
        ⊎_elim
        (λ own. inl (subst (λ n. IsOwn a n (settled leads.world.history)) (sym (run_last a v.core.setting.segments w leads.events leads.world leads.run quiet t.ended)) (t.own (w.last a) own)))
        (λ all. inr (old.1 all)) (kept.further.lasts a server old.0)
