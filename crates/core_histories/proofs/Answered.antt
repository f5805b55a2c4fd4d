-- Answers and closes: what happened is told on.
use Rattle.std.proofs.Common.{ℕ, ◌≡◌, ◌≤◌, Bool, true, false, not, ◌&&◌, ◌||◌, if◌then◌else◌, List, [], ◌∷◌, ◌++◌, refl, sym, ap, ap₂, ◌∙◌, subst, ⊎_elim}
use Rattle.std.proofs.lemmas.Bool.{and_parts, eq-eqb, false_from_ne_true, false≢true, or_cases, or_left, or_right}
use Rattle.frang_base.specs.declared.said.Said.TheVariants as said
use Rattle.tree_definitions.specs.declared.history.Entry.{Entry}
use Rattle.tree_definitions.specs.declared.history.Item.TheVariants.{Did, Recovered as RecoveredItem}
use Rattle.tree_definitions.specs.History.{Stays}
use Rattle.tree_definitions.specs.Live.{live_history}
use Rattle.tree_definitions.specs.Touched.{is_mounted, is_ok, is_sync, is_unmount, stalled_after}
use Rattle.tree_definitions.specs.Transcript.{is_mount}
use Rattle.tree_definitions.specs.Tree.{FileTree}
use Rattle.sector_world.specs.Histories.{Each, settled, synced_of}
use Rattle.sector_world.specs.Histories.Entry.{Mounted, Synced}
use Rattle.sector_world.specs.Kinds.{Good}
use Rattle.sector_world.specs.World.{World}
use Rattle.sector_world.proofs.HistoryLaws.{each_map}
use Rattle.core_definitions.specs.Cores.{clean_at, due_at}
use Rattle.core_definitions.specs.Effects.{deeds_of, id_of, says_answer}
use Rattle.core_definitions.specs.Events.{Answer, Close, Nothing}
use Rattle.core_definitions.specs.Runs.{State, next, saids_of}
use Rattle.core_definitions.specs.Servers.{asks}
use Rattle.core_laws.proofs.Kept.{setting_kept}
use Rattle.core_world.specs.Events.{IsSameStory}
use Rattle.core_world.specs.Steps.{IsReached}
use Rattle.core_lives.specs.Idle.{begins_mount, ends_mount, is_mounted_answer, tells_sync}
use Rattle.core_lives.specs.Lives.{HasEntry}
use Rattle.stop_laws.specs.Happened.{Happening, Acts, Covers, Mounts, Recovers, Speaks, on_sectors, on_tree}
use Rattle.stop_laws.specs.Paired.{ArePaired}
use Rattle.stop_laws.specs.Replies.{SaidWhereItHappened}
use Rattle.stop_laws.specs.Synced.{has_stalled, says_synced}
use Rattle.core_histories.specs.Answers.{AnswersAreDue, IsDue, WhoOwesHasStalled, stalled_in}
use Rattle.core_histories.specs.Tellings.{IsTold, Tells, entry_of}
use Rattle.core_histories.specs.Told.{AnswersAreTold, ClosesAreTold, HasItsStory}
use Rattle.core_histories.proofs.Adding.{answer_adds, none_adds}
use Rattle.core_histories.proofs.Silence.{tells_on}
use Rattle.core_histories.proofs.Stalls.{stalled_more}

-- ---- stalls, by what happened and by the history of the tree

stalled_is : (a : ℕ) (h : List Happening) → has_stalled a h ≡ stalled_in a false (on_tree h)
stalled_is a [] = refl
stalled_is a (Acts c e ∷ older) = ap (λ b. stalled_after a b (Stays e)) (stalled_is a older) ∙ sym (stalled_more a false (on_tree older) (Did e ∷ []))
stalled_is a (Speaks e ∷ older) = ap (λ b. stalled_after a b (Stays e)) (stalled_is a older) ∙ sym (stalled_more a false (on_tree older) (Did e ∷ []))
stalled_is a (Mounts number e ∷ older) = ap (λ b. stalled_after a b (Stays e)) (stalled_is a older) ∙ sym (stalled_more a false (on_tree older) (Did e ∷ []))
stalled_is a (Covers other number ∷ older) = stalled_is a older
stalled_is a (Recovers other greatest durable ∷ older) =
    stalled_is a older ∙ sym (stalled_more a false (on_tree older) (RecoveredItem (record { 0 = other }) (record { 0 = greatest }) ∷ []))

-- ---- a close

pub closes_told : ClosesAreTold
closes_told s w u when first_tree numbers a r makes story told = go (clean_at s.core a) story
  where
    none : live_history s.core.setting.script s.core.setting.run (saids_of (s.record_ ++ [])) ≡ live_history s.core.setting.script s.core.setting.run (saids_of s.record_)
    none = none_adds s.core.setting s.record_ [] refl

    go : (b : Bool) → HasItsStory false b w u a → IsTold when first_tree numbers (next s (Close a) Nothing) u
    go false same = tells_on s (next s (Close a) Nothing) w u when first_tree numbers (setting_kept s.core (Close a) Nothing) none same told
    go true x = subst (λ z. Tells z when first_tree numbers (saids_of (s.record_ ++ [])) u) (sym (setting_kept s.core (Close a) Nothing)) (record {
      happened = Covers a (w.last a) ∷ told.happened;
      sectors = ap (λ l. Synced a (w.last a) ∷ l) told.sectors ∙ sym x.history;
      lines = told.lines ∙ sym none;
      paired = subst (λ o. ArePaired s.core.setting.segments when o first_tree numbers told.happened) (sym x.opening) told.paired;
      said = subst (λ o. SaidWhereItHappened s.core.setting.segments when o told.happened) (sym x.opening) told.said;
      synced = told.synced;
    })

-- ---- an answer

module _ (stalls : WhoOwesHasStalled) (s : State) (w u : World) (when : ℕ → ℕ) (first_tree : FileTree) (numbers : List ℕ) (a : ℕ) (r : IsReached s) (good : Good w) (d : IsDue s a)
    (told : IsTold when first_tree numbers s w) where
  abbrev e : Entry
  e = entry_of s.core.setting a d.under.line.number d.line.operation d.answer

  abbrev v : State
  v = next s (Answer a) Nothing

  abbrev h : List Happening
  h = told.happened

  says : saids_of (deeds_of s.core (Answer a) Nothing) ≡ said.Answer (id_of a) d.under.line.number d.answer ∷ []
  says = ap₂ (λ x y. saids_of (says_answer a x y)) d.is d.due

  adds : live_history s.core.setting.script s.core.setting.run (saids_of v.record_) ≡ live_history s.core.setting.script s.core.setting.run (saids_of s.record_) ++ Did e ∷ []
  adds = answer_adds s.core.setting s.record_ (deeds_of s.core (Answer a) Nothing) a d.under.line.number d.under.line d.line.operation d.answer says d.line.there d.line.asked

  lines : on_tree h ++ Did e ∷ [] ≡ live_history s.core.setting.script s.core.setting.run (saids_of v.record_)
  lines = ap (λ l. l ++ Did e ∷ []) told.lines ∙ sym adds

  -- all operations of the server are at most its last
  below : Each (λ c. c.by ≡ a → c.op ≤ w.last a) (settled (on_sectors h))
  below = subst (λ l. Each (λ c. c.by ≡ a → c.op ≤ w.last a) (settled l)) (sym told.sectors)
      (each_map (λ c. c.op ≤ w.last c.by) (λ c. c.by ≡ a → c.op ≤ w.last a) (λ c low by. subst (λ b. c.op ≤ w.last b) by low) (settled w.history) good.logged.below)

  with_setting : Tells s.core.setting when first_tree numbers (saids_of v.record_) u → IsTold when first_tree numbers v u
  with_setting t = subst (λ z. Tells z when first_tree numbers (saids_of v.record_) u) (sym (setting_kept s.core (Answer a) Nothing)) t

  mounted : begins_mount s.core a ≡ true → HasEntry w u (Mounted a (w.last a)) → IsTold when first_tree numbers v u
  mounted begins x = with_setting (record {
    happened = Mounts (w.last a) e ∷ h;
    sectors = ap (λ l. Mounted a (w.last a) ∷ l) told.sectors ∙ sym x.history;
    lines = lines;
    paired = subst (λ o. ArePaired s.core.setting.segments when o first_tree numbers (Mounts (w.last a) e ∷ h)) (sym x.opening)
        (sym (ap is_mounted_answer d.due) ∙ (and_parts (asks is_mount (s.core.servers a)) (is_mounted_answer (due_at s.core a)) begins).1, below, told.paired);
    said = subst (λ o. SaidWhereItHappened s.core.setting.segments when o h) (sym x.opening) told.said;
    synced = told.synced;
  })

  not_mounted : begins_mount s.core a ≡ false → is_mounted d.answer ≡ false
  not_mounted other = false_from_ne_true (is_mounted d.answer) (λ m. false≢true (sym other ∙ d.mounts m))

  -- its operations are synced
  covered : begins_mount s.core a ≡ false → HasEntry w u (Synced a (w.last a)) → IsTold when first_tree numbers v u
  covered other x = with_setting (record {
    happened = Speaks e ∷ Covers a (w.last a) ∷ h;
    sectors = ap (λ l. Synced a (w.last a) ∷ l) told.sectors ∙ sym x.history;
    lines = lines;
    paired = subst (λ o. ArePaired s.core.setting.segments when o first_tree numbers (Speaks e ∷ Covers a (w.last a) ∷ h)) (sym x.opening) (d.leaves, not_mounted other, told.paired);
    said = subst (λ o. SaidWhereItHappened s.core.setting.segments when o h) (sym x.opening) told.said;
    synced = (
      λ claims. subst (λ b. Each (λ c. c.by ≡ a → c.op ≤ (if b then w.last a else synced_of a (on_sectors h))) (settled (on_sectors h))) (sym (eq-eqb a a refl)) below,
      told.synced,
    );
  })

  -- an answer that says nothing of what is synced
  silent : begins_mount s.core a ≡ false → (ends_mount s.core a || tells_sync s.core a) ≡ false → says_synced (has_stalled a h) e ≡ true → ⊥
  silent other none claims =
      ⊎_elim first (λ k. unmounts (and_parts (is_unmount d.line.operation && is_ok d.answer) (not (has_stalled a h)) k))
      (or_cases (is_mounted d.answer || (is_sync d.line.operation && is_ok d.answer)) (is_unmount d.line.operation && is_ok d.answer && not (has_stalled a h)) claims)
    where
      no_sync : tells_sync s.core a ≡ true → ⊥
      no_sync k = false≢true (sym none ∙ or_right (ends_mount s.core a) (tells_sync s.core a) k)

      no_end : ends_mount s.core a ≡ true → ⊥
      no_end k = false≢true (sym none ∙ or_left (ends_mount s.core a) (tells_sync s.core a) k)

      first : (is_mounted d.answer || (is_sync d.line.operation && is_ok d.answer)) ≡ true → ⊥
      first k = ⊎_elim (λ m. false≢true (sym other ∙ d.mounts m)) (λ m. no_sync (d.syncs m)) (or_cases (is_mounted d.answer) (is_sync d.line.operation && is_ok d.answer) k)

      has : (s.core.servers a).owes ≡ true → has_stalled a h ≡ true
      has owes = stalled_is a h ∙ ap (stalled_in a false) told.lines ∙ stalls s a r owes

      unmounts : ((is_unmount d.line.operation && is_ok d.answer) ≡ true) × (not (has_stalled a h) ≡ true) → ⊥
      unmounts k = ⊎_elim no_end (λ owes. false≢true (sym (ap not (has owes)) ∙ k.1)) (d.ends k.0)

  spoken : begins_mount s.core a ≡ false → (ends_mount s.core a || tells_sync s.core a) ≡ false → IsSameStory w u → IsTold when first_tree numbers v u
  spoken other none x = with_setting (record {
    happened = Speaks e ∷ h;
    sectors = told.sectors ∙ sym x.history;
    lines = lines;
    paired = subst (λ o. ArePaired s.core.setting.segments when o first_tree numbers (Speaks e ∷ h)) (sym x.opening) (d.leaves, not_mounted other, told.paired);
    said = subst (λ o. SaidWhereItHappened s.core.setting.segments when o h) (sym x.opening) told.said;
    synced = (λ claims. absurd (silent other none claims), told.synced);
  })

  pub by_story : (mounts covers : Bool) → begins_mount s.core a ≡ mounts → (ends_mount s.core a || tells_sync s.core a) ≡ covers → HasItsStory mounts covers w u a → IsTold when first_tree numbers v u
  by_story true covers e f x = mounted e x
  by_story false true e f x = covered e x
  by_story false false e f x = spoken e f x

pub answers_told : AnswersAreDue → WhoOwesHasStalled → AnswersAreTold
answers_told due stalls s w u when first_tree numbers a r good makes story told =
    by_story stalls s w u when first_tree numbers a r good (due s a r makes) told (begins_mount s.core a) (ends_mount s.core a || tells_sync s.core a) refl refl story
