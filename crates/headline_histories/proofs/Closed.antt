-- A server that was closed keeps what is durable, by the records that its log has since its last mount.
use Rattle.std.proofs.Common.{ℕ, ◌≡◌, ◌≢◌, ◌≤◌, ◌<◌, ◌==◌, ◌&&◌, ◌||◌, not, Bool, true, false, nat_eq, List, [], ◌∷◌, refl, sym, ◌∙◌, ap, subst, arith}
use Rattle.std.proofs.lemmas.Bool.{and_parts, eq-eqb, eqb-true, false≢true, not-true}
use Rattle.frang_base.specs.Functions.{keep_if}
use Rattle.tree_definitions.specs.History.{Stays}
use Rattle.tree_definitions.specs.Live.{live_history}
use Rattle.tree_definitions.specs.Removal.{mounts}
use Rattle.tree_definitions.specs.Touched.{is_mounted}
use Rattle.tree_definitions.specs.Transcript.{Faults, is_mounted_or_dead, is_off, no_faults, state_of}
use Rattle.tree_definitions.specs.Tree.{FileTree}
use Rattle.sector_bytes.specs.Blocks.{Block}
use Rattle.sector_world.proofs.HistoryLaws.{each_map}
use Rattle.sector_world.specs.Histories.{Commit, Each, Item, Done, Doubt, settled, survives}
use Rattle.sector_world.specs.World.{World}
use Rattle.sector_world.specs.World.Phase.{Off}
use Rattle.disk_definitions.specs.Replay.{greatest_of}
use Rattle.byte_trees.specs.Deeds.{Deed, Does, Doubts, Says, items}
use Rattle.core_definitions.specs.Runs.{State as RunMoment, first_state, saids_of}
use Rattle.core_histories.specs.Stops.{ToldHistoriesSettle}
use Rattle.core_transcripts.specs.Faults.{RunHasItsFaults, run_faults}
use Rattle.core_transcripts.specs.Scripts.{RunsOfReadScriptsSayTranscripts}
use Rattle.core_transcripts.specs.Transcripts.{IsTranscriptButTree}
use Rattle.stop_laws.specs.Happened.{Happening, Acts, Covers, Mounts, Recovers, Speaks, has_lost, on_sectors, on_tree, settle, what_stays}
use Rattle.stop_laws.specs.Paired.{AreKeptSinceMount, ArePaired, BeginsWithARecord, IsKeptBy}
use Rattle.stop_laws.specs.Sure.{has_mounted}
use Rattle.headline_definitions.specs.Beginning.{Beginning}
use Rattle.headline_definitions.specs.Laws.{setting_by}
use Rattle.headline_definitions.specs.Meaning.{WitnessedTellsTheLines}
use Rattle.headline_histories.specs.Closed.{ClosedServersKeepTheirs, EachOfItsMount, HasItsRecords}
use Rattle.headline_histories.specs.Moments.{IsMomentOf}
use Rattle.headline_histories.specs.Starts.{WorldsAreOverCountedDisks}
use Rattle.headline_histories.proofs.Moments.{same}
use Rattle.headline_histories.proofs.Told.{alike, in_both, mounted_in, on_was_mounted}

-- ---- both sides have the same mounts and recoveries

module _ (segments : ℕ) (when : ℕ → ℕ) (opening : ℕ → Block) (first : FileTree) (numbers : List ℕ) (a : ℕ) where
  mounts_alike : (h : List Happening) → ArePaired segments when opening first numbers h → mounted_in a false (on_tree h) ≡ has_mounted a (on_sectors h)
  mounts_alike [] p = refl
  mounts_alike (Acts c e ∷ older) p =
      in_both a false (on_tree older) _ ∙ ap (λ b. (e.server.0 == a && b) || mounted_in a false (on_tree older)) p.0.no_mount ∙ nothing (e.server.0 == a) _ ∙ mounts_alike older p.1
    where
      nothing : (x y : Bool) → ((x && false) || y) ≡ y
      nothing true y = refl
      nothing false y = refl
  mounts_alike (Speaks e ∷ older) p =
      in_both a false (on_tree older) _ ∙ ap (λ b. (e.server.0 == a && b) || mounted_in a false (on_tree older)) p.1 ∙ nothing (e.server.0 == a) _ ∙ mounts_alike older p.2
    where
      nothing : (x y : Bool) → ((x && false) || y) ≡ y
      nothing true y = refl
      nothing false y = refl
  mounts_alike (Mounts number e ∷ older) p =
      in_both a false (on_tree older) _ ∙ ap (λ b. (e.server.0 == a && b) || mounted_in a false (on_tree older)) p.0 ∙ all (e.server.0 == a) _ ∙ ap (λ b. nat_eq e.server.0 a || b) (mounts_alike older p.2)
    where
      all : (x y : Bool) → ((x && true) || y) ≡ (x || y)
      all true y = refl
      all false y = refl
  mounts_alike (Covers server number ∷ older) p = mounts_alike older p
  mounts_alike (Recovers server greatest durable ∷ older) p = in_both a false (on_tree older) _ ∙ ap (λ b. not (nat_eq server a) && b) (mounts_alike older p.1)

  -- ---- records since the mount, deed by deed

  module _ (greatest durable : ℕ) where
    -- a recovery of another server leaves them
    stays_kept : (other number : ℕ) → (other ≡ a → ⊥) → (deeds : List Deed) → AreKeptSinceMount a greatest durable deeds → AreKeptSinceMount a greatest durable (what_stays other number deeds)
    stays_kept other number apart [] kept = tt
    stays_kept other number apart (Does c e ∷ older) kept = go (survives other number c) (stays_kept other number apart older kept.1)
      where
        go : (b : Bool) → AreKeptSinceMount a greatest durable (what_stays other number older) → AreKeptSinceMount a greatest durable (keep_if b (Does c e) (what_stays other number older))
        go true rest = (kept.0, rest)
        go false rest = rest
    stays_kept other number apart (Says e ∷ older) kept = go (λ none. stays_kept other number apart older (kept none)) (e.server.0 == other) refl (has_lost other number older)
      where
        not_own : (e.server.0 == other) ≡ true → (z : Bool) → (e.server.0 == a) ≡ z → mounts a (Stays e) ≡ false
        not_own of true own = absurd (apart (sym (eqb-true e.server.0 other of) ∙ eqb-true e.server.0 a own))
        not_own of false own = ap (λ b. b && is_mounted e.reply) own

        go : (mounts a (Stays e) ≡ false → AreKeptSinceMount a greatest durable (what_stays other number older)) → (x : Bool) → (e.server.0 == other) ≡ x → (y : Bool) →
            AreKeptSinceMount a greatest durable (keep_if (not (x && y)) (Says e) (what_stays other number older))
        go rest true of true = rest (not_own of (e.server.0 == a) refl)
        go rest true of false = rest
        go rest false of y = rest
    stays_kept other number apart (Doubts marked runs ∷ older) kept = stays_kept other number apart older kept

    kept_since : (h : List Happening) → ArePaired segments when opening first numbers h → has_mounted a (on_sectors h) ≡ true →
        EachOfItsMount (λ c. c.changes ≢ [] → c.op ≤ greatest) a (on_sectors h) → AreKeptSinceMount a greatest durable (settle first h)
    kept_since [] p m each = tt
    kept_since (Acts c e ∷ older) p m each = (λ own low some. each.0 own some, kept_since older p.1 m each.1)
    kept_since (Speaks e ∷ older) p m each = λ none. kept_since older p.2 m each
    kept_since (Mounts number e ∷ older) p m each = λ none. go (λ n x. kept_since older p.2 n x) none (e.server.0 == a) refl m
      where
        apart : (e.server.0 == a) ≡ false → e.server.0 ≢ a
        apart not_own same_server = false≢true (sym not_own ∙ eq-eqb e.server.0 a same_server)

        go : (has_mounted a (on_sectors older) ≡ true → EachOfItsMount (λ c. c.changes ≢ [] → c.op ≤ greatest) a (on_sectors older) → AreKeptSinceMount a greatest durable (settle first older)) →
            mounts a (Stays e) ≡ false → (x : Bool) → (e.server.0 == a) ≡ x → (x || has_mounted a (on_sectors older)) ≡ true → AreKeptSinceMount a greatest durable (settle first older)
        go rest none true own n = absurd (false≢true (sym none ∙ ap (λ b. b && is_mounted e.reply) own ∙ p.0))
        go rest none false own n = rest n (each (apart own))
    kept_since (Covers server number ∷ older) p m each = kept_since older p m each
    kept_since (Recovers server number low ∷ older) p m each =
        let parts = and_parts (not (nat_eq server a)) (has_mounted a (on_sectors older)) m in
        stays_kept server low (λ e. false≢true (sym (not-true (nat_eq server a) parts.0) ∙ eq-eqb server a e)) (settle first older) (kept_since older p.1 parts.1 each)

-- ---- none above what is durable

none_above : (a durable : ℕ) (list : List Item) → Each (λ c. c.by ≡ a → c.op ≤ durable) list → BeginsWithARecord a durable list
none_above a durable [] low = tt
none_above a durable (Done c ∷ older) low = (λ own above rest some. above_not (low.0 own) above, none_above a durable older low.1)
  where
    above_not : c.op ≤ durable → durable < c.op → ⊥
    above_not l h = absurd (omega (arith, l, h))
none_above a durable (Doubt marked ∷ older) low = none_above a durable older low

-- ---- at the moment

module _ (settles : ToldHistoriesSettle) (transcripts : RunsOfReadScriptsSayTranscripts) (faulted : RunHasItsFaults) (starts : WorldsAreOverCountedDisks) (lines : WitnessedTellsTheLines) (b : Beginning) (s : RunMoment)
    (w : World) (when : ℕ → ℕ) (numbers : List ℕ) (m : IsMomentOf b s w when numbers) (a : ℕ) (off : w.phase a ≡ Off) where
  abbrev first : RunMoment
  first = first_state (setting_by b) b.disk

  abbrev faults : Faults
  faults = run_faults first s m.run

  each : IsTranscriptButTree b.script b.opening faults (saids_of s.record_)
  each = transcripts m.begins.bytes (setting_by b) b.disk s m.run faults b.opening m.begins.script (faulted first s m.run).1

  -- who is up by the lines was mounted in the world
  was_mounted : is_mounted_or_dead s.core.setting.script (saids_of s.record_) a ≡ true → has_mounted a w.history ≡ true
  was_mounted told =
      sym (ap (has_mounted a) m.told.sectors)
      ∙ sym (mounts_alike s.core.setting.segments when w.opening b.opening.tree numbers a m.told.happened m.told.paired)
      ∙ ap (mounted_in a false) (m.told.lines ∙ ap (λ z. live_history z.script z.run (saids_of s.record_)) (same starts lines b s w when numbers m))
      ∙ on_was_mounted b.script b.opening faults b.opening.run a (saids_of s.record_) each on
    where
      on : is_off (state_of b.script faults a (saids_of s.record_)).phase ≡ false
      on =
          ap is_off (sym (alike b.script a faults (saids_of s.record_)))
          ∙ not-true (is_off (state_of b.script no_faults a (saids_of s.record_)).phase)
          (ap (λ z. is_mounted_or_dead z.script (saids_of s.record_) a) (sym (same starts lines b s w when numbers m)) ∙ told)

  -- all that it did is durable
  low : Each (λ c. c.by ≡ a → c.op ≤ w.durable a) (settled w.history)
  low = each_map (λ c. c.op ≤ w.last c.by) (λ c. c.by ≡ a → c.op ≤ w.durable a) (λ c below own. one c below own) (settled w.history) m.good.logged.below
    where
      one : (c : Commit) → c.op ≤ w.last c.by → c.by ≡ a → c.op ≤ w.durable a
      one c below own =
          let last : c.op ≤ w.last a = subst (λ k. c.op ≤ w.last k) own below in
          let rest : w.last a ≤ w.durable a = m.good.logged.rested a off in
          omega arith

  pub keeps : HasItsRecords s w a → has_mounted a w.history ≡ true → IsKeptBy a (greatest_of s.disk a) (w.durable a) (settle b.opening.tree m.told.happened)
  keeps has mounted = record {
    within = has.within;
    records = kept_since s.core.setting.segments when w.opening b.opening.tree numbers a (greatest_of s.disk a) (w.durable a) m.told.happened m.told.paired (ap (has_mounted a) m.told.sectors ∙ mounted)
        (subst (EachOfItsMount (λ c. c.changes ≢ [] → c.op ≤ greatest_of s.disk a) a) (sym m.told.sectors) has.records);
    begins = none_above a (w.durable a) (items (settle b.opening.tree m.told.happened))
        (subst (Each (λ c. c.by ≡ a → c.op ≤ w.durable a)) (sym (settles when b.opening.tree numbers s w m.told m.lines).sectors) low);
  }

pub closed_keep : ToldHistoriesSettle → RunsOfReadScriptsSayTranscripts → RunHasItsFaults → WorldsAreOverCountedDisks → WitnessedTellsTheLines → ClosedServersKeepTheirs
closed_keep settles transcripts faulted starts lines b s w when numbers m logs has = record {
  logs = logs;
  closed = λ a server off told none.
      let mounted = was_mounted settles transcripts faulted starts lines b s w when numbers m a off told in
      keeps settles transcripts faulted starts lines b s w when numbers m a off (has a server off mounted) mounted;
}
