-- The end of a recovery: what happened is told on.
use Rattle.std.proofs.Common.{ℕ, ◌≡◌, List, [], ◌∷◌, ◌++◌, Some, sym, ap, ◌∙◌, subst}
use Rattle.frang_base.specs.declared.said.Said.TheVariants as said
use Rattle.tree_definitions.specs.declared.history.Item.{Item}
use Rattle.tree_definitions.specs.declared.history.Item.TheVariants.{Recovered as RecoveredItem}
use Rattle.tree_definitions.specs.Live.{live_history}
use Rattle.tree_definitions.specs.Tree.{FileTree}
use Rattle.tree_laws.proofs.TranscriptLaws.{live-push}
use Rattle.disk_definitions.specs.Logs.{greatest_operation}
use Rattle.sector_world.specs.Histories.{settled}
use Rattle.sector_world.specs.Histories.Entry.{Recovered}
use Rattle.sector_world.specs.Histories as sectors
use Rattle.sector_world.specs.Kinds.{Good}
use Rattle.sector_world.specs.Plans.{Legal}
use Rattle.sector_world.specs.Seen.{Unsynced}
use Rattle.sector_world.specs.Trees.{Distinct}
use Rattle.sector_world.specs.World.{World}
use Rattle.line_histories.specs.LinePlans.{sector_plan}
use Rattle.line_histories.specs.Trees.{MayNumber}
use Rattle.core_definitions.specs.Effects.{deeds_of, id_of, says_recovered}
use Rattle.core_definitions.specs.Events.{Finish, Nothing}
use Rattle.core_definitions.specs.Recoveries.{Recovery, redos}
use Rattle.core_definitions.specs.Runs.{State, next, saids_of}
use Rattle.core_laws.proofs.Kept.{setting_kept}
use Rattle.core_transcripts.proofs.Running.{said_more}
use Rattle.core_lives.specs.Lives.{HasEntry}
use Rattle.core_commits.specs.Standing.{IsOfLines}
use Rattle.stop_laws.specs.Happened.{Happening, Recovers}
use Rattle.stop_laws.specs.Paired.{ArePaired, MayRecover}
use Rattle.stop_laws.specs.Replies.{SaidWhereItHappened}
use Rattle.core_histories.specs.Tellings.{IsTold, Tells}
use Rattle.core_histories.specs.Told.{FinishesAreTold, KeepsWhatItReports}

module _ (s : State) (w u : World) (when : ℕ → ℕ) (first_tree : FileTree) (numbers : List ℕ) (by : ℕ) (recovery : Recovery) (good : Good w) (lines_of : IsOfLines s.core.setting.segments when first_tree numbers w)
    (is : (s.core.servers by).recovery ≡ Some recovery) (x : HasEntry w u (Recovered recovery.dead (w.durable recovery.dead))) (told : IsTold when first_tree numbers s w)
    (keeps : KeepsWhatItReports s w first_tree told.happened recovery) where
  abbrev d : ℕ
  d = recovery.dead

  abbrev greatest : ℕ
  greatest = greatest_operation (redos s.core.setting.logs recovery)

  abbrev v : State
  v = next s (Finish by) Nothing

  abbrev h : List Happening
  h = told.happened

  abbrev live : List Item
  live = live_history s.core.setting.script s.core.setting.run (saids_of s.record_)

  says : saids_of (deeds_of s.core (Finish by) Nothing) ≡ said.Recovered (id_of d) (record { 0 = greatest }) ∷ []
  says = ap (λ o. saids_of (says_recovered s.core o)) is

  adds : live_history s.core.setting.script s.core.setting.run (saids_of v.record_) ≡ live ++ RecoveredItem (id_of d) (record { 0 = greatest }) ∷ []
  adds =
      ap (live_history s.core.setting.script s.core.setting.run) (said_more s.record_ (deeds_of s.core (Finish by) Nothing) ∙ ap (λ l. saids_of s.record_ ++ l) says)
      ∙ live-push s.core.setting.script s.core.setting.run (saids_of s.record_) (said.Recovered (id_of d) (record { 0 = greatest }))

  -- what the theorem on sectors asks where a recovery acts
  may : MayRecover s.core.setting.segments when w.opening first_tree numbers d greatest (w.durable d) h
  may = record {
    legal = subst (λ (l : List sectors.Entry). Legal (sector_plan s.core.setting.segments when) w.opening (settled l)) (sym told.sectors) lines_of.legal.live;
    distinct = subst (λ (l : List sectors.Entry). Distinct (MayNumber numbers) first_tree (settled l)) (sym told.sectors) lines_of.distinct;
    rises = subst (λ (l : List sectors.Entry). sectors.OpsRise (settled l)) (sym told.sectors) good.logged.ops;
    unsynced = subst (Unsynced d (w.durable d)) (sym told.sectors) (good.logged.unsynced d);
    kept_by = keeps;
  }

  pub finished : IsTold when first_tree numbers v u
  finished = subst (λ z. Tells z when first_tree numbers (saids_of v.record_) u) (sym (setting_kept s.core (Finish by) Nothing)) (record {
    happened = Recovers d greatest (w.durable d) ∷ h;
    sectors = ap (λ l. Recovered d (w.durable d) ∷ l) told.sectors ∙ sym x.history;
    lines = ap (λ l. l ++ RecoveredItem (record { 0 = d }) (record { 0 = greatest }) ∷ []) told.lines ∙ sym adds;
    paired = subst (λ o. ArePaired s.core.setting.segments when o first_tree numbers (Recovers d greatest (w.durable d) ∷ h)) (sym x.opening) (may, told.paired);
    said = subst (λ o. SaidWhereItHappened s.core.setting.segments when o h) (sym x.opening) told.said;
    synced = told.synced;
  })

pub finishes_told : FinishesAreTold
finishes_told s w u when first_tree numbers by recovery good lines_of makes is x told keeps = finished s w u when first_tree numbers by recovery good lines_of is x told keeps
