-- What the end of a recovery leaves of a sector: where a server that isn't the dead one holds its cover, it stays under it, and with a version or without.
use Rattle.std.proofs.Common.{◌≡◌, ◌≢◌, ℕ, ◌<◌, ◌≤◌, Bool, true, false, List, [], ◌∷◌, Option, Some, None, is_some, refl, sym, ap, ◌∙◌, subst, inl, inr, ⊎_elim}
use Rattle.std.proofs.lemmas.Bool.{false≢true}
use Rattle.frang_base.specs.Functions.{keep_if}
use Rattle.frang_base.proofs.Basics.{le_or_lt}
use Rattle.frang_base.specs.declared.lock.Mode.TheVariants.{Sole}
use Rattle.sector_bytes.specs.Blocks.{Block}
use Rattle.sector_world.specs.Histories.{Fill, Commit, Item, settled, kept, survives, Each, Moves, Writes}
use Rattle.sector_world.specs.Histories.Item.{Done, Doubt}
use Rattle.sector_world.specs.HistoryBytes.{is_free, is_free_by}
use Rattle.sector_world.specs.Seen.{Alters}
use Rattle.sector_world.specs.World.{World, Rescue, cover, has_version}
use Rattle.sector_world.specs.Steps.{after}
use Rattle.sector_world.specs.Steps.Event.{Finish}
use Rattle.sector_world.specs.Kinds.{Good}
use Rattle.sector_world.proofs.HistoryLaws.{each_map, each_map2}
use Rattle.sector_world.proofs.Removals.{survives_low}
use Rattle.sector_world.proofs.Seen.{cover_kept}
use Rattle.sector_world.proofs.Versioned.{logged_kept}

-- where each operation that writes the sector's bytes stays, it is free as before
free_kept : (first : ℕ → Option Block) (s : ℕ) (keep : Commit → Bool) (h : List Item) → Each (λ c. Writes s c → keep c ≡ true) h → is_free first (kept keep h) s ≡ is_free first h s
free_kept first s keep [] all = refl
free_kept first s keep (Doubt m ∷ h) all = free_kept first s keep h all
free_kept first s keep (Done c ∷ h) all = go (keep c) refl (c.writes s) refl (free_kept first s keep h all.1)
  where
    go : (k : Bool) → keep c ≡ k → (o : Option Fill) → c.writes s ≡ o → is_free first (kept keep h) s ≡ is_free first h s →
        is_free first (keep_if k (Done c) (kept keep h)) s ≡ is_free_by (c.writes s) (is_free first h s)
    go true e o f rest = ap (is_free_by (c.writes s)) rest
    go false e None f rest = rest ∙ sym (ap (λ x. is_free_by x (is_free first h s)) f)
    go false e (Some fill) f rest = absurd (false≢true (sym e ∙ all.0 (ap is_some f)))

module _ (w : World) (r : Rescue) (g : Good w) (b s : ℕ) (holds : w.holds b (cover w s) ≢ None) (other : b ≢ r.dead) where
  -- an operation of the dead one on it is durable
  low : (c : Commit) → (Alters s c → w.durable c.by < c.op → w.holds c.by (cover w s) ≡ Some Sole) → Alters s c → c.by ≡ r.dead → c.op ≤ w.durable r.dead
  low c firm alters e = ⊎_elim (λ l. l) (λ l. absurd (other (sym (g.logged.apart r.dead b (cover w s)
      (subst (λ n. w.holds n (cover w s) ≡ Some Sole) e (firm alters (subst (λ n. w.durable n < c.op) (sym e) l))) holds)))) (le_or_lt c.op (w.durable r.dead))

  -- and stays
  stays_so : (c : Commit) → (Alters s c → w.durable c.by < c.op → w.holds c.by (cover w s) ≡ Some Sole) → Alters s c → survives r.dead (w.durable r.dead) c ≡ true
  stays_so c firm alters = survives_low r.dead (w.durable r.dead) c (low c firm alters)

  pub all_stay : Each (λ c. Alters s c → survives r.dead (w.durable r.dead) c ≡ true) (settled w.history)
  all_stay = each_map (λ c. Alters s c → w.durable c.by < c.op → w.holds c.by (cover w s) ≡ Some Sole) (λ c. Alters s c → survives r.dead (w.durable r.dead) c ≡ true) stays_so
      (settled w.history) (g.logged.firm s)

  moved_stay : Each (λ c. Moves s c → survives r.dead (w.durable r.dead) c ≡ true) (settled w.history)
  moved_stay = each_map (λ c. Alters s c → survives r.dead (w.durable r.dead) c ≡ true) (λ c. Moves s c → survives r.dead (w.durable r.dead) c ≡ true) (λ c f moves. f (inr (inl moves)))
      (settled w.history) all_stay

  pub cover_stays : cover (after w (Finish r)) s ≡ cover w s
  cover_stays = cover_kept w.home s (survives r.dead (w.durable r.dead)) (settled w.history) moved_stay

  pub kind_stays : has_version (after w (Finish r)) s ≡ has_version w s
  kind_stays = logged_kept w.logged s (survives r.dead (w.durable r.dead)) (settled w.history)
      (each_map2 (λ c. Moves s c → survives r.dead (w.durable r.dead) c ≡ true) (λ c. c.claims s ≡ true → Moves s c) (λ c. c.claims s ≡ true → survives r.dead (w.durable r.dead) c ≡ true)
      (λ c f moving e. f (moving e)) (settled w.history) moved_stay (g.kinds.moving s))

  written_stay : Each (λ c. Writes s c → survives r.dead (w.durable r.dead) c ≡ true) (settled w.history)
  written_stay = each_map (λ c. Alters s c → survives r.dead (w.durable r.dead) c ≡ true) (λ c. Writes s c → survives r.dead (w.durable r.dead) c ≡ true) (λ c f writes. f (inr (inr writes)))
      (settled w.history) all_stay

  pub free_stays : is_free w.first (settled (after w (Finish r)).history) s ≡ is_free w.first (settled w.history) s
  free_stays = free_kept w.first s (survives r.dead (w.durable r.dead)) (settled w.history) written_stay
