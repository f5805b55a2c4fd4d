-- What holds after every run.
use Rattle.std.proofs.Common.{true, false, zero, suc, List, [], ◌∷◌, Bool, IsSome, if◌then◌else◌, ⊎_elim, ℕ, ◌<◌, ◌≤◌, ◌≡◌, ◌⊎◌, inl, inr, Option, Some, None, nat_le, refl, sym, ◌∙◌, ap, subst}
use Rattle.std.proofs.lemmas.Bool.{cases_Bool}
use Rattle.frang_base.specs.declared.change.Change.{Change}
use Rattle.frang_base.specs.declared.lock.Mode.{Mode}
use Rattle.frang_base.specs.declared.lock.Mode.TheVariants.{Sole}
use Rattle.frang_base.proofs.Basics.{by_keep, le_or_lt}
use Rattle.sector_world.proofs.HistoryLaws.{AtMost, each_map, each_map2, in_place_or, own_by}
use Rattle.sector_world.specs.World.Phase.{Off, Up, Dead}
use Rattle.sector_world.specs.Logged.{Pending, NoneIfOff, FlightOk}
use Rattle.sector_world.specs.Bytes.{ByteFlightOk}
use Rattle.sector_bytes.specs.Blocks.{Block, version_of, zero_block}
use Rattle.frang_base.specs.declared.change.Redo.{Redo}
use Rattle.sector_bytes.specs.Replays.{change_at, redo_all, up_to}
use Rattle.frang_base.specs.Functions.{keep_if}
use Rattle.sector_world.specs.Histories.{Item, settled, own, is_own, redo_of, logical, is_logged, Each, Changes}
use Rattle.sector_world.specs.Histories.Item.{Done, Doubt}
use Rattle.sector_world.specs.HistoryBytes.{Known}
use Rattle.sector_world.specs.World.{World, Phase, Flight, ByteFlight, cover, has_version, block_at}
use Rattle.sector_world.specs.Guards.{NoneNames, to_replay}
use Rattle.sector_world.specs.Kinds.{Claimed, Good}
use Rattle.sector_world.specs.Claims.{EachNames, Holds, replayed, left}
use Rattle.sector_world.proofs.Finishing.{none_replay}
use Rattle.sector_world.proofs.Versioned.{logged_skip, plain_unchanged, plain_first, unchanged_logical}
use Rattle.sector_world.proofs.Recoverable.{replay_disk, recoverable}
use Rattle.sector_world.proofs.Left.{fine_left, left_logged, left_is, still_free, on_disk, off_rested}

none_at : (o : Bool) (d : Redo) (rs : List Redo) (s : ℕ) → change_at d.changes s ≡ None → NoneNames rs s → NoneNames (keep_if o d rs) s
none_at true d rs s e n = (e, n)
none_at false d rs s e n = n

no_change : {X : Type 0} (o : Option X) → (IsSome o → ⊥) → o ≡ None
no_change None n = refl
no_change (Some x) n = absurd (n refl)

own_names : (d f s : ℕ) (h : List Item) → Each (λ c. Changes s c → ⊥) h → NoneNames (own d f h) s
own_names d f s [] e = tt
own_names d f s (Done c ∷ h) e = none_at (is_own d f c) (redo_of c) (own d f h) s (no_change (change_at c.changes s) e.0) (own_names d f s h e.1)
own_names d f s (Doubt m ∷ h) e = own_names d f s h e

up_names : (k s : ℕ) (rs : List Redo) → NoneNames rs s → NoneNames (up_to k rs) s
up_names k s [] n = tt
up_names k s (r ∷ rs) n = none_at (nat_le r.op.0 k) r (up_to k rs) s n.0 (up_names k s rs n.1)

none_off : (p : Phase) (m : Option Mode) → p ≡ Off → NoneIfOff p m → m ≡ None
none_off Off m e n = n
none_off Up m e n = cc
none_off Dead m e n = cc

-- what holds of the changes of d's operations holds of its records
names_own : (d f s : ℕ) (P : Change → Type 0) (h : List Item) → Each (λ c. c.by ≡ d → (x : Change) → change_at c.changes s ≡ Some x → P x) h → EachNames P (own d f h) s
names_own d f s P [] e = tt
names_own d f s P (Done c ∷ h) e =
    by_keep (λ rs. EachNames P rs s) (is_own d f c) (redo_of c) (own d f h)
    (λ i. (e.0 (own_by d f c i), names_own d f s P h e.1)) (λ i. names_own d f s P h e.1)
names_own d f s P (Doubt m ∷ h) e = names_own d f s P h e

-- a sector that was changed has a version now
claimed_now : (first : ℕ → Bool) (s : ℕ) (h : List Item) → Claimed first s h → Each (λ c. Changes s c → is_logged first h s ≡ true) h
claimed_now first s [] k = tt
claimed_now first s (Done c ∷ h) k = (
  k.0,
  each_map (λ e. Changes s e → is_logged first h s ≡ true) (λ e. Changes s e → is_logged first (Done c ∷ h) s ≡ true) (λ e m i. logged_skip (c.claims s) (is_logged first h s) (m i)) h (claimed_now first s h k.1),
)
claimed_now first s (Doubt m ∷ h) k = claimed_now first s h k

module _ (w : World) (g : Good w) where
  -- a replay leaves a sector without a version
  plain_replayed : (s : ℕ) → has_version w s ≡ false → (n : ℕ) → replayed w n s ≡ block_at w s
  plain_replayed s e zero = refl
  plain_replayed s e (suc n) =
      none_replay (to_replay w n) s (replayed w n s)
      (up_names (w.durable n) s (w.log n) (subst (λ l. NoneNames l s) (sym (g.logged.logs n)) (own_names n (w.floor n) s (settled w.history) (plain_unchanged w.logged s (settled w.history) e (g.kinds.claimed s)))))
      ∙ plain_replayed s e n

  -- of a sector with a version the replay is of the one disk
  version_replayed : (s : ℕ) → has_version w s ≡ true → (n : ℕ) → replayed w n s ≡ replay_disk w n s
  version_replayed s e zero = rw e refl
  version_replayed s e (suc n) = ap (redo_all (to_replay w n) s) (version_replayed s e n)

  left_replayed : (s : ℕ) → is_logged w.logged (left w w.servers) s ≡ true → replayed w w.servers s ≡ logical w.opening (left w w.servers) s
  left_replayed s e = version_replayed s (left_logged w w.servers s e) w.servers ∙ recoverable w g.logged s ∙ sym (left_is w g s)

  -- a sector that became one with versions and that recoveries would unmake is free
  unmade_known : (s : ℕ) (v : Block) → has_version w s ≡ true → is_logged w.logged (left w w.servers) s ≡ false → Known w.first s v (left w w.servers)
  unmade_known s v e n u fr i =
      let c = g.kinds.cleared s e (plain_first w.logged s (left w w.servers) n) in
      let f = (still_free w g s c.1 c.2 w.servers).0 in absurd (cc)

  bytes_there : (s : ℕ) → is_logged w.logged (left w w.servers) s ≡ false → Known w.first s (block_at w s) (left w w.servers)
  bytes_there s n =
      ⊎_elim (λ e. unmade_known s (block_at w s) e n) (λ e. subst (λ v. Known w.first s v (left w w.servers)) (sym (at_plain s e)) (on_disk w g s)) (cases_Bool (has_version w s))
    where
      at_plain : (s : ℕ) → has_version w s ≡ false → block_at w s ≡ w.bytes s
      at_plain s e = rw e refl

  bytes_replayed : (s : ℕ) → is_logged w.logged (left w w.servers) s ≡ false → Known w.first s (replayed w w.servers s) (left w w.servers)
  bytes_replayed s n =
      ⊎_elim (λ e. unmade_known s (replayed w w.servers s) e n) (λ e. subst (λ v. Known w.first s v (left w w.servers)) (sym (plain_replayed s e w.servers)) (bytes_there s n)) (cases_Bool (has_version w s))

  version_at : (s : ℕ) → has_version w s ≡ true → block_at w s ≡ w.disk s
  version_at s e = rw e refl

  in_flight : (s : ℕ) (f : Flight) → w.flight s ≡ Some f → (f.stamp < w.now) ⊎ (w.holds f.behalf (cover w s) ≡ Some Sole)
  in_flight s f e = ⊎_elim (λ l. inr (let q : FlightOk w s f = g.logged.flights s f e l in q.sole)) (λ l. inl l) (le_or_lt w.now f.stamp)

  in_flight_bytes : (s : ℕ) (f : ByteFlight) → w.byte_flight s ≡ Some f → (f.stamp < w.now) ⊎ (w.holds f.by (cover w s) ≡ Some Sole)
  in_flight_bytes s f e = ⊎_elim (λ l. inr (let q : ByteFlightOk w s f = g.bytes.flights s f e l in q.sole)) (λ l. inl l) (le_or_lt w.now f.stamp)

  records : (d s : ℕ) → EachNames (λ x. (x.version ≤ version_of (block_at w s)) ⊎ (w.holds d (cover w s) ≡ Some Sole)) (w.log d) s
  records d s =
      subst (λ l. EachNames (λ x. (x.version ≤ version_of (block_at w s)) ⊎ (w.holds d (cover w s) ≡ Some Sole)) l s) (sym (g.logged.logs d))
      (names_own d (w.floor d) s (λ x. (x.version ≤ version_of (block_at w s)) ⊎ (w.holds d (cover w s) ≡ Some Sole)) (settled w.history)
      (each_map2 (λ c. Pending w s c ⊎ AtMost (change_at c.changes s) (version_of (w.disk s))) (λ c. Changes s c → has_version w s ≡ true)
      (λ c. c.by ≡ d → (x : Change) → change_at c.changes s ≡ Some x → (x.version ≤ version_of (block_at w s)) ⊎ (w.holds d (cover w s) ≡ Some Sole))
      (λ c m v e x i. ⊎_elim (λ p. inr (ap (λ y. w.holds y (cover w s)) (sym e) ∙ p.sole))
      (λ a. inl (subst (λ y. x.version ≤ version_of y) (sym (version_at s (v (subst IsSome (sym i) refl)))) (subst (λ o. AtMost o (version_of (w.disk s))) i a))) m)
      (settled w.history)
      (in_place_or w.opening w.durable s (Pending w s) (w.disk s) (settled w.history) (g.logged.place s) (g.logged.rising s))
      (claimed_now w.logged s (settled w.history) (g.kinds.claimed s))))

  pub holds_good : Holds w
  holds_good = record {
    compatible = g.logged.apart;
    off = λ a l e. none_off (w.phase a) (w.holds a l) e (g.logged.off_free a l);
    in_flight = in_flight;
    in_flight_bytes = in_flight_bytes;
    records = records;
    coherent = g.logged.copies;
    coherent_bytes = g.bytes.copies;
    clean_bytes = g.bytes.clean;
    known = g.bytes.knows;
    agree = g.bytes.live;
    by_plan = g.bytes.by_plan;
    left_by_plan = (fine_left w g w.servers).by_plan;
    recoverable = left_replayed;
    on_disk = bytes_there;
    on_replayed = bytes_replayed;
    left_agrees = (fine_left w g w.servers).live;
    rise = g.logged.ops;
    unseen = g.logged.unseen;
    unmet = g.logged.unmet;
    unsynced = g.logged.unsynced;
    rested = off_rested w g;
    was_kept = g.logged.was_kept;
  }

  -- the sectors with versions of the replayed disk, with zeros for the others, are the logical ones of what is left
  pub with_versions_is : (s : ℕ) → (if is_logged w.logged (left w w.servers) s then replayed w w.servers s else zero_block) ≡ logical w.opening (left w w.servers) s
  with_versions_is s =
      ⊎_elim
      (λ e. rw e (left_replayed s e))
      (λ e. rw e (sym (unchanged_logical w.opening s (left w w.servers) (plain_unchanged w.logged s (left w w.servers) e ((fine_left w g w.servers).claimed s))
      ∙ g.kinds.zero s (plain_first w.logged s (left w w.servers) e))))
      (cases_Bool (is_logged w.logged (left w w.servers) s))
