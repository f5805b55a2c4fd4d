-- Which sectors have versions, through all events.
use Rattle.std.proofs.Common.{true, false, List, [], ◌∷◌, Bool, IsTrue, IsSome, if◌then◌else◌, ⊎_elim, le_trans, ℕ, ◌-◌, ◌<◌, ◌≤◌, ◌≡◌, ◌⊎◌, inl, inr, Option, Some, None, refl, sym, ◌∙◌, ap, subst, arith}
use Rattle.std.proofs.lemmas.Bool.{false_from_ne_true, cases_eq}
use Rattle.frang_base.specs.declared.lock.LockId.{LockId}
use Rattle.frang_base.specs.declared.lock.Mode.{Mode}
use Rattle.frang_base.specs.declared.lock.Mode.TheVariants.{Sole}
use Rattle.sector_bytes.specs.Blocks.{Block, zero_block}
use Rattle.sector_bytes.specs.Replays.{change_at}
use Rattle.frang_base.specs.Locks.{same_lock}
use Rattle.frang_base.specs.Functions.{put, put2}
use Rattle.sector_world.specs.Histories.{Fill, Commit, Item, kept, survives, settled, Each, Changes, Moves, Writes, touches, OpsRise, is_logged, logical}
use Rattle.sector_world.specs.Histories.Item.{Done, Doubt}
use Rattle.sector_world.specs.HistoryBytes.{is_free_by, is_free, AllWritten}
use Rattle.sector_world.specs.Seen.{Alters, Unseen, IsLost}
use Rattle.frang_base.proofs.Basics.{by_test, le_or_lt, at_put, at_put2, by_keep}
use Rattle.sector_world.proofs.HistoryLaws.{each_map, each_map2, each_kept, unchanged}
use Rattle.sector_world.proofs.Removals.{survives_low}
use Rattle.sector_world.proofs.Bytes.{survives_up, none_writes, free_kept, data_in_place}
use Rattle.sector_world.specs.World.{World, Page, ByteFlight, Rescue, cover, has_version}
use Rattle.sector_world.specs.World.Page.{NoPage, CleanPage, DirtyPage}
use Rattle.sector_world.specs.Guards.{MovesOwned, CanDo, CanReach, CanFetchBytes, CanClear, CanIssueBytes, CanLandBytes, CanSettle}
use Rattle.sector_world.specs.Steps.{after, page_done, page_lowered, page_landed}
use Rattle.sector_world.specs.Steps.Event.{Tick, Give, Lower, Do, Reach, Crash, Finish, FetchBytes, Clear, IssueBytes, LandBytes, FadeBytes, BreakBytes, BreakBytesNew, Settle}
use Rattle.sector_world.specs.Logged.{Logged}
use Rattle.sector_world.specs.Bytes.{IsLoose, PendingBytes, IsDiskPage, ByteFlightOk, Bytes}
use Rattle.sector_world.specs.OnDisk.{OnDisk}
use Rattle.sector_world.specs.OnDisk.OnDisk.{in_place, pending, passed}
use Rattle.sector_world.specs.Kinds.{Claimed, Kinds}
use Rattle.sector_world.proofs.Reaching.{sole_held}
use Rattle.sector_world.proofs.BytesLanding.{other_page}
use Rattle.sector_world.proofs.BytesDoing.{clean_loose}

-- fewer operations make fewer sectors ones with versions
logged_step : (b : Bool) (less more : Bool) → (less ≡ true → more ≡ true) → (if b then true else less) ≡ true → (if b then true else more) ≡ true
logged_step true less more f e = refl
logged_step false less more f e = f e

pub logged_skip : (b : Bool) (more : Bool) → more ≡ true → (if b then true else more) ≡ true
logged_skip true more e = refl
logged_skip false more e = e

pub logged_less : (first : ℕ → Bool) (s : ℕ) (keep : Commit → Bool) (h : List Item) → is_logged first (kept keep h) s ≡ true → is_logged first h s ≡ true
logged_less first s keep [] e = e
logged_less first s keep (Doubt m ∷ h) e = logged_less first s keep h e
logged_less first s keep (Done c ∷ h) e =
    by_keep (λ x. is_logged first x s ≡ true → is_logged first (Done c ∷ h) s ≡ true) (keep c) (Done c) (kept keep h)
    (λ i j. logged_step (c.claims s) (is_logged first (kept keep h) s) (is_logged first h s) (logged_less first s keep h) j)
    (λ i j. logged_skip (c.claims s) (is_logged first h s) (logged_less first s keep h j)) e

logged_gone : (b : Bool) (old : Bool) → (b ≡ true → ⊥) → old ≡ (if b then true else old)
logged_gone true old n = absurd (n refl)
logged_gone false old n = refl

-- where all that made the sector one with versions stays
pub logged_kept : (first : ℕ → Bool) (s : ℕ) (keep : Commit → Bool) (h : List Item) → Each (λ c. c.claims s ≡ true → keep c ≡ true) h → is_logged first (kept keep h) s ≡ is_logged first h s
logged_kept first s keep [] k = refl
logged_kept first s keep (Doubt m ∷ h) k = logged_kept first s keep h k
logged_kept first s keep (Done c ∷ h) k =
    by_keep (λ x. is_logged first x s ≡ is_logged first (Done c ∷ h) s) (keep c) (Done c) (kept keep h)
    (λ i. ap (λ x. if c.claims s then true else x) (logged_kept first s keep h k.1))
    (λ i. logged_kept first s keep h k.1 ∙ logged_gone (c.claims s) (is_logged first h s) (λ e. let q : keep c ≡ true = k.0 e in cc))

logged_before : (b old : Bool) → (if b then true else old) ≡ false → old ≡ false
logged_before true old e = cc
logged_before false old e = e

-- a sector with no version wasn't changed
pub plain_unchanged : (first : ℕ → Bool) (s : ℕ) (h : List Item) → is_logged first h s ≡ false → Claimed first s h → Each (λ c. Changes s c → ⊥) h
plain_unchanged first s [] e c = tt
plain_unchanged first s (Done c ∷ h) e k = ((λ i. let q : (if c.claims s then true else is_logged first h s) ≡ true = k.0 i in cc), plain_unchanged first s h (logged_before (c.claims s) (is_logged first h s) e) k.1)
plain_unchanged first s (Doubt m ∷ h) e k = plain_unchanged first s h e k

pub plain_first : (first : ℕ → Bool) (s : ℕ) (h : List Item) → is_logged first h s ≡ false → first s ≡ false
plain_first first s [] e = e
plain_first first s (Done c ∷ h) e = plain_first first s h (logged_before (c.claims s) (is_logged first h s) e)
plain_first first s (Doubt m ∷ h) e = plain_first first s h e

pub unchanged_logical : (opening : ℕ → Block) (s : ℕ) (h : List Item) → Each (λ c. Changes s c → ⊥) h → logical opening h s ≡ opening s
unchanged_logical opening s [] e = refl
unchanged_logical opening s (Done c ∷ h) e = unchanged (change_at c.changes s) (logical opening h s) e.0 ∙ unchanged_logical opening s h e.1
unchanged_logical opening s (Doubt m ∷ h) e = unchanged_logical opening s h e

pub unchanged_place : (opening : ℕ → Block) (durable : ℕ → ℕ) (s : ℕ) (P : Commit → Type 0) (block : Block) (h : List Item) → Each (λ c. Changes s c → ⊥) h → OnDisk opening durable s P block h → block ≡ opening s
unchanged_place opening durable s P block h e (in_place i a) = i ∙ unchanged_logical opening s h e
unchanged_place opening durable s P block (Done c ∷ h) e (pending p o) = unchanged_place opening durable s P block h e.1 o
unchanged_place opening durable s P block (Doubt m ∷ h) e (passed o) = unchanged_place opening durable s P block h e o

pub kinds_tick : (w : World) → Kinds w → Kinds (after w Tick)
kinds_tick w g = record { zero = g.zero; claimed = g.claimed; moving = g.moving; empty = g.empty; cleared = g.cleared; landed = λ s f v e n. g.landed s f v e (omega arith) }

pub kinds_give : (w : World) (a : ℕ) (l : LockId) → Kinds w → Kinds (after w (Give a l))
kinds_give w a l g = record {
  zero = g.zero;
  claimed = g.claimed;
  moving = g.moving;
  landed = g.landed;
  cleared = g.cleared;
  empty = λ b s v. at_put (λ f. f s ≡ NoPage) w.page a (λ s. if same_lock (cover w s) l then NoPage else w.page a s) b
      (λ e. by_test (λ x. x ≡ NoPage) NoPage (w.page a s) (same_lock (cover w s) l) (λ i. refl) (λ i. g.empty a s v)) (λ n. g.empty b s v);
}

pub kinds_lower : (w : World) (a : ℕ) (l : LockId) → Kinds w → Kinds (after w (Lower a l))
kinds_lower w a l g = record {
  zero = g.zero;
  claimed = g.claimed;
  moving = g.moving;
  landed = g.landed;
  cleared = g.cleared;
  empty = λ b s v. at_put (λ f. f s ≡ NoPage) w.page a (λ s. if same_lock (cover w s) l then page_lowered (w.page a s) else w.page a s) b
      (λ e. by_test (λ x. x ≡ NoPage) (page_lowered (w.page a s)) (w.page a s) (same_lock (cover w s) l) (λ i. ap page_lowered (g.empty a s v)) (λ i. g.empty a s v)) (λ n. g.empty b s v);
}

pub kinds_crash : (w : World) (a : ℕ) → Kinds w → Kinds (after w (Crash a))
kinds_crash w a g = record {
  zero = g.zero;
  claimed = g.claimed;
  moving = g.moving;
  landed = g.landed;
  cleared = g.cleared;
  empty = λ b s v. at_put (λ f. f s ≡ NoPage) w.page a (λ s. NoPage) b (λ e. refl) (λ n. g.empty b s v);
}

pub kinds_reach : (w : World) (d k : ℕ) → CanReach w d k → Kinds w → Kinds (after w (Reach d k))
kinds_reach w d k can g = record {
  zero = g.zero;
  claimed = g.claimed;
  moving = g.moving;
  landed = g.landed;
  empty = g.empty;
  cleared = λ s v n. let c = g.cleared s v n in (
    c.0,
    c.1,
    each_map (λ a. Writes s a → a.op ≤ w.durable a.by) (λ a. Writes s a → a.op ≤ put w.durable d k a.by)
        (λ a m i. le_trans (m i) (at_put (λ x. w.durable a.by ≤ x) w.durable d k a.by (λ q. let x : w.durable d ≤ k = can.more in let y : w.durable a.by ≡ w.durable d = ap w.durable q in omega arith) (λ q. omega arith))) (settled w.history) c.2,
  );
}

claims_or : (b old : Bool) → (if b then true else old) ≡ true → (b ≡ true) ⊎ ((b ≡ false) × (old ≡ true))
claims_or true old e = inl refl
claims_or false old e = inr (refl, e)

moved_sole : (o : Option LockId) (mode : Option Mode) (holds : LockId → Option Mode) → MovesOwned o mode holds → IsSome o → mode ≡ Some Sole
moved_sole None mode holds m e = absurd (cc)
moved_sole (Some l) mode holds m e = m.0

page_none : (b : Bool) (o : Option Fill) (op : ℕ) (x : Page) → (b ≡ true) ⊎ ((o ≡ None) × (x ≡ NoPage)) → page_done b o op x ≡ NoPage
page_none true o op x d = refl
page_none false None op x d = ⊎_elim (λ i. cc) (λ i. i.1) d
page_none false (Some v) op x d = ⊎_elim (λ i. cc) (λ i. absurd (cc)) d

module _ (w : World) (a : Commit) (can : CanDo w a) (l : Logged w) (k : Bytes w) (g : Kinds w) where
  claim_sole : (s : ℕ) → a.claims s ≡ true → w.holds a.by (cover w s) ≡ Some Sole
  claim_sole s e = moved_sole (a.moves s) (w.holds a.by (cover w s)) (w.holds a.by) (can.moves s) (can.claims s e).moved

  claim_clean : (s : ℕ) → a.claims s ≡ true → IsLoose (w.phase a.by) (w.page a.by s) → ⊥
  claim_clean s e = clean_loose (w.phase a.by) (w.page a.by s) zero_block can.up (can.claims s e).cleared

  claim_alone : (b s : ℕ) → a.claims s ≡ true → w.holds b (cover w s) ≡ Some Sole → IsLoose (w.phase b) (w.page b s) → ⊥
  claim_alone b s e h z = claim_clean s e (subst (λ x. IsLoose (w.phase x) (w.page x s)) (l.apart b a.by (cover w s) h (sole_held (w.holds a.by (cover w s)) (claim_sole s e))) z)

  no_write : (s : ℕ) → is_logged w.logged (Done a ∷ settled w.history) s ≡ true → Writes s a → ⊥
  no_write s v i = let q : is_logged w.logged (Done a ∷ settled w.history) s ≡ false = can.plain s i in cc

  do_empty : (b s : ℕ) → is_logged w.logged (Done a ∷ settled w.history) s ≡ true → (after w (Do a)).page b s ≡ NoPage
  do_empty b s v =
      at_put (λ f. f s ≡ NoPage) w.page a.by (λ s. page_done (a.claims s) (a.writes s) a.op (w.page a.by s)) b
      (λ e. page_none (a.claims s) (a.writes s) a.op (w.page a.by s)
      (⊎_elim (λ i. inl i) (λ i. inr (none_writes (a.writes s) (no_write s v), g.empty a.by s i.1)) (claims_or (a.claims s) (has_version w s) v)))
      (λ n. ⊎_elim
      (λ i. other_page (λ x. x ≡ NoPage) (w.page b s) (w.holds b (cover w s)) (λ m. n (sym (l.apart a.by b (cover w s) (claim_sole s i) m))) (k.held b s) refl)
      (λ i. g.empty b s i.1) (claims_or (a.claims s) (has_version w s) v))

  free_none : (o : Option Fill) (old : Bool) → (IsSome o → ⊥) → old ≡ true → is_free_by o old ≡ true
  free_none None old n e = e
  free_none (Some v) old n e = absurd (n refl)

  pub kinds_do : Kinds (after w (Do a))
  kinds_do = record {
    zero = g.zero;
    claimed = λ s. (can.named s, g.claimed s);
    moving = λ s. ((λ e. (can.claims s e).moved), g.moving s);
    empty = do_empty;
    landed = λ s f v e n. ⊎_elim
        (λ i. let q : ByteFlightOk w s f = k.flights s f e n in claim_alone f.by s i q.sole q.loose)
        (λ i. g.landed s f i.1 e n) (claims_or (a.claims s) (has_version w s) v);
    cleared = λ s v n. ⊎_elim
        (λ i. let r = data_in_place w.first w.durable s (PendingBytes w s) (w.bytes s) (λ c h p. claim_alone c.by s i p.sole p.loose) (settled w.history) (k.place s) in (
          sym (subst (λ x. IsDiskPage x (w.bytes s)) (can.claims s i).cleared (k.clean a.by s)),
          free_none (a.writes s) (is_free w.first (settled w.history) s) (no_write s v) (can.claims s i).free,
          ((λ x. absurd (no_write s v x)), r.1),
        ))
        (λ i. let c = g.cleared s i.1 n in (c.0, free_none (a.writes s) (is_free w.first (settled w.history) s) (no_write s v) c.1, ((λ x. absurd (no_write s v x)), c.2)))
        (claims_or (a.claims s) (has_version w s) v);
  }

-- which sectors have versions stays known through a removal
pub claimed_kept : (first : ℕ → Bool) (s d k : ℕ) (h : List Item) → OpsRise h → Unseen d k h → Each (λ c. c.claims s ≡ true → Moves s c) h → Claimed first s h → Claimed first s (kept (survives d k) h)
claimed_kept first s d k [] o u m c = tt
claimed_kept first s d k (Doubt x ∷ h) o u m c = claimed_kept first s d k h o u m c
claimed_kept first s d k (Done a ∷ h) o u m c =
    by_keep (Claimed first s) (survives d k a) (Done a) (kept (survives d k) h)
    (λ i. (
      (λ j. let stay : Each (λ e. e.claims s ≡ true → survives d k e ≡ true) h =
          ⊎_elim
          (λ q. each_map (λ e. e.by ≡ a.by → e.op < a.op) (λ e. e.claims s ≡ true → survives d k e ≡ true)
          (λ e lt z. survives_low d k e (λ y. let x : e.op < a.op = lt (y ∙ sym q) in let n : a.op ≤ k = survives_up d k a q i in omega arith)) h o.0)
          (λ q. each_map2 (λ e. IsLost d k e → Alters s e → ⊥) (λ e. e.claims s ≡ true → Moves s e) (λ e. e.claims s ≡ true → survives d k e ≡ true)
          (λ e f mv z. survives_low d k e (λ y. ⊎_elim (λ x. x) (λ x. absurd (f (record { of = y; above = x }) (inr (inl (mv z))))) (le_or_lt e.op k))) h (u.0 q s (inl (touches_changed a s j))) m.1)
          (cases_eq a.by d) in
          ap (λ x. if a.claims s then true else x) (logged_kept first s (survives d k) h stay) ∙ c.0 j),
      claimed_kept first s d k h o.1 u.1 m.1 c.1,
    ))
    (λ i. claimed_kept first s d k h o.1 u.1 m.1 c.1)
  where
    touches_changed : (a : Commit) (s : ℕ) → Changes s a → IsTrue (touches a s)
    touches_changed a s j = rw j refl

pub kinds_finish : (w : World) (r : Rescue) → Logged w → Kinds w → Kinds (after w (Finish r))
kinds_finish w r l g =
    let less : (s : ℕ) → has_version (after w (Finish r)) s ≡ true → has_version w s ≡ true = λ s v. logged_less w.logged s (survives r.dead (w.durable r.dead)) (settled w.history) v in
    record {
      zero = g.zero;
      claimed = λ s. claimed_kept w.logged s r.dead (w.durable r.dead) (settled w.history) l.ops (l.unseen r.dead) (g.moving s) (g.claimed s);
      moving = λ s. each_kept (λ c. c.claims s ≡ true → Moves s c) (survives r.dead (w.durable r.dead)) (settled w.history) (g.moving s);
      empty = λ a s v. g.empty a s (less s v);
      landed = λ s f v e n. g.landed s f (less s v) e n;
      cleared = λ s v n. let c = g.cleared s (less s v) n in
          let stay : Each (λ a. Writes s a → survives r.dead (w.durable r.dead) a ≡ true) (settled w.history) =
          each_map (λ a. Writes s a → a.op ≤ w.durable a.by) (λ a. Writes s a → survives r.dead (w.durable r.dead) a ≡ true)
          (λ a m i. survives_low r.dead (w.durable r.dead) a (λ q. subst (λ x. a.op ≤ w.durable x) q (m i))) (settled w.history) c.2 in
          (c.0, free_kept w.first s (survives r.dead (w.durable r.dead)) (settled w.history) stay ∙ c.1, each_kept (λ a. Writes s a → a.op ≤ w.durable a.by) (survives r.dead (w.durable r.dead)) (settled w.history) c.2);
    }

-- a page of a sector without a version becomes another
page_put : (w : World) (a s : ℕ) (new : Page) → has_version w s ≡ false → Kinds w → (b t : ℕ) → has_version w t ≡ true → put2 w.page a s new b t ≡ NoPage
page_put w a s new plain g b t v = at_put2 (λ x. x ≡ NoPage) w.page a s new b t (λ e i. let q : has_version w s ≡ true = ap (has_version w) (sym i) ∙ v in absurd (cc)) (λ o. g.empty b t v)

pub kinds_fetch : (w : World) (a s : ℕ) → CanFetchBytes w a s → Kinds w → Kinds (after w (FetchBytes a s))
kinds_fetch w a s can g = record { zero = g.zero; claimed = g.claimed; moving = g.moving; landed = g.landed; cleared = g.cleared; empty = page_put w a s (CleanPage (w.bytes s)) can.plain g }

pub kinds_clear : (w : World) (a s : ℕ) → CanClear w a s → Kinds w → Kinds (after w (Clear a s))
kinds_clear w a s can g = record { zero = g.zero; claimed = g.claimed; moving = g.moving; landed = g.landed; cleared = g.cleared; empty = page_put w a s (DirtyPage zero_block (w.last a)) can.plain g }

dirty_plain : (w : World) (a s : ℕ) (block : Block) (mark : ℕ) → w.page a s ≡ DirtyPage block mark → Kinds w → has_version w s ≡ false
dirty_plain w a s block mark e g = false_from_ne_true (has_version w s) (λ v. let q : w.page a s ≡ NoPage = g.empty a s v in cc)

pub kinds_settle : (w : World) (a s : ℕ) (block : Block) (mark : ℕ) → CanSettle w a s block mark → Kinds w → Kinds (after w (Settle a s block mark))
kinds_settle w a s block mark can g = record { zero = g.zero; claimed = g.claimed; moving = g.moving; landed = g.landed; cleared = g.cleared; empty = page_put w a s (CleanPage block) (dirty_plain w a s block mark can.dirty g) g }

pub kinds_issue : (w : World) (a s : ℕ) (block : Block) (mark : ℕ) → CanIssueBytes w a s block mark → Kinds w → Kinds (after w (IssueBytes a s block mark))
kinds_issue w a s block mark can g = record {
  zero = g.zero;
  claimed = g.claimed;
  moving = g.moving;
  empty = g.empty;
  cleared = g.cleared;
  landed = λ t f v. at_put (λ x. x ≡ Some f → w.now ≤ f.stamp → ⊥) w.byte_flight s (Some (record { by = a; stamp = w.expiry a - 15; block = block })) t
      (λ e i n. let q : has_version w s ≡ false = dirty_plain w a s block mark can.dirty g in let z : has_version w s ≡ true = ap (has_version w) (sym e) ∙ v in cc) (λ n. g.landed t f v);
}

fewer : (w : World) (s : ℕ) → Kinds w → (t : ℕ) (f : ByteFlight) → has_version w t ≡ true → put w.byte_flight s None t ≡ Some f → w.now ≤ f.stamp → ⊥
fewer w s g t f v = at_put (λ x. x ≡ Some f → w.now ≤ f.stamp → ⊥) w.byte_flight s None t (λ e i n. cc) (λ n. g.landed t f v)

pub kinds_fade : (w : World) (s : ℕ) (f : ByteFlight) → Kinds w → Kinds (after w (FadeBytes s f))
kinds_fade w s f g = record { zero = g.zero; claimed = g.claimed; moving = g.moving; empty = g.empty; cleared = g.cleared; landed = fewer w s g }

pub kinds_break : (w : World) (s : ℕ) (f : ByteFlight) → Kinds w → Kinds (after w (BreakBytes s f))
kinds_break w s f g = kinds_fade w s f g

pub landed_plain : (w : World) (s : ℕ) (f : ByteFlight) → CanLandBytes w s f → Kinds w → has_version w s ≡ false
landed_plain w s f can g = false_from_ne_true (has_version w s) (λ v. g.landed s f v can.there can.in_time)

landed_cleared : (w : World) (s : ℕ) (f : ByteFlight) → CanLandBytes w s f → Kinds w → (t : ℕ) → has_version w t ≡ true → w.logged t ≡ false → (put w.bytes s f.block t ≡ zero_block) × (is_free w.first (settled w.history) t ≡ true) × AllWritten w.durable t (settled w.history)
landed_cleared w s f can g t v n =
    let c = g.cleared t v n in
    (at_put (λ x. x ≡ zero_block) w.bytes s f.block t (λ e. let q : has_version w s ≡ false = landed_plain w s f can g in let z : has_version w s ≡ true = ap (has_version w) (sym e) ∙ v in absurd (cc)) (λ i. c.0), c.1, c.2)

pub kinds_land : (w : World) (s : ℕ) (f : ByteFlight) → CanLandBytes w s f → Kinds w → Kinds (after w (LandBytes s f))
kinds_land w s f can g = record {
  zero = g.zero;
  claimed = g.claimed;
  moving = g.moving;
  empty = page_put w f.by s (page_landed (w.acked f.by) f.block (w.page f.by s)) (landed_plain w s f can g) g;
  landed = fewer w s g;
  cleared = landed_cleared w s f can g;
}

pub kinds_break_new : (w : World) (s : ℕ) (f : ByteFlight) → CanLandBytes w s f → Kinds w → Kinds (after w (BreakBytesNew s f))
kinds_break_new w s f can g = record { zero = g.zero; claimed = g.claimed; moving = g.moving; empty = g.empty; landed = fewer w s g; cleared = landed_cleared w s f can g }
