-- A sector that has a version by operations that are on the disk keeps it: no recovery removes them. And what a durable record names has one so.
use Rattle.std.proofs.Common.{◌≡◌, ◌≢◌, ℕ, ◌<◌, ◌≤◌, ◌⊎◌, inl, inr, ⊎_elim, Bool, true, false, if◌then◌else◌, nat_le, is_some, List, [], ◌∷◌, refl, sym, ap, ◌∙◌, subst, arith}
use Rattle.std.proofs.lemmas.Bool.{cases_eq, false≢true, le-leb, leb-true}
use Rattle.frang_base.specs.Functions.{keep_if, member, put}
use Rattle.frang_base.proofs.Basics.{at_put, le_or_lt}
use Rattle.sector_bytes.specs.Blocks.{Block, version_of, zero_block}
use Rattle.sector_bytes.specs.Bytes.{zeros}
use Rattle.sector_bytes.specs.Replays.{change_at, up_to}
use Rattle.sector_world.specs.Guards.{CanReach, to_replay}
use Rattle.sector_world.specs.Histories.{Commit, Item, Each, Changes, Moves, Named, OpsRise, is_left, is_logged, is_own, kept, logical, own, redo_of, settled, survives}
use Rattle.sector_world.specs.Histories.Item.{Done, Doubt}
use Rattle.sector_world.specs.Kinds.{Claimed, Good}
use Rattle.sector_world.specs.OnDisk.{AllDurable, OnDisk}
use Rattle.sector_world.specs.OnDisk.OnDisk.{in_place, pending, passed}
use Rattle.sector_world.specs.Seen.{Alters, IsLost, Meets, Unseen}
use Rattle.sector_world.specs.Steps.{Can, Run, after, goes, stays}
use Rattle.sector_world.specs.Steps as sectors
use Rattle.sector_world.specs.World.{World, has_version}
use Rattle.sector_world.proofs.HistoryLaws.{own_by, unchanged}
use Rattle.sector_world.proofs.Removals.{survives_low}
use Rattle.sector_world.proofs.Versioned.{logged_kept, logged_less, logged_skip}

-- ---- of histories

-- by the operations that are durable
abbrev pub has_surely : World → ℕ → Bool
has_surely w x = is_logged w.logged (kept (is_left w.durable) (settled w.history)) x

pub surely_has : (w : World) (x : ℕ) → has_surely w x ≡ true → has_version w x ≡ true
surely_has w x e = logged_less w.logged x (is_left w.durable) (settled w.history) e

first_logged : (first : ℕ → Bool) (x : ℕ) (h : List Item) → first x ≡ true → is_logged first h x ≡ true
first_logged first x [] e = e
first_logged first x (Done c ∷ h) e = logged_skip (c.claims x) (is_logged first h x) (first_logged first x h e)
first_logged first x (Doubt m ∷ h) e = first_logged first x h e

logged_keep : (first : ℕ → Bool) (x : ℕ) (b : Bool) (c : Commit) (h : List Item) → is_logged first h x ≡ true → is_logged first (keep_if b (Done c) h) x ≡ true
logged_keep first x true c h e = logged_skip (c.claims x) (is_logged first h x) e
logged_keep first x false c h e = e

claim_step : (b old new : Bool) → (if b then true else old) ≡ true → (old ≡ true → new ≡ true) → (if b then true else new) ≡ true
claim_step true old new e f = refl
claim_step false old new e f = f e

-- where more stays
logged_wider : (first : ℕ → Bool) (x : ℕ) (keep more : Commit → Bool) → ((c : Commit) → keep c ≡ true → more c ≡ true) → (h : List Item) → is_logged first (kept keep h) x ≡ true →
    is_logged first (kept more h) x ≡ true
logged_wider first x keep more wider [] e = e
logged_wider first x keep more wider (Doubt m ∷ h) e = logged_wider first x keep more wider h e
logged_wider first x keep more wider (Done c ∷ h) e = go (logged_wider first x keep more wider h) (keep c) refl e
  where
    go : (is_logged first (kept keep h) x ≡ true → is_logged first (kept more h) x ≡ true) → (b : Bool) → keep c ≡ b → is_logged first (keep_if b (Done c) (kept keep h)) x ≡ true →
        is_logged first (keep_if (more c) (Done c) (kept more h)) x ≡ true
    go rest false k e = logged_keep first x (more c) c (kept more h) (rest e)
    go rest true k e =
        subst (λ b. is_logged first (keep_if b (Done c) (kept more h)) x ≡ true) (sym (wider c k))
        (claim_step (c.claims x) (is_logged first (kept keep h) x) (is_logged first (kept more h) x) e rest)

-- where what stays stays through a removal before
logged_twice : (first : ℕ → Bool) (x : ℕ) (keep more : Commit → Bool) → ((c : Commit) → keep c ≡ true → more c ≡ true) → (h : List Item) → is_logged first (kept keep h) x ≡ true →
    is_logged first (kept keep (kept more h)) x ≡ true
logged_twice first x keep more wider [] e = e
logged_twice first x keep more wider (Doubt m ∷ h) e = logged_twice first x keep more wider h e
logged_twice first x keep more wider (Done c ∷ h) e = go (logged_twice first x keep more wider h) (keep c) (more c) refl refl e
  where
    go : (is_logged first (kept keep h) x ≡ true → is_logged first (kept keep (kept more h)) x ≡ true) → (b t : Bool) → keep c ≡ b → more c ≡ t →
        is_logged first (keep_if b (Done c) (kept keep h)) x ≡ true → is_logged first (kept keep (keep_if t (Done c) (kept more h))) x ≡ true
    go rest false false k m e = rest e
    go rest false true k m e = logged_keep first x (keep c) c (kept keep (kept more h)) (rest e)
    go rest true true k m e =
        subst (λ b. is_logged first (keep_if b (Done c) (kept keep (kept more h))) x ≡ true) (sym k)
        (claim_step (c.claims x) (is_logged first (kept keep h) x) (is_logged first (kept keep (kept more h)) x) e rest)
    go rest true false k m e = absurd (false≢true (sym m ∙ wider c k))

-- ---- events

module _ (w : World) (x : ℕ) (sure : has_surely w x ≡ true) where
  surely_reach : (d k : ℕ) → CanReach w d k → has_surely (after w (sectors.Reach d k)) x ≡ true
  surely_reach d k can = logged_wider w.logged x (is_left w.durable) (is_left (put w.durable d k)) wider (settled w.history) sure
    where
      far : (a b : ℕ) → a ≤ b → b ≤ k → a ≤ k
      far a b h i = omega (arith, h, i)

      wider : (c : Commit) → nat_le c.op (w.durable c.by) ≡ true → nat_le c.op (put w.durable d k c.by) ≡ true
      wider c e = at_put (λ n. nat_le c.op n ≡ true) w.durable d k c.by
          (λ f. le-leb c.op k (far c.op (w.durable c.by) (leb-true c.op (w.durable c.by) e) (subst (λ n. w.durable n ≤ k) (sym f) can.more))) (λ n. e)

  surely_done : (c : Commit) → has_surely (after w (sectors.Do c)) x ≡ true
  surely_done c = logged_keep w.logged x (is_left w.durable c) c (kept (is_left w.durable) (settled w.history)) sure

  surely_finished : (d : ℕ) → is_logged w.logged (kept (is_left w.durable) (kept (survives d (w.durable d)) (settled w.history))) x ≡ true
  surely_finished d = logged_twice w.logged x (is_left w.durable) (survives d (w.durable d)) wider (settled w.history) sure
    where
      wider : (c : Commit) → nat_le c.op (w.durable c.by) ≡ true → survives d (w.durable d) c ≡ true
      wider c e = survives_low d (w.durable d) c (λ f. subst (λ n. c.op ≤ w.durable n) f (leb-true c.op (w.durable c.by) e))

  pub surely_after : (e : sectors.Event) → Can w e → has_surely (after w e) x ≡ true
  surely_after sectors.Tick can = sure
  surely_after sectors.Leave can = sure
  surely_after (sectors.Fail a) can = sure
  surely_after (sectors.Renew a) can = sure
  surely_after (sectors.Mount a) can = sure
  surely_after (sectors.Unmount a) can = sure
  surely_after (sectors.Take a l mode) can = sure
  surely_after (sectors.Give a l) can = sure
  surely_after (sectors.Lower a l) can = sure
  surely_after (sectors.Do c) can = surely_done c
  surely_after (sectors.Reach d k) can = surely_reach d k can
  surely_after (sectors.Ack a k) can = sure
  surely_after (sectors.Sync a) can = sure
  surely_after (sectors.Reclaim a k) can = sure
  surely_after (sectors.Crash a) can = sure
  surely_after (sectors.Begin d b) can = sure
  surely_after (sectors.Look r s) can = sure
  surely_after (sectors.Finish r) can = surely_finished r.dead
  surely_after (sectors.Fetch a s) can = sure
  surely_after (sectors.Issue a s block mark) can = sure
  surely_after (sectors.Replay r s block) can = sure
  surely_after (sectors.Land s f) can = sure
  surely_after (sectors.Fade s f) can = sure
  surely_after (sectors.Break s f) can = sure
  surely_after (sectors.BreakNew s f) can = sure
  surely_after (sectors.FetchBytes a s) can = sure
  surely_after (sectors.Clear a s) can = sure
  surely_after (sectors.IssueBytes a s block mark) can = sure
  surely_after (sectors.LandBytes s f) can = sure
  surely_after (sectors.FadeBytes s f) can = sure
  surely_after (sectors.BreakBytes s f) can = sure
  surely_after (sectors.BreakBytesNew s f) can = sure
  surely_after (sectors.Settle a s block mark) can = sure

pub surely_run : (w : World) (es : List sectors.Event) (u : World) → Run w es u → (x : ℕ) → has_surely w x ≡ true → has_surely u x ≡ true
surely_run w es u stays x sure = sure
surely_run w (e ∷ es) u (goes can run) x sure = surely_run (after w e) es u run x (surely_after w x sure e can)

-- ---- a durable operation that changes the sector

-- there is one
abbrev pub HasDurable : (ℕ → ℕ) → ℕ → List Item → Type 0
HasDurable durable x [] = ⊥
HasDurable durable x (Done c ∷ h) = (Changes x c × (c.op ≤ durable c.by)) ⊎ HasDurable durable x h
HasDurable durable x (Doubt m ∷ h) = HasDurable durable x h

module _ (x : ℕ) (c : Commit) (changes : Changes x c) where
  meets : Meets x c
  meets = inl (go (is_some (change_at c.changes x)) changes)
    where
      go : (b : Bool) → b ≡ true → (if b then true else member x c.looked) ≡ true
      go true e = refl
      go false e = absurd (false≢true e)

-- what claimed it before such an operation is durable too: an earlier one of its server, or one that it met
claims_kept : (durable : ℕ → ℕ) (x : ℕ) (c : Commit) → c.op ≤ durable c.by → (h : List Item) → Each (λ e. e.claims x ≡ true → Moves x e) h → Each (λ e. e.by ≡ c.by → e.op < c.op) h →
    ((d : ℕ) → c.by ≢ d → Each (λ e. IsLost d (durable d) e → Alters x e → ⊥) h) → Each (λ e. e.claims x ≡ true → is_left durable e ≡ true) h
claims_kept durable x c low [] moving rise saw = tt
claims_kept durable x c low (Doubt m ∷ h) moving rise saw = claims_kept durable x c low h moving rise saw
claims_kept durable x c low (Done e ∷ h) moving rise saw = (here, claims_kept durable x c low h moving.1 rise.1 (λ d n. (saw d n).1))
  where
    below : (a b d : ℕ) → a < b → b ≤ d → a ≤ d
    below a b d l m = omega (arith, l, m)

    here : e.claims x ≡ true → nat_le e.op (durable e.by) ≡ true
    here claims = le-leb e.op (durable e.by) (⊎_elim own other (cases_eq e.by c.by))
      where
        own : e.by ≡ c.by → e.op ≤ durable e.by
        own f = subst (λ n. e.op ≤ durable n) (sym f) (below e.op c.op (durable c.by) (rise.0 f) low)

        other : (e.by ≡ c.by → ⊥) → e.op ≤ durable e.by
        other n = ⊎_elim (λ l. l) (λ lost. absurd ((saw e.by (λ f. n (sym f))).0 (record { of = refl; above = lost }) (inr (inl (moving.0 claims))))) (le_or_lt e.op (durable e.by))

-- so what such an operation changes has a version by durable ones
durable_claims : (first : ℕ → Bool) (durable : ℕ → ℕ) (x : ℕ) (h : List Item) → Claimed first x h → Each (λ e. e.claims x ≡ true → Moves x e) h → OpsRise h → ((d : ℕ) → Unseen d (durable d) h) →
    HasDurable durable x h → is_logged first (kept (is_left durable) h) x ≡ true
durable_claims first durable x [] claimed moving rise unseen has = absurd has
durable_claims first durable x (Doubt m ∷ h) claimed moving rise unseen has = durable_claims first durable x h claimed moving rise unseen has
durable_claims first durable x (Done c ∷ h) claimed moving rise unseen (inr has) =
    logged_keep first x (is_left durable c) c (kept (is_left durable) h) (durable_claims first durable x h claimed.1 moving.1 rise.1 (λ d. (unseen d).1) has)
durable_claims first durable x (Done c ∷ h) claimed moving rise unseen (inl has) =
    subst (λ b. is_logged first (keep_if b (Done c) (kept (is_left durable) h)) x ≡ true) (sym (le-leb c.op (durable c.by) has.1))
    (claim_step (c.claims x) (is_logged first h x) (is_logged first (kept (is_left durable) h) x) (claimed.0 has.0)
    (λ e. logged_kept first x (is_left durable) h (claims_kept durable x c has.1 h moving.1 rise.0 (λ d n. (unseen d).0 n x (meets x c has.0))) ∙ e))

-- ---- where there is one

named_durable : (durable : ℕ → ℕ) (d f x v : ℕ) (h : List Item) → Named (up_to (durable d) (own d f h)) x v → HasDurable durable x h
named_durable durable d f x v [] n = n
named_durable durable d f x v (Doubt m ∷ h) n = named_durable durable d f x v h n
named_durable durable d f x v (Done c ∷ h) n = mine (named_durable durable d f x v h) (is_own d f c) refl n
  where
    below : (Named (up_to (durable d) (own d f h)) x v → HasDurable durable x h) → c.by ≡ d → (b : Bool) → nat_le c.op (durable d) ≡ b → Named (keep_if b (redo_of c) (up_to (durable d) (own d f h))) x v → HasDurable durable x (Done c ∷ h)
    below rest by false e n = inr (rest n)
    below rest by true e (inr n) = inr (rest n)
    below rest by true e (inl named) = inl (ap is_some named.1, subst (λ n. c.op ≤ durable n) (sym by) (leb-true c.op (durable d) e))

    mine : (Named (up_to (durable d) (own d f h)) x v → HasDurable durable x h) → (b : Bool) → is_own d f c ≡ b → Named (up_to (durable d) (keep_if b (redo_of c) (own d f h))) x v → HasDurable durable x (Done c ∷ h)
    mine rest false e n = inr (rest n)
    mine rest true e n = below rest (own_by d f c e) (nat_le c.op (durable d)) refl n

durable_or : (opening : ℕ → Block) (durable : ℕ → ℕ) (x : ℕ) (h : List Item) → AllDurable durable x h → HasDurable durable x h ⊎ (logical opening h x ≡ opening x)
durable_or opening durable x [] all = inr refl
durable_or opening durable x (Doubt m ∷ h) all = durable_or opening durable x h all
durable_or opening durable x (Done c ∷ h) all = go (is_some (change_at c.changes x)) refl (durable_or opening durable x h all.1)
  where
    go : (b : Bool) → is_some (change_at c.changes x) ≡ b → HasDurable durable x h ⊎ (logical opening h x ≡ opening x) →
        HasDurable durable x (Done c ∷ h) ⊎ (logical opening (Done c ∷ h) x ≡ opening x)
    go true e rest = inl (inl (e, all.0 e))
    go false e (inl has) = inl (inr has)
    go false e (inr same) = inr (unchanged (change_at c.changes x) (logical opening h x) (λ i. false≢true (sym e ∙ i)) ∙ same)

on_disk_or : (opening : ℕ → Block) (durable : ℕ → ℕ) (x : ℕ) (P : Commit → Type 0) (block : Block) (h : List Item) → OnDisk opening durable x P block h → HasDurable durable x h ⊎ (block ≡ opening x)
on_disk_or opening durable x P block h (in_place e all) = ⊎_elim (λ has. inl has) (λ same. inr (e ∙ same)) (durable_or opening durable x h all)
on_disk_or opening durable x P block (Done c ∷ h) (pending p rest) = ⊎_elim (λ has. inl (inr has)) (λ same. inr same) (on_disk_or opening durable x P block h rest)
on_disk_or opening durable x P block (Doubt m ∷ h) (passed rest) = on_disk_or opening durable x P block h rest

-- ---- of a world

zero_version : version_of zero_block ≡ 0
unfolding zeros
zero_version = refl

module _ (w : World) (g : Good w) (x : ℕ) where
  by_durable : HasDurable w.durable x (settled w.history) → has_surely w x ≡ true
  by_durable has = durable_claims w.logged w.durable x (settled w.history) (g.kinds.claimed x) (g.kinds.moving x) g.logged.ops g.logged.unseen has

  -- what a durable record names
  pub named_surely : (d v : ℕ) → Named (to_replay w d) x v → has_surely w x ≡ true
  named_surely d v n = by_durable (named_durable w.durable d (w.floor d) x v (settled w.history) (subst (λ l. Named (up_to (w.durable d) l) x v) (g.logged.logs d) n))

  -- what has come to the disk with a version
  pub placed_surely : 1 ≤ version_of (w.disk x) → has_surely w x ≡ true
  placed_surely some = ⊎_elim by_durable first (on_disk_or w.opening w.durable x _ (w.disk x) (settled w.history) (g.logged.place x))
    where
      none : (n : ℕ) → 1 ≤ n → n ≡ 0 → ⊥
      none n l e = absurd (omega (arith, l, e))

      first : w.disk x ≡ w.opening x → has_surely w x ≡ true
      first e = go (w.logged x) refl
        where
          go : (b : Bool) → w.logged x ≡ b → has_surely w x ≡ true
          go true f = first_logged w.logged x (kept (is_left w.durable) (settled w.history)) f
          go false f = absurd (none (version_of (w.disk x)) some (ap version_of (e ∙ g.kinds.zero x f) ∙ zero_version))

  pub logged_surely : w.logged x ≡ true → has_surely w x ≡ true
  logged_surely f = first_logged w.logged x (kept (is_left w.durable) (settled w.history)) f
