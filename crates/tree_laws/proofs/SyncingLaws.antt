-- An entry is synced exactly where a sync or an unmount of its server made it sure before the next mount.
use Rattle.std.proofs.Common.{ℕ, ◌≡◌, ◌==◌, Bool, true, false, not, ◌&&◌, ◌||◌, cond, inl, inr, ◌⊎◌, List, [], ◌∷◌, ◌++◌, refl, sym, ◌∙◌, ap, subst}
use Rattle.std.specs.List.{list_any}
use Rattle.std.proofs.Math.Bool.{or-false}
use Rattle.std.proofs.lemmas.Bool.{and_parts, or_parts, or_from}
use Rattle.frang_base.specs.declared.op.Op.{Op}
use Rattle.frang_base.specs.declared.reply.Reply.{Reply}
use Rattle.frang_base.specs.declared.reply.Reply.TheVariants as reply
use Rattle.tree_definitions.specs.declared.history.Entry.{Entry}
use Rattle.tree_definitions.specs.History.{Settled, Stays, InDoubt}
use Rattle.tree_definitions.specs.Touched.{is_mounted, is_ok, is_sync, is_unmount, is_stall, stalled_after, is_synced}
use Rattle.tree_definitions.specs.Removal.{mounts}
use Rattle.tree_laws.specs.Syncing.{stalls, MakesSure, MadeSure, SyncedWasMadeSure, WhatMakesSureSyncs, stalled_along, StalledSinceItsMount, CarriedIsAStall, AStallIsCarried}

-- what is answered `ok` isn't `mounted`
ok_is_not_mounted : (r : Reply) → is_ok r ≡ true → is_mounted r ≡ false
ok_is_not_mounted reply.Ok h = refl
ok_is_not_mounted _ h = cc

-- the entry at the head makes sure, or a later one does
head_or_later : (y u o n later : Bool) → (y && o) || (u && o && not n) || later ≡ true → (((y ≡ true) ⊎ ((u ≡ true) × (n ≡ false))) × (o ≡ true)) ⊎ (later ≡ true)
head_or_later true u true n later h = inl (inl refl, refl)
head_or_later false true true false later h = inl (inr (refl, refl), refl)
head_or_later false true true true later h = inr h
head_or_later false false o n later h = inr h
head_or_later true true false n later h = inr h
head_or_later true false false n later h = inr h
head_or_later false true false n later h = inr h

sync_counts : (y u o n later : Bool) → y ≡ true → o ≡ true → (y && o) || (u && o && not n) || later ≡ true
sync_counts true u true n later i j = refl
sync_counts true u false n later i j = cc
sync_counts false u o n later i j = cc

unmount_counts : (y u o n later : Bool) → u ≡ true → o ≡ true → n ≡ false → (y && o) || (u && o && not n) || later ≡ true
unmount_counts true true true false later i j k = refl
unmount_counts false true true false later i j k = refl
unmount_counts y false o n later i j k = cc
unmount_counts y true false n later i j k = cc
unmount_counts y true true true later i j k = cc

later_counts : (y u o n later : Bool) → later ≡ true → (y && o) || (u && o && not n) || later ≡ true
later_counts true u true n later h = refl
later_counts true true false n later h = h
later_counts true false false n later h = h
later_counts false true true true later h = h
later_counts false true true false later h = refl
later_counts false true false n later h = h
later_counts false false o n later h = h

module _ (server : ℕ) where
  -- the flag after a step that doesn't mount
  flag_on : (e : Entry) (stalled : Bool) → mounts server (Stays e) ≡ false → stalled_after server stalled (Stays e) ≡ stalled || stalls server (Stays e)
  flag_on e stalled h = go (e.server.0 == server) h
    where
      go : (c : Bool) → c && is_mounted e.reply ≡ false → cond (not c) stalled (cond (is_mounted e.reply) false (stalled || (is_stall e.op && is_ok e.reply))) ≡ stalled || (c && (is_stall e.op && is_ok e.reply))
      go true h = ap (λ m. cond m false (stalled || (is_stall e.op && is_ok e.reply))) h
      go false h = sym (or-false stalled)

  -- one step more in front that doesn't mount
  sure_on : (stalled now : Bool) (s : Settled) (rest : List Settled) → mounts server s ≡ false → now ≡ stalled || stalls server s → MadeSure server now rest → MadeSure server stalled (s ∷ rest)
  sure_on stalled now s rest m n w = record {
    before = s ∷ w.before;
    entry = w.entry;
    rest = w.rest;
    splits = ap (λ l. s ∷ l) w.splits;
    own = w.own;
    ok = w.ok;
    present = or_from (mounts server s) (list_any (mounts server) w.before) m w.present;
    sure = go w.sure;
  }
    where
      go : MakesSure server now w.before w.entry.op → MakesSure server stalled (s ∷ w.before) w.entry.op
      go (inl y) = inl y
      go (inr p) = let q = or_parts stalled (stalls server s) (sym n ∙ p.1) in inr (p.0, q.0, or_from (stalls server s) (list_any (stalls server) w.before) q.1 p.2)

  found : (list : List Settled) (stalled : Bool) → is_synced server stalled list ≡ true → MadeSure server stalled list
  found [] stalled h = absurd (cc)
  found (InDoubt runs ∷ rest) stalled h = sure_on stalled stalled (InDoubt runs) rest refl (sym (or-false stalled)) (found rest stalled h)
  found (Stays e ∷ rest) stalled h = go (e.server.0 == server) (is_mounted e.reply) refl refl h
      (λ m i. sure_on stalled (stalled_after server stalled (Stays e)) (Stays e) rest m (flag_on e stalled m) (found rest (stalled_after server stalled (Stays e)) i))
    where
      now : Bool
      now = stalled_after server stalled (Stays e)

      here : e.server.0 == server ≡ true → is_ok e.reply ≡ true → (is_sync e.op ≡ true) ⊎ ((is_unmount e.op ≡ true) × (stalled ≡ false)) → MadeSure server stalled (Stays e ∷ rest)
      here own ok (inl y) = record { before = []; entry = e; rest = rest; splits = refl; own = own; ok = ok; present = refl; sure = inl y }
      here own ok (inr u) = record { before = []; entry = e; rest = rest; splits = refl; own = own; ok = ok; present = refl; sure = inr (u.0, u.1, refl) }

      foreign : e.server.0 == server ≡ false → now ≡ stalled
      foreign f = ap (λ c. cond (not c) stalled (cond (is_mounted e.reply) false (stalled || (is_stall e.op && is_ok e.reply)))) f

      no_mount : (c m : Bool) → e.server.0 == server ≡ c → is_mounted e.reply ≡ m → c && m ≡ false → mounts server (Stays e) ≡ false
      no_mount c m i j h = ap (λ k. k && is_mounted e.reply) i ∙ ap (λ k. c && k) j ∙ h

      of_own : e.server.0 == server ≡ true → mounts server (Stays e) ≡ false → (((is_sync e.op ≡ true) ⊎ ((is_unmount e.op ≡ true) × (stalled ≡ false))) × (is_ok e.reply ≡ true)) ⊎ (is_synced server now rest ≡ true) → (mounts server (Stays e) ≡ false → is_synced server now rest ≡ true → MadeSure server stalled (Stays e ∷ rest)) → MadeSure server stalled (Stays e ∷ rest)
      of_own own m (inl p) later = here own p.1 p.0
      of_own own m (inr h) later = later m h

      go : (c m : Bool) → e.server.0 == server ≡ c → is_mounted e.reply ≡ m
          → cond (not c) (is_synced server stalled rest) (cond m false ((is_sync e.op && is_ok e.reply) || (is_unmount e.op && is_ok e.reply && not stalled) || is_synced server now rest)) ≡ true
          → (mounts server (Stays e) ≡ false → is_synced server now rest ≡ true → MadeSure server stalled (Stays e ∷ rest)) → MadeSure server stalled (Stays e ∷ rest)
      go false m i j h later = later (no_mount false m i j refl) (subst (λ f. is_synced server f rest ≡ true) (sym (foreign i)) h)
      go true true i j h later = absurd (cc)
      go true false i j h later = of_own i (no_mount true false i j refl) (head_or_later (is_sync e.op) (is_unmount e.op) (is_ok e.reply) stalled (is_synced server now rest) h) later

  -- what a later entry makes sure, behind a step that doesn't mount
  behind : (e : Entry) (rest : List Settled) (stalled : Bool) → mounts server (Stays e) ≡ false → is_synced server (stalled_after server stalled (Stays e)) rest ≡ true → is_synced server stalled (Stays e ∷ rest) ≡ true
  behind e rest stalled m h = go (e.server.0 == server) refl m
    where
      now : Bool
      now = stalled_after server stalled (Stays e)

      go : (c : Bool) → e.server.0 == server ≡ c → c && is_mounted e.reply ≡ false
          → cond (not c) (is_synced server stalled rest) (cond (is_mounted e.reply) false ((is_sync e.op && is_ok e.reply) || (is_unmount e.op && is_ok e.reply && not stalled) || is_synced server now rest)) ≡ true
      go false i m = subst (λ f. is_synced server f rest ≡ true) (ap (λ c. cond (not c) stalled (cond (is_mounted e.reply) false (stalled || (is_stall e.op && is_ok e.reply)))) i) h
      go true i m = ap (λ k. cond k false ((is_sync e.op && is_ok e.reply) || (is_unmount e.op && is_ok e.reply && not stalled) || is_synced server now rest)) m
          ∙ later_counts (is_sync e.op) (is_unmount e.op) (is_ok e.reply) stalled (is_synced server now rest) h

  -- an entry that makes sure
  at_head : (e : Entry) (rest : List Settled) (stalled : Bool) → e.server.0 == server ≡ true → is_ok e.reply ≡ true → MakesSure server stalled [] e.op → is_synced server stalled (Stays e ∷ rest) ≡ true
  at_head e rest stalled own ok sure =
      ap (λ c. cond (not c) (is_synced server stalled rest) (cond (is_mounted e.reply) false tests)) own
      ∙ ap (λ m. cond m false tests) (ok_is_not_mounted e.reply ok) ∙ go sure
    where
      now : Bool
      now = stalled_after server stalled (Stays e)

      tests : Bool
      tests = (is_sync e.op && is_ok e.reply) || (is_unmount e.op && is_ok e.reply && not stalled) || is_synced server now rest

      go : MakesSure server stalled [] e.op → tests ≡ true
      go (inl y) = sync_counts (is_sync e.op) (is_unmount e.op) (is_ok e.reply) stalled (is_synced server now rest) y ok
      go (inr u) = unmount_counts (is_sync e.op) (is_unmount e.op) (is_ok e.reply) stalled (is_synced server now rest) u.0 ok u.1

  -- one step fewer in front
  sure_off : (stalled : Bool) (s : Settled) (before : List Settled) (o : Op) → MakesSure server stalled (s ∷ before) o → MakesSure server (stalled || stalls server s) before o
  sure_off stalled s before o (inl y) = inl y
  sure_off stalled s before o (inr u) = let p = or_parts (stalls server s) (list_any (stalls server) before) u.2 in inr (u.0, or_from stalled (stalls server s) u.1 p.0, p.1)

  counts : (before : List Settled) (e : Entry) (rest : List Settled) (stalled : Bool) → e.server.0 == server ≡ true → is_ok e.reply ≡ true → list_any (mounts server) before ≡ false → MakesSure server stalled before e.op
      → is_synced server stalled (before ++ Stays e ∷ rest) ≡ true
  counts [] e rest stalled own ok present sure = at_head e rest stalled own ok sure
  counts (InDoubt runs ∷ before) e rest stalled own ok present sure =
      counts before e rest stalled own ok present (subst (λ f. MakesSure server f before e.op) (or-false stalled) (sure_off stalled (InDoubt runs) before e.op sure))
  counts (Stays d ∷ before) e rest stalled own ok present sure =
      let p = or_parts (mounts server (Stays d)) (list_any (mounts server) before) present in
      behind d (before ++ Stays e ∷ rest) stalled p.0
      (counts before e rest (stalled_after server stalled (Stays d)) own ok p.1 (subst (λ f. MakesSure server f before e.op) (sym (flag_on d stalled p.0)) (sure_off stalled (Stays d) before e.op sure)))

pub synced_was_made_sure : SyncedWasMadeSure
synced_was_made_sure server stalled list h = found server list stalled h

pub what_makes_sure_syncs : WhatMakesSureSyncs
what_makes_sure_syncs server stalled list w = subst (λ l. is_synced server stalled l ≡ true) (sym w.splits) (counts server w.before w.entry w.rest stalled w.own w.ok w.present w.sure)

-- ---- what is carried along
module _ (server : ℕ) where
  -- one step carries a stall: its own, or one from before where it doesn't mount
  step_carries : (s : Settled) (stalled : Bool) → stalled_after server stalled s ≡ true → (stalls server s ≡ true) ⊎ ((stalled ≡ true) × (mounts server s ≡ false))
  step_carries (InDoubt runs) stalled h = inr (h, refl)
  step_carries (Stays e) stalled h = go (e.server.0 == server) (is_mounted e.reply) (is_stall e.op && is_ok e.reply) stalled h
    where
      go : (c m y f : Bool) → cond (not c) f (cond m false (f || y)) ≡ true → (c && y ≡ true) ⊎ ((f ≡ true) × (c && m ≡ false))
      go false m y f h = inr (h, refl)
      go true true y f h = absurd (cc)
      go true false true f h = inl refl
      go true false false true h = inr (refl, refl)
      go true false false false h = absurd (cc)

  stall_carries : (s : Settled) (stalled : Bool) → stalls server s ≡ true → stalled_after server stalled s ≡ true
  stall_carries (InDoubt runs) stalled h = cc
  stall_carries (Stays e) stalled h = go (e.server.0 == server) (is_mounted e.reply) (is_stall e.op && is_ok e.reply) stalled (λ i. ok_is_not_mounted e.reply (and_parts (is_stall e.op) (is_ok e.reply) i).1) h
    where
      go : (c m y f : Bool) → (y ≡ true → m ≡ false) → c && y ≡ true → cond (not c) f (cond m false (f || y)) ≡ true
      go true true true f apart h = sym (apart h)
      go true false true true apart h = refl
      go true false true false apart h = refl
      go true m false f apart h = cc
      go false m y f apart h = cc

  stays_carried : (s : Settled) → mounts server s ≡ false → stalled_after server true s ≡ true
  stays_carried (InDoubt runs) h = refl
  stays_carried (Stays e) h = go (e.server.0 == server) (is_mounted e.reply) h
    where
      go : (c m : Bool) → c && m ≡ false → cond (not c) true (cond m false (true || (is_stall e.op && is_ok e.reply))) ≡ true
      go false m h = refl
      go true false h = refl
      go true true h = cc

  all_carried : (list : List Settled) → list_any (mounts server) list ≡ false → stalled_along server true list ≡ true
  all_carried [] h = refl
  all_carried (s ∷ list) h = let p = or_parts (mounts server s) (list_any (mounts server) list) h in ap (λ f. stalled_along server f list) (stays_carried s p.0) ∙ all_carried list p.1

  carried_has : (list : List Settled) (stalled : Bool) → stalled_along server stalled list ≡ true → StalledSinceItsMount server list ⊎ ((stalled ≡ true) × (list_any (mounts server) list ≡ false))
  carried_has [] stalled h = inr (h, refl)
  carried_has (s ∷ list) stalled h = go (carried_has list (stalled_after server stalled s) h)
    where
      by_step : list_any (mounts server) list ≡ false → (stalls server s ≡ true) ⊎ ((stalled ≡ true) × (mounts server s ≡ false)) → StalledSinceItsMount server (s ∷ list) ⊎ ((stalled ≡ true) × (list_any (mounts server) (s ∷ list) ≡ false))
      by_step none (inl y) = inl (record { before = []; stall = s; rest = list; splits = refl; stalled = y; present = none })
      by_step none (inr p) = inr (p.0, or_from (mounts server s) (list_any (mounts server) list) p.1 none)

      go : StalledSinceItsMount server list ⊎ ((stalled_after server stalled s ≡ true) × (list_any (mounts server) list ≡ false)) → StalledSinceItsMount server (s ∷ list) ⊎ ((stalled ≡ true) × (list_any (mounts server) (s ∷ list) ≡ false))
      go (inl w) = inl (record { before = s ∷ w.before; stall = w.stall; rest = w.rest; splits = ap (λ l. s ∷ l) w.splits; stalled = w.stalled; present = w.present })
      go (inr p) = by_step p.1 (step_carries s stalled p.0)

  stall_is_carried : (before : List Settled) (s : Settled) (rest : List Settled) (stalled : Bool) → stalls server s ≡ true → list_any (mounts server) rest ≡ false → stalled_along server stalled (before ++ s ∷ rest) ≡ true
  stall_is_carried [] s rest stalled y none = ap (λ f. stalled_along server f rest) (stall_carries s stalled y) ∙ all_carried rest none
  stall_is_carried (d ∷ before) s rest stalled y none = stall_is_carried before s rest (stalled_after server stalled d) y none

pub carried_is_a_stall : CarriedIsAStall
carried_is_a_stall server list h = go (carried_has server list false h)
  where
    go : StalledSinceItsMount server list ⊎ ((false ≡ true) × (list_any (mounts server) list ≡ false)) → StalledSinceItsMount server list
    go (inl w) = w
    go (inr p) = absurd (let e : false ≡ true = p.0 in cc)

pub a_stall_is_carried : AStallIsCarried
a_stall_is_carried server list w = subst (λ l. stalled_along server false l ≡ true) (sym w.splits) (stall_is_carried server w.before w.stall w.rest false w.stalled w.present)
