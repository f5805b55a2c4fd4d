-- The sectors with versions after a replay of all logs are those without what is not durable.
use Rattle.std.proofs.Common.{true, zero, suc, List, ⊎_elim, le_refl, ℕ, ◌<◌, ◌≤◌, ◌≡◌, ◌≢◌, ◌⊎◌, inl, inr, None, nat_le, refl, sym, ◌∙◌, ap, subst, arith}
use Rattle.std.proofs.lemmas.Bool.{le-leb}
use Rattle.sector_bytes.specs.Blocks.{Block, version_of}
use Rattle.frang_base.specs.declared.change.Redo.{Redo}
use Rattle.sector_bytes.specs.Replays.{change_at, redo_all, up_to}
use Rattle.sector_world.specs.Histories.{Commit, kept, settled, is_left, logical, Each, Changes}
use Rattle.sector_world.specs.OnDisk.{AllDurable}
use Rattle.frang_base.proofs.Basics.{le_or_lt}
use Rattle.sector_world.proofs.HistoryLaws.{AtMost, each_map, rising_bound, all_skipped, kept_logical, replayed_is, pending_or_not, in_place_or, at_most_more}
use Rattle.sector_world.proofs.Removals.{redo_named}
use Rattle.sector_world.specs.World.{World, cover}
use Rattle.sector_world.specs.Guards.{to_replay}
use Rattle.sector_world.specs.Logged.{now_of, Logged, Pending, NoneIfOff}

-- the sectors with versions after a replay of the durable records of the logs below n, in their order
abbrev pub replay_disk : World → ℕ → ℕ → Block
replay_disk w zero s = w.disk s
replay_disk w (suc n) s = redo_all (to_replay w n) s (replay_disk w n s)

redo_version : (rs : List Redo) (s : ℕ) (block : Block) → (version_of block) ≤ (version_of (redo_all rs s block))
redo_version rs s block = ⊎_elim (λ e. subst (λ x. (version_of block) ≤ (version_of x)) (sym e) (le_refl (version_of block))) (λ m. let q : (version_of block) < (version_of (redo_all rs s block)) = m.0 in omega arith) (redo_named rs s block)

module _ (w : World) (g : Logged w) where
  abbrev pub target : ℕ → Block
  target s = logical w.opening (kept (is_left w.durable) (settled w.history)) s

  -- the records of a server that doesn't hold the sector alone leave it, at any block that is not older than the disk's
  skips : (n s : ℕ) (block : Block) → (version_of (w.disk s)) ≤ (version_of block) → ((c : Commit) → Pending w s c → c.by ≢ n)
      → redo_all (up_to (w.durable n) (w.log n)) s block ≡ block
  skips n s block le f =
      ap (λ l. redo_all (up_to (w.durable n) l) s block) (g.logs n)
      ∙ all_skipped n (w.floor n) (w.durable n) s block (settled w.history)
      (each_map (λ c. Pending w s c ⊎ AtMost (change_at c.changes s) (version_of (w.disk s))) (λ c. c.by ≡ n → AtMost (change_at c.changes s) (version_of block))
      (λ c m e. ⊎_elim (λ p. absurd (f c p e)) (λ a. at_most_more (change_at c.changes s) (version_of (w.disk s)) (version_of block) le a) m)
      (settled w.history) (in_place_or w.opening w.durable s (Pending w s) (w.disk s) (settled w.history) (g.place s) (g.rising s)))

  none_pending : (s : ℕ) → Each (λ c. AtMost (change_at c.changes s) (version_of (w.disk s))) (settled w.history) → (n : ℕ) → replay_disk w n s ≡ w.disk s
  none_pending s f zero = refl
  none_pending s f (suc n) =
      ap (λ x. redo_all (up_to (w.durable n) (w.log n)) s x) (none_pending s f n)
      ∙ ap (λ l. redo_all (up_to (w.durable n) l) s (w.disk s)) (g.logs n)
      ∙ all_skipped n (w.floor n) (w.durable n) s (w.disk s) (settled w.history)
      (each_map (λ c. AtMost (change_at c.changes s) (version_of (w.disk s))) (λ c. c.by ≡ n → AtMost (change_at c.changes s) (version_of (w.disk s))) (λ c m e. m) (settled w.history) f)

  all_there : (s : ℕ) → w.disk s ≡ now_of w s → AllDurable w.durable s (settled w.history) → replay_disk w w.servers s ≡ target s
  all_there s e a =
      none_pending s (subst (λ x. Each (λ c. AtMost (change_at c.changes s) (version_of x)) (settled w.history)) (sym e) (rising_bound w.opening s (settled w.history) (g.rising s))) w.servers
      ∙ e ∙ sym (kept_logical w.opening s (is_left w.durable) (settled w.history)
      (each_map (λ c. Changes s c → c.op ≤ w.durable c.by) (λ c. Changes s c → is_left w.durable c ≡ true) (λ c m i. le-leb c.op (w.durable c.by) (m i)) (settled w.history) a))

  here : (s d : ℕ) → ((c : Commit) → Pending w s c → c.by ≡ d) → redo_all (up_to (w.durable d) (w.log d)) s (w.disk s) ≡ target s
  here s d f =
      ap (λ l. redo_all (up_to (w.durable d) l) s (w.disk s)) (g.logs d)
      ∙ replayed_is w.opening w.durable s d (w.floor d) (Pending w s) (w.disk s) (is_left w.durable)
      (λ c p. (f c p, subst (λ x. w.floor x < c.op) (f c p) p.above))
      (λ c l. le-leb c.op (w.durable c.by) l)
      (λ c q. ap (λ x. nat_le c.op (w.durable x)) q)
      (settled w.history) (g.place s) (g.rising s)

  before_or_after : (s d : ℕ) → ((c : Commit) → Pending w s c → c.by ≡ d) → (n : ℕ)
      → ((n ≤ d) × (replay_disk w n s ≡ w.disk s)) ⊎ ((d < n) × (replay_disk w n s ≡ target s))
  before_or_after s d f zero = inl (omega arith, refl)
  before_or_after s d f (suc n) =
      ⊎_elim
      (λ m. ⊎_elim
      (λ l. inl (l, ap (λ x. redo_all (up_to (w.durable n) (w.log n)) s x) m.1 ∙ skips n s (w.disk s) (le_refl (version_of (w.disk s))) (λ c p e. let q : n ≡ d = sym e ∙ f c p in absurd (omega arith))))
      (λ l. let q : n ≡ d = (let i : n ≤ d = m.0 in omega arith) in
      inr (l, ap (λ x. redo_all (up_to (w.durable n) (w.log n)) s x) m.1 ∙ subst (λ x. redo_all (up_to (w.durable x) (w.log x)) s (w.disk s) ≡ target s) (sym q) (here s d f)))
      (le_or_lt (suc n) d))
      (λ m. let i : d < n = m.0 in
      inr (
        omega arith,
        ap (λ x. redo_all (up_to (w.durable n) (w.log n)) s x) m.1
            ∙ skips n s (target s) (subst (λ x. (version_of (w.disk s)) ≤ (version_of x)) (here s d f) (redo_version (up_to (w.durable d) (w.log d)) s (w.disk s)))
            (λ c p e. let q : n ≡ d = sym e ∙ f c p in absurd (omega arith)),
      ))
      (before_or_after s d f n)

  pub recoverable : (s : ℕ) → replay_disk w w.servers s ≡ target s
  recoverable s =
      ⊎_elim
      (λ m. let f : (c : Commit) → Pending w s c → c.by ≡ m.0.by = λ c p. g.apart c.by m.0.by (cover w s) p.sole (λ e. let q = m.1.sole in cc) in
      let k : m.0.by < w.servers = g.known m.0.by (λ e. let q : w.holds m.0.by (cover w s) ≡ None = subst (λ x. NoneIfOff x (w.holds m.0.by (cover w s))) e (g.off_free m.0.by (cover w s)) in let r = m.1.sole in cc) in
      ⊎_elim (λ i. let j : w.servers ≤ m.0.by = i.0 in absurd (omega arith)) (λ i. i.1) (before_or_after s m.0.by f w.servers))
      (λ m. all_there s m.0 m.1)
      (pending_or_not w.opening w.durable s (Pending w s) (w.disk s) (settled w.history) (g.place s))
