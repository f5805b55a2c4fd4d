-- What a good log reads as beside its journal: records that are in place, and behind them those that are to be replayed, but for the empty ones.
use Rattle.std.proofs.Common.{◌≡◌, ◌↔◌, ℕ, ◌+◌, max, ◌<◌, ◌≤◌, ◌⊎◌, inl, inr, ⊎_elim, Bool, true, false, not, cond, nat_eq, nat_le, nat_lt, List, [], ◌∷◌, ◌++◌, take, drop, map, reverse, refl, sym, ap, ◌∙◌, subst, arith, append-nil}
use Rattle.std.specs.List.{Contains, filter}
use Rattle.std.proofs.lemmas.Bool.{cases_lt, eqb-true, le-leb, lt-leb, leb-true}
use Rattle.std.proofs.lemmas.List.Elements.{filter-append}
use mathlib.Core.List.{reverse-cons}
use Rattle.frang_base.specs.Functions.{keep_if}
use Rattle.frang_base.specs.declared.change.Change.{Change}
use Rattle.frang_base.specs.declared.change.Redo.{Redo}
use Rattle.sector_bytes.specs.Replays.{up_to as records_to}
use Rattle.disk_definitions.proofs.Listed.{Among, among_either, among_filtered, among_map}
use Rattle.disk_definitions.specs.Logs.{log_end, log_records}
use Rattle.ring_definitions.specs.RingRuns.{Placed, ReadsBack}
use Rattle.ring_definitions.specs.RingSteps.{IsGoodLog}
use Rattle.ring_definitions.specs.Rings.{Ring}
use Rattle.ring_definitions.proofs.GoodLogs.{good_reads, good_run}
use Rattle.ring_definitions.proofs.LaidReads.{redo_of, up_to, begun_by}
use Rattle.core_laws.proofs.Membership.{in_contains}
use Rattle.sector_world.specs.Guards.{to_replay}
use Rattle.sector_world.specs.Histories.{Item, Each, settled, own, redo_of as redo_of_commit}
use Rattle.sector_world.specs.Histories.Item.{Done, Doubt}
use Rattle.sector_world.specs.Kinds.{Good}
use Rattle.sector_world.specs.World.{World}
use Rattle.core_world.specs.Journals.{AreRecords, IsCounted, Journal, is_above, records_up_to, sector_log}
use Rattle.core_world.specs.Readings.{AllInPlace, IsReading, changing, keep_changing}
use Rattle.core_readings.proofs.Replaying.{in_place_drop, in_place_joined}
use Rattle.core_readings.proofs.Ascending.{Ascends, laid_ascends, begun_behind, read_parts}

-- ---- records in place

in_place_both : (xs ys : List Redo) (s n : ℕ) → AllInPlace (xs ++ ys) s n → AllInPlace xs s n × AllInPlace ys s n
in_place_both [] ys s n all = (tt, all)
in_place_both (x ∷ xs) ys s n all = let rest = in_place_both xs ys s n all.1 in ((all.0, rest.0), rest.1)

in_place_ended : (e : ℕ) (ps : List Placed) (s n : ℕ) → AllInPlace (map redo_of ps) s n → AllInPlace (map redo_of (up_to e ps)) s n
in_place_ended e [] s n a = tt
in_place_ended e (p ∷ ps) s n a = go (nat_le p.last e) (in_place_ended e ps s n a.1)
  where
    go : (b : Bool) → AllInPlace (map redo_of (up_to e ps)) s n → AllInPlace (map redo_of (cond b (p ∷ up_to e ps) (up_to e ps))) s n
    go true rest = (a.0, rest)
    go false rest = rest

-- ---- tests that agree on a list

filter_alike : {X : Type 0} (f g : X → Bool) (xs : List X) → ((x : X) → Among x xs → f x ≡ g x) → filter f xs ≡ filter g xs
filter_alike f g [] same = refl
filter_alike f g (x ∷ xs) same =
    ap (λ b. cond b (x ∷ filter f xs) (filter f xs)) (same x (inl refl)) ∙ ap (λ ys. cond (g x) (x ∷ ys) ys) (filter_alike f g xs (λ y i. same y (inr i)))

-- ---- records up to a number

-- a record with changes is kept as it is by both
up_to_changing : (k : ℕ) (rs : List Redo) → filter (λ r. nat_le r.op.0 k) (changing rs) ≡ changing (records_to k rs)
up_to_changing k [] = refl
up_to_changing k (r ∷ rs) = go r.changes refl (nat_le r.op.0 k) refl (up_to_changing k rs)
  where
    Goal : List Change → Bool → Type 0
    Goal changes b = filter (λ r. nat_le r.op.0 k) (keep_changing changes r (changing rs)) ≡ changing (keep_if b r (records_to k rs))

    go : (changes : List Change) → r.changes ≡ changes → (b : Bool) → nat_le r.op.0 k ≡ b → filter (λ r. nat_le r.op.0 k) (changing rs) ≡ changing (records_to k rs) → Goal changes b
    go [] e true t rest = rest ∙ ap (λ l. keep_changing l r (changing (records_to k rs))) (sym e)
    go [] e false t rest = rest
    go (x ∷ xs) e true t rest =
        ap (λ b. cond b (r ∷ filter (λ q. nat_le q.op.0 k) (changing rs)) (filter (λ q. nat_le q.op.0 k) (changing rs))) t ∙ ap (λ qs. r ∷ qs) rest ∙ ap (λ l. keep_changing l r (changing (records_to k rs))) (sym e)
    go (x ∷ xs) e false t rest =
        ap (λ b. cond b (r ∷ filter (λ q. nat_le q.op.0 k) (changing rs)) (filter (λ q. nat_le q.op.0 k) (changing rs))) t ∙ rest

filter_reverse : {X : Type 0} (f : X → Bool) (xs : List X) → filter f (reverse xs) ≡ reverse (filter f xs)
filter_reverse f [] = refl
filter_reverse f (x ∷ xs) =
    ap (filter f) (reverse-cons x xs) ∙ filter-append f (reverse xs) (x ∷ []) ∙ ap (λ ys. ys ++ cond (f x) (x ∷ []) []) (filter_reverse f xs) ∙ go (f x)
  where
    go : (b : Bool) → reverse (filter f xs) ++ cond b (x ∷ []) [] ≡ reverse (cond b (x ∷ filter f xs) (filter f xs))
    go true = sym (reverse-cons x (filter f xs))
    go false = append-nil (reverse (filter f xs))

filter_map : {X Y : Type 0} (h : X → Y) (f : Y → Bool) (xs : List X) → map h (filter (λ x. f (h x)) xs) ≡ filter f (map h xs)
filter_map h f [] = refl
filter_map h f (x ∷ xs) = go (f (h x)) (filter_map h f xs)
  where
    go : (b : Bool) → map h (filter (λ x. f (h x)) xs) ≡ filter f (map h xs) → map h (cond b (x ∷ filter (λ x. f (h x)) xs) (filter (λ x. f (h x)) xs)) ≡ cond b (h x ∷ filter f (map h xs)) (filter f (map h xs))
    go true e = ap (λ ys. h x ∷ ys) e
    go false e = e

-- ---- records are of operations

changing_within : (rs : List Redo) (r : Redo) → Among r (changing rs) → Among r rs
changing_within [] r i = i
changing_within (x ∷ xs) r i = go x.changes i (changing_within xs r)
  where
    go : (changes : List Change) → Among r (keep_changing changes x (changing xs)) → (Among r (changing xs) → Among r xs) → Among r (x ∷ xs)
    go [] i rest = inr (rest i)
    go (c ∷ cs) (inl e) rest = inl e
    go (c ∷ cs) (inr i) rest = inr (rest i)

reverse_within : (xs : List Redo) (x : Redo) → Among x (reverse xs) → Among x xs
reverse_within [] x i = i
reverse_within (y ∷ ys) x i = go (reverse_within ys x) (among_either x (reverse ys) (y ∷ []) (subst (Among x) (reverse-cons y ys) i))
  where
    go : (Among x (reverse ys) → Among x ys) → Among x (reverse ys) ⊎ Among x (y ∷ []) → Among x (y ∷ ys)
    go rest (inl h) = inr (rest h)
    go rest (inr (inl e)) = inl e
    go rest (inr (inr h)) = absurd h

-- what holds of each own operation holds of the number of each own record
own_each : (a floor : ℕ) (P : ℕ → Type 0) (h : List Item) → Each (λ c. c.by ≡ a → P c.op) h → (r : Redo) → Among r (own a floor h) → P r.op.0
own_each a floor P [] all r i = absurd i
own_each a floor P (Doubt m ∷ h) all r i = own_each a floor P h all r i
own_each a floor P (Done c ∷ h) all r i = go (nat_eq c.by a) refl i (own_each a floor P h all.1 r)
  where
    below : (b : Bool) → c.by ≡ a → Among r (keep_if b (redo_of_commit c) (own a floor h)) → (Among r (own a floor h) → P r.op.0) → P r.op.0
    below true e (inl same) rest = subst (λ (q : Redo). P q.op.0) (sym same) (all.0 e)
    below true e (inr i) rest = rest i
    below false e i rest = rest i

    go : (b : Bool) → nat_eq c.by a ≡ b → Among r (keep_if (cond b (nat_lt floor c.op) false) (redo_of_commit c) (own a floor h)) → (Among r (own a floor h) → P r.op.0) → P r.op.0
    go true t i rest = below (nat_lt floor c.op) (eqb-true c.by a t) i rest
    go false t i rest = rest i

-- ---- the reading

module _ (w : World) (d : ℕ) (ring : Ring) (j : Journal) (g : Good w) (good : IsGoodLog j.before j.log) (counted : IsCounted (sector_log w d) d ring (log_end j.log.slots) j.ends) (records : AreRecords j (sector_log w d)) where
  abbrev ps : List Placed
  ps = j.log.placed

  abbrev given : ℕ
  given = j.log.ring.given_up

  abbrev end : ℕ
  end = log_end j.log.slots

  abbrev first : List Redo
  first = log_records j.before

  rises : (t : ℕ) × Ascends t ps
  rises =
      let run = good_run j.before good.events good.low good.high good.sealed good.happened in
      (max (log_end j.before + 1) (log_end j.before), subst (Ascends (max (log_end j.before + 1) (log_end j.before))) (sym good.left.placed) (laid_ascends (log_end j.before) (log_end j.before) [] run.rest _ run.laid))

  -- those that are given up, and the others
  test_is : (p : Placed) → Among p ps → nat_le p.first given ≡ nat_le p.redo.op.0 (w.floor d)
  test_is p i = ⊎_elim later earlier (cases_lt given p.first)
    where
      later : given < p.first → nat_le p.first given ≡ nat_le p.redo.op.0 (w.floor d)
      later h = lt-leb p.first given h ∙ sym (go (nat_le p.redo.op.0 (w.floor d)) refl)
        where
          go : (b : Bool) → nat_le p.redo.op.0 (w.floor d) ≡ b → b ≡ false
          go false e = refl
          go true e = absurd (both p.first given h ((records.given_up p (in_contains ps p i)).0 (leb-true p.redo.op.0 (w.floor d) e)))
            where
              both : (a b : ℕ) → b < a → a ≤ b → ⊥
              both a b h l = omega arith

      earlier : p.first ≤ given → nat_le p.first given ≡ nat_le p.redo.op.0 (w.floor d)
      earlier h = le-leb p.first given h ∙ sym (le-leb p.redo.op.0 (w.floor d) ((records.given_up p (in_contains ps p i)).1 h))

  given_are : begun_by given ps ≡ filter (λ p. nat_le p.redo.op.0 (w.floor d)) ps
  given_are = filter_alike (λ p. nat_le p.first given) (λ p. nat_le p.redo.op.0 (w.floor d)) ps test_is

  others_are : begun_behind given ps ≡ filter (is_above (w.floor d)) ps
  others_are = filter_alike (λ p. not (nat_le p.first given)) (is_above (w.floor d)) ps (λ p i. ap not (test_is p i))

  -- a record that isn't given up is whole in the log exactly where its operation is durable
  whole_is : (p : Placed) → Among p (filter (is_above (w.floor d)) ps) → nat_le p.last end ≡ nat_le p.redo.op.0 (w.durable d)
  whole_is p i = go (cases_lt end p.last)
    where
      within : Contains ps p
      within = in_contains ps p (among_filtered (is_above (w.floor d)) ps p i).0

      recorded : Among p.redo (w.log d)
      recorded = changing_within (w.log d) p.redo
          (reverse_within (changing (w.log d)) p.redo (subst (Among p.redo) records.placed (among_map (λ (q : Placed). q.redo) (filter (is_above (w.floor d)) ps) p p.redo i refl)))

      told : (p.redo.op.0 ≤ w.durable d) ↔ (j.ends p.redo.op.0 ≤ end)
      told = own_each d (w.floor d) (λ n. (n ≤ w.durable d) ↔ (j.ends n ≤ end)) (settled w.history) counted.durable p.redo (subst (Among p.redo) (g.logged.logs d) recorded)

      go : (end < p.last) ⊎ (p.last ≤ end) → nat_le p.last end ≡ nat_le p.redo.op.0 (w.durable d)
      go (inr h) = le-leb p.last end h ∙ sym (le-leb p.redo.op.0 (w.durable d) (told.1 (subst (λ n. n ≤ end) (sym (records.ends_at_last p within)) h)))
      go (inl h) = lt-leb p.last end h ∙ sym (at (nat_le p.redo.op.0 (w.durable d)) refl)
        where
          at : (b : Bool) → nat_le p.redo.op.0 (w.durable d) ≡ b → b ≡ false
          at false e = refl
          at true e = absurd (both p.last end h (subst (λ n. n ≤ end) (records.ends_at_last p within) (told.0 (leb-true p.redo.op.0 (w.durable d) e))))
            where
              both : (a b : ℕ) → b < a → a ≤ b → ⊥
              both a b h l = omega arith

  behind_is : map redo_of (up_to end (begun_behind given ps)) ≡ reverse (changing (to_replay w d))
  behind_is =
      ap (λ qs. map redo_of (up_to end qs)) others_are
      ∙ ap (map redo_of) (filter_alike (λ p. nat_le p.last end) (λ p. nat_le p.redo.op.0 (w.durable d)) (filter (is_above (w.floor d)) ps) whole_is)
      ∙ filter_map redo_of (λ r. nat_le r.op.0 (w.durable d)) (filter (is_above (w.floor d)) ps)
      ∙ ap (filter (λ r. nat_le r.op.0 (w.durable d))) records.placed
      ∙ filter_reverse (λ r. nat_le r.op.0 (w.durable d)) (changing (w.log d))
      ∙ ap reverse (up_to_changing (w.durable d) (w.log d))

  back : ReadsBack j.before j.log
  back = good_reads j.before j.log good

  abbrev front : List Redo
  front = first ++ map redo_of (up_to end (begun_by given ps))

  front_in_place : (s : ℕ) → AllInPlace front s ((sector_log w d).versions s)
  front_in_place s =
      let both = in_place_both first (records_up_to (w.floor d) ps) s ((sector_log w d).versions s) (records.old s) in
      in_place_joined first (map redo_of (up_to end (begun_by given ps))) s ((sector_log w d).versions s) both.0
      (subst (λ qs. AllInPlace (map redo_of (up_to end qs)) s ((sector_log w d).versions s)) (sym given_are) (in_place_ended end (filter (λ p. nat_le p.redo.op.0 (w.floor d)) ps) s ((sector_log w d).versions s) both.1))

  pub journal_reads : IsReading w d (log_records j.log.slots)
  journal_reads = record {
    front = drop back.missing front;
    is = back.reads
        ∙ ap (λ n. drop back.missing (take n (first ++ map (λ p. p.redo) ps))) back.ended
        ∙ read_parts first ps rises.0 rises.1 given end back.missing back.given_up
        ∙ ap (λ rs. drop back.missing front ++ rs) behind_is;
    in_place = λ s. in_place_drop back.missing front s ((sector_log w d).versions s) (front_in_place s);
  }
