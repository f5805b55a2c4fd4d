-- A recovery of each server that counts as mounted is one of a history that is told twice, also of one that was closed: that one removes nothing.
use Rattle.std.proofs.Common.{ℕ, zero, suc, ◌≡◌, ◌≢◌, ◌≤◌, ◌<◌, ◌==◌, ◌&&◌, ◌||◌, not, Bool, true, false, nat_eq, nat_lt, if◌then◌else◌, List, [], ◌∷◌, ◌++◌, filter, refl, sym, ◌∙◌, ap, subst, arith}
use Rattle.std.specs.List.{list_any}
use Rattle.std.proofs.lemmas.Bool.{eqb-true, le-ltb}
use Rattle.std.proofs.lemmas.List.Elements.{filter-append}
use Rattle.frang_base.specs.Functions.{keep_if}
use Rattle.frang_base.specs.declared.said.Said.{Said}
use Rattle.frang_base.specs.declared.script.Line.{Line}
use Rattle.tree_definitions.specs.History.{InDoubt, Settled}
use Rattle.tree_definitions.specs.Live.{live_history}
use Rattle.tree_definitions.specs.Numbers.{below}
use Rattle.tree_definitions.specs.Removal as trees
use Rattle.tree_definitions.specs.Transcript.{is_mounted_or_dead, is_node, left_history}
use Rattle.tree_definitions.specs.Tree.{FileTree}
use Rattle.tree_laws.proofs.HistoryLaws.{settled-recovered}
use Rattle.sector_world.specs.Claims.{left, left_by, replayed}
use Rattle.sector_world.specs.Histories.{Commit, Each, OpsRise, in_doubt, kept, settled, survives, synced_of}
use Rattle.sector_world.specs.Plans.{Legal}
use Rattle.sector_world.specs.Seen.{Unsynced}
use Rattle.sector_world.specs.Trees.{Distinct}
use Rattle.sector_world.specs.World.{Phase, World}
use Rattle.sector_world.specs.World.Phase.{Dead, Off, Up}
use Rattle.sector_world.proofs.HistoryLaws.{each_kept, each_map}
use Rattle.sector_world.proofs.Left.{by_phase, fine_left, legal_left}
use Rattle.disk_definitions.specs.Standing.{StandsFor}
use Rattle.line_histories.specs.LinePlans.{sector_plan}
use Rattle.line_histories.specs.Trees.{MayNumber}
use Rattle.line_histories.proofs.Following.{distinct_left}
use Rattle.line_histories.proofs.Framed.{lines_framed}
use Rattle.byte_trees.specs.Deeds.{Deed, Does, Doubts, Says, items, steps}
use Rattle.stop_laws.specs.ClosedStop.{ClosedKeepAll, is_closed}
use Rattle.stop_laws.specs.Happened.{Happening, Recovers, has_lost, on_sectors, on_tree, settle, what_stays}
use Rattle.stop_laws.specs.LinesStop.{is_on}
use Rattle.stop_laws.specs.Paired.{ArePaired, IsKeptBy}
use Rattle.stop_laws.specs.Settling.{SettlesAlike}
use Rattle.stop_laws.proofs.Histories.{histories_settle_alike}
use Rattle.stop_laws.proofs.Left.{the_disk_stands}
use Rattle.stop_laws.proofs.LinesStop.{stops_stand_for_what_lines_tell}
use Rattle.stop_laws.proofs.Stopping.{others_leave}
use Rattle.rest_laws.specs.ClosedServers.{AreMounted, ClosedServersKeepAll, StopsStandByTheLines}
use Rattle.rest_laws.specs.Done.{AreLinesOf}
use Rattle.rest_laws.proofs.Bare.{all_kept, bare, bare_kept, distinct_from, distinct_to, each_from, each_to, legal_from, legal_to, rise_from, rise_to, survives_low}

-- ---- deeds of which none is lost

none_with : (b : Bool) → (b && false) ≡ false
none_with true = refl
none_with false = refl

none_lost : (server number : ℕ) (deeds : List Deed) → Each (λ c. c.by ≡ server → c.op ≤ number) (items deeds) → has_lost server number deeds ≡ false
none_lost server number [] low = refl
none_lost server number (Does c e ∷ older) low = ap (λ b. b || has_lost server number older) (go (nat_eq c.by server) refl) ∙ none_lost server number older low.1
  where
    go : (b : Bool) → nat_eq c.by server ≡ b → (if b then nat_lt number c.op else false) ≡ false
    go true same = le-ltb number c.op (low.0 (eqb-true c.by server same))
    go false same = refl
none_lost server number (Says e ∷ older) low = none_lost server number older low
none_lost server number (Doubts marked runs ∷ older) low = none_lost server number older low

all_stay : (server number : ℕ) (deeds : List Deed) → Each (λ c. c.by ≡ server → c.op ≤ number) (items deeds) → what_stays server number deeds ≡ deeds
all_stay server number [] low = refl
all_stay server number (Does c e ∷ older) low =
    ap (λ (b : Bool). keep_if b (Does c e) (what_stays server number older)) (survives_low server number c low.0) ∙ ap (λ l. Does c e ∷ l) (all_stay server number older low.1)
all_stay server number (Says e ∷ older) low =
    ap (λ (b : Bool). keep_if (not (e.server.0 == server && b)) (Says e) (what_stays server number older)) (none_lost server number older low)
    ∙ ap (λ (b : Bool). keep_if (not b) (Says e) (what_stays server number older)) (none_with (e.server.0 == server)) ∙ ap (λ l. Says e ∷ l) (all_stay server number older low)
all_stay server number (Doubts marked runs ∷ older) low = ap (λ l. Doubts marked runs ∷ l) (all_stay server number older low)

-- lists that are the same but for their last are the same before it
but_last : List Settled → List Settled
but_last [] = []
but_last (x ∷ []) = []
but_last (x ∷ y ∷ xs) = x ∷ but_last (y ∷ xs)

but_last_is : (xs : List Settled) (x : Settled) → but_last (xs ++ x ∷ []) ≡ xs
unfolding but_last
but_last_is [] x = refl
but_last_is (y ∷ []) x = refl
but_last_is (y ∷ z ∷ xs) x = ap (λ l. y ∷ l) (but_last_is (z ∷ xs) x)

same_before : (xs ys : List Settled) (x y : Settled) → xs ++ x ∷ [] ≡ ys ++ y ∷ [] → xs ≡ ys
same_before xs ys x y same = sym (but_last_is xs x) ∙ ap but_last same ∙ but_last_is ys y

-- ---- the recoveries of all that count as mounted

abbrev recovers_if : Bool → (server greatest durable : ℕ) → List Happening → List Happening
recovers_if true server greatest durable h = Recovers server greatest durable ∷ h
recovers_if false server greatest durable h = h

module _ (segments : ℕ) (when : ℕ → ℕ) (first : FileTree) (numbers : List ℕ) (w : World) (greatest : ℕ → ℕ) (h : List Happening) (mounted : ℕ → Bool)
    (are : AreLinesOf segments when first numbers w h) (all : AreMounted first w greatest h mounted) where
  -- the history with those of the servers below a number, in their order
  abbrev recovered_below : ℕ → List Happening
  recovered_below zero = h
  recovered_below (suc n) = recovers_if (mounted n) n (greatest n) (w.durable n) (recovered_below n)

  -- by what the log of each kept
  kept_at : (server : ℕ) → mounted server ≡ true → (n : ℕ) → n ≤ server → IsKeptBy server (greatest server) (w.durable server) (settle first (recovered_below n))
  kept_at server is zero low = all.logs server is
  kept_at server is (suc n) low = go (mounted n) (kept_at server is n (omega arith))
    where
      go : (b : Bool) → IsKeptBy server (greatest server) (w.durable server) (settle first (recovered_below n)) →
          IsKeptBy server (greatest server) (w.durable server) (settle first (recovers_if b n (greatest n) (w.durable n) (recovered_below n)))
      go false before = before
      go true before =
          let stays : List Deed = what_stays n (w.durable n) (settle first (recovered_below n)) in
          let synced : ℕ = synced_of n (on_sectors (recovered_below n)) in
          others_leave server n (w.durable server) (λ e. absurd (omega arith)) (w.durable n) (greatest server) (settle first (recovered_below n)) (in_doubt n synced (items stays))
          (trees.doubtful n first (steps stays)) before

  -- nothing of one that is off is above what is durable
  low_first : (n : ℕ) → w.phase n ≡ Off → Each (λ c. c.by ≡ n → c.op ≤ w.durable n) (settled w.history)
  low_first n off = each_map (λ c. c.op ≤ w.last c.by) (λ c. c.by ≡ n → c.op ≤ w.durable n) (λ c below same. low c below same) (settled w.history) are.good.logged.below
    where
      low : (c : Commit) → c.op ≤ w.last c.by → c.by ≡ n → c.op ≤ w.durable n
      low c below same =
          let last : c.op ≤ w.last n = subst (λ k. c.op ≤ w.last k) same below in
          let rest : w.last n ≤ w.durable n = are.good.logged.rested n off in
          omega arith

  low_left : (n : ℕ) → w.phase n ≡ Off → (m : ℕ) → Each (λ c. c.by ≡ n → c.op ≤ w.durable n) (left w m)
  low_left n off zero = low_first n off
  low_left n off (suc m) =
      by_phase (Each (λ c. c.by ≡ n → c.op ≤ w.durable n)) (w.phase m) m (w.durable m) (w.synced m) (left w m) (λ it_is. low_left n off m)
      (each_kept (λ c. c.by ≡ n → c.op ≤ w.durable n) (survives m (w.durable m)) (left w m) (low_left n off m))

  -- on the side of sectors they leave the operations that recoveries of all logs would leave
  record IsStage (n : ℕ) (now : List Happening) : Type 0 where
    paired_now : ArePaired segments when w.opening first numbers now
    same : bare (settled (on_sectors now)) ≡ bare (left w n)
    unsynced : (server durable : ℕ) → Unsynced server durable w.history → Unsynced server durable (on_sectors now)

  one_more : (n : ℕ) (now : List Happening) → mounted n ≡ true → IsKeptBy n (greatest n) (w.durable n) (settle first now) → IsStage n now →
      IsStage (suc n) (Recovers n (greatest n) (w.durable n) ∷ now)
  one_more n now is its stage = record {
    paired_now = (
      record {
        legal = legal_from (sector_plan segments when) w.opening (settled (on_sectors now)) (subst (Legal (sector_plan segments when) w.opening) (sym stage.same)
            (legal_to (sector_plan segments when) w.opening (left w n) (legal_left (sector_plan segments when) (lines_framed segments when) w are.good are.legal.live n)));
        distinct = distinct_from (MayNumber numbers) first (settled (on_sectors now)) (subst (Distinct (MayNumber numbers) first) (sym stage.same)
            (distinct_to (MayNumber numbers) first (left w n) (distinct_left numbers first w are.distinct n)));
        rises = rise_from (settled (on_sectors now)) (subst OpsRise (sym stage.same) (rise_to (left w n) (fine_left w are.good n).ops));
        unsynced = stage.unsynced n (w.durable n) (are.good.logged.unsynced n);
        kept_by = its;
      },
      stage.paired_now,
    );
    same = bare_kept (survives n (w.durable n)) (settled (on_sectors now)) ∙ ap (kept (survives n (w.durable n))) stage.same
        ∙ sym (bare_kept (survives n (w.durable n)) (left w n)) ∙ by_life (w.phase n) refl;
    unsynced = stage.unsynced;
  }
    where
      by_life : (p : Phase) → w.phase n ≡ p → bare (kept (survives n (w.durable n)) (left w n)) ≡ bare (left_by p n (w.durable n) (w.synced n) (left w n))
      by_life Off off = ap bare (all_kept n (w.durable n) (left w n) (low_left n off n))
      by_life Up up = refl
      by_life Dead dead = refl

  none_more : (n : ℕ) (now : List Happening) → n < w.servers → mounted n ≡ false → IsStage n now → IsStage (suc n) now
  none_more n now low none stage = record { paired_now = stage.paired_now; same = stage.same ∙ by_life (w.phase n) refl; unsynced = stage.unsynced }
    where
      not_on : is_on (w.phase n) ≡ true → ⊥
      not_on on = let z : true ≡ false = sym (all.active n low on) ∙ none in cc

      by_life : (p : Phase) → w.phase n ≡ p → bare (left w n) ≡ bare (left_by p n (w.durable n) (w.synced n) (left w n))
      by_life Off off = refl
      by_life Up up = absurd (not_on (ap is_on up))
      by_life Dead dead = absurd (not_on (ap is_on dead))

  by_test : (n : ℕ) (now : List Happening) → n < w.servers → (mounted n ≡ true → IsKeptBy n (greatest n) (w.durable n) (settle first now)) → IsStage n now → (b : Bool) → mounted n ≡ b →
      IsStage (suc n) (recovers_if b n (greatest n) (w.durable n) now)
  by_test n now low its stage true is = one_more n now is (its is) stage
  by_test n now low its stage false is = none_more n now low is stage

  stages : (n : ℕ) → n ≤ w.servers → IsStage n (recovered_below n)
  stages zero low = record { paired_now = are.paired; same = ap (λ l. bare (settled l)) are.told; unsynced = λ server durable u. subst (Unsynced server durable) (sym are.told) u }
  stages (suc n) low = by_test n (recovered_below n) (omega arith) (λ is. kept_at n is n (omega arith)) (stages n (omega arith)) (mounted n) refl

  -- ---- one that is off removes nothing

  module _ (n : ℕ) (low : n < w.servers) (is : mounted n ≡ true) (off : w.phase n ≡ Off) where
    abbrev now : List Happening
    now = recovered_below n

    abbrev later : List Happening
    later = Recovers n (greatest n) (w.durable n) ∷ recovered_below n

    stage : IsStage n now
    stage = stages n (omega arith)

    before : SettlesAlike first now
    before = histories_settle_alike segments when w.opening first numbers now are.times are.stands stage.paired_now

    after : SettlesAlike first later
    after = histories_settle_alike segments when w.opening first numbers later are.times are.stands (one_more n now is (kept_at n is n (omega arith)) stage).paired_now

    -- none of its deeds is lost
    low_now : Each (λ c. c.by ≡ n → c.op ≤ w.durable n) (items (settle first now))
    low_now = subst (Each (λ c. c.by ≡ n → c.op ≤ w.durable n)) (sym before.sectors)
        (each_from (λ c. c.by ≡ n → c.op ≤ w.durable n) (settled (on_sectors now))
        (subst (Each (λ c. c.by ≡ n → c.op ≤ w.durable n)) (sym stage.same) (each_to (λ c. c.by ≡ n → c.op ≤ w.durable n) (left w n) (low_left n off n))))

    closed_whole : trees.left n (greatest n) first (trees.settled first (on_tree now)) ≡ trees.settled first (on_tree now)
    closed_whole =
        let stays : List Deed = what_stays n (w.durable n) (settle first now) in
        let told : steps stays ++ InDoubt (trees.doubtful n first (steps stays)) ∷ [] ≡ trees.settled first (on_tree later) = after.tree in
        let pushed : trees.settled first (on_tree later) ≡ trees.recovered first n (greatest n) (trees.settled first (on_tree now)) =
        settled-recovered first [] (on_tree now) (record { 0 = n }) (record { 0 = greatest n }) in
        let whole : steps stays ≡ trees.settled first (on_tree now) = ap steps (all_stay n (w.durable n) (settle first now) low_now) ∙ before.tree in
        sym (same_before (steps stays) (trees.left n (greatest n) first (trees.settled first (on_tree now))) (InDoubt (trees.doubtful n first (steps stays)))
        (InDoubt (trees.doubtful n first (trees.left n (greatest n) first (trees.settled first (on_tree now))))) (told ∙ pushed)) ∙ whole

  -- ---- server by server

  abbrev KeepAll : List ℕ → List Settled → Type 0
  KeepAll servers list = ClosedKeepAll first (is_closed w) greatest servers list

  abbrev all_recovered : List ℕ → List Settled → List Settled
  all_recovered [] list = list
  all_recovered (server ∷ servers) list = all_recovered servers (trees.recovered first server (greatest server) list)

  joined : (some more : List ℕ) (list : List Settled) → KeepAll some list → KeepAll more (all_recovered some list) → KeepAll (some ++ more) list
  joined [] more list one two = two
  joined (server ∷ some) more list one two = (one.0, joined some more (trees.recovered first server (greatest server) list) one.1 two)

  recovered_joined : (some more : List ℕ) (list : List Settled) → all_recovered (some ++ more) list ≡ all_recovered more (all_recovered some list)
  recovered_joined [] more list = refl
  recovered_joined (server ∷ some) more list = recovered_joined some more (trees.recovered first server (greatest server) list)

  one_recovered : (b : Bool) (n : ℕ) (now : List Happening) → all_recovered (if b then n ∷ [] else []) (trees.settled first (on_tree now)) ≡ trees.settled first (on_tree (recovers_if b n (greatest n) (w.durable n) now))
  one_recovered true n past = sym (settled-recovered first [] (on_tree past) (record { 0 = n }) (record { 0 = greatest n }))
  one_recovered false n past = refl

  recovered_is : (n : ℕ) → all_recovered (filter mounted (below n)) (trees.settled first (on_tree h)) ≡ trees.settled first (on_tree (recovered_below n))
  recovered_is zero = refl
  recovered_is (suc n) =
      ap (λ l. all_recovered l (trees.settled first (on_tree h))) (filter-append mounted (below n) (n ∷ []))
      ∙ recovered_joined (filter mounted (below n)) (if mounted n then n ∷ [] else []) (trees.settled first (on_tree h))
      ∙ ap (all_recovered (if mounted n then n ∷ [] else [])) (recovered_is n) ∙ one_recovered (mounted n) n (recovered_below n)

  one_keeps : (n : ℕ) → n < w.servers → (b : Bool) → mounted n ≡ b → KeepAll (if b then n ∷ [] else []) (trees.settled first (on_tree (recovered_below n)))
  one_keeps n low false is = tt
  one_keeps n low true is = (λ closed. closed_whole n low is (closed_off (w.phase n) closed), tt)
    where
      closed_off : (p : Phase) → not (is_on p) ≡ true → p ≡ Off
      closed_off Off closed = refl
      closed_off Up closed = absurd (cc)
      closed_off Dead closed = absurd (cc)

  keep_below : (n : ℕ) → n ≤ w.servers → KeepAll (filter mounted (below n)) (trees.settled first (on_tree h))
  keep_below zero low = tt
  keep_below (suc n) low =
      subst (λ l. KeepAll l (trees.settled first (on_tree h))) (sym (filter-append mounted (below n) (n ∷ [])))
      (joined (filter mounted (below n)) (if mounted n then n ∷ [] else []) (trees.settled first (on_tree h)) (keep_below n (omega arith))
      (subst (KeepAll (if mounted n then n ∷ [] else [])) (sym (recovered_is n)) (one_keeps n (omega arith) (mounted n) refl)))

  pub keep_all : KeepAll (filter mounted (below w.servers)) (trees.settled first (on_tree h))
  keep_all = keep_below w.servers (omega arith)

pub closed_keep_all : ClosedServersKeepAll
closed_keep_all segments when first numbers w greatest h mounted are all = keep_all segments when first numbers w greatest h mounted are all

-- ---- by the lines said

on_there : (p : Phase) → p ≢ Off → is_on p ≡ true
on_there Off on = absurd (on refl)
on_there Up on = refl
on_there Dead on = refl

module _ (segments : ℕ) (when : ℕ → ℕ) (first : FileTree) (numbers : List ℕ) (w : World) (greatest : ℕ → ℕ) (h : List Happening) (script : List Line) (run : ℕ) (saids : List Said)
    (are : AreLinesOf segments when first numbers w h) (count : w.servers ≡ 16) (none : list_any is_node saids ≡ false) (live : on_tree h ≡ live_history script run saids)
    (all : AreMounted first w greatest h (is_mounted_or_dead script saids)) where
  kept_all : ClosedKeepAll first (is_closed w) greatest (filter (is_mounted_or_dead script saids) (below 16)) (trees.settled first (live_history script run saids))
  kept_all =
      subst (λ history. ClosedKeepAll first (is_closed w) greatest (filter (is_mounted_or_dead script saids) (below 16)) (trees.settled first history)) live
      (subst (λ n. ClosedKeepAll first (is_closed w) greatest (filter (is_mounted_or_dead script saids) (below n)) (trees.settled first (on_tree h))) count
      (closed_keep_all segments when first numbers w greatest h (is_mounted_or_dead script saids) are all))

  logs : (server : ℕ) → w.phase server ≢ Off → IsKeptBy server (greatest server) (w.durable server) (settle first h)
  logs server on = all.logs server (all.active server (are.good.logged.known server on) (on_there (w.phase server) on))

  pub stand : StandsFor (replayed w w.servers) (trees.tree_from first (left_history script run saids greatest))
  stand =
      stops_stand_for_what_lines_tell script run saids w greatest h first (replayed w w.servers) count none all.active live are.stands.stands.well_formed.births kept_all
      (the_disk_stands segments when first numbers w greatest h are.times are.stands are.legal are.distinct are.good are.follows are.parameters are.told are.paired logs are.sight are.said
      are.synced are.known)

pub stops_stand_by_the_lines : StopsStandByTheLines
stops_stand_by_the_lines segments when first numbers w greatest h script run saids are count none live all =
    stand segments when first numbers w greatest h script run saids are count none live all
