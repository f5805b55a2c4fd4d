-- The recoveries that a stop adds are the same on both sides, server by server.
use Rattle.std.proofs.Common.{ℕ, zero, suc, ◌≡◌, ◌<◌, Bool, true, false, not, if◌then◌else◌, List, [], ◌∷◌, ◌++◌, filter, refl, sym, ◌∙◌, ap, subst, arith}
use Rattle.std.specs.List.{list_any}
use Rattle.std.proofs.lemmas.List.Elements.{filter-append}
use Rattle.frang_base.specs.declared.said.Said.{Said}
use Rattle.frang_base.specs.declared.script.Line.{Line}
use Rattle.tree_definitions.specs.declared.history.Item.{Item}
use Rattle.tree_definitions.specs.Live.{drop_after, dropped_for, live_history}
use Rattle.tree_definitions.specs.Numbers.{below}
use Rattle.tree_definitions.specs.Removal.{tree_from}
use Rattle.tree_definitions.specs.Transcript.{is_mounted_or_dead, is_node, left_history}
use Rattle.disk_definitions.specs.Standing.{StandsFor}
use Rattle.sector_world.specs.World.{World, Phase}
use Rattle.sector_world.specs.World.Phase.{Off, Up, Dead}
use Rattle.stop_laws.specs.Happened.{Happening, on_tree}
use Rattle.stop_laws.specs.ClosedStop.{StopsStandForWhatLinesTell, is_closed}
use Rattle.stop_laws.specs.LinesStop.{AreToldOf, StopsLeaveWhatLinesTell, is_on}
use Rattle.stop_laws.specs.Settling.{recovers_by, stopped}
use Rattle.stop_laws.proofs.ClosedStops.{closed_servers_stand}

module _ (greatest : ℕ → ℕ) where
  dropped_on : (history : List Item) (some more : List ℕ) → dropped_for history (some ++ more) greatest ≡ dropped_for (dropped_for history some greatest) more greatest
  dropped_on history [] more = refl
  dropped_on history (server ∷ some) more = dropped_on (drop_after history (record { 0 = server }) (greatest server)) some more

  module _ (w : World) (h : List Happening) where
    -- one server more
    one_more : (n : ℕ) (p : Phase) (on : Bool) → on ≡ is_on p → (now : List Happening) →
        on_tree (recovers_by p n (greatest n) (w.durable n) now) ≡ dropped_for (on_tree now) (if on then n ∷ [] else []) greatest
    one_more n Off on is now = ap (λ (b : Bool). dropped_for (on_tree now) (if b then n ∷ [] else []) greatest) (sym is)
    one_more n Up on is now = ap (λ (b : Bool). dropped_for (on_tree now) (if b then n ∷ [] else []) greatest) (sym is)
    one_more n Dead on is now = ap (λ (b : Bool). dropped_for (on_tree now) (if b then n ∷ [] else []) greatest) (sym is)

    pub up_to : (test : ℕ → Bool) (n : ℕ) → ((server : ℕ) → server < n → test server ≡ is_on (w.phase server)) →
        on_tree (stopped w greatest n h) ≡ dropped_for (on_tree h) (filter test (below n)) greatest
    up_to test zero same = refl
    up_to test (suc n) same =
        one_more n (w.phase n) (test n) (same n (omega arith)) (stopped w greatest n h)
        ∙ ap (λ l. dropped_for l (if test n then n ∷ [] else []) greatest) (up_to test n (λ server low. same server (omega arith)))
        ∙ sym (dropped_on (on_tree h) (filter test (below n)) (if test n then n ∷ [] else []))
        ∙ ap (λ l. dropped_for (on_tree h) l greatest) (sym (filter-append test (below n) (n ∷ [])))

    -- where all are off there is none
    none_more : (n : ℕ) → ((server : ℕ) → server < n → w.phase server ≡ Off) → stopped w greatest n h ≡ h
    none_more zero off = refl
    none_more (suc n) off =
        ap (λ p. recovers_by p n (greatest n) (w.durable n) (stopped w greatest n h)) (off n (omega arith)) ∙ none_more n (λ server low. off server (omega arith))

module _ (script : List Line) (run : ℕ) (saids : List Said) (w : World) (greatest : ℕ → ℕ) (h : List Happening) (told : AreToldOf script saids w)
    (live : on_tree h ≡ live_history script run saids) where
  abbrev test : ℕ → Bool
  test server = is_mounted_or_dead script saids server

  -- by whether a line of the tree was said
  by_nodes : (some : Bool) → list_any is_node saids ≡ some →
      on_tree (stopped w greatest w.servers h) ≡ (if some then live_history script run saids else dropped_for (live_history script run saids) (filter test (below 16)) greatest)
  by_nodes true is = ap on_tree (none_more greatest w h w.servers (told.closed is)) ∙ live
  by_nodes false is =
      up_to greatest w h test w.servers (told.phases is) ∙ ap (λ n. dropped_for (on_tree h) (filter test (below n)) greatest) told.count
      ∙ ap (λ l. dropped_for l (filter test (below 16)) greatest) live

pub stops_leave_what_lines_tell : StopsLeaveWhatLinesTell
stops_leave_what_lines_tell script run saids w greatest h told live = by_nodes script run saids w greatest h told live (list_any is_node saids) refl

-- ---- with servers that were closed

module _ (test on : ℕ → Bool) where
  one_kept : (n : ℕ) (a b : Bool) → (b ≡ true → a ≡ true) → test n ≡ a → on n ≡ b → filter (λ s. not (not (on s))) (if a then n ∷ [] else []) ≡ (if b then n ∷ [] else [])
  one_kept n true true both is it = ap (λ (b : Bool). if not (not b) then n ∷ [] else []) it
  one_kept n true false both is it = ap (λ (b : Bool). if not (not b) then n ∷ [] else []) it
  one_kept n false true both is it = absurd (let z : false ≡ true = both refl in cc)
  one_kept n false false both is it = refl

  still_on : (n : ℕ) → ((server : ℕ) → server < n → on server ≡ true → test server ≡ true) → filter (λ s. not (not (on s))) (filter test (below n)) ≡ filter on (below n)
  still_on zero both = refl
  still_on (suc n) both =
      ap (filter (λ s. not (not (on s)))) (filter-append test (below n) (n ∷ []))
      ∙ filter-append (λ s. not (not (on s))) (filter test (below n)) (if test n then n ∷ [] else [])
      ∙ ap (λ l. l ++ filter (λ s. not (not (on s))) (if test n then n ∷ [] else [])) (still_on n (λ server low. both server (omega arith)))
      ∙ ap (λ l. filter on (below n) ++ l) (one_kept n (test n) (on n) (both n (omega arith)) refl refl)
      ∙ sym (filter-append on (below n) (n ∷ []))

pub stops_stand_for_what_lines_tell : StopsStandForWhatLinesTell
stops_stand_for_what_lines_tell script run saids w greatest h first disk count none told live births kept stands =
    subst (λ history. StandsFor disk (tree_from first history)) (sym left_is)
    (closed_servers_stand disk first (live_history script run saids) (is_closed w) greatest (filter (is_mounted_or_dead script saids) (below 16)) births kept
    (subst (λ history. StandsFor disk (tree_from first history)) world_is stands))
  where
    left_is : left_history script run saids greatest ≡ dropped_for (live_history script run saids) (filter (is_mounted_or_dead script saids) (below 16)) greatest
    left_is = ap (λ (b : Bool). if b then live_history script run saids else dropped_for (live_history script run saids) (filter (is_mounted_or_dead script saids) (below 16)) greatest) none

    world_is : on_tree (stopped w greatest w.servers h)
        ≡ dropped_for (live_history script run saids) (filter (λ server. not (is_closed w server)) (filter (is_mounted_or_dead script saids) (below 16))) greatest
    world_is =
        up_to greatest w h (λ server. is_on (w.phase server)) w.servers (λ server low. refl)
        ∙ ap (λ l. dropped_for l (filter (λ server. is_on (w.phase server)) (below w.servers)) greatest) live
        ∙ ap (λ n. dropped_for (live_history script run saids) (filter (λ server. is_on (w.phase server)) (below n)) greatest) count
        ∙ ap (λ l. dropped_for (live_history script run saids) l greatest)
        (sym (still_on (is_mounted_or_dead script saids) (λ server. is_on (w.phase server)) 16 (λ server low. told server (subst (λ n. server < n) (sym count) low))))
