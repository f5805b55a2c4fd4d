-- A sector in doubt has a last write on the side of the rules: from the newest deed back, as long as neither side writes.
use Rattle.std.proofs.Common.{ℕ, ◌≡◌, ◌≤◌, ◌==◌, ◌&&◌, ◌||◌, not, Bool, true, false, nat_eq, nat_lt, if◌then◌else◌, is_some, List, [], ◌∷◌, ◌++◌, refl, sym, ◌∙◌, ap, subst, arith}
use Rattle.std.specs.List.{list_any}
use Rattle.std.proofs.lemmas.Bool.{and_parts, and_from, both_ways, false_from_ne_true, or_right, or_left, or_parts}
use Rattle.std.proofs.lemmas.Bool.Decides.{nat_tests}
use Rattle.std.proofs.lemmas.List.{append_assoc}
use Rattle.tree_definitions.specs.declared.history.Entry.{Entry}
use Rattle.tree_definitions.specs.Tree.{FileTree}
use Rattle.tree_definitions.specs.History.{Settled, Stays, InDoubt, after, after_all}
use Rattle.tree_definitions.specs.Touched.{touches, is_mounted, is_ok, is_sync}
use Rattle.tree_definitions.specs.Removal.{mounts}
use Rattle.tree_laws.specs.Doubts.{entry_writes, keeps_doubt, all_keep_doubt, LastWrite}
use Rattle.tree_laws.proofs.DoubtLaws.{a_last_write_leaves_doubt}
use Rattle.tree_laws.proofs.HistoryLaws.{after_all-append}
use Rattle.sector_world.specs.Histories.{Commit, Item, Each, doubt_step, in_doubt}
use Rattle.sector_world.specs.Histories.Item.{Done, Doubt}
use Rattle.byte_trees.specs.Deeds.{Deed, Does, Says, Doubts, items, steps, tree_after}
use Rattle.byte_trees.specs.Doubts.{Agrees, Passes, AllAgree, IsLocated, DoubtIsTheSame}
use Rattle.byte_trees.proofs.Touching.{writes_touch}

-- ---- one operation more, on the side of sectors

-- in doubt after it: it wrote, and is the server's; or it didn't, doubt was there before, and if it looked it is the server's
pub of_write : (looked own new older : Bool) → doubt_step true looked own new older ≡ true → own ≡ true
of_write looked true new older h = refl
of_write looked false new older h = absurd (cc)

pub of_look : (own new older : Bool) → doubt_step false true own new older ≡ true → own ≡ true
of_look true new older h = refl
of_look false new older h = absurd (cc)

pub of_older : (looked own new older : Bool) → doubt_step false looked own new older ≡ true → older ≡ true
of_older true true new older h = h
of_older true false new older h = absurd (cc)
of_older false own new older h = h

-- who looked is the server, whether it wrote or not
of_seen : (wrote looked own new older : Bool) → looked ≡ true → doubt_step wrote looked own new older ≡ true → own ≡ true
of_seen true looked own new older s h = of_write looked own new older h
of_seen false true own new older s h = of_look own new older h
of_seen false false own new older s h = absurd (cc)

-- where all operations of the server are covered, nothing is in doubt
covered_step : (wrote looked own new older : Bool) → (own ≡ true → new ≡ false) → older ≡ false → doubt_step wrote looked own new older ≡ false
covered_step true looked true new older c o = c refl
covered_step true looked false new older c o = refl
covered_step false true true new older c o = o
covered_step false true false new older c o = refl
covered_step false false own new older c o = o

covered : (server number sector : ℕ) (h : List Item) → Each (λ c. c.by ≡ server → c.op ≤ number) h → in_doubt server number h sector ≡ false
covered server number sector [] a = refl
covered server number sector (Done c ∷ h) a =
    covered_step (is_some (c.writes sector)) (c.sees sector) (nat_eq c.by server) (nat_lt number c.op) (in_doubt server number h sector)
    (λ own. let is : c.by ≡ server = grind (arith, nat_tests) in let low : c.op ≤ number = a.0 is in grind (arith, nat_tests)) (covered server number sector h a.1)
covered server number sector (Doubt m ∷ h) a = covered server number sector h a

-- ---- one step more, on the side of the rules

module _ (server birth part : ℕ) where
  -- the server isn't mounted by it, and doubt is kept
  abbrev Keeps : FileTree → Settled → Type 0
  Keeps tree (Stays e) = (mounts server (Stays e) ≡ false) × (keeps_doubt server birth part tree e ≡ true)
  Keeps tree (InDoubt runs) = Unit {0}

  none_mounts : (rest : List Settled) (s : Settled) → mounts server s ≡ false → list_any (mounts server) rest ≡ false → list_any (mounts server) (rest ++ s ∷ []) ≡ false
  none_mounts [] s e f = ap (λ b. b || false) e
  none_mounts (r ∷ rest) s e f = let p = or_parts (mounts server r) (list_any (mounts server) rest) f in ap (λ b. b || list_any (mounts server) (rest ++ s ∷ [])) p.0 ∙ none_mounts rest s e p.1

  mounts_none : (tree : FileTree) (s : Settled) → Keeps tree s → mounts server s ≡ false
  mounts_none tree (Stays e) k = k.0
  mounts_none tree (InDoubt runs) k = refl

  all_keep : (tree : FileTree) (rest : List Settled) (s : Settled) → all_keep_doubt server birth part tree rest ≡ true → Keeps (after_all tree rest) s → all_keep_doubt server birth part tree (rest ++ s ∷ []) ≡ true
  all_keep tree [] (Stays e) a k = ap (λ b. b && true) k.1
  all_keep tree [] (InDoubt runs) a k = refl
  all_keep tree (InDoubt runs ∷ rest) s a k = all_keep (after tree (InDoubt runs)) rest s a k
  all_keep tree (Stays e ∷ rest) s a k =
      let p = and_parts (keeps_doubt server birth part tree e) (all_keep_doubt server birth part (after tree (Stays e)) rest) a in
      and_from (keeps_doubt server birth part tree e) (all_keep_doubt server birth part (after tree (Stays e)) (rest ++ s ∷ [])) p.0 (all_keep (after tree (Stays e)) rest s p.1 k)

  -- a last write stays one
  longer : (tree : FileTree) (list : List Settled) (s : Settled) → LastWrite server birth part tree list → Keeps (after_all tree list) s → LastWrite server birth part tree (list ++ s ∷ [])
  longer tree list s w k =
      let at : after_all (after (after_all tree w.before) (Stays w.entry)) w.rest ≡ after_all tree list = sym (after_all-append tree w.before (Stays w.entry ∷ w.rest)) ∙ ap (after_all tree) (sym w.splits) in
      record {
        before = w.before;
        entry = w.entry;
        rest = w.rest ++ s ∷ [];
        splits = ap (λ l. l ++ s ∷ []) w.splits ∙ append_assoc w.before (Stays w.entry ∷ w.rest) (s ∷ []);
        own = w.own;
        writes = w.writes;
        mounted = none_mounts w.rest s (mounts_none (after_all tree list) s k) w.mounted;
        later = all_keep (after (after_all tree w.before) (Stays w.entry)) w.rest s w.later (subst (λ t. Keeps t s) (sym at) k);
      }

  -- the newest write is one
  newest : (tree : FileTree) (list : List Settled) (e : Entry) → e.server.0 == server ≡ true → entry_writes (after_all tree list) e birth part ≡ true → LastWrite server birth part tree (list ++ Stays e ∷ [])
  newest tree list e own writes = record { before = list; entry = e; rest = []; splits = refl; own = own; writes = writes; mounted = refl; later = refl }

-- ---- what an entry keeps

keeping : (own wrote synced touched : Bool) → wrote ≡ false → (own ≡ true → synced ≡ false) → (own ≡ false → touched ≡ false) → not wrote && (if own then not synced else not touched) ≡ true
keeping own true synced touched w s t = absurd (cc)
keeping true false false touched w s t = refl
keeping true false true touched w s t = absurd (let z : true ≡ false = s refl in cc)
keeping false false synced false w s t = refl
keeping false false synced true w s t = absurd (let z : true ≡ false = t refl in cc)

not_both : (a b : Bool) → (a ≡ true → b ≡ false) → a && b ≡ false
not_both true b f = f refl
not_both false b f = refl

module _ (opening : FileTree) (server number birth part : ℕ) (Lies : List Deed → Type 0) (sector : ℕ) where
  abbrev Last : List Deed → Type 0
  Last deeds = LastWrite server birth part opening (steps deeds)

  -- what the older deeds come to
  abbrev Before : List Deed → Type 0
  Before older = Lies older → in_doubt server number (items older) sector ≡ true → Last older

  module _ (c : Commit) (e : Entry) (older : List Deed) (g : Agrees opening birth part Lies sector c e older) (before : Before older) (lies : Lies (Does c e ∷ older))
      (doubt : in_doubt server number (items (Does c e ∷ older)) sector ≡ true) where
    own_if_touched : touches (tree_after opening older) e birth ≡ true → e.server.0 == server ≡ true
    own_if_touched t =
        ap (λ v. nat_eq v server) g.by
        ∙ of_seen (is_some (c.writes sector)) (c.sees sector) (nat_eq c.by server) (nat_lt number c.op) (in_doubt server number (items older) sector) (g.seen lies t) doubt

    unwritten : entry_writes (tree_after opening older) e birth part ≡ false → is_some (c.writes sector) ≡ false
    unwritten w = false_from_ne_true (is_some (c.writes sector)) (λ y. both_ways (entry_writes (tree_after opening older) e birth part) w (g.met lies y))

    still_doubt : is_some (c.writes sector) ≡ false → in_doubt server number (items older) sector ≡ true
    still_doubt w =
        of_older (c.sees sector) (nat_eq c.by server) (nat_lt number c.op) (in_doubt server number (items older) sector)
        (subst (λ b. doubt_step b (c.sees sector) (nat_eq c.by server) (nat_lt number c.op) (in_doubt server number (items older) sector) ≡ true) w doubt)

    by_write : (b : Bool) → entry_writes (tree_after opening older) e birth part ≡ b → Last (Does c e ∷ older)
    by_write true w = newest server birth part opening (steps older) e (own_if_touched (writes_touch (tree_after opening older) e birth part g.answers w)) w
    by_write false w =
        longer server birth part opening (steps older) (Stays e) (before (g.stays lies (unwritten w) w) (still_doubt (unwritten w))) (
          not_both (e.server.0 == server) (is_mounted e.reply) (λ own. g.no_mount),
          keeping (e.server.0 == server) (entry_writes (tree_after opening older) e birth part) (is_sync e.op && is_ok e.reply) (touches (tree_after opening older) e birth) w (λ own. g.no_sync)
              (λ other. false_from_ne_true (touches (tree_after opening older) e birth) (λ t. both_ways (e.server.0 == server) other (own_if_touched t))),
        )

  module _ (e : Entry) (older : List Deed) (p : Passes opening server number birth part Lies e older) (before : Before older) (lies : Lies (Says e ∷ older))
      (doubt : in_doubt server number (items older) sector ≡ true) where
    uncovered : e.server.0 == server ≡ true → is_mounted e.reply || (is_sync e.op && is_ok e.reply) ≡ true → ⊥
    uncovered own ends = both_ways (in_doubt server number (items older) sector) (covered server number sector (items older) (p.covers own ends)) doubt

    by_saying : Last (Says e ∷ older)
    by_saying =
        longer server birth part opening (steps older) (Stays e) (before (p.stays lies) doubt) (
          not_both (e.server.0 == server) (is_mounted e.reply) (λ own. false_from_ne_true (is_mounted e.reply) (λ y. uncovered own (or_left (is_mounted e.reply) (is_sync e.op && is_ok e.reply) y))),
          keeping (e.server.0 == server) (entry_writes (tree_after opening older) e birth part) (is_sync e.op && is_ok e.reply) (touches (tree_after opening older) e birth) p.meets_none
              (λ own. false_from_ne_true (is_sync e.op && is_ok e.reply) (λ y. uncovered own (or_right (is_mounted e.reply) (is_sync e.op && is_ok e.reply) y))) (λ other. p.touches_none),
        )

  pub found : (deeds : List Deed) → AllAgree opening server number birth part Lies sector deeds → Lies deeds → in_doubt server number (items deeds) sector ≡ true → Last deeds
  found [] a lies doubt = absurd (cc)
  found (Doubts m runs ∷ older) a lies doubt = longer server birth part opening (steps older) (InDoubt runs) (found older a.1 (a.0 lies) doubt) tt
  found (Says e ∷ older) a lies doubt = by_saying e older a.0 (found older a.1) lies doubt
  found (Does c e ∷ older) a lies doubt = by_write c e older a.0 (found older a.1) lies doubt (entry_writes (tree_after opening older) e birth part) refl

pub doubt_same : DoubtIsTheSame
doubt_same opening server number birth part located sector deeds a lies doubt =
    a_last_write_leaves_doubt server birth part opening (steps deeds) (found opening server number birth part (IsLocated located sector) sector deeds a lies doubt)
