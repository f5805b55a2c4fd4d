-- What a recovery leaves of deeds is what it leaves of their steps on the side of the tree, and of their operations on the side of sectors.
use Rattle.std.proofs.Common.{ℕ, ◌≡◌, ◌≢◌, ◌≤◌, ◌<◌, ◌==◌, ◌&&◌, ◌||◌, ◌↔◌, not, Bool, true, false, nat_eq, nat_lt, nat_le, if◌then◌else◌, List, [], ◌∷◌, ◌++◌, refl, sym, ◌∙◌, ap, arith, append-nil}
use Rattle.std.proofs.lemmas.Bool.Decides.{nat_tests}
use Rattle.std.proofs.lemmas.Bool.{and_right, eq-eqb, lt-ltb, eqb-true, or_parts}
use mathlib.Core.Bool.{and-false, and-true, or-false, or-true}
use Rattle.frang_base.specs.Functions.{keep_if}
use Rattle.frang_base.specs.declared.change.Change.{Change}
use Rattle.tree_definitions.specs.declared.history.Entry.{Entry}
use Rattle.tree_definitions.specs.History.{CellRun, Settled, Stays}
use Rattle.tree_definitions.specs.Removal.{is_lost, is_recorded, left, mounts}
use Rattle.tree_definitions.specs.Touched.{is_mounted}
use Rattle.tree_definitions.specs.Tree.{FileTree}
use Rattle.sector_world.specs.Histories.{Commit, Each, OpsRise, is_own, kept, survives}
use Rattle.sector_world.specs.Histories.Item.{Done, Doubt}
use Rattle.byte_trees.specs.Deeds.{Deed, Does, Says, Doubts, items, step_of, steps, tree_after}
use Rattle.stop_laws.specs.Happened.{has_lost, what_stays}
use Rattle.stop_laws.specs.Paired.{AreKeptSinceMount, BeginsWithARecord}
use Rattle.stop_laws.proofs.Leaving.{is_cut, others, cut_after, mounted_whole, whole, whole_up_to}

-- ---- on the side of sectors

pub items_stay : (server durable : ℕ) (deeds : List Deed) → items (what_stays server durable deeds) ≡ kept (survives server durable) (items deeds)
items_stay server durable [] = refl
items_stay server durable (Does c e ∷ older) = go (survives server durable c) (items_stay server durable older)
  where
    go : (b : Bool) → items (what_stays server durable older) ≡ kept (survives server durable) (items older) →
        items (keep_if b (Does c e) (what_stays server durable older)) ≡ keep_if b (Done c) (kept (survives server durable) (items older))
    go true same = ap (λ l. Done c ∷ l) same
    go false same = same
items_stay server durable (Says e ∷ older) = go (not (e.server.0 == server && has_lost server durable older)) (items_stay server durable older)
  where
    go : (b : Bool) → items (what_stays server durable older) ≡ kept (survives server durable) (items older) →
        items (keep_if b (Says e) (what_stays server durable older)) ≡ kept (survives server durable) (items older)
    go true same = same
    go false same = same
items_stay server durable (Doubts marked runs ∷ older) = ap (λ l. Doubt marked ∷ l) (items_stay server durable older)

-- ---- on the side of the tree

and_first : (a b : Bool) → a && b ≡ true → a ≡ true
and_first true b e = refl
and_first false b e = e

and_second : (a b : Bool) → a && b ≡ true → b ≡ true
and_second true b e = e
and_second false b e = absurd (cc)

module _ (server greatest durable : ℕ) (first : FileTree) where
  -- What is asked of each deed at its place: of an operation its entry has its server and number, mounts nothing, and has a record exactly where the operation
  -- has; an entry alone has none; and a mount of the server comes after no operation of it above the number.
  abbrev pub AllAsked : List Deed → Type 0
  AllAsked [] = Unit {0}
  AllAsked (Does c e ∷ older) =
      (e.server.0 ≡ c.by) × (e.number.0 ≡ c.op) × (is_mounted e.reply ≡ false) × ((c.changes ≡ []) ↔ (is_recorded (tree_after first older) e ≡ false)) × AllAsked older
  AllAsked (Says e ∷ older) =
      (is_recorded (tree_after first older) e ≡ false) × (is_mounted e.reply ≡ true → e.server.0 ≡ server → Each (λ c. c.by ≡ server → c.op ≤ durable) (items older)) × AllAsked older
  AllAsked (Doubts marked runs ∷ older) = AllAsked older

  -- ---- operations above the number

  pub own_above : (c : Commit) → is_own server durable c ≡ true → (c.by ≡ server) × (durable < c.op)
  own_above c own = go (nat_eq c.by server) refl own
    where
      go : (b : Bool) → nat_eq c.by server ≡ b → (if b then nat_lt durable c.op else false) ≡ true → (c.by ≡ server) × (durable < c.op)
      go true same above = (eqb-true c.by server same, grind (arith, nat_tests))
      go false same above = absurd (cc)

  none_above : (deeds : List Deed) → has_lost server durable deeds ≡ false → Each (λ c. c.by ≡ server → c.op ≤ durable) (items deeds)
  none_above [] none = tt
  none_above (Does c e ∷ older) none = go (is_own server durable c) refl none (λ n. none_above older n)
    where
      low : is_own server durable c ≡ false → c.by ≡ server → c.op ≤ durable
      low own same =
          let test : nat_lt durable c.op ≡ false = sym (ap (λ (b : Bool). if b then nat_lt durable c.op else false) (eq-eqb c.by server same)) ∙ own in
          grind (arith, nat_tests)

      go : (b : Bool) → is_own server durable c ≡ b → b || has_lost server durable older ≡ false →
          (has_lost server durable older ≡ false → Each (λ c. c.by ≡ server → c.op ≤ durable) (items older)) →
          Each (λ c. c.by ≡ server → c.op ≤ durable) (Done c ∷ items older)
      go true own e rest = absurd (cc)
      go false own e rest = (low own, rest e)
  none_above (Says e ∷ older) none = none_above older none
  none_above (Doubts marked runs ∷ older) none = none_above older none

  -- one that is there isn't below the number
  pub some_above : (deeds : List Deed) → has_lost server durable deeds ≡ true → Each (λ c. c.by ≡ server → c.op ≤ durable) (items deeds) → ⊥
  some_above [] some low = cc
  some_above (Does c e ∷ older) some low = go (is_own server durable c) refl some (λ n. some_above older n low.1)
    where
      go : (b : Bool) → is_own server durable c ≡ b → b || has_lost server durable older ≡ true → (has_lost server durable older ≡ true → ⊥) → ⊥
      go true own e rest = let p = own_above c own in let l : c.op ≤ durable = low.0 p.0 in omega arith
      go false own e rest = rest e
  some_above (Says e ∷ older) some low = some_above older some low
  some_above (Doubts marked runs ∷ older) some low = some_above older some low

  -- an operation of the server that comes after one above the number is above it
  pub above_too : (c : Commit) (deeds : List Deed) → has_lost server durable deeds ≡ true → Each (λ other. other.by ≡ c.by → other.op < c.op) (items deeds) → c.by ≡ server → durable < c.op
  above_too c [] some rise same = absurd (cc)
  above_too c (Does d e ∷ older) some rise same = go (is_own server durable d) refl some (λ n. above_too c older n rise.1 same)
    where
      go : (b : Bool) → is_own server durable d ≡ b → b || has_lost server durable older ≡ true → (has_lost server durable older ≡ true → durable < c.op) → durable < c.op
      go true own e rest = let p = own_above d own in let l : d.op < c.op = rise.0 (p.0 ∙ sym same) in let m : durable < d.op = p.1 in omega arith
      go false own e rest = rest e
  above_too c (Says e ∷ older) some rise same = above_too c older some rise same
  above_too c (Doubts marked runs ∷ older) some rise same = above_too c older some rise same

  -- ---- one deed more

  abbrev StaysAlike : List Deed → Type 0
  StaysAlike deeds = (is_cut server greatest first (steps deeds) ≡ has_lost server durable deeds) × (left server greatest first (steps deeds) ≡ steps (what_stays server durable deeds))

  steps_keep : (b : Bool) (deed : Deed) (rest : List Deed) → steps (keep_if b deed rest) ≡ (if b then steps rest ++ step_of deed ∷ [] else steps rest)
  steps_keep true deed rest = refl
  steps_keep false deed rest = refl

  append_if : (b : Bool) (list : List Settled) (s : Settled) → list ++ (if b then s ∷ [] else []) ≡ (if b then list ++ s ∷ [] else list)
  append_if true list s = refl
  append_if false list s = append-nil list

  module _ (deed : Deed) (older : List Deed) (before : StaysAlike older) (stays : Bool)
      (kept_is : what_stays server durable (deed ∷ older) ≡ keep_if stays deed (what_stays server durable older)) where
    -- behind an operation that is lost
    behind : has_lost server durable older ≡ true → has_lost server durable (deed ∷ older) ≡ true → mounts server (step_of deed) ≡ false →
        others server greatest (step_of deed ∷ []) ≡ (if stays then step_of deed ∷ [] else []) → StaysAlike (deed ∷ older)
    behind lost lost_then none other =
        let r = cut_after server greatest first (steps older) (step_of deed) (before.0 ∙ lost) none in (
          r.cut ∙ sym lost_then,
          r.leaves ∙ ap (λ l. l ++ others server greatest (step_of deed ∷ [])) before.1 ∙ ap (λ l. steps (what_stays server durable older) ++ l) other
              ∙ append_if stays (steps (what_stays server durable older)) (step_of deed) ∙ sym (steps_keep stays deed (what_stays server durable older)) ∙ sym (ap steps kept_is),
        )

    -- before any
    ahead : has_lost server durable older ≡ false → has_lost server durable (deed ∷ older) ≡ not stays →
        is_lost server greatest (tree_after first older) (step_of deed) ≡ not stays → StaysAlike (deed ∷ older)
    ahead none lost_then lost =
        let cut : is_cut server greatest first (steps older) ≡ false = before.0 ∙ none in
        let r = whole_up_to server greatest first (steps older) (step_of deed) (not stays) cut lost in
        let same : steps older ≡ steps (what_stays server durable older) = sym (whole server greatest first (steps older) cut) ∙ before.1 in (
          r.cut ∙ sym lost_then,
          r.leaves ∙ unflip stays ∙ ap (λ l. if stays then l ++ step_of deed ∷ [] else l) same ∙ sym (steps_keep stays deed (what_stays server durable older)) ∙ sym (ap steps kept_is),
        )
      where
        unflip : (b : Bool) → (if not b then steps older else steps older ++ step_of deed ∷ []) ≡ (if b then steps older ++ step_of deed ∷ [] else steps older)
        unflip true = refl
        unflip false = refl

  -- ---- an operation

  own_flips : (c : Commit) → is_own server durable c ≡ not (survives server durable c)
  own_flips c = go (nat_eq c.by server)
    where
      flips : nat_lt durable c.op ≡ not (nat_le c.op durable)
      flips = grind (arith, nat_tests)

      go : (b : Bool) → (if b then nat_lt durable c.op else false) ≡ not (if b then nat_le c.op durable else true)
      go true = flips
      go false = refl

  module _ (c : Commit) (e : Entry) (older : List Deed) (told : AllAsked (Does c e ∷ older)) (rises : OpsRise (Done c ∷ items older)) (within : greatest ≤ durable)
      (records : c.by ≡ server → c.op ≤ durable → c.changes ≢ [] → c.op ≤ greatest)
      (begins : c.by ≡ server → durable < c.op → Each (λ other. other.by ≡ server → other.op ≤ durable) (items older) → c.changes ≢ []) (before : StaysAlike older) where
    some_record : c.changes ≢ [] → is_recorded (tree_after first older) e ≡ true
    some_record some = go (is_recorded (tree_after first older) e) refl
      where
        go : (b : Bool) → is_recorded (tree_after first older) e ≡ b → is_recorded (tree_after first older) e ≡ true
        go true is = is
        go false is = absurd (some (told.3.1 is))

    no_record : (c.changes ≢ [] → ⊥) → is_recorded (tree_after first older) e ≡ false
    no_record none = go c.changes refl
      where
        go : (changes : List Change) → c.changes ≡ changes → is_recorded (tree_after first older) e ≡ false
        go [] is = told.3.0 is
        go (x ∷ changes) is = absurd (none (λ z. let w : x ∷ changes ≡ [] = sym is ∙ z in cc))

    survives_is : has_lost server durable older ≡ true → others server greatest (Stays e ∷ []) ≡ (if survives server durable c then Stays e ∷ [] else [])
    survives_is lost = ap (λ d. if not (nat_eq d server) then Stays e ∷ [] else []) told.0 ∙ ap (λ (b : Bool). if b then Stays e ∷ [] else []) (go (nat_eq c.by server) refl)
      where
        go : (b : Bool) → nat_eq c.by server ≡ b → not b ≡ (if b then nat_le c.op durable else true)
        go true same = let above : durable < c.op = above_too c older lost rises.0 (eqb-true c.by server same) in grind (arith, nat_tests)
        go false same = refl

    -- where none was lost before, it is lost exactly where it is above the number
    lost_is : has_lost server durable older ≡ false → is_lost server greatest (tree_after first older) (Stays e) ≡ is_own server durable c
    lost_is none =
        ap (λ d. nat_eq d server && nat_lt greatest e.number.0 && is_recorded (tree_after first older) e) told.0
        ∙ ap (λ n. nat_eq c.by server && nat_lt greatest n && is_recorded (tree_after first older) e) told.1 ∙ by_server (nat_eq c.by server) refl
      where
        by_number : c.by ≡ server → (b : Bool) → nat_lt durable c.op ≡ b → nat_lt greatest c.op && is_recorded (tree_after first older) e ≡ b
        by_number same true above =
            let over : durable < c.op = grind (arith, nat_tests) in
            let past : nat_lt greatest c.op ≡ true = lt-ltb greatest c.op (omega arith) in
            ap (λ b. b && is_recorded (tree_after first older) e) past ∙ some_record (begins same over (none_above older none))
        by_number same false above = go (nat_lt greatest c.op) refl
          where
            low : c.op ≤ durable
            low = grind (arith, nat_tests)

            go : (b : Bool) → nat_lt greatest c.op ≡ b → b && is_recorded (tree_after first older) e ≡ false
            go true past = let over : greatest < c.op = grind (arith, nat_tests) in no_record (λ some. let l : c.op ≤ greatest = records same low some in omega arith)
            go false past = refl

        by_server : (b : Bool) → nat_eq c.by server ≡ b → b && nat_lt greatest c.op && is_recorded (tree_after first older) e ≡ (if b then nat_lt durable c.op else false)
        by_server true same = by_number (eqb-true c.by server same) (nat_lt durable c.op) refl
        by_server false same = refl

    acts : StaysAlike (Does c e ∷ older)
    acts = go (has_lost server durable older) refl
      where
        go : (b : Bool) → has_lost server durable older ≡ b → StaysAlike (Does c e ∷ older)
        go true lost =
            behind (Does c e) older before (survives server durable c) refl lost (ap (λ b. is_own server durable c || b) lost ∙ or-true (is_own server durable c))
            (and_right (e.server.0 == server) (is_mounted e.reply) told.2) (survives_is lost)
        go false none =
            ahead (Does c e) older before (survives server durable c) refl none (ap (λ b. is_own server durable c || b) none ∙ or-false (is_own server durable c) ∙ own_flips c)
            (lost_is none ∙ own_flips c)

  -- ---- an entry alone

  module _ (e : Entry) (older : List Deed) (told : AllAsked (Says e ∷ older)) (before : StaysAlike older) where
    mounts_none : has_lost server durable older ≡ true → mounts server (Stays e) ≡ false
    mounts_none lost = go (e.server.0 == server) refl (is_mounted e.reply) refl
      where
        go : (own : Bool) → e.server.0 == server ≡ own → (mounted : Bool) → is_mounted e.reply ≡ mounted → own && mounted ≡ false
        go true same true is = absurd (some_above older lost (told.1 is (eqb-true e.server.0 server same)))
        go true same false is = refl
        go false same mounted is = refl

    speaks : StaysAlike (Says e ∷ older)
    speaks = go (has_lost server durable older) refl
      where
        go : (b : Bool) → has_lost server durable older ≡ b → StaysAlike (Says e ∷ older)
        go true lost =
            behind (Says e) older before (not (e.server.0 == server))
            (ap (λ b. keep_if (not b) (Says e) (what_stays server durable older)) (ap (λ b. e.server.0 == server && b) lost ∙ and-true (e.server.0 == server)))
            lost lost (mounts_none lost) refl
        go false none =
            ahead (Says e) older before true
            (ap (λ b. keep_if (not b) (Says e) (what_stays server durable older)) (ap (λ b. e.server.0 == server && b) none ∙ and-false (e.server.0 == server)))
            none none (ap (λ b. e.server.0 == server && nat_lt greatest e.number.0 && b) told.0 ∙ and-false (e.server.0 == server && nat_lt greatest e.number.0))

  -- ---- a mount of the server, behind which nothing is lost

  module _ (e : Entry) (older : List Deed) (told : AllAsked (Says e ∷ older)) (is : mounts server (Stays e) ≡ true) where
    none : has_lost server durable older ≡ false
    none = go (has_lost server durable older) refl
      where
        own : e.server.0 ≡ server
        own = eqb-true e.server.0 server (and_first (e.server.0 == server) (is_mounted e.reply) is)

        go : (b : Bool) → has_lost server durable older ≡ b → has_lost server durable older ≡ false
        go false lost = lost
        go true lost = absurd (some_above older lost (told.1 (and_second (e.server.0 == server) (is_mounted e.reply) is) own))

    stay_all : (deeds : List Deed) → has_lost server durable deeds ≡ false → what_stays server durable deeds ≡ deeds
    stay_all [] lost = refl
    stay_all (Does c d ∷ rest) lost =
        let p = or_parts (is_own server durable c) (has_lost server durable rest) lost in
        ap (λ b. keep_if b (Does c d) (what_stays server durable rest)) (flip (survives server durable c) (sym (own_flips c) ∙ p.0)) ∙ ap (λ l. Does c d ∷ l) (stay_all rest p.1)
      where
        flip : (b : Bool) → not b ≡ false → b ≡ true
        flip true e = refl
        flip false e = absurd (cc)
    stay_all (Says d ∷ rest) lost =
        ap (λ b. keep_if (not b) (Says d) (what_stays server durable rest)) (ap (λ b. d.server.0 == server && b) lost ∙ and-false (d.server.0 == server)) ∙ ap (λ l. Says d ∷ l) (stay_all rest lost)
    stay_all (Doubts marked runs ∷ rest) lost = ap (λ l. Doubts marked runs ∷ l) (stay_all rest lost)

    mounted : StaysAlike (Says e ∷ older)
    mounted =
        let cut : is_cut server greatest first (steps (Says e ∷ older)) ≡ false =
        mounted_whole server greatest first (steps older) (Stays e) is
        (ap (λ b. e.server.0 == server && nat_lt greatest e.number.0 && b) told.0 ∙ and-false (e.server.0 == server && nat_lt greatest e.number.0)) in (
          cut ∙ sym none,
          whole server greatest first (steps (Says e ∷ older)) cut ∙ sym (ap steps (stay_all (Says e ∷ older) none)),
        )

  -- ---- the end of a recovery

  module _ (marked : ℕ → Bool) (runs : List CellRun) (older : List Deed) (before : StaysAlike older) where
    doubts : StaysAlike (Doubts marked runs ∷ older)
    doubts = go (has_lost server durable older) refl
      where
        go : (b : Bool) → has_lost server durable older ≡ b → StaysAlike (Doubts marked runs ∷ older)
        go true lost = behind (Doubts marked runs) older before true refl lost lost refl refl
        go false none = ahead (Doubts marked runs) older before true refl none none refl

  -- ---- all of them

  pub stay_alike : (deeds : List Deed) → AllAsked deeds → OpsRise (items deeds) → greatest ≤ durable → AreKeptSinceMount server greatest durable deeds →
      BeginsWithARecord server durable (items deeds) → StaysAlike deeds
  stay_alike [] told rises within records begins = (refl, refl)
  stay_alike (Does c e ∷ older) told rises within records begins =
      acts c e older told rises within records.0 begins.0 (stay_alike older told.4 rises.1 within records.1 begins.1)
  stay_alike (Says e ∷ older) told rises within records begins = go (mounts server (Stays e)) refl (λ kept. stay_alike older told.2 rises within kept begins)
    where
      go : (b : Bool) → mounts server (Stays e) ≡ b → (AreKeptSinceMount server greatest durable older → StaysAlike older) → StaysAlike (Says e ∷ older)
      go true is before = mounted e older told is
      go false is before = speaks e older told (before (records is))
  stay_alike (Doubts marked runs ∷ older) told rises within records begins = doubts marked runs older (stay_alike older told rises within records begins)
