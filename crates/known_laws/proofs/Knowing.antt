-- What must be kept stays kept with one step more, which tells nothing of what a recovery removes: of what is seen, of what is synced, and from where the removal begins.
use Rattle.std.proofs.Common.{ℕ, ◌≡◌, ◌==◌, Bool, true, false, not, ◌&&◌, ◌||◌, if◌then◌else◌, List, [], ◌∷◌, ◌++◌, refl, ◌∙◌, ap, subst}
use Rattle.std.specs.List.{list_any}
use Rattle.std.proofs.lemmas.Bool.{and_parts, eqb-true, or_parts}
use Rattle.std.proofs.lemmas.List.Folds.{list_any-append}
use mathlib.Core.Bool.{and-false, and-true, or-false, or-true}
use Rattle.tree_definitions.specs.declared.history.Entry.{Entry}
use Rattle.tree_definitions.specs.History.{Settled, Stays, InDoubt, after, after_all}
use Rattle.tree_definitions.specs.Removal.{begins_removal, is_lost, keeps_known, mounts, none_known}
use Rattle.tree_definitions.specs.Touched.{changed, changes_room, is_mounted, is_nospace, is_ok, is_seen, is_stall, is_sync, is_synced, is_unmount, refused_later, stalled_after, touched_later, touches}
use Rattle.tree_definitions.specs.Tree.{FileTree}
use Rattle.tree_laws.specs.Syncing.{stalled_along}
use Rattle.known_laws.specs.Knowing.{KnownStays, are_hidden, are_hidden_from_cut, is_foreign, is_hidden, is_refused, makes_sure, removes_some, step_touches}

-- ---- where a removal begins

-- a step that doesn't mount the server doesn't change it
pub begins_alike : (server keeps : ℕ) (t : FileTree) (x : Settled) (rest : List Settled) (s : Settled) → mounts server s ≡ false →
    begins_removal server keeps t x (rest ++ s ∷ []) ≡ begins_removal server keeps t x rest
begins_alike server keeps t x rest s none =
    ap (λ b. is_lost server keeps t x && not b)
    (list_any-append (mounts server) rest (s ∷ []) ∙ ap (λ b. list_any (mounts server) rest || (b || false)) none ∙ or-false (list_any (mounts server) rest))

-- behind one that does nothing is removed
pub begins_never : (server keeps : ℕ) (t : FileTree) (x : Settled) (rest : List Settled) (s : Settled) → mounts server s ≡ true → begins_removal server keeps t x (rest ++ s ∷ []) ≡ false
begins_never server keeps t x rest s is =
    ap (λ b. is_lost server keeps t x && not b)
    (list_any-append (mounts server) rest (s ∷ []) ∙ ap (λ b. list_any (mounts server) rest || (b || false)) is ∙ or-true (list_any (mounts server) rest))
    ∙ and-false (is_lost server keeps t x)

-- ---- tests

or_three : (a b c : Bool) → a || (b || c) ≡ (a || b) || c
or_three true b c = refl
or_three false b c = refl

unseen_by : (a f p c r n : Bool) → a || (c && r) ≡ false → not (f && (p || (c && n))) ≡ true → (a || (f && p)) || (c && (r || (f && n))) ≡ false
unseen_by true f p c r n e h = absurd (cc)
unseen_by false false p false r n e h = refl
unseen_by false false p true true n e h = absurd (cc)
unseen_by false false p true false n e h = refl
unseen_by false true true c r n e h = absurd (cc)
unseen_by false true false false r n e h = refl
unseen_by false true false true true n e h = absurd (cc)
unseen_by false true false true false true e h = absurd (cc)
unseen_by false true false true false false e h = refl

last_of : (x y z : Bool) → x || y || z ≡ false → z ≡ false
last_of true y z e = absurd (cc)
last_of false true z e = absurd (cc)
last_of false false z e = e

last_for : (x y z w : Bool) → x || y || z ≡ false → w ≡ false → x || y || w ≡ false
last_for true y z w e f = absurd (cc)
last_for false true z w e f = absurd (cc)
last_for false false z w e f = f

not_false : (b : Bool) → not b ≡ true → b ≡ false
not_false false e = refl
not_false true e = absurd (cc)

-- ---- one step more, of what is seen

touched_more : (server : ℕ) (nodes : List ℕ) (t : FileTree) (rest : List Settled) (s : Settled) →
    touched_later server nodes t (rest ++ s ∷ []) ≡ touched_later server nodes t rest || (is_foreign server s && list_any (step_touches (after_all t rest) s) nodes)
touched_more server nodes t [] (Stays e) = or-false (not (e.server.0 == server) && list_any (touches t e) nodes)
touched_more server nodes t [] (InDoubt runs) = refl
touched_more server nodes t (Stays e ∷ rest) s =
    let here : Bool = not (e.server.0 == server) && list_any (touches t e) nodes in
    ap (λ b. here || b) (touched_more server nodes (after t (Stays e)) rest s)
    ∙ or_three here (touched_later server nodes (after t (Stays e)) rest) (is_foreign server s && list_any (step_touches (after_all (after t (Stays e)) rest) s) nodes)
touched_more server nodes t (InDoubt runs ∷ rest) s = touched_more server nodes (after t (InDoubt runs)) rest s

refused_more : (server : ℕ) (rest : List Settled) (s : Settled) → refused_later server (rest ++ s ∷ []) ≡ refused_later server rest || (is_foreign server s && is_refused s)
refused_more server [] (Stays e) = or-false (not (e.server.0 == server) && is_nospace e.reply)
refused_more server [] (InDoubt runs) = refl
refused_more server (Stays e ∷ rest) s =
    let here : Bool = not (e.server.0 == server) && is_nospace e.reply in
    ap (λ b. here || b) (refused_more server rest s) ∙ or_three here (refused_later server rest) (is_foreign server s && is_refused s)
refused_more server (InDoubt runs ∷ rest) s = refused_more server rest s

unseen_more : (server : ℕ) (t : FileTree) (e : Entry) (rest : List Settled) (s : Settled) → e.server.0 ≡ server → is_seen t e rest ≡ false →
    not (is_foreign server s && (list_any (step_touches (after_all (after t (Stays e)) rest) s) (changed t e) || (changes_room t e && is_refused s))) ≡ true → is_seen t e (rest ++ s ∷ []) ≡ false
unseen_more server t e rest s own unseen hidden =
    let last : FileTree = after_all (after t (Stays e)) rest in
    let a : Bool = touched_later e.server.0 (changed t e) (after t (Stays e)) rest in
    let f : Bool = is_foreign e.server.0 s in
    let p : Bool = list_any (step_touches last s) (changed t e) in
    ap (λ b. b || (changes_room t e && refused_later e.server.0 (rest ++ s ∷ []))) (touched_more e.server.0 (changed t e) (after t (Stays e)) rest s)
    ∙ ap (λ b. (a || (f && p)) || (changes_room t e && b)) (refused_more e.server.0 rest s)
    ∙ unseen_by a f p (changes_room t e) (refused_later e.server.0 rest) (is_refused s) unseen
    (ap (λ n. not (is_foreign n s && (p || (changes_room t e && is_refused s)))) own ∙ hidden)

-- ---- of what is synced

module _ (server : ℕ) where
  synced_here : (own mounted x y : Bool) → own && (x || y) ≡ false → (if not own then false else (if mounted then false else (x || y || false))) ≡ false
  synced_here false mounted x y e = refl
  synced_here true true x y e = refl
  synced_here true false true y e = absurd (cc)
  synced_here true false false true e = absurd (cc)
  synced_here true false false false e = refl

  abbrev Test : Bool → Entry → Bool → Bool → List Settled → Bool
  Test st e own mounted l =
      if not own then is_synced server st l
      else (if mounted then false else ((is_sync e.op && is_ok e.reply) || (is_unmount e.op && is_ok e.reply && not st) || is_synced server (stalled_after server st (Stays e)) l))

  synced_more : (st : Bool) (rest : List Settled) (s : Settled) → list_any (mounts server) rest ≡ false → is_synced server st rest ≡ false →
      makes_sure server (stalled_along server st rest) s ≡ false → is_synced server st (rest ++ s ∷ []) ≡ false
  synced_more st [] (InDoubt runs) none unsynced unsure = refl
  synced_more st [] (Stays e) none unsynced unsure =
      synced_here (e.server.0 == server) (is_mounted e.reply) (is_sync e.op && is_ok e.reply) (is_unmount e.op && is_ok e.reply && not st) unsure
  synced_more st (InDoubt runs ∷ rest) s none unsynced unsure = synced_more st rest s none unsynced unsure
  synced_more st (Stays e ∷ rest) s none unsynced unsure =
      let p = or_parts (e.server.0 == server && is_mounted e.reply) (list_any (mounts server) rest) none in
      go (e.server.0 == server) refl (is_mounted e.reply) refl p.0 unsynced (λ k u v. synced_more k rest s p.1 u v)
    where
      go : (own : Bool) → e.server.0 == server ≡ own → (mounted : Bool) → is_mounted e.reply ≡ mounted → own && mounted ≡ false → Test st e own mounted rest ≡ false →
          ((k : Bool) → is_synced server k rest ≡ false → makes_sure server (stalled_along server k rest) s ≡ false → is_synced server k (rest ++ s ∷ []) ≡ false) →
          Test st e (e.server.0 == server) (is_mounted e.reply) (rest ++ s ∷ []) ≡ false
      go false is mounted m both un later =
          ap (λ o. Test st e o (is_mounted e.reply) (rest ++ s ∷ [])) is
          ∙ later st un
          (subst (λ k. makes_sure server (stalled_along server k rest) s ≡ false)
          (ap (λ (o : Bool). if not o then st else (if is_mounted e.reply then false else (st || (is_stall e.op && is_ok e.reply)))) is) unsure)
      go true is true m both un later = absurd (cc)
      go true is false m both un later =
          ap (λ o. Test st e o (is_mounted e.reply) (rest ++ s ∷ [])) is ∙ ap (λ o. Test st e true o (rest ++ s ∷ [])) m
          ∙ last_for (is_sync e.op && is_ok e.reply) (is_unmount e.op && is_ok e.reply && not st) (is_synced server (stalled_after server st (Stays e)) rest)
          (is_synced server (stalled_after server st (Stays e)) (rest ++ s ∷ [])) un
          (later (stalled_after server st (Stays e))
          (last_of (is_sync e.op && is_ok e.reply) (is_unmount e.op && is_ok e.reply && not st) (is_synced server (stalled_after server st (Stays e)) rest) un) unsure)

  -- ---- of what is known

  none_alone : (st : Bool) (t : FileTree) (s : Settled) → none_known server st t (s ∷ []) ≡ true
  none_alone st t (InDoubt runs) = refl
  none_alone st t (Stays e) =
      ap (λ b. (not (e.server.0 == server) || (not b && true)) && true) (and-false (changes_room t e)) ∙ and-true (not (e.server.0 == server) || true) ∙ go (not (e.server.0 == server))
    where
      go : (b : Bool) → b || true ≡ true
      go true = refl
      go false = refl

  -- no mount behind the first
  abbrev Tail : List Settled → Type 0
  Tail [] = Unit {0}
  Tail (x ∷ rest) = list_any (mounts server) rest ≡ false

  tail_of : (rest : List Settled) → list_any (mounts server) rest ≡ false → Tail rest
  tail_of [] none = tt
  tail_of (x ∷ rest) none = (or_parts (mounts server x) (list_any (mounts server) rest) none).1

  none_more : (st : Bool) (t : FileTree) (list : List Settled) (s : Settled) → Tail list → none_known server st t list ≡ true → are_hidden server (after_all t list) s t list ≡ true →
      makes_sure server (stalled_along server st list) s ≡ false → none_known server st t (list ++ s ∷ []) ≡ true
  none_more st t [] s tail known hidden unsure = none_alone st t s
  none_more st t (InDoubt runs ∷ rest) s tail known hidden unsure = none_more st (after t (InDoubt runs)) rest s (tail_of rest tail) known hidden unsure
  none_more st t (Stays e ∷ rest) s tail known hidden unsure =
      let now : Bool = stalled_after server st (Stays e) in
      let k = and_parts (not (e.server.0 == server) || (not (is_seen t e rest) && not (is_synced server now rest))) (none_known server now (after t (Stays e)) rest) known in
      let h = and_parts (is_hidden server (after_all (after t (Stays e)) rest) s t (Stays e)) (are_hidden server (after_all (after t (Stays e)) rest) s (after t (Stays e)) rest) hidden in
      ap (λ b. b && none_known server now (after t (Stays e)) (rest ++ s ∷ [])) (go (e.server.0 == server) refl k.0 h.0)
      ∙ none_more now (after t (Stays e)) rest s (tail_of rest tail) k.1 h.1 unsure
    where
      go : (own : Bool) → e.server.0 == server ≡ own → not own || (not (is_seen t e rest) && not (is_synced server (stalled_after server st (Stays e)) rest)) ≡ true →
          not own || not (is_foreign server s && (list_any (step_touches (after_all (after t (Stays e)) rest) s) (changed t e) || (changes_room t e && is_refused s))) ≡ true →
          not (e.server.0 == server) || (not (is_seen t e (rest ++ s ∷ [])) && not (is_synced server (stalled_after server st (Stays e)) (rest ++ s ∷ []))) ≡ true
      go false is k h = ap (λ o. not o || (not (is_seen t e (rest ++ s ∷ [])) && not (is_synced server (stalled_after server st (Stays e)) (rest ++ s ∷ [])))) is
      go true is k h =
          let p = and_parts (not (is_seen t e rest)) (not (is_synced server (stalled_after server st (Stays e)) rest)) k in
          ap (λ o. not o || (not (is_seen t e (rest ++ s ∷ [])) && not (is_synced server (stalled_after server st (Stays e)) (rest ++ s ∷ [])))) is
          ∙ ap (λ b. not b && not (is_synced server (stalled_after server st (Stays e)) (rest ++ s ∷ [])))
          (unseen_more server t e rest s (eqb-true e.server.0 server is) (not_false (is_seen t e rest) p.0) h)
          ∙ ap not (synced_more (stalled_after server st (Stays e)) rest s tail (not_false (is_synced server (stalled_after server st (Stays e)) rest) p.1) unsure)

  -- ---- of what a recovery keeps

  module _ (keeps : ℕ) where
    -- behind a mount nothing is removed
    pub mounted_known : (st : Bool) (t : FileTree) (list : List Settled) (s : Settled) → mounts server s ≡ true → keeps_known server keeps st t (list ++ s ∷ []) ≡ true
    mounted_known st t [] s is = go (begins_removal server keeps t s [])
      where
        go : (b : Bool) → (if b then none_known server st t (s ∷ []) else true) ≡ true
        go true = none_alone st t s
        go false = refl
    mounted_known st t (x ∷ rest) s is =
        ap (λ (b : Bool). if b then none_known server st t (x ∷ (rest ++ s ∷ [])) else keeps_known server keeps (stalled_after server st x) (after t x) (rest ++ s ∷ []))
        (begins_never server keeps t x rest s is)
        ∙ mounted_known (stalled_after server st x) (after t x) rest s is

    abbrev Tells : Bool → FileTree → List Settled → Settled → Type 0
    Tells st t list s =
        (are_hidden_from_cut server keeps (after_all t list) s t list ≡ true) × (makes_sure server (stalled_along server st list) s ≡ false)

    unmounted : (st : Bool) (t : FileTree) (list : List Settled) (s : Settled) → mounts server s ≡ false → keeps_known server keeps st t list ≡ true →
        (removes_some server keeps t list ≡ true → Tells st t list s) → keeps_known server keeps st t (list ++ s ∷ []) ≡ true
    unmounted st t [] s none known tells = go (begins_removal server keeps t s [])
      where
        go : (b : Bool) → (if b then none_known server st t (s ∷ []) else true) ≡ true
        go true = none_alone st t s
        go false = refl
    unmounted st t (x ∷ rest) s none known tells =
        ap (λ (b : Bool). if b then none_known server st t (x ∷ (rest ++ s ∷ [])) else keeps_known server keeps (stalled_after server st x) (after t x) (rest ++ s ∷ []))
        (begins_alike server keeps t x rest s none)
        ∙ go (begins_removal server keeps t x rest) refl known tells (λ k later. unmounted (stalled_after server st x) (after t x) rest s none k later)
      where
        quiet : begins_removal server keeps t x rest ≡ true → list_any (mounts server) rest ≡ false
        quiet is = not_false (list_any (mounts server) rest) (and_parts (is_lost server keeps t x) (not (list_any (mounts server) rest)) is).1

        go : (b : Bool) → begins_removal server keeps t x rest ≡ b →
            (if b then none_known server st t (x ∷ rest) else keeps_known server keeps (stalled_after server st x) (after t x) rest) ≡ true →
            (b || removes_some server keeps (after t x) rest ≡ true →
            ((if b then are_hidden server (after_all (after t x) rest) s t (x ∷ rest) else are_hidden_from_cut server keeps (after_all (after t x) rest) s (after t x) rest) ≡ true)
            × (makes_sure server (stalled_along server (stalled_after server st x) rest) s ≡ false)) →
            (keeps_known server keeps (stalled_after server st x) (after t x) rest ≡ true →
            (removes_some server keeps (after t x) rest ≡ true → Tells (stalled_after server st x) (after t x) rest s) →
            keeps_known server keeps (stalled_after server st x) (after t x) (rest ++ s ∷ []) ≡ true) →
            (if b then none_known server st t (x ∷ (rest ++ s ∷ [])) else keeps_known server keeps (stalled_after server st x) (after t x) (rest ++ s ∷ [])) ≡ true
        go true is k tell later = let w = tell refl in none_more st t (x ∷ rest) s (quiet is) k w.0 w.1
        go false is k tell later = later k tell

pub known_stays : KnownStays
known_stays server keeps tree list s known tells = go (mounts server s) refl
  where
    go : (b : Bool) → mounts server s ≡ b → keeps_known server keeps false tree (list ++ s ∷ []) ≡ true
    go true is = mounted_known server keeps false tree list s is
    go false is = unmounted server keeps false tree list s is known (λ some. let t = tells some is in (t.hidden, t.unsure))
