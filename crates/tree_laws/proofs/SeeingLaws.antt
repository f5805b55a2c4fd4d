-- An entry is seen exactly where a later entry of another server touched what it changed, or was refused for its room.
use Rattle.std.proofs.Common.{ℕ, ◌≡◌, ◌==◌, true, false, not, ◌&&◌, inl, inr, ◌⊎◌, List, [], ◌∷◌, ◌++◌, refl, sym, ap, subst}
use Rattle.std.specs.List.{list_any}
use Rattle.std.proofs.lemmas.Bool.{and_parts, and_from, or_cases, or_left, or_right, not-true, not_from_false}
use Rattle.tree_definitions.specs.declared.history.Entry.{Entry}
use Rattle.tree_definitions.specs.Tree.{FileTree, node_at}
use Rattle.tree_definitions.specs.History.{Settled, Stays, InDoubt, applied, after, after_all}
use Rattle.tree_definitions.specs.Touched.{touches, changed, changes_room, other_room, is_nospace, touched_later, refused_later}
use Rattle.tree_laws.specs.Seeing.{SeenByATouch, SeenByARefusal, HasAWitness, SeenHasAWitness, AWitnessHasSeen}
use Rattle.tree_laws.proofs.Changed.{any_changed, one_changed}

module _ (server : ℕ) where
  -- a later entry of another server that touches one of these nodes
  record Touch (nodes : List ℕ) (tree : FileTree) (list : List Settled) : Type 0 where
    pub before : List Settled
    pub other : Entry
    pub later : List Settled
    pub splits : list ≡ before ++ Stays other ∷ later
    pub foreign : other.server.0 == server ≡ false
    pub touched : list_any (touches (after_all tree before) other) nodes ≡ true

  touch_on : (nodes : List ℕ) (tree : FileTree) (s : Settled) (rest : List Settled) → Touch nodes (after tree s) rest → Touch nodes tree (s ∷ rest)
  touch_on nodes tree s rest t = record { before = s ∷ t.before; other = t.other; later = t.later; splits = ap (λ l. s ∷ l) t.splits; foreign = t.foreign; touched = t.touched }

  touched_has : (nodes : List ℕ) (tree : FileTree) (list : List Settled) → touched_later server nodes tree list ≡ true → Touch nodes tree list
  touched_has nodes tree [] h = absurd (cc)
  touched_has nodes tree (InDoubt runs ∷ rest) h = touch_on nodes tree (InDoubt runs) rest (touched_has nodes (after tree (InDoubt runs)) rest h)
  touched_has nodes tree (Stays e ∷ rest) h = go (or_cases (not (e.server.0 == server) && list_any (touches tree e) nodes) (touched_later server nodes (after tree (Stays e)) rest) h) (λ i. touched_has nodes (after tree (Stays e)) rest i)
    where
      go : (not (e.server.0 == server) && list_any (touches tree e) nodes ≡ true) ⊎ (touched_later server nodes (after tree (Stays e)) rest ≡ true) → (touched_later server nodes (after tree (Stays e)) rest ≡ true → Touch nodes (after tree (Stays e)) rest) → Touch nodes tree (Stays e ∷ rest)
      go (inl i) later =
          let p = and_parts (not (e.server.0 == server)) (list_any (touches tree e) nodes) i in
          record { before = []; other = e; later = rest; splits = refl; foreign = not-true (e.server.0 == server) p.0; touched = p.1 }
      go (inr i) later = touch_on nodes tree (Stays e) rest (later i)

  touch_counts : (nodes : List ℕ) (before : List Settled) (tree : FileTree) (other : Entry) (later : List Settled) → other.server.0 == server ≡ false → list_any (touches (after_all tree before) other) nodes ≡ true
      → touched_later server nodes tree (before ++ Stays other ∷ later) ≡ true
  touch_counts nodes [] tree other later f t = or_left (not (other.server.0 == server) && list_any (touches tree other) nodes) (touched_later server nodes (after tree (Stays other)) later)
      (and_from (not (other.server.0 == server)) (list_any (touches tree other) nodes) (not_from_false (other.server.0 == server) f) t)
  touch_counts nodes (InDoubt runs ∷ before) tree other later f t = touch_counts nodes before (after tree (InDoubt runs)) other later f t
  touch_counts nodes (Stays e ∷ before) tree other later f t = or_right (not (e.server.0 == server) && list_any (touches tree e) nodes) (touched_later server nodes (after tree (Stays e)) (before ++ Stays other ∷ later))
      (touch_counts nodes before (after tree (Stays e)) other later f t)

  -- a later entry of another server that is answered for want of room
  record Refusal (list : List Settled) : Type 0 where
    pub before : List Settled
    pub other : Entry
    pub later : List Settled
    pub splits : list ≡ before ++ Stays other ∷ later
    pub foreign : other.server.0 == server ≡ false
    pub refused : is_nospace other.reply ≡ true

  refusal_on : (s : Settled) (rest : List Settled) → Refusal rest → Refusal (s ∷ rest)
  refusal_on s rest r = record { before = s ∷ r.before; other = r.other; later = r.later; splits = ap (λ l. s ∷ l) r.splits; foreign = r.foreign; refused = r.refused }

  refused_has : (list : List Settled) → refused_later server list ≡ true → Refusal list
  refused_has [] h = absurd (cc)
  refused_has (InDoubt runs ∷ rest) h = refusal_on (InDoubt runs) rest (refused_has rest h)
  refused_has (Stays e ∷ rest) h = go (or_cases (not (e.server.0 == server) && is_nospace e.reply) (refused_later server rest) h) (λ i. refused_has rest i)
    where
      go : (not (e.server.0 == server) && is_nospace e.reply ≡ true) ⊎ (refused_later server rest ≡ true) → (refused_later server rest ≡ true → Refusal rest) → Refusal (Stays e ∷ rest)
      go (inl i) later =
          let p = and_parts (not (e.server.0 == server)) (is_nospace e.reply) i in
          record { before = []; other = e; later = rest; splits = refl; foreign = not-true (e.server.0 == server) p.0; refused = p.1 }
      go (inr i) later = refusal_on (Stays e) rest (later i)

  refusal_counts : (before : List Settled) (other : Entry) (later : List Settled) → other.server.0 == server ≡ false → is_nospace other.reply ≡ true → refused_later server (before ++ Stays other ∷ later) ≡ true
  refusal_counts [] other later f r = or_left (not (other.server.0 == server) && is_nospace other.reply) (refused_later server later)
      (and_from (not (other.server.0 == server)) (is_nospace other.reply) (not_from_false (other.server.0 == server) f) r)
  refusal_counts (InDoubt runs ∷ before) other later f r = refusal_counts before other later f r
  refusal_counts (Stays e ∷ before) other later f r = or_right (not (e.server.0 == server) && is_nospace e.reply) (refused_later server (before ++ Stays other ∷ later)) (refusal_counts before other later f r)

pub seen_has_a_witness : SeenHasAWitness
seen_has_a_witness tree e rest h = go (or_cases (touched_later e.server.0 (changed tree e) (after tree (Stays e)) rest) (changes_room tree e && refused_later e.server.0 rest) h)
  where
    by_touch : Touch e.server.0 (changed tree e) (after tree (Stays e)) rest → SeenByATouch tree e rest
    by_touch t =
        let c = one_changed (touches (after_all (after tree (Stays e)) t.before) t.other) tree e t.touched in
        record { before = t.before; other = t.other; later = t.later; splits = t.splits; foreign = t.foreign; birth = c.0; changed = c.1; touched = c.2 }

    by_refusal : changes_room tree e ≡ true → Refusal e.server.0 rest → SeenByARefusal tree e rest
    by_refusal i r =
        let c = one_changed (λ b. other_room (node_at tree b) (node_at (applied tree e).tree b)) tree e i in
        record { before = r.before; other = r.other; later = r.later; splits = r.splits; foreign = r.foreign; birth = c.0; changed = c.1; takes = c.2; refused = r.refused }

    go : (touched_later e.server.0 (changed tree e) (after tree (Stays e)) rest ≡ true) ⊎ (changes_room tree e && refused_later e.server.0 rest ≡ true) → HasAWitness tree e rest
    go (inl i) = inl (by_touch (touched_has e.server.0 (changed tree e) (after tree (Stays e)) rest i))
    go (inr i) = let p = and_parts (changes_room tree e) (refused_later e.server.0 rest) i in inr (by_refusal p.0 (refused_has e.server.0 rest p.1))

pub a_witness_has_seen : AWitnessHasSeen
a_witness_has_seen tree e rest (inl w) =
    or_left (touched_later e.server.0 (changed tree e) (after tree (Stays e)) rest) (changes_room tree e && refused_later e.server.0 rest)
    (subst (λ l. touched_later e.server.0 (changed tree e) (after tree (Stays e)) l ≡ true) (sym w.splits)
    (touch_counts e.server.0 (changed tree e) w.before (after tree (Stays e)) w.other w.later w.foreign (any_changed (touches (after_all (after tree (Stays e)) w.before) w.other) tree e w.birth w.changed w.touched)))
a_witness_has_seen tree e rest (inr w) =
    or_right (touched_later e.server.0 (changed tree e) (after tree (Stays e)) rest) (changes_room tree e && refused_later e.server.0 rest)
    (and_from (changes_room tree e) (refused_later e.server.0 rest)
    (any_changed (λ b. other_room (node_at tree b) (node_at (applied tree e).tree b)) tree e w.birth w.changed w.takes)
    (subst (λ l. refused_later e.server.0 l ≡ true) (sym w.splits) (refusal_counts e.server.0 w.before w.other w.later w.foreign w.refused)))
