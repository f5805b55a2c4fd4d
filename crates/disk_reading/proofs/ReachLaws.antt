-- Flags that grow stay flags of what is reached, and closed flags are all of it.
use Rattle.std.proofs.Common.{◌==◌, ◌&&◌, not, MatchBool, eq-eqb, ◌≡◌, ℕ, zero, suc, ◌+◌, ◌<◌, ◌≤◌, ⊎_elim, Bool, true, false, Option, Some, None, List, [], ◌∷◌, is_some, length, cond, refl, sym, ◌∙◌, ap, subst, arith}
use Rattle.std.specs.Option.{option_and_then}
use Rattle.disk_definitions.specs.Naming.{Nodes, find_in}
use Rattle.disk_definitions.specs.Standing.{reached_from, IsReached, IsReachedAt}
use Rattle.standing_laws.proofs.Walks.{reached_on}
use Rattle.disk_reading.specs.Marks.{flag_at}
use Rattle.std.proofs.lemmas.Bool.{cases_lt, or_cases, or_parts, and_cases, and_parts, and_from, not-true, not-false, cond-true, or_left, or_right, both_ways}
use Rattle.tree_definitions.specs.declared.node.Node.{Node}
use Rattle.tree_definitions.specs.declared.node.Node.TheVariants.{Dir, File, Link}
use Rattle.disk_reading.specs.Reach.{AreReached, AreFlaggedOn, HasSpread, HasClosed, NamesAscendIn, AreNamedBelow, names_at, nodes_at, has_value, names_flagged, is_closed_at, is_closed, unflagged}
use Rattle.std.specs.List.{list_all}
use Rattle.std.specs.Map.{lookup, keys_of, values_of}
use Rattle.std.specs.BTreeMap.{is_at}
use Rattle.std.specs.Ordering.{nat_cmp}
use Rattle.tree_definitions.proofs.Pairs.{birth_exact, tie, self}
use Rattle.standing_laws.specs.Below.{all_below}
use Rattle.standing_laws.proofs.Bounded.{all_at}
use Rattle.disk_reading.proofs.NamesFound.{value_named, named_all}

-- closed flags from the root have all that is reached
pub closed_all : (at : Nodes) (flags : List Bool) → ((d b : ℕ) (name : List ℕ) → flag_at flags d ≡ true → find_in (at d) name ≡ Some b → flag_at flags b ≡ true)
    → (names : List (List ℕ)) (a b : ℕ) → flag_at flags a ≡ true → reached_from at a names ≡ Some b → flag_at flags b ≡ true
closed_all at flags closed [] a b h r = let q : a ≡ b = cc in subst (λ b. flag_at flags b ≡ true) q h
closed_all at flags closed (m ∷ names) a b h r = go (λ v i j. closed_all at flags closed names v b i j) (find_in (at a) m) refl r
  where
    go : ((v : ℕ) → flag_at flags v ≡ true → reached_from at v names ≡ Some b → flag_at flags b ≡ true) → (o : Option ℕ) → find_in (at a) m ≡ o → option_and_then (λ next. reached_from at next names) o ≡ Some b → flag_at flags b ≡ true
    go later None e i = absurd (cc)
    go later (Some v) e i = later v (closed a v m h e) i

-- a flag stands within the flags
flag_within : (flags : List Bool) (k : ℕ) → flag_at flags k ≡ true → k < length flags
flag_within [] k h = absurd (cc)
flag_within (x ∷ flags) zero h = omega arith
flag_within (x ∷ flags) (suc k) h = let l : k < length flags = flag_within flags k h in omega arith

-- what a node names is found there
named_found : (at : Nodes) → NamesAscendIn at → (d v : ℕ) (o : Option Node) → at d ≡ o → names_at o v ≡ true → (name : List ℕ) × (find_in (at d) name ≡ Some v)
named_found at sorted d v None e h = absurd (cc)
named_found at sorted d v (Some (Dir es k)) e h = let r = value_named es v (sorted d es k e) h in (r.0, ap (λ o. find_in o r.0) e ∙ r.1)
named_found at sorted d v (Some (File cells links when)) e h = absurd (cc)
named_found at sorted d v (Some (Link target links)) e h = absurd (cc)

module _ (at : Nodes) (sorted : NamesAscendIn at) (before : List Bool) (i : ℕ) (flags : List Bool) (s : HasSpread at before i flags) where
  pub spread_more : (new : List Bool) → flag_at flags i ≡ true → AreFlaggedOn (names_at (at i)) flags new → HasSpread at before (i + 1) new
  spread_more new f a = record { long = a.long ∙ s.long; reached = reached; grows = λ k h. kept k (s.grows k h); on = on }
    where
      kept : (k : ℕ) → flag_at flags k ≡ true → flag_at new k ≡ true
      kept k h = a.each k (flag_within flags k h) ∙ or_left (flag_at flags k) (names_at (at i) k) h

      reached : (b : ℕ) → flag_at new b ≡ true → IsReachedAt at b
      reached b h =
          let l : b < length new = flag_within new b h in
          let w : b < length flags = subst (λ n. b < n) a.long l in
          ⊎_elim (λ t. s.reached b t) (λ t. (let r = named_found at sorted i b (at i) refl t in reached_on at i b r.0 (s.reached i f) r.1))
          (or_cases (flag_at flags b) (names_at (at i) b) (sym (a.each b w) ∙ h))

      on : (d v : ℕ) → d < i + 1 → flag_at before d ≡ true → names_at (at d) v ≡ true → v < length before → flag_at new v ≡ true
      on d v l h m w = ⊎_elim
          (λ b. kept v (s.on d v b h m w))
          (λ b. (let e : d ≡ i = omega arith in a.each v (subst (λ n. v < n) (sym s.long) w) ∙ or_right (flag_at flags v) (names_at (at i) v) (ap (λ d. names_at (at d) v) (sym e) ∙ m))) (cases_lt d i)

  pub spread_skip : flag_at flags i ≡ false → HasSpread at before (i + 1) flags
  spread_skip f = record { long = s.long; reached = s.reached; grows = s.grows; on = on }
    where
      on : (d v : ℕ) → d < i + 1 → flag_at before d ≡ true → names_at (at d) v ≡ true → v < length before → flag_at flags v ≡ true
      on d v l h m w = ⊎_elim (λ b. s.on d v b h m w) (λ b. (let e : d ≡ i = omega arith in absurd (both_ways (flag_at flags i) f (ap (flag_at flags) (sym e) ∙ s.grows d h)))) (cases_lt d i)

-- before the first birth
pub spread_none : (at : Nodes) (flags : List Bool) → AreReached at flags → HasSpread at flags 0 flags
spread_none at flags r = record { long = refl; reached = r; grows = λ k h. h; on = λ d v l h m w. absurd (omega arith) }

pub spread_step : (at : Nodes) (before : List Bool) (i : ℕ) (flags new : List Bool) → NamesAscendIn at → HasSpread at before i flags → (flag_at flags i ≡ true → AreFlaggedOn (names_at (at i)) flags new) → (flag_at flags i ≡ false → new ≡ flags) → HasSpread at before (i + 1) new
spread_step at before i flags new sorted s f g = go (flag_at flags i) refl
  where
    go : (b : Bool) → flag_at flags i ≡ b → HasSpread at before (i + 1) new
    go true e = spread_more at sorted before i flags s new e (f e)
    go false e = subst (HasSpread at before (i + 1)) (sym (g e)) (spread_skip at sorted before i flags s e)

-- ---- fewer without a flag
no_more : (before after : List Bool) → length after ≡ length before → ((k : ℕ) → flag_at before k ≡ true → flag_at after k ≡ true) → unflagged after ≤ unflagged before
no_more [] [] l g = omega arith
no_more [] (y ∷ ys) l g = absurd (let z : suc (length ys) ≡ 0 = l in omega arith)
no_more (x ∷ xs) [] l g = absurd (let z : 0 ≡ suc (length xs) = l in omega arith)
no_more (true ∷ xs) (true ∷ ys) l g = no_more xs ys (let z : suc (length ys) ≡ suc (length xs) = l in omega arith) (λ k h. g (suc k) h)
no_more (true ∷ xs) (false ∷ ys) l g = absurd (let z : false ≡ true = g 0 refl in cc)
no_more (false ∷ xs) (true ∷ ys) l g = let r : unflagged ys ≤ unflagged xs = no_more xs ys (let z : suc (length ys) ≡ suc (length xs) = l in omega arith) (λ k h. g (suc k) h) in omega arith
no_more (false ∷ xs) (false ∷ ys) l g = let r : unflagged ys ≤ unflagged xs = no_more xs ys (let z : suc (length ys) ≡ suc (length xs) = l in omega arith) (λ k h. g (suc k) h) in omega arith

pub one_fewer : (before after : List Bool) → length after ≡ length before → ((k : ℕ) → flag_at before k ≡ true → flag_at after k ≡ true) → (k : ℕ) → flag_at before k ≡ false → flag_at after k ≡ true → unflagged after < unflagged before
one_fewer [] [] l g k f h = absurd (cc)
one_fewer [] (y ∷ ys) l g k f h = absurd (let z : suc (length ys) ≡ 0 = l in omega arith)
one_fewer (x ∷ xs) [] l g k f h = absurd (cc)
one_fewer (true ∷ xs) (y ∷ ys) l g zero f h = absurd (cc)
one_fewer (x ∷ xs) (false ∷ ys) l g zero f h = absurd (cc)
one_fewer (false ∷ xs) (true ∷ ys) l g zero f h = let r : unflagged ys ≤ unflagged xs = no_more xs ys (let z : suc (length ys) ≡ suc (length xs) = l in omega arith) (λ k h. g (suc k) h) in omega arith
one_fewer (true ∷ xs) (true ∷ ys) l g (suc k) f h = one_fewer xs ys (let z : suc (length ys) ≡ suc (length xs) = l in omega arith) (λ k h. g (suc k) h) k f h
one_fewer (true ∷ xs) (false ∷ ys) l g (suc k) f h = absurd (let z : false ≡ true = g 0 refl in cc)
one_fewer (false ∷ xs) (true ∷ ys) l g (suc k) f h = let r : unflagged ys < unflagged xs = one_fewer xs ys (let z : suc (length ys) ≡ suc (length xs) = l in omega arith) (λ k h. g (suc k) h) k f h in omega arith
one_fewer (false ∷ xs) (false ∷ ys) l g (suc k) f h = let r : unflagged ys < unflagged xs = one_fewer xs ys (let z : suc (length ys) ≡ suc (length xs) = l in omega arith) (λ k h. g (suc k) h) k f h in omega arith

-- what isn't closed names something without a flag
some_missing : (p : ℕ → Bool) (xs : List ℕ) → list_all p xs ≡ false → (v : ℕ) × (has_value xs v ≡ true) × (p v ≡ false)
some_missing p [] h = absurd (cc)
some_missing p (x ∷ xs) h = go (p x) refl h (some_missing p xs)
  where
    go : (b : Bool) → p x ≡ b → (p x && list_all p xs) ≡ false → (list_all p xs ≡ false → (v : ℕ) × (has_value xs v ≡ true) × (p v ≡ false)) → (v : ℕ) × (has_value (x ∷ xs) v ≡ true) × (p v ≡ false)
    go false e h later = (x, or_left (x == x) (has_value xs x) (eq-eqb x x refl), e)
    go true e h later = (let r = later (sym (ap (λ b. b && list_all p xs) e) ∙ h) in (r.0, or_right (x == r.0) (has_value xs r.0) r.1, r.2))

not_closed_at : (flags : List Bool) (o : Option Node) → names_flagged flags o ≡ false → (v : ℕ) × (names_at o v ≡ true) × (flag_at flags v ≡ false)
not_closed_at flags None h = absurd (cc)
not_closed_at flags (Some (Dir es k)) h = some_missing (flag_at flags) (values_of es) h
not_closed_at flags (Some (File cells links when)) h = absurd (cc)
not_closed_at flags (Some (Link target links)) h = absurd (cc)

one_fails : (n : ℕ) (test : ℕ → Bool) → all_below n test ≡ false → (i : ℕ) × (i < n) × (test i ≡ false)
one_fails zero test h = absurd (cc)
one_fails (suc n) test h = ⊎_elim (λ e. (let r = one_fails n test e in (r.0, (let l : r.0 < n = r.1 in omega arith), r.2))) (λ e. (n, omega arith, e)) (and_cases (all_below n test) (test n) h)

-- a round over flags that aren't closed leaves fewer without one
pub spread_falls : (at : Nodes) (before after : List Bool) → AreNamedBelow at (length before) → HasSpread at before (length before) after → is_closed before at ≡ false → unflagged after < unflagged before
spread_falls at before after below s h =
    let d = one_fails (length before) (is_closed_at before at) h in
    let p = or_parts (not (flag_at before d.0)) (names_flagged before (at d.0)) d.2 in
    let v = not_closed_at before (at d.0) p.1 in
    one_fewer before after s.long s.grows v.0 v.2 (s.on d.0 v.0 d.1 (not-false (flag_at before d.0) p.0) v.1 (below d.0 v.0 v.1))

-- closed flags go along names
closed_names : (flags : List Bool) (at : Nodes) → is_closed flags at ≡ true → (d b : ℕ) (name : List ℕ) → flag_at flags d ≡ true → find_in (at d) name ≡ Some b → flag_at flags b ≡ true
closed_names flags at h d b name f e =
    let c : is_closed_at flags at d ≡ true = all_at (length flags) (is_closed_at flags at) h d (flag_within flags d f) in
    ⊎_elim (λ t. absurd (both_ways (flag_at flags d) (not-true (flag_at flags d) t) f)) (λ t. go (at d) t e) (or_cases (not (flag_at flags d)) (names_flagged flags (at d)) c)
  where
    go : (o : Option Node) → names_flagged flags o ≡ true → find_in o name ≡ Some b → flag_at flags b ≡ true
    go None t e = absurd (cc)
    go (Some (Dir es k)) t e = named_all (flag_at flags) es name b t e
    go (Some (File cells links when)) t e = absurd (cc)
    go (Some (Link target links)) t e = absurd (cc)

-- keys that are found, and all of them
key_at : (p : ℕ → Bool) (es : List (ℕ × Node)) (b : ℕ) → list_all p (keys_of es) ≡ true → is_some (lookup (is_at (nat_cmp b)) es) ≡ true → p b ≡ true
key_at p [] b h e = absurd (cc)
key_at p (x ∷ es) b h e = go (is_at (nat_cmp b) x.0) refl (λ f. key_at p es b (and_parts (p x.0) (list_all p (keys_of es)) h).1 f) e
  where
    go : (t : Bool) → is_at (nat_cmp b) x.0 ≡ t → (is_some (lookup (is_at (nat_cmp b)) es) ≡ true → p b ≡ true) → is_some (cond t (Some x.1) (lookup (is_at (nat_cmp b)) es)) ≡ true → p b ≡ true
    go true i later e = ap p (tie nat_cmp birth_exact b x.0 i) ∙ (and_parts (p x.0) (list_all p (keys_of es)) h).0
    go false i later e = later e

keys_all : (p : ℕ → Bool) (es : List (ℕ × Node)) → ((b : ℕ) → is_some (lookup (is_at (nat_cmp b)) es) ≡ true → p b ≡ true) → list_all p (keys_of es) ≡ true
keys_all p [] h = refl
keys_all p (x ∷ es) h = and_from (p x.0) (list_all p (keys_of es)) (h x.0 (ap is_some (cond-true (is_at (nat_cmp x.0) x.0) (Some x.1) (lookup (is_at (nat_cmp x.0)) es) (self nat_cmp birth_exact x.0))))
    (keys_all p es (λ b e. h b (go (is_at (nat_cmp b) x.0) (lookup (is_at (nat_cmp b)) es) e)))
  where
    go : (t : Bool) (o : Option Node) → is_some o ≡ true → is_some (cond t (Some x.1) o) ≡ true
    go true o e = refl
    go false o e = e

-- closed flags from the root tell what is reached
pub reached_told : (nodes : List (ℕ × Node)) (before flags : List Bool) → HasClosed (nodes_at nodes) before flags → flag_at before 0 ≡ true → (b : Bool) → b ≡ list_all (flag_at flags) (keys_of nodes) → MatchBool b (IsReached (nodes_at nodes)) (IsReached (nodes_at nodes) → ⊥)
reached_told nodes before flags c r true e = λ b h. c.reached b (key_at (flag_at flags) nodes b (sym e) h)
reached_told nodes before flags c r false e = λ all. both_ways (list_all (flag_at flags) (keys_of nodes)) (sym e) (keys_all (flag_at flags) nodes (λ b h. (let w = all b h in closed_all (nodes_at nodes) flags (closed_names flags (nodes_at nodes) c.closed) w.0 0 b (c.grows 0 r) w.1)))
