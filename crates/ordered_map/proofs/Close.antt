-- Neighbouring chunks that hold many entries together: how edits keep them so, and how many entries they then hold at least.
use Rattle.std.proofs.Common.{◌≡◌, ℕ, zero, suc, ◌+◌, ◌-◌, ◌<◌, ◌≤◌, ◌≢◌, List, [], ◌∷◌, ◌++◌, length, set, take, drop, refl, sym, ap, ◌∙◌, subst, arith, add-one, length-append}
use Rattle.std.specs.List.{insert, remove}
use Rattle.std.proofs.lemmas.List.{append_assoc, length-set, take-take, take-set, drop-set-lt, get_or-set_same, get_or-set_other}
use Rattle.std.proofs.lemmas.List.Edits.{length-insert, length-remove}
use Rattle.ordered_map.specs.declared.chunk.TheConstants.{CHUNK, HALF}
use Rattle.ordered_map.specs.Chunks.{joined, chunk_at, capacity, AreFilled, AreClose, IsCloseBut}
use Rattle.ordered_map.proofs.Flat.{joined-append, filled-append, filled-take, filled-drop, filled-at, filled_set}

module _ {E : Type 0} where
  pub close_tail : (x : List E) (xs : List (List E)) → AreClose (x ∷ xs) → AreClose xs
  close_tail x [] close = tt
  close_tail x (y ∷ xs) close = close.1

  pub close_drop : (c : ℕ) (xs : List (List E)) → AreClose xs → AreClose (drop c xs)
  close_drop zero xs close = close
  close_drop (suc c) [] close = tt
  close_drop (suc c) (x ∷ xs) close = close_drop c xs (close_tail x xs close)

  pub close_take : (c : ℕ) (xs : List (List E)) → AreClose xs → AreClose (take c xs)
  close_take zero xs close = tt
  close_take (suc c) [] close = tt
  close_take (suc zero) (x ∷ xs) close = tt
  close_take (suc (suc c)) (x ∷ []) close = tt
  close_take (suc (suc c)) (x ∷ y ∷ xs) close = (close.0, close_take (suc c) (y ∷ xs) close.1)

  pub close_join : (p : List (List E)) (x : List E) (q : List (List E)) → AreClose (p ++ x ∷ []) → AreClose (x ∷ q) → AreClose (p ++ x ∷ q)
  close_join [] x q a b = b
  close_join (y ∷ []) x q a b = (a.0, b)
  close_join (y ∷ z ∷ p) x q a b = (a.0, close_join (z ∷ p) x q a.1 b)

  -- a chunk of half a chunk's entries is close to any
  pub close_end : (p : List (List E)) (x : List E) → AreClose p → AreFilled p → HALF ≤ length x → AreClose (p ++ x ∷ [])
  close_end [] x close filled half = tt
  close_end (y ∷ []) x close filled half = (omega (arith, filled.0), tt)
  close_end (y ∷ z ∷ p) x close filled half = (close.0, close_end (z ∷ p) x close.1 filled.2 half)

  pub close_begin : (x : List E) (q : List (List E)) → AreClose q → AreFilled q → HALF ≤ length x → AreClose (x ∷ q)
  close_begin x [] close filled half = tt
  close_begin x (y ∷ q) close filled half = (omega (arith, filled.0), close)

  -- a chunk with more entries
  pub close_more : (xs : List (List E)) (c : ℕ) (x : List E) → AreClose xs → length (chunk_at xs c) ≤ length x → AreClose (set xs c x)
  close_more [] c x close more = tt
  close_more (y ∷ []) zero x close more = tt
  close_more (y ∷ []) (suc c) x close more = tt
  close_more (y ∷ z ∷ xs) zero x close more = (omega (arith, close.0), close.1)
  close_more (y ∷ z ∷ xs) (suc zero) x close more = (omega (arith, close.0), close_more (z ∷ xs) zero x close.1 more)
  close_more (y ∷ z ∷ xs) (suc (suc c)) x close more = (close.0, close_more (z ∷ xs) (suc c) x close.1 more)

  pub close_at : (xs : List (List E)) (i j : ℕ) → AreClose xs → j ≡ suc i → j < length xs → HALF < length (chunk_at xs i) + length (chunk_at xs j)
  close_at [] i j close next inside = absurd (omega arith)
  close_at (x ∷ xs) i zero close next inside = absurd (omega arith)
  close_at (x ∷ []) i (suc j) close next inside = absurd (omega arith)
  close_at (x ∷ y ∷ xs) zero (suc zero) close next inside = close.0
  close_at (x ∷ y ∷ xs) zero (suc (suc j)) close next inside = absurd (omega arith)
  close_at (x ∷ y ∷ xs) (suc i) (suc j) close next inside = close_at (y ∷ xs) i j close.1 (omega arith) (omega arith)

  -- a chunk of one entry that goes
  pub close_discard : (xs : List (List E)) (c : ℕ) → AreFilled xs → AreClose xs → length (chunk_at xs c) ≡ 1 → AreClose (remove xs c)
  close_discard [] zero filled close one = tt
  close_discard [] (suc c) filled close one = tt
  close_discard (x ∷ xs) zero filled close one = close_tail x xs close
  close_discard (x ∷ []) (suc zero) filled close one = tt
  close_discard (x ∷ []) (suc (suc c)) filled close one = tt
  close_discard (x ∷ y ∷ []) (suc zero) filled close one = tt
  close_discard (x ∷ y ∷ z ∷ xs) (suc zero) filled close one = (omega (arith, close.0, filled.2.2.0), close.1.1)
  close_discard (x ∷ y ∷ xs) (suc (suc c)) filled close one = (close.0, close_discard (y ∷ xs) (suc c) filled.2 close.1 one)

  -- a chunk with an entry less
  pub close_less : (xs : List (List E)) (c : ℕ) (x : List E) → c < length xs → AreClose xs → length x + 1 ≡ length (chunk_at xs c) → IsCloseBut (set xs c x) c
  close_less xs c x inside close less =
      let here = ap length (get_or-set_same xs c x [] inside) in record {
        first = subst AreClose (sym (take-set xs c x)) (close_take c xs close);
        rest = subst AreClose (sym (drop-set-lt (suc c) xs c x (omega arith))) (close_drop (suc c) xs close);
        left = λ j is. let apart : j ≢ c = omega arith in omega (arith, here, ap length (get_or-set_other xs c j x [] apart), close_at xs j c close (omega arith) inside);
        right = λ j is below. let apart : j ≢ c = omega arith in
            let within : j < length xs = omega (arith, below, length-set xs c x) in
            omega (arith, here, ap length (get_or-set_other xs c j x [] apart), close_at xs c j close (omega arith) within);
      }

  -- where it is close to its neighbours too, all are close
  pub close_whole : (xs : List (List E)) (c : ℕ) → AreClose (take c xs) → AreClose (drop (suc c) xs) → ((j : ℕ) → suc j ≡ c → HALF < length (chunk_at xs j) + length (chunk_at xs c))
      → ((j : ℕ) → j ≡ suc c → j < length xs → HALF < length (chunk_at xs c) + length (chunk_at xs j)) → AreClose xs
  close_whole [] c first rest left right = tt
  close_whole (x ∷ []) c first rest left right = tt
  close_whole (x ∷ y ∷ xs) zero first rest left right = (right 1 (omega arith) (omega arith), rest)
  close_whole (x ∷ y ∷ xs) (suc zero) first rest left right =
      (left 0 (omega arith), close_whole (y ∷ xs) zero tt rest (λ j is. absurd (omega arith)) (λ j is below. right (suc j) (omega arith) (omega arith)))
  close_whole (x ∷ y ∷ xs) (suc (suc c)) first rest left right =
      (first.0, close_whole (y ∷ xs) (suc c) first.1 rest (λ j is. left (suc j) (omega arith)) (λ j is below. right (suc j) (omega arith) (omega arith)))

  -- ---- an entry more in a chunk, or one less

  module _ (xs : List (List E)) (c at : ℕ) (inside : c < length xs) where
    pub grown_filled : (entry : E) → at ≤ length (chunk_at xs c) → length (chunk_at xs c) < CHUNK → AreFilled xs → AreFilled (set xs c (insert (chunk_at xs c) at entry))
    grown_filled entry place room filled =
        let long = length-insert (chunk_at xs c) at entry place in
        filled_set xs c (insert (chunk_at xs c) at entry) inside filled (omega (arith, long)) (omega (arith, long, room))

    pub grown_close : (entry : E) → at ≤ length (chunk_at xs c) → AreClose xs → AreClose (set xs c (insert (chunk_at xs c) at entry))
    grown_close entry place close = close_more xs c (insert (chunk_at xs c) at entry) close (omega (arith, length-insert (chunk_at xs c) at entry place))

    pub shrunk_filled : at < length (chunk_at xs c) → length (chunk_at xs c) ≢ 1 → AreFilled xs → AreFilled (set xs c (remove (chunk_at xs c) at))
    shrunk_filled place more filled =
        let long = length-remove (chunk_at xs c) at place in
        let some = filled-at c xs inside filled in
        filled_set xs c (remove (chunk_at xs c) at) inside filled (omega (arith, long, some.0)) (omega (arith, long, some.1))

    pub shrunk_close : at < length (chunk_at xs c) → AreClose xs → IsCloseBut (set xs c (remove (chunk_at xs c) at)) c
    shrunk_close place close = close_less xs c (remove (chunk_at xs c) at) inside close (length-remove (chunk_at xs c) at place)

  -- ---- two neighbours made one

  pub merged_is : (xs : List (List E)) (c : ℕ) (z : List E) → suc c < length xs → set (remove xs (suc c)) c z ≡ take c xs ++ (z ∷ drop (suc (suc c)) xs)
  merged_is [] c z inside = absurd (omega arith)
  merged_is (x ∷ []) c z inside = absurd (omega arith)
  merged_is (x ∷ y ∷ xs) zero z inside = refl
  merged_is (x ∷ y ∷ xs) (suc c) z inside = ap (λ rest. x ∷ rest) (merged_is (y ∷ xs) c z (omega arith))

  pub merged_parts : (xs : List (List E)) (c : ℕ) → suc c < length xs → xs ≡ take c xs ++ (chunk_at xs c ∷ chunk_at xs (suc c) ∷ drop (suc (suc c)) xs)
  merged_parts [] c inside = absurd (omega arith)
  merged_parts (x ∷ []) c inside = absurd (omega arith)
  merged_parts (x ∷ y ∷ xs) zero inside = refl
  merged_parts (x ∷ y ∷ xs) (suc c) inside = ap (λ rest. x ∷ rest) (merged_parts (y ∷ xs) c (omega arith))

  pub merged_same : (xs : List (List E)) (c : ℕ) → suc c < length xs → joined (set (remove xs (suc c)) c (chunk_at xs c ++ chunk_at xs (suc c))) ≡ joined xs
  merged_same xs c inside =
      ap joined (merged_is xs c _ inside)
      ∙ joined-append (take c xs) ((chunk_at xs c ++ chunk_at xs (suc c)) ∷ drop (suc (suc c)) xs)
      ∙ ap (λ es. joined (take c xs) ++ es) (append_assoc (chunk_at xs c) (chunk_at xs (suc c)) (joined (drop (suc (suc c)) xs)))
      ∙ sym (joined-append (take c xs) (chunk_at xs c ∷ chunk_at xs (suc c) ∷ drop (suc (suc c)) xs))
      ∙ sym (ap joined (merged_parts xs c inside))

  pub merged_length : (xs : List (List E)) (c : ℕ) (z : List E) → suc c < length xs → length (set (remove xs (suc c)) c z) + 1 ≡ length xs
  merged_length xs c z inside = omega (arith, length-set (remove xs (suc c)) c z, length-remove xs (suc c) inside)

  pub merged_filled : (xs : List (List E)) (c : ℕ) → suc c < length xs → AreFilled xs → length (chunk_at xs c) + length (chunk_at xs (suc c)) ≤ HALF
      → AreFilled (set (remove xs (suc c)) c (chunk_at xs c ++ chunk_at xs (suc c)))
  merged_filled xs c inside filled few =
      let long = length-append (chunk_at xs c) (chunk_at xs (suc c)) in
      let some = filled-at c xs (omega arith) filled in
      subst AreFilled (sym (merged_is xs c _ inside)) (filled-append (take c xs) _ (filled-take c xs filled) (omega (arith, long, some.0), omega (arith, long, few), filled-drop (suc (suc c)) xs filled))

  pub merged_close : (xs : List (List E)) (c : ℕ) → suc c < length xs → AreFilled xs → AreClose (take c xs) → AreClose (drop (suc (suc c)) xs) → HALF ≤ length (chunk_at xs c) + length (chunk_at xs (suc c))
      → AreClose (set (remove xs (suc c)) c (chunk_at xs c ++ chunk_at xs (suc c)))
  merged_close xs c inside filled first rest half =
      let z = chunk_at xs c ++ chunk_at xs (suc c) in
      let long : HALF ≤ length z = omega (arith, length-append (chunk_at xs c) (chunk_at xs (suc c)), half) in
      subst AreClose (sym (merged_is xs c z inside)) (close_join (take c xs) z (drop (suc (suc c)) xs)
      (close_end (take c xs) z first (filled-take c xs filled) long)
      (close_begin z (drop (suc (suc c)) xs) rest (filled-drop (suc (suc c)) xs filled) long))

  close_drop_more : (c : ℕ) (xs : List (List E)) → AreClose (drop (suc c) xs) → AreClose (drop (suc (suc c)) xs)
  close_drop_more c [] close = tt
  close_drop_more zero (x ∷ []) close = tt
  close_drop_more zero (x ∷ y ∷ xs) close = close_tail y xs close
  close_drop_more (suc c) (x ∷ xs) close = close_drop_more c xs close

  close_take_less : (m n : ℕ) (xs : List (List E)) → m ≤ n → AreClose (take n xs) → AreClose (take m xs)
  close_take_less m n xs le close = subst AreClose (take-take m n xs le) (close_take m (take n xs) close)

  -- what a merge of a chunk with the next one leaves
  pub record IsMerged (xs ys : List (List E)) : Type 0 where
    pub same : joined ys ≡ joined xs
    pub filled : AreFilled ys
    pub close : AreClose ys
    pub less : length ys + 1 ≡ length xs

  merges : (xs : List (List E)) (c d : ℕ) → d ≡ suc c → d < length xs → AreFilled xs → AreClose (take c xs) → AreClose (drop (suc d) xs) → HALF ≤ length (chunk_at xs c) + length (chunk_at xs d)
      → length (chunk_at xs c) + length (chunk_at xs d) ≤ HALF → IsMerged xs (set (remove xs d) c (chunk_at xs c ++ chunk_at xs d))
  merges xs c zero next inside filled first rest half few = absurd (omega arith)
  merges xs c (suc d) next inside filled first rest half few =
      let same : d ≡ c = omega arith in
      subst (λ n. AreClose (drop (suc (suc n)) xs) → HALF ≤ length (chunk_at xs c) + length (chunk_at xs (suc n)) → length (chunk_at xs c) + length (chunk_at xs (suc n)) ≤ HALF → IsMerged xs (set (remove xs (suc n)) c (chunk_at xs c ++ chunk_at xs (suc n))))
      (sym same)
      (λ rest half few. record {
        same = merged_same xs c (omega arith);
        filled = merged_filled xs c (omega arith) filled few;
        close = merged_close xs c (omega arith) filled first rest half;
        less = merged_length xs c _ (omega arith);
      })
      rest half few

  pub merged_next : (xs : List (List E)) (c : ℕ) → AreFilled xs → IsCloseBut xs c → c + 1 < length xs → length (chunk_at xs c) + length (chunk_at xs (c + 1)) ≤ HALF
      → IsMerged xs (set (remove xs (c + 1)) c (chunk_at xs c ++ chunk_at xs (c + 1)))
  merged_next xs c filled but inside few =
      merges xs c (c + 1) (add-one c) inside filled but.first
      (subst (λ n. AreClose (drop (suc n) xs)) (sym (add-one c)) (close_drop_more c xs but.rest))
      (but.right (c + 1) refl inside) few

  pub merged_last : (xs : List (List E)) (c : ℕ) → AreFilled xs → IsCloseBut xs c → c < length xs → 0 < c → length (chunk_at xs (c - 1)) + length (chunk_at xs (c - 1 + 1)) ≤ HALF
      → IsMerged xs (set (remove xs (c - 1 + 1)) (c - 1) (chunk_at xs (c - 1) ++ chunk_at xs (c - 1 + 1)))
  merged_last xs c filled but inside some few =
      let back : c ≡ c - 1 + 1 = omega arith in
      let last : c - 1 + 1 ≡ c = omega arith in
      merges xs (c - 1) (c - 1 + 1) (omega arith) (omega arith) filled (close_take_less (c - 1) c xs (omega arith) but.first)
      (subst (λ n. AreClose (drop (suc n) xs)) back but.rest)
      (subst (λ n. HALF ≤ length (chunk_at xs (c - 1)) + length (chunk_at xs n)) back (but.left (c - 1) last)) few

  -- a chunk that is close to both neighbours
  pub settled : (xs : List (List E)) (c : ℕ) → IsCloseBut xs c → (c + 1 < length xs → HALF < length (chunk_at xs c) + length (chunk_at xs (c + 1))) → (0 < c → HALF < length (chunk_at xs (c - 1)) + length (chunk_at xs (c - 1 + 1))) → AreClose xs
  settled xs c but next last = close_whole xs c but.first but.rest
      (λ j is. let before : c - 1 ≡ j = omega arith in let here : c - 1 + 1 ≡ c = omega arith in
      subst (λ n. HALF < length (chunk_at xs n) + length (chunk_at xs c)) before (subst (λ n. HALF < length (chunk_at xs (c - 1)) + length (chunk_at xs n)) here (last (omega arith))))
      (λ j is below. let after : c + 1 ≡ j = omega arith in subst (λ n. HALF < length (chunk_at xs c) + length (chunk_at xs n)) after (next (omega arith)))

  -- ---- how many entries there are at least

  pub many : (xs : List (List E)) → AreClose xs → capacity (length xs) ≤ length (joined xs)
  many [] close = omega arith
  many (x ∷ []) close = omega arith
  many (x ∷ y ∷ xs) close = omega (arith, close.0, many xs (close_tail y xs close.1), length-append x (y ++ joined xs), length-append y (joined xs))

  -- there is a blank chunk where there is room
  pub blank_left : (xs : List (List E)) (blank : ℕ) → AreClose xs → length (joined xs) < capacity (length xs + blank) → 0 < blank
  blank_left xs zero close room = absurd (let same : length xs + 0 ≡ length xs = omega arith in omega (arith, many xs close, ap capacity same, room))
  blank_left xs (suc blank) close room = omega arith
