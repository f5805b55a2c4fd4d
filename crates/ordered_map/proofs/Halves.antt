-- What a split of a chunk leaves: the same entries at the same places, chunks that are filled, close to one another.
use Rattle.std.proofs.Common.{◌≡◌, ℕ, suc, ◌+◌, ◌-◌, ◌<◌, ◌≤◌, List, [], ◌∷◌, ◌++◌, length, set, take, drop, append_assoc, sym, ap, ◌∙◌, subst, arith, length-append}
use Rattle.std.specs.List.{insert}
use Rattle.std.proofs.lemmas.List.{take-append-drop, take_at, get_or_at, length-take-le, length-drop}
use Rattle.ordered_map.specs.declared.chunk.TheConstants.{CHUNK, HALF}
use Rattle.ordered_map.specs.Chunks.{joined, chunk_at, flat, AreFilled, AreClose}
use Rattle.ordered_map.proofs.Flat.{parts, whole, joined-append, filled-append, filled-take, filled-drop, split_chunks}
use Rattle.ordered_map.proofs.Close.{close_join, close_end, close_begin, close_take, close_drop}

module _ {E : Type 0} (chunks : List (List E)) (c : ℕ) (inside : c < length chunks) where
  chunk : List E
  chunk = chunk_at chunks c

  abbrev pub halved : List (List E)
  halved = insert (set chunks c (take HALF (chunk_at chunks c))) (c + 1) (drop HALF (chunk_at chunks c))

  abbrev pub laid : List (List E)
  laid = take c chunks ++ (take HALF (chunk_at chunks c) ∷ drop HALF (chunk_at chunks c) ∷ drop (suc c) chunks)

  pub halved_is : halved ≡ laid
  halved_is = split_chunks chunks c (take HALF (chunk_at chunks c)) (drop HALF (chunk_at chunks c)) inside

  first_length : length (take c chunks) ≡ c
  first_length = length-take-le c chunks (omega arith)

  pub halved_same : joined halved ≡ joined chunks
  halved_same =
      ap joined halved_is
      ∙ joined-append (take c chunks) (take HALF (chunk_at chunks c) ∷ drop HALF (chunk_at chunks c) ∷ drop (suc c) chunks)
      ∙ ap (λ es. joined (take c chunks) ++ es) (sym (append_assoc (take HALF (chunk_at chunks c)) (drop HALF (chunk_at chunks c)) (joined (drop (suc c) chunks))) ∙ ap (λ es. es ++ joined (drop (suc c) chunks)) (take-append-drop HALF (chunk_at chunks c)))
      ∙ sym (whole chunks c inside)

  pub halved_long : length halved ≡ length chunks + 1
  halved_long =
      let laid_long = ap length halved_is ∙ length-append (take c chunks) (take HALF (chunk_at chunks c) ∷ drop HALF (chunk_at chunks c) ∷ drop (suc c) chunks) in
      let long = ap length (parts chunks c inside) ∙ length-append (take c chunks) (chunk_at chunks c ∷ drop (suc c) chunks) in
      omega (arith, laid_long, long)

  pub lower_is : chunk_at halved c ≡ take HALF (chunk_at chunks c)
  lower_is = ap (λ xs. chunk_at xs c) halved_is ∙ get_or_at (take c chunks) (take HALF (chunk_at chunks c)) _ [] c first_length

  pub lower_flat : (at : ℕ) → flat halved c at ≡ flat chunks c at
  lower_flat at = ap (λ xs. length (joined xs) + at) (ap (take c) halved_is ∙ take_at (take c chunks) _ c first_length)

  second : laid ≡ (take c chunks ++ take HALF (chunk_at chunks c) ∷ []) ++ (drop HALF (chunk_at chunks c) ∷ drop (suc c) chunks)
  second = sym (append_assoc (take c chunks) (take HALF (chunk_at chunks c) ∷ []) (drop HALF (chunk_at chunks c) ∷ drop (suc c) chunks))

  second_length : length (take c chunks ++ take HALF (chunk_at chunks c) ∷ []) ≡ c + 1
  second_length = omega (arith, length-append (take c chunks) (take HALF (chunk_at chunks c) ∷ []), first_length)

  pub upper_is : chunk_at halved (c + 1) ≡ drop HALF (chunk_at chunks c)
  upper_is = ap (λ xs. chunk_at xs (c + 1)) (halved_is ∙ second) ∙ get_or_at (take c chunks ++ take HALF (chunk_at chunks c) ∷ []) (drop HALF (chunk_at chunks c)) _ [] (c + 1) second_length

  taken : take (c + 1) halved ≡ take c chunks ++ take HALF (chunk_at chunks c) ∷ []
  taken = ap (take (c + 1)) (halved_is ∙ second) ∙ take_at (take c chunks ++ take HALF (chunk_at chunks c) ∷ []) _ (c + 1) second_length

  pub upper_flat : (at : ℕ) → HALF ≤ at → HALF ≤ length (chunk_at chunks c) → flat halved (c + 1) (at - HALF) ≡ flat chunks c at
  upper_flat at above long =
      let before = ap (λ xs. length (joined xs)) taken ∙ ap length (joined-append (take c chunks) (take HALF (chunk_at chunks c) ∷ [])) ∙ length-append (joined (take c chunks)) (take HALF (chunk_at chunks c) ++ []) in
      let half = length-append (take HALF (chunk_at chunks c)) [] in
      omega (arith, before, half, length-take-le HALF (chunk_at chunks c) long)

  pub lower_long : length (chunk_at chunks c) ≡ CHUNK → length (take HALF (chunk_at chunks c)) ≡ HALF
  lower_long full = length-take-le HALF (chunk_at chunks c) (omega (arith, full))

  pub upper_long : length (chunk_at chunks c) ≡ CHUNK → length (drop HALF (chunk_at chunks c)) ≡ HALF
  upper_long full = omega (arith, length-drop HALF (chunk_at chunks c), full)

  pub halved_filled : AreFilled chunks → length (chunk_at chunks c) ≡ CHUNK → AreFilled halved
  halved_filled filled full =
      subst AreFilled (sym halved_is) (filled-append (take c chunks) _ (filled-take c chunks filled)
      (omega (arith, lower_long full), omega (arith, lower_long full), (omega (arith, upper_long full), omega (arith, upper_long full), filled-drop (suc c) chunks filled)))

  pub halved_close : AreFilled chunks → AreClose chunks → length (chunk_at chunks c) ≡ CHUNK → AreClose halved
  halved_close filled close full =
      subst AreClose (sym halved_is) (close_join (take c chunks) (take HALF (chunk_at chunks c)) (drop HALF (chunk_at chunks c) ∷ drop (suc c) chunks)
      (close_end (take c chunks) (take HALF (chunk_at chunks c)) (close_take c chunks close) (filled-take c chunks filled) (omega (arith, lower_long full)))
      (omega (arith, lower_long full, upper_long full), close_begin (drop HALF (chunk_at chunks c)) (drop (suc c) chunks) (close_drop (suc c) chunks close) (filled-drop (suc c) chunks filled) (omega (arith, upper_long full))))
