-- The first segment of a list of blocks that isn't held, block after block.
use Rattle.std.proofs.Common.{◌≡◌, ℕ, suc, ◌+◌, ◌/◌, ◌<◌, ◌≤◌, Option, Some, None, List, [], ◌∷◌, ◌++◌, append_assoc, append-nil, length, map, drop, slice_index, refl, sym, ap, ◌∙◌, arith}
use Rattle.std.proofs.Math.Seq.{drop-cons}
use Rattle.std.proofs.lemmas.List.{drop_all}
use Rattle.disk_definitions.specs.Held.{Segments}
use Rattle.dir_lookup.specs.Looked.{Adds}
use Rattle.dir_lookup.proofs.Looking.{adds_as, adds_none, adds_then}
use Rattle.plan_steps.specs.Looking.{looked_over}
use Rattle.plan_steps.specs.Rooms.{needed}
use Rattle.plan_steps.proofs.Needed.{first_needed, then_needed}
use Rattle.plan_steps.proofs.SegmentLooks.{both_over, first_over}

abbrev segment_of : ℕ → ℕ
segment_of k = k / 1024

-- the segments of the blocks from place i on
next_of : (blocks : List ℕ) (i : ℕ) → i < length blocks → map segment_of (drop i blocks) ≡ slice_index blocks i / 1024 ∷ map segment_of (drop (i + 1) blocks)
next_of blocks i l =
    let n : suc i ≡ i + 1 = omega arith in
    ap (map segment_of) (drop-cons blocks i 0 l ∙ ap (λ (n : ℕ). slice_index blocks i ∷ drop n blocks) n)

module _ (held : Segments) (blocks : List ℕ) (i : ℕ) (all : Option ℕ) (l : i < length blocks) (rest : needed held (map segment_of (drop i blocks)) ≡ all) where
  pub held_more : None ≡ needed held (slice_index blocks i / 1024 ∷ []) → needed held (map segment_of (drop (i + 1) blocks)) ≡ all
  held_more e =
      then_needed held (slice_index blocks i / 1024 ∷ []) (map segment_of (drop (i + 1) blocks)) (needed held (map segment_of (drop (i + 1) blocks))) e refl
      ∙ ap (needed held) (sym (next_of blocks i l)) ∙ rest

  pub held_lacks : (s : ℕ) → Some s ≡ needed held (slice_index blocks i / 1024 ∷ []) → Some s ≡ all
  held_lacks s e = first_needed held (slice_index blocks i / 1024 ∷ []) (map segment_of (drop (i + 1) blocks)) s e ∙ ap (needed held) (sym (next_of blocks i l)) ∙ rest

-- ---- those that were looked at
-- between two states these were looked at, and with those that are left they are all
abbrev pub HasOver : Segments → List ℕ → ℕ → Option (List ℕ) → Option (List ℕ) → Type 0
HasOver held blocks i old now = (seen : List ℕ) × Adds old now seen × (looked_over held (map segment_of blocks) ≡ seen ++ looked_over held (map segment_of (drop i blocks)))

pub over_none : (held : Segments) (blocks : List ℕ) (kept : Option (List ℕ)) → HasOver held blocks 0 kept kept
over_none held blocks kept = ([], adds_none kept, refl)

module _ (held : Segments) (blocks : List ℕ) (i : ℕ) (old now next : Option (List ℕ)) (l : i < length blocks) (seen : HasOver held blocks i old now) where
  abbrev here : List ℕ
  here = slice_index blocks i / 1024 ∷ []

  pub over_goes : None ≡ needed held (slice_index blocks i / 1024 ∷ []) → Adds now next (looked_over held (slice_index blocks i / 1024 ∷ [])) → HasOver held blocks (i + 1) old next
  over_goes e f =
      let rest = map segment_of (drop (i + 1) blocks) in (
        seen.0 ++ looked_over held here,
        adds_then old now next seen.0 (looked_over held here) seen.1 f,
        seen.2 ∙ ap (λ l. seen.0 ++ looked_over held l) (next_of blocks i l) ∙ ap (λ l. seen.0 ++ l) (both_over held here rest e) ∙ sym (append_assoc seen.0 (looked_over held here) (looked_over held rest)),
      )

  pub over_stops : (s : ℕ) → Some s ≡ needed held (slice_index blocks i / 1024 ∷ []) → Adds now next (looked_over held (slice_index blocks i / 1024 ∷ [])) → Adds old next (looked_over held (map segment_of blocks))
  over_stops s e f =
      let rest = map segment_of (drop (i + 1) blocks) in
      adds_as old next (seen.0 ++ looked_over held here) (looked_over held (map segment_of blocks))
      (sym (seen.2 ∙ ap (λ l. seen.0 ++ looked_over held l) (next_of blocks i l) ∙ ap (λ l. seen.0 ++ l) (first_over held here rest s e)))
      (adds_then old now next seen.0 (looked_over held here) seen.1 f)

pub over_all : (held : Segments) (blocks : List ℕ) (i : ℕ) (old now : Option (List ℕ)) → length blocks ≤ i → HasOver held blocks i old now → Adds old now (looked_over held (map segment_of blocks))
over_all held blocks i old now l seen =
    adds_as old now seen.0 (looked_over held (map segment_of blocks)) (sym (seen.2 ∙ ap (λ l. seen.0 ++ looked_over held (map segment_of l)) (drop_all i blocks l) ∙ append-nil seen.0)) seen.1
