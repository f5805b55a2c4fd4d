-- What stands around the bytes in a sector: it is read where some of it stays, and else counts as zeros.
use Rattle.std.proofs.Common.{◌≡◌, ℕ, zero, suc, Bool, true, false, cond, Result, Ok, Err, List, [], ◌∷◌, replicate, get_or, slice_index, refl, sym, ap, ◌∙◌}
use Rattle.std.proofs.Math.Path.{fun_ext}
use Rattle.sector_bytes.specs.Bytes.{zeros}
use Rattle.disk_definitions.specs.Store.{StoredNode}
use Rattle.disk_definitions.specs.Edits.{Edit}
use Rattle.disk_definitions.specs.Ask.{Ask, Got}
use Rattle.disk_definitions.specs.Plans.{Plan}
use Rattle.disk_definitions.specs.FilePlans.{Writing, keeps_bytes, mixed, read_sector, set_sector}
use Rattle.dir_lookup.specs.declared.need.Need.{Need}
use Rattle.dir_lookup.specs.Reading.{Lacks, Gives, read_of}
use Rattle.dir_lookup.specs.Hands.{over}
use Rattle.dir_lookup.specs.declared.hand.Hand.{Hand}
use Rattle.plan_steps.specs.Edits.{edit_of}
use Rattle.plan_steps.specs.declared.edit.Edit.{Edit as CodeEdit}
use Rattle.op_data.specs.Writings.{FindsAround, WritesSector}
use Rattle.op_data.proofs.SectorSteps.{sector_goes_on}

-- zeros are 0 at every place
zero_at : (n r : ℕ) → ◌≡◌ {A = ℕ} (get_or (replicate n 0) r 0) 0
zero_at zero r = refl
zero_at (suc n) zero = refl
zero_at (suc n) (suc r) = zero_at n r

zeros_are : (zs : List ℕ) → zs ≡ zeros 512 → (λ (r : ℕ). 0) ≡ slice_index zs
unfolding zeros
zeros_are zs e = fun_ext (λ r. sym (zero_at 512 r) ∙ ap (λ zs. get_or zs r 0) (sym e))

module _ (hand : Hand) (w : Writing) (x : StoredNode) (t : ℕ) where
  -- the plan by whether something of the sector stays
  read_by : Bool → ((ℕ → ℕ) → Ask Plan) → Ask Plan
  read_by b next = cond b (read_sector x t next) (next (λ r. 0))

  pub around_read : keeps_bytes w x.size t ≡ true → (r : Result (List ℕ) Need) → read_of (λ block. slice_index block) r ≡ over (read_sector x t Got) hand → FindsAround hand w x t r
  unfolding read_by
  around_read k (Ok block) e = λ next. ap (λ b. over (read_by b next) hand) k ∙ sym (sector_goes_on x t next hand (Gives (slice_index block)) e)
  around_read k (Err need) e = λ next. ap (λ b. over (read_by b next) hand) k ∙ sym (sector_goes_on x t next hand (Lacks need.0.0) e)

  pub around_zeros : keeps_bytes w x.size t ≡ false → (zs : List ℕ) → zs ≡ zeros 512 → FindsAround hand w x t (Ok zs)
  unfolding read_by
  around_zeros k zs e = λ next. ap (λ b. over (read_by b next) hand) k ∙ ap (λ f. over (next f) hand) (zeros_are zs e)

  -- the plan of the edit of a sector, by what stands around
  abbrev after : StoredNode → (List Edit → Ask Plan) → (ℕ → ℕ) → Ask Plan
  after y next old = next (set_sector y t (mixed w t old) ∷ [])

  pub sector_lacks : (y : StoredNode) (need : Need) → FindsAround hand w x t (Err need) → WritesSector hand w x y t (Err need)
  sector_lacks y need f = λ next. f (after y next)

  pub sector_written : (y : StoredNode) (block : List ℕ) (bytes : List ℕ) (e : CodeEdit) → FindsAround hand w x t (Ok block) → slice_index bytes ≡ mixed w t (slice_index block)
      → edit_of e ≡ set_sector y t (slice_index bytes) → WritesSector hand w x y t (Ok e)
  sector_written y block bytes e f m d = λ next. f (after y next) ∙ ap (λ e. over (next (e ∷ [])) hand) (ap (set_sector y t) (sym m) ∙ sym d)
