-- What is kept of writes in flight is of writes in flight once one more is issued, and no recovery has issued one where none is in flight.
use Rattle.std.proofs.Common.{◌≡◌, ◌<◌, ◌==◌, ℕ, ◌⊎◌, inl, inr, ⊎_elim, Bool, true, false, ◌&&◌, ◌||◌, if◌then◌else◌, is_some, Some, [], ◌∷◌, ◌++◌, refl, sym, ap, ◌∙◌, subst, eqb-true, eq-eqb}
use Rattle.std.proofs.lemmas.Bool.{and_parts, false≢true}
use Rattle.std.proofs.lemmas.List.Folds.{list_any-append}
use Rattle.std.proofs.lemmas.Option.{same_Some}
use Rattle.std.specs.BTreeMap.{is_at}
use Rattle.std.specs.Ordering.{nat_cmp}
use Rattle.frang_base.specs.Functions.{member}
use Rattle.frang_base.specs.declared.limits.TheConstants.{SERVERS}
use Rattle.sector_bytes.specs.SectorMaps.{value_at, without}
use Rattle.core_definitions.specs.Flights.{Flight, Flights, is_flying}
use Rattle.world_parties.specs.States.{Keeps, KeepsBut, State as Parties, flags_at, issued_at}
use Rattle.world_state.specs.States.{AreFlying, flies_by}
use Rattle.world_state.proofs.Lasting.{is_by}

module _ (flights : Flights) (ticket : ℕ) (flight : Flight) where
  more : (a x : ℕ) → flies_by (flights ++ (ticket, flight) ∷ []) a x ≡ (flies_by flights a x || (is_by a x flight || false))
  more a x = list_any-append (λ one. is_by a x one.1) flights ((ticket, flight) ∷ [])

  still : (a x : ℕ) → flies_by flights a x ≡ true → flies_by (flights ++ (ticket, flight) ∷ []) a x ≡ true
  still a x there = more a x ∙ ap (λ b. b || (is_by a x flight || false)) there

  itself : (a x : ℕ) → a ≡ flight.server → x ≡ flight.sector → flies_by (flights ++ (ticket, flight) ∷ []) a x ≡ true
  itself a x party sector =
      more a x ∙ ap (λ b. flies_by flights a x || ((b && flight.sector == x) || false)) (eq-eqb flight.server a (sym party))
      ∙ ap (λ b. flies_by flights a x || (b || false)) (eq-eqb flight.sector x (sym sector)) ∙ last (flies_by flights a x)
    where
      last : (b : Bool) → (b || true) ≡ true
      last true = refl
      last false = refl

  -- the flag of its sector, or what its recovery has issued, may be new
  pub flying_more : (old new : Parties) → KeepsBut old new flight.server flight.sector → AreFlying old flights → AreFlying new (flights ++ (ticket, flight) ∷ [])
  flying_more old new keeps flying = record {
    flagged = λ a x few there. ⊎_elim (λ was. still a x (flying.flagged a x few was)) (λ is. itself a x is.0 is.1) (keeps.flags a x there);
    issued = λ a x there. ⊎_elim (λ was. still a x (flying.issued a x was)) (λ is. itself a x is.0 is.1) (keeps.issued a x there);
  }

-- where no write of a sector is in flight, no recovery has issued one
pub none_issued : (parties : Parties) (flights : Flights) (by sector : ℕ) → AreFlying parties flights → is_flying flights sector ≡ false → is_some (value_at (issued_at parties by) sector) ≡ false
none_issued parties flights by sector flying free = go (is_some (value_at (issued_at parties by) sector)) refl
  where
    by_one : (all : Flights) → flies_by all by sector ≡ true → is_flying all sector ≡ true
    by_one [] flies = flies
    by_one (one ∷ all) flies = either (one.1.server == by) (one.1.sector == sector) (flies_by all by sector) flies (by_one all)
      where
        either : (a b rest : Bool) → ((a && b) || rest) ≡ true → (rest ≡ true → is_flying all sector ≡ true) → (b || is_flying all sector) ≡ true
        either true true rest flies behind = refl
        either true false rest flies behind = behind flies
        either false true rest flies behind = refl
        either false false rest flies behind = behind flies

    go : (b : Bool) → is_some (value_at (issued_at parties by) sector) ≡ b → b ≡ false
    go true there = absurd (false≢true (sym free ∙ by_one flights (flying.issued by sector there)))
    go false there = refl
