-- The list of writes in flight without one of them.
use Rattle.std.proofs.Common.{◌≡◌, ℕ, Bool, true, false, if◌then◌else◌, [], ◌∷◌, Some, refl, sym, ap, ◌∙◌, inl, inr, subst}
use Rattle.std.proofs.lemmas.Option.{same_Some, none-some}
use Rattle.std.specs.BTreeMap.{is_at}
use Rattle.std.specs.Ordering.{nat_cmp}
use Rattle.disk_definitions.proofs.Listed.{Among}
use Rattle.sector_bytes.specs.SectorMaps.{value_at, without}
use Rattle.core_definitions.specs.Flights.{Flight, Flights}
use Rattle.core_laws.proofs.Flying.{Once, sectors_in}
use Rattle.core_laws.proofs.Membership.{contains_in, in_contains, into_map}
use Rattle.core_world.proofs.Same.{AreOfThose, among_those}

-- one of another sector stays
pub into_without : (flights : Flights) (ticket : ℕ) (gone : Flight) (one : ℕ × Flight) → value_at flights ticket ≡ Some gone → Among one flights → (one.1.sector ≡ gone.sector → ⊥) →
    Among one (without flights ticket)
into_without [] ticket gone one e i other = absurd i
into_without (x ∷ xs) ticket gone one e i other = go (is_at (nat_cmp ticket) x.0) e i (λ f j. into_without xs ticket gone one f j other)
  where
    go : (b : Bool) → (if b then Some x.1 else value_at xs ticket) ≡ Some gone → Among one (x ∷ xs) → (value_at xs ticket ≡ Some gone → Among one xs → Among one (without xs ticket)) →
        Among one (if b then xs else x ∷ without xs ticket)
    go true f (inl same) rest = absurd (other (ap (λ (o : ℕ × Flight). o.1.sector) same ∙ ap (λ (o : Flight). o.sector) (same_Some x.1 gone f)))
    go true f (inr j) rest = j
    go false f (inl same) rest = inl same
    go false f (inr j) rest = inr (rest f j)

-- what stays was there
pub from_without : (flights : Flights) (ticket : ℕ) (one : ℕ × Flight) → Among one (without flights ticket) → Among one flights
from_without [] ticket one i = absurd i
from_without (x ∷ xs) ticket one i = go (is_at (nat_cmp ticket) x.0) i (λ j. from_without xs ticket one j)
  where
    go : (b : Bool) → Among one (if b then xs else x ∷ without xs ticket) → (Among one (without xs ticket) → Among one xs) → Among one (x ∷ xs)
    go true j rest = inr j
    go false (inl same) rest = inl same
    go false (inr j) rest = inr (rest j)

-- the one of this ticket
pub gone_at : (flights : Flights) (ticket : ℕ) (gone : Flight) → value_at flights ticket ≡ Some gone → (one : ℕ × Flight) × Among one flights × (one.1 ≡ gone)
gone_at [] ticket gone e = absurd (none-some gone e)
gone_at (x ∷ xs) ticket gone e = go (is_at (nat_cmp ticket) x.0) e (λ f. gone_at xs ticket gone f)
  where
    go : (b : Bool) → (if b then Some x.1 else value_at xs ticket) ≡ Some gone → (value_at xs ticket ≡ Some gone → (one : ℕ × Flight) × Among one xs × (one.1 ≡ gone)) →
        (one : ℕ × Flight) × Among one (x ∷ xs) × (one.1 ≡ gone)
    go true f rest = (x, inl refl, same_Some x.1 gone f)
    go false f rest = let r = rest f in (r.0, inr r.1, r.2)

-- where each sector stands once, one of the same sector is it
pub at_sector : (flights : Flights) (ticket : ℕ) (gone : Flight) (one : ℕ × Flight) → Once (sectors_in flights) → value_at flights ticket ≡ Some gone → Among one flights → one.1.sector ≡ gone.sector →
    one.1 ≡ gone
at_sector flights ticket gone one once e i same = let r = gone_at flights ticket gone e in alone flights one r.0 once i r.1 (same ∙ sym (ap (λ (o : Flight). o.sector) r.2)) ∙ r.2
  where
    there : (xs : Flights) (x y : ℕ × Flight) → Among y xs → x.1.sector ≡ y.1.sector → Among x.1.sector (sectors_in xs)
    there xs x y j k = subst (λ n. Among n (sectors_in xs)) (sym k) (into_map (λ (o : ℕ × Flight). o.1.sector) xs y j)

    alone : (xs : Flights) (x y : ℕ × Flight) → Once (sectors_in xs) → Among x xs → Among y xs → x.1.sector ≡ y.1.sector → x.1 ≡ y.1
    alone [] x y o i j k = absurd i
    alone (z ∷ zs) x y o (inl p) (inl q) k = ap (λ (v : ℕ × Flight). v.1) p ∙ sym (ap (λ (v : ℕ × Flight). v.1) q)
    alone (z ∷ zs) x y o (inl p) (inr j) k = absurd (o.0 (there zs z y j (sym (ap (λ (v : ℕ × Flight). v.1.sector) p) ∙ k)))
    alone (z ∷ zs) x y o (inr i) (inl q) k = absurd (o.0 (there zs z x i (sym (ap (λ (v : ℕ × Flight). v.1.sector) q) ∙ sym k)))
    alone (z ∷ zs) x y o (inr i) (inr j) k = alone zs x y o.1 i j k

-- and is of another sector, where each sector stands once
pub other_without : (flights : Flights) (ticket : ℕ) (gone : Flight) (one : ℕ × Flight) → Once (sectors_in flights) → value_at flights ticket ≡ Some gone → Among one (without flights ticket) →
    one.1.sector ≡ gone.sector → ⊥
other_without [] ticket gone one once e i same = absurd i
other_without (x ∷ xs) ticket gone one once e i same = go (is_at (nat_cmp ticket) x.0) e i (λ f j. other_without xs ticket gone one once.1 f j same)
  where
    there : (y : ℕ × Flight) → Among y xs → y.1.sector ≡ x.1.sector → ⊥
    there y j k = once.0 (subst (λ n. Among n (sectors_in xs)) k (into_map (λ (o : ℕ × Flight). o.1.sector) xs y j))

    go : (b : Bool) → (if b then Some x.1 else value_at xs ticket) ≡ Some gone → Among one (if b then xs else x ∷ without xs ticket) →
        (value_at xs ticket ≡ Some gone → Among one (without xs ticket) → ⊥) → ⊥
    go true f j rest = there one j (same ∙ sym (ap (λ (o : Flight). o.sector) (same_Some x.1 gone f)))
    go false f (inl k) rest = let r = gone_at xs ticket gone f in
        there r.0 r.1 (ap (λ (o : Flight). o.sector) r.2 ∙ sym same ∙ ap (λ (o : ℕ × Flight). o.1.sector) k)
    go false f (inr j) rest = rest f j

-- without one of them they are of those
pub fewer_those : (flights : Flights) (ticket : ℕ) → AreOfThose (without flights ticket) flights
fewer_those flights ticket = among_those (without flights ticket) flights (λ one i. in_contains flights one (from_without flights ticket one (contains_in (without flights ticket) one i)))
