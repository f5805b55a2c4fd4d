-- The ties of writes in flight with one more, on either side.
use Rattle.std.proofs.Common.{◌≡◌, ⊎_elim, ℕ, ◌≤◌, ◌==◌, true, false, not, IsTrue, [], ◌∷◌, ◌++◌, Option, Some, None, refl, sym, ap, ◌∙◌, subst, inl, inr}
use Rattle.std.proofs.lemmas.Bool.{not-true, false≢true, or_left, or_right, eq-eqb, both_ways}
use Rattle.std.proofs.lemmas.Option.{same_Some}
use Rattle.frang_base.specs.Functions.{put}
use Rattle.frang_base.specs.declared.lock.LockId.{LockId}
use Rattle.frang_base.proofs.Basics.{at_put, put_same}
use Rattle.disk_definitions.proofs.Listed.{Among, among_either, among_left, among_right}
use Rattle.sector_bytes.specs.Blocks.{Block}
use Rattle.core_definitions.specs.Flights as core
use Rattle.core_definitions.specs.Flights.{Flights, is_flying}
use Rattle.core_laws.proofs.Membership.{contains_in, in_contains}
use Rattle.sector_world.specs.World.{World, Flight, ByteFlight, cover, has_version}
use Rattle.core_world.specs.Ties.{AreFlying, IsFlying, IsShown, is_log_sector}

flying_in : (flights : Flights) (sector : ℕ) (one : ℕ × core.Flight) → Among one flights → one.1.sector ≡ sector → IsTrue (is_flying flights sector)
flying_in [] sector one i e = absurd i
flying_in (x ∷ xs) sector one (inl same) e = or_left (x.1.sector == sector) (is_flying xs sector) (eq-eqb x.1.sector sector (sym (ap (λ (o : ℕ × core.Flight). o.1.sector) same) ∙ e))
flying_in (x ∷ xs) sector one (inr i) e = or_right (x.1.sector == sector) (is_flying xs sector) (flying_in xs sector one i e)

module _ (segments now : ℕ) (flights : Flights) (ticket : ℕ) (new : core.Flight) (alone : IsTrue (not (is_flying flights new.sector))) (w : World) (t : AreFlying segments now flights w) where
  abbrev one : ℕ × core.Flight
  one = (ticket, new)

  abbrev more : Flights
  more = flights ++ one ∷ []

  pub other_there : (x : ℕ × core.Flight) → Among x flights → x.1.sector ≡ new.sector → ⊥
  other_there x i e = both_ways (is_flying flights new.sector) (not-true (is_flying flights new.sector) alone) (flying_in flights new.sector x i e)

  pub none_there : w.flight new.sector ≡ None
  none_there = go (w.flight new.sector) refl
    where
      go : (o : Option Flight) → w.flight new.sector ≡ o → o ≡ None
      go None e = refl
      go (Some f) e = let x = t.flight new.sector f e in absurd (other_there x.one (contains_in flights x.one x.among) x.sector)

  pub no_bytes_there : w.byte_flight new.sector ≡ None
  no_bytes_there = go (w.byte_flight new.sector) refl
    where
      go : (o : Option ByteFlight) → w.byte_flight new.sector ≡ o → o ≡ None
      go None e = refl
      go (Some f) e = let x = t.bytes new.sector f e in absurd (other_there x.one (contains_in flights x.one x.among) x.sector)

  old_flies : (s : ℕ) (lock : LockId) (by behalf stamp : ℕ) (block : Block) → IsFlying flights s lock by behalf stamp block → IsFlying more s lock by behalf stamp block
  old_flies s lock by behalf stamp block x = record {
    one = x.one;
    among = in_contains more x.one (among_left x.one flights (one ∷ []) (contains_in flights x.one x.among));
    sector = x.sector;
    server = x.server;
    behalf_is = x.behalf_is;
    stamp_is = x.stamp_is;
    block_is = x.block_is;
    place = x.place;
  }

  abbrev IsPlaced : Type 0
  IsPlaced = new.server ≡ new.behalf → new.purpose ≡ core.InPlace (cover w new.sector)

  new_flies : IsPlaced → (s : ℕ) → s ≡ new.sector → IsFlying more s (cover w s) new.server new.behalf new.stamp new.block
  new_flies placed s e = record {
    one = one;
    among = in_contains more one (among_right one flights (one ∷ []) (inl refl));
    sector = sym e;
    server = refl;
    behalf_is = refl;
    stamp_is = refl;
    block_is = refl;
    place = λ i j. placed i ∙ ap (λ n. core.InPlace (cover w n)) (sym e);
  }

  abbrev slot_flight : Flight
  slot_flight = record { by = new.server; behalf = new.behalf; stamp = new.stamp; block = new.block }

  abbrev page_flight : ByteFlight
  page_flight = record { by = new.server; stamp = new.stamp; block = new.block }

  abbrev Shown : World → ℕ × core.Flight → Type 0
  Shown u x = IsShown (has_version w x.1.sector) x.1 (u.flight x.1.sector) (u.byte_flight x.1.sector)

  pub flying_slot : IsPlaced → has_version w new.sector ≡ true → (f : Flight) → f ≡ slot_flight → AreFlying segments now more (record w { flight = put w.flight new.sector (Some f) })
  flying_slot placed v f is = record {
    flight = λ s g e.
        at_put (λ o. o ≡ Some g → IsFlying more s (cover w s) g.by g.behalf g.stamp g.block) w.flight new.sector (Some f) s
        (λ k i. subst (λ (h : Flight). IsFlying more s (cover w s) h.by h.behalf h.stamp h.block) (sym is ∙ same_Some f g i) (new_flies placed s k))
        (λ n i. old_flies s (cover w s) g.by g.behalf g.stamp g.block (t.flight s g i)) e;
    bytes = λ s g e. old_flies s (cover w s) g.by g.by g.stamp g.block (t.bytes s g e);
    shown = λ x i early out. ⊎_elim (λ j. old x j early out) (λ j. subst (Shown u) (sym (only x j)) here) (among_either x flights (one ∷ []) (contains_in more x i));
  }
    where
      u : World
      u = record w { flight = put w.flight new.sector (Some f) }

      only : (x : ℕ × core.Flight) → Among x (one ∷ []) → x ≡ one
      only x (inl e) = e
      only x (inr i) = absurd i

      old : (x : ℕ × core.Flight) → Among x flights → now ≤ x.1.stamp → is_log_sector segments x.1.sector ≡ false → Shown u x
      old x j early out =
          at_put (λ o. IsShown (has_version w x.1.sector) x.1 o (w.byte_flight x.1.sector)) w.flight new.sector (Some f) x.1.sector (λ k. absurd (other_there x j k))
          (λ n. t.shown x (in_contains flights x j) early out)

      here : Shown u one
      here = subst (λ b. IsShown b new (put w.flight new.sector (Some f) new.sector) (w.byte_flight new.sector)) (sym v) (put_same w.flight new.sector (Some f) ∙ ap Some is)

  pub flying_page : IsPlaced → has_version w new.sector ≡ false → new.server ≡ new.behalf → (f : ByteFlight) → f ≡ page_flight →
      AreFlying segments now more (record w { byte_flight = put w.byte_flight new.sector (Some f) })
  flying_page placed v self f is = record {
    flight = λ s g e. old_flies s (cover w s) g.by g.behalf g.stamp g.block (t.flight s g e);
    bytes = λ s g e.
        at_put (λ o. o ≡ Some g → IsFlying more s (cover w s) g.by g.by g.stamp g.block) w.byte_flight new.sector (Some f) s
        (λ k i. subst (λ (h : ByteFlight). IsFlying more s (cover w s) h.by h.by h.stamp h.block) (sym is ∙ same_Some f g i)
        (subst (λ n. IsFlying more s (cover w s) new.server n new.stamp new.block) (sym self) (new_flies placed s k)))
        (λ n i. old_flies s (cover w s) g.by g.by g.stamp g.block (t.bytes s g i)) e;
    shown = λ x i early out. ⊎_elim (λ j. old x j early out) (λ j. subst (Shown u) (sym (only x j)) here) (among_either x flights (one ∷ []) (contains_in more x i));
  }
    where
      u : World
      u = record w { byte_flight = put w.byte_flight new.sector (Some f) }

      only : (x : ℕ × core.Flight) → Among x (one ∷ []) → x ≡ one
      only x (inl e) = e
      only x (inr i) = absurd i

      old : (x : ℕ × core.Flight) → Among x flights → now ≤ x.1.stamp → is_log_sector segments x.1.sector ≡ false → Shown u x
      old x j early out =
          at_put (λ o. IsShown (has_version w x.1.sector) x.1 (w.flight x.1.sector) o) w.byte_flight new.sector (Some f) x.1.sector (λ k. absurd (other_there x j k))
          (λ n. t.shown x (in_contains flights x j) early out)

      here : Shown u one
      here = subst (λ b. IsShown b new (w.flight new.sector) (put w.byte_flight new.sector (Some f) new.sector)) (sym v) (put_same w.byte_flight new.sector (Some f) ∙ ap Some is)

  -- one in a log isn't the world's
  pub flying_log : is_log_sector segments new.sector ≡ true → AreFlying segments now more w
  flying_log log = record {
    flight = λ s g e. old_flies s (cover w s) g.by g.behalf g.stamp g.block (t.flight s g e);
    bytes = λ s g e. old_flies s (cover w s) g.by g.by g.stamp g.block (t.bytes s g e);
    shown = λ x i early out. ⊎_elim (λ j. t.shown x (in_contains flights x j) early out)
        (λ j. absurd (false≢true (sym out ∙ ap (λ (o : ℕ × core.Flight). is_log_sector segments o.1.sector) (only x j) ∙ log))) (among_either x flights (one ∷ []) (contains_in more x i));
  }
    where
      only : (x : ℕ × core.Flight) → Among x (one ∷ []) → x ≡ one
      only x (inl e) = e
      only x (inr i) = absurd i
