-- What a search looked at, sector after sector.
use Rattle.std.proofs.Common.{◌≡◌, ℕ, suc, ◌+◌, ◌-◌, ◌/◌, ◌%◌, ◌<◌, ◌≤◌, Bool, Option, Some, None, List, [], ◌++◌, append_assoc, append-nil, refl, sym, ap, ◌∙◌, arith}
use Rattle.disk_definitions.specs.Store.{StoredEntry}
use Rattle.disk_definitions.specs.Held.{Segments}
use Rattle.disk_definitions.specs.Least.{least}
use Rattle.disk_definitions.specs.Ask.{Ask, Got, ReadDirectory}
use Rattle.disk_definitions.specs.Walks.{Found, hit, or_on, search}
use Rattle.disk_definitions.specs.Written.{Cached}
use Rattle.dir_lookup.specs.Looked.{Adds}
use Rattle.dir_lookup.specs.Looks.{looks_of}
use Rattle.dir_lookup.specs.Reading.{Lacks, Gives, reading}
use Rattle.dir_lookup.proofs.Looking.{adds_as, adds_none, adds_then, looks_end, looks_on}

-- between two states these sectors were looked at, and with those that are left they are all of the search
abbrev pub HasSeen : (ℕ → ℕ) → (Option StoredEntry → Bool) → Cached → Segments → ℕ → ℕ → Option (List ℕ) → Option (List ℕ) → Type 0
HasSeen small test cached held j end first now =
    (seen : List ℕ) × Adds first now seen × (looks_of (search small test 0 end) cached held ≡ seen ++ looks_of (search small test j (end - j)) cached held)

pub seen_none : (small : ℕ → ℕ) (test : Option StoredEntry → Bool) (cached : Cached) (held : Segments) (end : ℕ) (kept : Option (List ℕ)) → HasSeen small test cached held 0 end kept kept
seen_none small test cached held end kept =
    let z : end ≡ end - 0 = omega arith in
    ([], adds_none kept, ap (λ n. looks_of (search small test 0 n) cached held) z)

module _ (small : ℕ → ℕ) (test : Option StoredEntry → Bool) (cached : Cached) (held : Segments) (j end : ℕ) (first now next : Option (List ℕ)) (seen : HasSeen small test cached held j end first now)
    (part : Adds now next (looks_of (ReadDirectory (small (j / 8)) (j % 8) Got) cached held)) where
  abbrev here : Ask (ℕ → Option StoredEntry)
  here = ReadDirectory (small (j / 8)) (j % 8) Got

  abbrev after : (ℕ → Option StoredEntry) → Ask (Option Found)
  after f = or_on (hit test j f (least (λ r. test (f r)) 7)) (search small test (j + 1) (end - (j + 1)))

  both : Adds first next (seen.0 ++ looks_of here cached held)
  both = adds_then first now next seen.0 (looks_of here cached held) seen.1 part

  -- the search ends with this part
  ends : looks_of (search small test j (end - j)) cached held ≡ looks_of here cached held → Adds first next (looks_of (search small test 0 end) cached held)
  ends e = adds_as first next (seen.0 ++ looks_of here cached held) (looks_of (search small test 0 end) cached held) (sym (seen.2 ∙ ap (λ l. seen.0 ++ l) e)) both

  pub seen_lacks : (s : ℕ) → j < end → Lacks s ≡ reading here cached held → Adds first next (looks_of (search small test 0 end) cached held)
  seen_lacks s l e =
      let n : suc (end - (j + 1)) ≡ end - j = omega arith in
      ends (sym (ap (λ n. looks_of (search small test j n) cached held) n) ∙ looks_end here after cached held s e)

  opened : (f : ℕ → Option StoredEntry) → j < end → Gives f ≡ reading here cached held → looks_of (search small test j (end - j)) cached held ≡ looks_of here cached held ++ looks_of (after f) cached held
  opened f l e =
      let n : suc (end - (j + 1)) ≡ end - j = omega arith in
      sym (ap (λ n. looks_of (search small test j n) cached held) n) ∙ looks_on here after cached held f e

  pub seen_hits : (f : ℕ → Option StoredEntry) (q : Found) → j < end → Gives f ≡ reading here cached held → Some q ≡ hit test j f (least (λ r. test (f r)) 7) → Adds first next (looks_of (search small test 0 end) cached held)
  seen_hits f q l e h =
      ends (opened f l e ∙ sym (ap (λ o. looks_of here cached held ++ looks_of (or_on o (search small test (j + 1) (end - (j + 1)))) cached held) h) ∙ append-nil (looks_of here cached held))

  pub seen_passes : (f : ℕ → Option StoredEntry) → j < end → Gives f ≡ reading here cached held → None ≡ hit test j f (least (λ r. test (f r)) 7) → HasSeen small test cached held (j + 1) end first next
  seen_passes f l e h = (
    seen.0 ++ looks_of here cached held,
    both,
    seen.2 ∙ ap (λ l. seen.0 ++ l) (opened f l e ∙ sym (ap (λ o. looks_of here cached held ++ looks_of (or_on o (search small test (j + 1) (end - (j + 1)))) cached held) h))
        ∙ sym (append_assoc seen.0 (looks_of here cached held) (looks_of (search small test (j + 1) (end - (j + 1))) cached held)),
  )

pub seen_all : (small : ℕ → ℕ) (test : Option StoredEntry → Bool) (cached : Cached) (held : Segments) (j end : ℕ) (first now : Option (List ℕ)) → HasSeen small test cached held j end first now → end ≤ j → Adds first now (looks_of (search small test 0 end) cached held)
seen_all small test cached held j end first now seen l =
    let z : 0 ≡ end - j = omega arith in
    adds_as first now seen.0 (looks_of (search small test 0 end) cached held) (sym (seen.2 ∙ ap (λ n. seen.0 ++ looks_of (search small test j n) cached held) (sym z) ∙ append-nil seen.0)) seen.1
