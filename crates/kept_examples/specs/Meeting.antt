-- Whether another server met what a server did above a number, computed.
use Rattle.std.specs.Prelude.{◌≡◌, ℕ, Bool, true, false, not, ◌&&◌, ◌||◌, nat_eq, List, [], ◌∷◌}
use Rattle.std.specs.List.{list_any}
use Rattle.frang_base.specs.Locks.{has_lock}
use Rattle.sector_world.specs.Histories.{Commit, Item, is_own}
use Rattle.sector_world.specs.Histories.Item.{Done, Doubt}
use Rattle.sector_world.specs.Seen.{Unmet}

-- an operation uses a lock that an older one of the server above the number had alone
abbrev pub meets_some : (server durable : ℕ) → Commit → List Item → Bool
meets_some server durable c [] = false
meets_some server durable c (Done e ∷ older) = (is_own server durable e && list_any (λ l. has_lock l c.uses) e.alone) || meets_some server durable c older
meets_some server durable c (Doubt marked ∷ older) = meets_some server durable c older

-- none of another server does
abbrev pub nobody_meets : (server durable : ℕ) → List Item → Bool
nobody_meets server durable [] = true
nobody_meets server durable (Done c ∷ older) = (nat_eq c.by server || not (meets_some server durable c older)) && nobody_meets server durable older
nobody_meets server durable (Doubt marked ∷ older) = nobody_meets server durable older

-- then it is so by the theorem on sectors
abbrev pub WhomNobodyMeets : Type 0
WhomNobodyMeets = (server durable : ℕ) (h : List Item) → nobody_meets server durable h ≡ true → Unmet server durable h
