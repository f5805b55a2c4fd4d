-- Leases, in ticks of the one clock that the servers and the disk share.
use Rattle.std.specs.Prelude.{ℕ, ◌+◌, ◌-◌, ◌<◌, ◌≤◌}
use Rattle.frang_base.specs.declared.limits.TheConstants.{LEASE_TICKS, MARGIN_TICKS}

-- the last tick at which a lease of so many ticks that was begun or renewed at this one still stands
abbrev pub lease_expiry_of : ℕ → ℕ → ℕ
lease_expiry_of ticks renewed = renewed + ticks

-- the last tick at which a write may arrive that was issued under a lease with this expiry, so many ticks before it
abbrev pub write_stamp_of : ℕ → ℕ → ℕ
write_stamp_of margin expiry = expiry - margin

-- of leases of 30 ticks, with a margin of 15
abbrev pub lease_expiry : ℕ → ℕ
lease_expiry renewed = lease_expiry_of LEASE_TICKS renewed

abbrev pub write_stamp : ℕ → ℕ
write_stamp expiry = write_stamp_of MARGIN_TICKS expiry

-- now is above the expiry
abbrev pub HasEnded : ℕ → ℕ → Type 0
HasEnded now expiry = expiry < now

-- a write with this stamp that arrives now arrives in time; else it is late
abbrev pub IsInTime : ℕ → ℕ → Type 0
IsInTime stamp now = now ≤ stamp
