-- Tests of the servers that may hold locks, 0 to 15.
use Rattle.std.specs.Prelude.{ℕ, zero, suc, ◌^◌, Bool, false, ◌||◌, if◌then◌else◌, bit_or}
use Rattle.frang_base.specs.declared.limits.TheConstants.{SERVERS}

-- some number below the bound passes
abbrev pub any_below : (ℕ → Bool) → ℕ → Bool
any_below passes zero = false
any_below passes (suc n) = any_below passes n || passes n

-- the bit 2^n for each number n below the bound that passes
abbrev pub bits_below : (ℕ → Bool) → ℕ → ℕ
bits_below passes zero = 0
bits_below passes (suc n) = if passes n then bit_or (bits_below passes n) (2 ^ n) else bits_below passes n

-- some server passes
unfoldable pub any_server : (ℕ → Bool) → Bool
any_server passes = any_below passes SERVERS

-- a bit for each server that passes
unfoldable pub server_bits : (ℕ → Bool) → ℕ
server_bits passes = bits_below passes SERVERS
