-- Plans that are refused, and plans that go by a test.
use Rattle.std.proofs.Common.{◌≡◌, Bool, true, false, cond, ap}
use Rattle.disk_definitions.specs.Held.{Segments}
use Rattle.disk_definitions.specs.Ask.{Ask}
use Rattle.disk_definitions.specs.Plans.{Plan}
use Rattle.disk_definitions.specs.Written.{Cached}
use Rattle.dir_lookup.specs.Reading.{reading}

pub if_so : (b : Bool) (p q : Ask Plan) (cached : Cached) (held : Segments) → b ≡ true → reading (cond b p q) cached held ≡ reading p cached held
if_so b p q cached held e = ap (λ b. reading (cond b p q) cached held) e

pub if_not : (b : Bool) (p q : Ask Plan) (cached : Cached) (held : Segments) → b ≡ false → reading (cond b p q) cached held ≡ reading q cached held
if_not b p q cached held e = ap (λ b. reading (cond b p q) cached held) e
