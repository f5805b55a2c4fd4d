-- What reading of cached sectors comes to: a value, or the number of the first sector that is needed and isn't cached.
use Rattle.std.specs.Prelude.{◌≡◌, ℕ, Option, Some, None, Result, Ok, Err}
use Rattle.disk_definitions.specs.Held.{Segments}
use Rattle.disk_definitions.specs.Ask.{Ask, Met, meet, number_of}
use Rattle.disk_definitions.specs.Ask.Met.{Needs, Has}
use Rattle.disk_definitions.specs.Written.{Cached, at_hand}
use Rattle.dir_lookup.specs.declared.need.Need.{Need}

pub data Read (A : Type 0) : Type 0 where
  Lacks : (sector : ℕ) → Read A
  Gives : (value : A) → Read A

abbrev pub numbered : {A : Type 0} → Met A → Read A
numbered (Needs sector) = Lacks (number_of sector)
numbered (Has a) = Gives a

-- what a program comes to over cached sectors and held segments
abbrev pub reading : {A : Type 0} → Ask A → Cached → Segments → Read A
reading p cached held = numbered (meet p (at_hand cached held))

-- one reading, and then another by its value
abbrev pub then_read : {A B : Type 0} → Read A → (A → Read B) → Read B
then_read (Lacks sector) f = Lacks sector
then_read (Gives a) f = f a

-- what is read of a sector
abbrev pub read_or_lacks : {A : Type 0} → ℕ → Option A → Read A
read_or_lacks sector None = Lacks sector
read_or_lacks sector (Some a) = Gives a

-- what a call of the code says, whose values have this meaning
abbrev pub read_of : {A B : Type 0} → (A → B) → Result A Need → Read B
read_of meaning (Ok a) = Gives (meaning a)
read_of meaning (Err need) = Lacks need.0.0

-- the call says what the program comes to, whatever segments are held
abbrev pub Reads : {A B : Type 0} → (A → B) → Ask B → Cached → Result A Need → Type 0
Reads meaning p cached result = (held : Segments) → read_of meaning result ≡ reading p cached held
