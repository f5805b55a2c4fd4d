-- What a program needs or has, by how the code says it.
use Rattle.std.proofs.Common.{◌≡◌, ℕ, refl}
use Rattle.disk_definitions.specs.Ask.{Met, Sector, number_of}
use Rattle.disk_definitions.specs.Ask.Met.{Needs, Has}
use Rattle.dir_lookup.specs.Reading.{Gives, Lacks, numbered}

-- a sector with this number is needed
pub record Need (A : Type 0) (m : Met A) (number : ℕ) : Type 0 where
  pub sector : Sector
  pub met : m ≡ Needs sector
  pub number_is : number_of sector ≡ number

pub needs_as : {A : Type 0} (m : Met A) (number : ℕ) → numbered m ≡ Lacks number → Need A m number
needs_as (Needs sector) number e = record { sector = sector; met = refl; number_is = cc }
needs_as (Has value) number e = absurd (cc)

pub has_as : {A : Type 0} (m : Met A) (value : A) → numbered m ≡ Gives value → m ≡ Has value
has_as (Needs sector) value e = absurd (cc)
has_as (Has other) value e = cc
