-- Server by server.
use Rattle.rest_laws.proofs.LaidOver.{caches_are_laid_over, caches_laid_over_stand}
use Rattle.rest_laws.proofs.caches_laid_over_the_disk_stand.Goals as goal

pub returns : goal.returns
returns c = record { done = caches_are_laid_over; stands = caches_laid_over_stand }
