-- Whatever a run begins from is an opening.
use Rattle.core_definitions.specs.Opening.{OnFresh, OnImage}
use Rattle.core_laws.specs.Openings.{FreshDisksArePut, ImagesArePut, LogsReadAsZero}
use Rattle.opening_laws.specs.Starts.{StartsAreOpenings}
use Rattle.opening_laws.proofs.Fresh.{fresh_starts}
use Rattle.opening_laws.proofs.Image.{image_is}

pub starts_are_openings : FreshDisksArePut → ImagesArePut → LogsReadAsZero → StartsAreOpenings
starts_are_openings fresh_put images_put log_zero start (OnFresh script segments fits) bytes = fresh_starts fresh_put script segments fits
starts_are_openings fresh_put images_put log_zero start (OnImage script image p tree disk may) bytes = image_is images_put log_zero script image p tree disk may bytes
