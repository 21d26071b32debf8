use Rattle.distances.proofs.places.scale_fits.Goals as goal

pub returns : goal.returns
returns c = rw (c.is_positive_finite.ensures, c.is_positive_finite-2.ensures)
