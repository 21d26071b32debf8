use Rattle.distances.proofs.places.distance_between.Goals as goal

pub returns : goal.returns
returns c =
    rw (c.or_nan-a.ensures, c.ln.ensures, c.or_nan-b.ensures, c.ln-2.ensures)
