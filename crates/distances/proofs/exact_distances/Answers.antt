use mir.Facts.{to_z-of_z}
use Rattle.std.proofs.lemmas.List.{map-id}
use Rattle.distances.proofs.exact_distances.Goals as goal

pub returns : goal.returns
returns c =
    let v = c.args.vector in
    rw (c.distances_in.ensures, to_z-of_z c.ranges.q, map-id v.w, map-id v.log_offset)
