use Rattle.vector.proofs.run.over_cap.Goals as goal

pub returns : goal.returns
returns c = c.stopped.ensures
