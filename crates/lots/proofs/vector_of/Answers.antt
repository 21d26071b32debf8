use Rattle.lots.specs.Reckoning.{reckon_if}
use Rattle.lots.proofs.vector_of.Goals as goal

pub returns-then-floats_fit : goal.returns-then-floats_fit
unfolding reckon_if
returns-then-floats_fit c =
    rw (← c.floats_fit.ensures, c.if-floats_fit.true, c.value_vector.ensures, c.run_input.ensures)

pub returns : goal.returns
unfolding reckon_if
returns c = rw (← c.floats_fit.ensures, c.if-floats_fit.false, c.refused_vector.ensures)
