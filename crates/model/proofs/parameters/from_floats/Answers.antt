use Rattle.model.specs.Model.{model_by, model_from}
use Rattle.model.proofs.parameters.from_floats.Goals as goal

pub returns : goal.returns
unfolding model_from model_by
returns c =
    rw (c.or_nan-decay.ensures, c.exp.ensures, c.or_nan-log1p_ratio.ensures, c.ln_1p.ensures)
