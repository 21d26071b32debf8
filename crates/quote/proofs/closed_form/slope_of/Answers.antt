use Rattle.quote.specs.ClosedForm.{slope}
use Rattle.quote.proofs.closed_form.slope_of.Goals as goal

pub returns : goal.returns
unfolding slope
returns c =
    rw (c.or_nan.ensures, c.sqrt.ensures, c.or_nan-growth.ensures, c.exp.ensures, c.or_nan-log1p_ratio.ensures, c.ln_1p.ensures)
