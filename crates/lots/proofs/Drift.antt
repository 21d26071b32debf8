-- At drift 0 beta is a zero, so what the vector's layer says of a zero beta carries over to a reckoning. Assumes nothing.
use mathlib.Core.Path.{◌≡◌, refl, ap, ◌∙◌}
use mathlib.Core.Bool.{Bool, true, false}
use lib.IntN.{ℤ, pos}
use lib.Ieee.{Float}
use Rattle.vector.specs.Values.{value_vector}
use Rattle.vector.proofs.Drift.{drift_zero as vector-zero}
use Rattle.amounts.specs.Amounts.{tau_of}
use Rattle.model.specs.Model.{model_of, model_ok, input_of}
use Rattle.model.specs.declared.GLFTConfig.{GLFTConfig}
use Rattle.lots.specs.Reckoning.{reckon_if, reckoned, reckoning}
use Rattle.lots.specs.Drift.{driftless_reckoning, DriftZero}
use Rattle.quote.proofs.Drift.{beta_zero, floats_same}
use Rattle.vector.specs.Drift.{driftless_vector}

-- the vector, where the model passed
vector_same : (c : GLFTConfig) → c.drift ≡ pos 0 → (vol : ℤ) → let m = model_of c vol in (tau : Float) (f : Bool) → model_ok m ≡ f
    → reckon_if f (value_vector (input_of m tau)) ≡ reckon_if f (driftless_vector m.alpha m.eta m.q_max tau)
unfolding reckon_if
vector_same c e vol tau true f = let m = model_of c vol in vector-zero.vectors (input_of m tau) (beta_zero c e vol f)
vector_same c e vol tau false f = refl

pub drift_zero : DriftZero
unfolding reckoning driftless_reckoning
drift_zero c vol t e =
    let m = model_of c vol in
    ap (reckoned m) (vector_same c e vol (tau_of c.terminal_time t) (model_ok m) refl ∙ rw (floats_same c e vol))
