-- Change request 7: at drift 0 the reckoning is the one without any drift. The statement is proved once, in proofs/. Definitions only.
use Rattle.std.specs.Prelude.{◌≡◌, ℕ, ℤ, pos}
use Rattle.amounts.specs.Amounts.{tau_of}
use Rattle.model.specs.Model.{model_of}
use Rattle.model.specs.declared.GLFTConfig.{GLFTConfig}
use Rattle.quote.specs.Drift.{driftless_floats}
use Rattle.lots.specs.Reckoning.{reckon_if, reckoned, reckoning}
use Rattle.lots.specs.declared.Reckoning.{Reckoning}
use Rattle.vector.specs.Drift.{driftless_vector}

unfoldable pub driftless_reckoning : GLFTConfig → ℤ → ℕ → Reckoning
driftless_reckoning c vol t = let m = model_of c vol in reckoned m (reckon_if (driftless_floats m) (driftless_vector m.alpha m.eta m.q_max (tau_of c.terminal_time t)))

abbrev pub DriftZero : Type 0
DriftZero = (c : GLFTConfig) (vol : ℤ) (t : ℕ) → c.drift ≡ pos 0 → reckoning c vol t ≡ driftless_reckoning c vol t
