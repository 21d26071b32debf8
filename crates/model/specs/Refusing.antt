-- Each refusal of the two constructors is the reply in just the situation that document 01 names. Each statement is proved once, in proofs/. Definitions only.
use Rattle.std.specs.Prelude.{◌≡◌, ℕ, ◌↔◌, ℤ, Err}
use Rattle.elementary.specs.Checks.{Refuses, by}
use Rattle.model.specs.Configuration.{config_checks, new_config}
use Rattle.model.specs.Model.{model_checks, new_model}
use Rattle.model.specs.declared.GLFTConfig.{GLFTConfig}

-- the configuration's by 2, then 1; the model's by 2, 1, 3, 4 and 5
abbrev pub ConfigRefusals : Type 0
ConfigRefusals = (c : GLFTConfig) (n : ℕ) → (new_config c ≡ Err (by n)) ↔ Refuses (config_checks c) n

abbrev pub ModelRefusals : Type 0
ModelRefusals = (mid h : ℤ) (c : GLFTConfig) (vol : ℤ) (n : ℕ) → (new_model mid h c vol ≡ Err (by n)) ↔ Refuses (model_checks mid h c vol) n
