-- Each refusal of the two constructors is the reply in just the situation that the paper names. Assumes nothing.
use Rattle.std.specs.Prelude.{Err, Result}
use mathlib.Core.Path.{◌≡◌, subst, ap}
use Prim.Native.Nat.{ℕ}
use native.Mathlib.Omega.{arith}
use mathlib.Core.Bool.{Bool}
use mathlib.Core.List.{List}
use lib.IntN.{ℤ}
use Rattle.elementary.specs.Checks.{Verdict, passes, refused, first_failing, Refuses, by}
use Rattle.elementary.proofs.Checks.{first_failing_lem, same_err, same_number}
use Rattle.model.specs.Configuration.{config_checks, config_if, new_config}
use Rattle.model.specs.Model.{new_model}
use Rattle.model.specs.Refusing.{ConfigRefusals, ModelRefusals}
use Rattle.model.specs.declared.GLFTConfig.{GLFTConfig}
use Rattle.model.specs.declared.Model.{Model}
use Rattle.model.proofs.Passed.{Made, stopped, passed, made, stops}
use Rattle.elementary.specs.declared.Refusal.{Refusal}

config_stopped : (v : Verdict) (c : GLFTConfig) (n : ℕ) → config_if v c ≡ Err (by n) → v ≡ refused n
unfolding config_if
config_stopped passes c n e = let z : ◌≡◌ {A = ℕ} 0 1 = cc in absurd (omega arith)
config_stopped (refused m) c n e = ap (λ k. refused k) (same_err e)

pub config_refusals : ConfigRefusals
unfolding new_config config_if
config_refusals c n =
    let k = first_failing_lem (config_checks c) n in
    (λ e. k.0 (config_stopped (first_failing (config_checks c)) c n e), λ r. rw (k.1 r))

model_stopped : {l : List (Bool × ℕ)} {b : Model} {q : ℤ} {x : Result (Model × ℤ) Refusal} (n : ℕ) → Made l b q x → x ≡ Err (by n) → Refuses l n
model_stopped {l} n (stopped {n = r} k) e = let z : r ≡ n = same_number (let y : by r ≡ by n = cc in y) in subst (λ (i : ℕ). Refuses l i) z k
model_stopped n (passed k) e = let z : ◌≡◌ {A = ℕ} 0 1 = cc in absurd (omega arith)

pub model_refusals : ModelRefusals
unfolding new_model
model_refusals mid h c vol n = (model_stopped n (made _ _ _), stops _ _)
