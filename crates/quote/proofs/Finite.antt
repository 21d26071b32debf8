-- The distances of an exact call and of the closed form are finite. Assumes nothing.
use Rattle.std.specs.Prelude.{Option, Result, Ok, Err}
use Rattle.std.proofs.Common.{◌≡◌, ℕ, Bool, true, false, ℤ, arith}
use lib.Ieee.{Float}
use Rattle.elementary.specs.Float.{positive}
use Rattle.distances.specs.Promises.{Finite}
use Rattle.distances.specs.declared.Answer.{Answer}
use Rattle.distances.proofs.Finite.{sides_fine, finite_distances}
use Rattle.amounts.specs.Amounts.{tau_of}
use Rattle.model.specs.Model.{input_of, exact_model}
use Rattle.quote.specs.ClosedForm.{slope, bid_form, ask_form, form_if, closed_form_distances}
use Rattle.quote.specs.Quotes.{exact_from, exact_answer, closed_from}
use Rattle.model.specs.declared.GLFTConfig.{GLFTConfig}
use Rattle.elementary.specs.declared.Refusal.{Refusal}
use Rattle.model.specs.declared.Model.{Model}

from_finite : (m : Result (Model × ℤ) Refusal) (tau : Float) (b a : Option Float) (s : ℕ) → exact_from m tau ≡ Answer.Distances b a s → Finite b a
unfolding exact_from
from_finite (Ok (m, q)) tau b a s e = finite_distances.entry m.k m.base (input_of m tau) q b a s e
from_finite (Err r) tau b a s e = let z : ◌≡◌ {A = ℕ} 0 1 = cc in absurd (omega arith)

pub answer_finite : (mid h : ℤ) (c : GLFTConfig) (vol : ℤ) (t : ℕ) (b a : Option Float) (s : ℕ) → exact_answer mid h c vol t ≡ Answer.Distances b a s → Finite b a
unfolding exact_answer
answer_finite mid h c vol t b a s e = from_finite (exact_model mid h c vol t) (tau_of c.terminal_time t) b a s e

pub closed_finite : (m : Result (Model × ℤ) Refusal) (b a : Option Float) → closed_from m ≡ Ok (b, a) → Finite b a
unfolding closed_from closed_form_distances form_if
closed_finite (Err r) b a e = let z : ◌≡◌ {A = ℕ} 0 1 = cc in absurd (omega arith)
closed_finite (Ok (m, q)) b a e = go (positive (slope m)) e
  where
    go : (t : Bool) → form_if t m q ≡ Ok (b, a) → Finite b a
    go true h = sides_fine (bid_form m q) (ask_form m q) b a h
    go false h = let z : ◌≡◌ {A = ℕ} 0 1 = cc in absurd (omega arith)
