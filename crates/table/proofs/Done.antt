-- Quotes come of a run that is done, with its steps. Assumes nothing.
use Rattle.std.specs.Prelude.{Option, Result, Ok, Err}
use mathlib.Core.Path.{◌≡◌, ap}
use Prim.Native.Nat.{ℕ}
use native.Mathlib.Omega.{arith}
use lib.IntN.{ℤ}
use lib.Ieee.{Float}
use Rattle.vector.specs.declared.Outcome.{Outcome}
use Rattle.vector.specs.declared.ValueVector.{ValueVector}
use Rattle.vector.specs.declared.VectorAnswer.{VectorAnswer}
use Rattle.distances.specs.Distances.{exact_distances}
use Rattle.distances.specs.Reading.{sides_with, read_by, answer_from}
use Rattle.prices.specs.Prices.{build_quotes}
use Rattle.prices.specs.declared.GlftQuotes.{GlftQuotes}
use Rattle.quote.specs.Quotes.{exact_by}
use Rattle.quote.proofs.Pairs.{with_steps_is}
use Rattle.quote.specs.declared.ExactQuotes.TheVariants as ExactQuotes
use Rattle.elementary.specs.declared.Refusal.{Refusal}

module _ (mid least : ℤ) (g : GlftQuotes) (s : ℕ) where
  sides_done : (n : ℕ) (d : Result (Option Float × Option Float) Refusal) → exact_by mid least (sides_with n d) ≡ ExactQuotes.Quotes g s → n ≡ s
  unfolding exact_by sides_with
  sides_done n (Ok (b, a)) e = (with_steps_is n s (build_quotes mid least b a) g e).1
  sides_done n (Err r) e = let z : ◌≡◌ {A = ℕ} 0 1 = cc in absurd (omega arith)

  read_done : (k base : Float) (q : ℤ) (v : ValueVector) (o : Outcome) → exact_by mid least (read_by o v k base q) ≡ ExactQuotes.Quotes g s → o ≡ Outcome.Done s
  unfolding exact_by read_by
  read_done k base q v (Outcome.Done n) e = ap (λ (m : ℕ). Outcome.Done m) (sides_done n (exact_distances v k base q) e)
  read_done k base q v (Outcome.OverCap need b n) e = let z : ◌≡◌ {A = ℕ} 0 1 = cc in absurd (omega arith)
  read_done k base q v (Outcome.Refused n) e = let z : ◌≡◌ {A = ℕ} 0 1 = cc in absurd (omega arith)

  pub done_of : (k base : Float) (q : ℤ) (a : VectorAnswer) → exact_by mid least (answer_from a k base q) ≡ ExactQuotes.Quotes g s → a.outcome ≡ Outcome.Done s
  unfolding answer_from
  done_of k base q a e = read_done k base q a.vector a.outcome e
