use Rattle.std.proofs.Common.{◌≡◌, ℕ, ◌<◌, ◌^◌, ℤ, pos, ◌-ℤ◌, neg_ℤ, ◌∙◌, arith, to_z-of_z, w64, SFits, to_z, of_z}
use lib.IntN.{+ℤ_idl}
use Rattle.elementary.specs.Float.{positive}
use Rattle.distances.specs.Distances.{sides}
use Rattle.elementary.proofs.Integers.{minus_mag}
use Rattle.quote.specs.ClosedForm.{slope, bid_form, ask_form, form_if, closed_form_distances}
use Rattle.quote.proofs.closed_form.distances.Goals as goal

-- ---- the bound and its opposite, as the machine holds them
module _ (b : ℤ) (n : ℕ) (e : b ≡ pos n) (k : n < 2 ^ 32) where
  held : to_z w64 (of_z w64 b) ≡ pos n
  held = let f : SFits w64 (pos n) = record { sfits = omega arith } in rw (e, to_z-of_z f)

  minus_fits : SFits w64 (pos 0 -ℤ to_z w64 (of_z w64 b))
  minus_fits = rw held (record { sfits = omega (arith, minus_mag n) })

  opposite : to_z w64 (of_z w64 (pos 0 -ℤ to_z w64 (of_z w64 b))) ≡ neg_ℤ (pos n)
  opposite = to_z-of_z minus_fits ∙ rw (held, +ℤ_idl (neg_ℤ (pos n)))

pub overflow_sub-bound : goal.overflow_sub-bound
overflow_sub-bound c = minus_fits _ c.args.m.q_max c.from-bound.ensures (omega arith)

pub returns-then-is_fine : goal.returns-then-is_fine
unfolding closed_form_distances form_if sides bid_form ask_form
returns-then-is_fine c =
    let a = c.args in
    let b : a.m.q_max < 2 ^ 32 = omega arith in
    let positive_is : positive (slope a.m) ≡ c.is_positive_finite.result = rw (c.is_positive_finite.ensures, c.slope_of-c.ensures) in
    let bid_is : bid_form a.m a.q ≡ c.bid_of-bid.result = rw (c.bid_of-bid.ensures, c.nearest_i64_to_f64-qf.ensures, c.slope_of-c.ensures, held _ a.m.q_max c.from-bound.ensures b, to_z-of_z c.ranges.q) in
    let ask_is : ask_form a.m a.q ≡ c.ask_of-ask.result = rw (c.ask_of-ask.ensures, c.nearest_i64_to_f64-qf.ensures, c.slope_of-c.ensures, opposite _ a.m.q_max c.from-bound.ensures b, to_z-of_z c.ranges.q) in
    rw (positive_is, c.if-is_positive_finite.true, bid_is, ask_is, ← c.is_fine.ensures, ← c.is_fine-then-is_positive_finite.ensures, c.if-is_fine.true)

pub returns-else-is_fine : goal.returns-else-is_fine
unfolding closed_form_distances form_if sides bid_form ask_form
returns-else-is_fine c =
    let a = c.args in
    let b : a.m.q_max < 2 ^ 32 = omega arith in
    let positive_is : positive (slope a.m) ≡ c.is_positive_finite.result = rw (c.is_positive_finite.ensures, c.slope_of-c.ensures) in
    let bid_is : bid_form a.m a.q ≡ c.bid_of-bid.result = rw (c.bid_of-bid.ensures, c.nearest_i64_to_f64-qf.ensures, c.slope_of-c.ensures, held _ a.m.q_max c.from-bound.ensures b, to_z-of_z c.ranges.q) in
    let ask_is : ask_form a.m a.q ≡ c.ask_of-ask.result = rw (c.ask_of-ask.ensures, c.nearest_i64_to_f64-qf.ensures, c.slope_of-c.ensures, opposite _ a.m.q_max c.from-bound.ensures b, to_z-of_z c.ranges.q) in
    rw (positive_is, c.if-is_positive_finite.true, bid_is, ask_is, ← c.is_fine.ensures, ← c.is_fine-then-is_positive_finite.ensures, c.if-is_fine.false)

pub returns-else-is_positive_finite : goal.returns-else-is_positive_finite
unfolding closed_form_distances form_if
returns-else-is_positive_finite c =
    let positive_is : positive (slope c.args.m) ≡ c.is_positive_finite.result = rw (c.is_positive_finite.ensures, c.slope_of-c.ensures) in
    rw (positive_is, c.if-is_positive_finite.false)
