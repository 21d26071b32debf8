use Rattle.std.specs.Prelude.{Ok}
use Rattle.std.proofs.Common.{◌≡◌, ◌≤◌, true, ℤ, pos, neg_ℤ, nat_abs, sym, ap, ◌∙◌, to_z-of_z, w64, SFits}
use lib.IntN.{+ℤ_idl}
use lib.Ieee.{Float, neg}
use Rattle.elementary.proofs.Results.{handed_on}
use Rattle.amounts.specs.Amounts.{amount_limit}
use Rattle.amounts.specs.Inner.{size_by, count_of}
use Rattle.amounts.proofs.Counting.{below, opposite, is_opposite, count_within, held, minus_held}
use Rattle.amounts.proofs.rounding.below_zero.Goals as goal

-- the opposite's count
abbrev n : goal.In_ok-n → ℤ
n c = c.in_ok-n.n

-- the size of x, cut
abbrev size : Float → ℤ
size x = pos (size_by true (neg x))

counted : (c : goal.In_ok-n) → Ok (n c) ≡ count_of (size c.args.x)
counted c = sym c.in_ok-n.was ∙ c.sized.ensures

within : (c : goal.In_ok-n) → nat_abs (n c) ≤ amount_limit
within c = count_within (size c.args.x) (n c) (counted c)

fits : (c : goal.In_ok-n) → SFits w64 (n c)
fits c = held (n c) (within c)

pub overflow_sub-result : goal.overflow_sub-result
overflow_sub-result c = rw (to_z-of_z (fits c)) (minus_held (n c) (within c))

pub returns : goal.returns
returns c =
    rw (to_z-of_z (fits c), to_z-of_z (minus_held (n c) (within c)), +ℤ_idl (neg_ℤ (n c)))
    (ap opposite (counted c) ∙ is_opposite (size c.args.x) ∙ ap count_of (sym (below c.args.x c.requires)))

pub returns-in_err-n : goal.returns-in_err-n
returns-in_err-n c =
    handed_on c.from_residual.result c.in_err-n.field-0.0 c.from_residual.ensures.1
    ∙ (ap opposite (sym c.in_err-n.was ∙ c.sized.ensures) ∙ is_opposite (size c.args.x) ∙ ap count_of (sym (below c.args.x c.requires)))
