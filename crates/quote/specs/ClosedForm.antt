-- Document 01, module 4: the distances of the closed form. Definitions only.
use Rattle.std.specs.Prelude.{Bool, true, false, ◌&&◌, ℤ, pos, neg_ℤ, int_lt, Float, Option, Some, None, Result, Err}
use Rattle.elementary.specs.Float.{◌⊕◌, ◌⊖◌, ◌⊗◌, ◌⊘◌, whole, 1ᶠ, 2ᶠ, positive}
use Rattle.elementary.specs.Elementary.{LN1P, EXP, SQRT, or_nan}
use Rattle.vector.specs.Refusals.{numerical}
use Rattle.distances.specs.Distances.{fine, sides}
use Rattle.model.specs.declared.Model.{Model}
use Rattle.elementary.specs.declared.Refusal.{Refusal}
use Rattle.elementary.specs.Checks.{by}

-- the slope c; a NaN where an elementary function refuses
unfoldable pub slope : Model → Float
slope m =
    let growth = or_nan (EXP ((1ᶠ ⊕ m.k ⊘ m.gamma) ⊗ or_nan (LN1P (m.gamma ⊘ m.k)))) in
    or_nan (SQRT (m.sigma2 ⊗ m.gamma ⊘ (2ᶠ ⊗ m.k ⊗ m.a) ⊗ growth))

-- base + ((2q + 1)/2) × c, where a bid is allowed
unfoldable pub form_bid : Bool → Float → Float → Float → Option Float
form_bid false base c q = None
form_bid true base c q = Some (base ⊕ (2ᶠ ⊗ q ⊕ 1ᶠ) ⊘ 2ᶠ ⊗ c)

-- base - ((2q - 1)/2) × c, where an ask is
unfoldable pub form_ask : Bool → Float → Float → Float → Option Float
form_ask false base c q = None
form_ask true base c q = Some (base ⊖ (2ᶠ ⊗ q ⊖ 1ᶠ) ⊘ 2ᶠ ⊗ c)

-- the two sides at q lots: a bid below the bound, an ask above minus the bound
unfoldable pub bid_form : Model → ℤ → Option Float
bid_form m q = form_bid (int_lt q (pos m.q_max)) m.base (slope m) (whole q)

unfoldable pub ask_form : Model → ℤ → Option Float
ask_form m q = form_ask (int_lt (neg_ℤ (pos m.q_max)) q) m.base (slope m) (whole q)

-- is the slope finite and positive, or 11
unfoldable pub form_if : Bool → Model → ℤ → Result (Option Float × Option Float) Refusal
form_if false m q = Err (by numerical)
form_if true m q = sides (fine (bid_form m q) && fine (ask_form m q)) (bid_form m q) (ask_form m q)

unfoldable pub closed_form_distances : Model → ℤ → Result (Option Float × Option Float) Refusal
closed_form_distances m q = form_if (positive (slope m)) m q
