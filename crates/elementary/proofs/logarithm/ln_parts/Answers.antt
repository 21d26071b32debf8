use Rattle.std.proofs.Common.{◌≡◌, ℕ, ◌≤◌, pos, ap, ◌∙◌, le_trans, lit≤}
use lib.Ieee.{Float, binary64, minus, of_int, of_bits}
use Rattle.elementary.specs.Float.{◌⊕◌, ◌⊖◌, ◌⊘◌, hex, whole, 1ᶠ}
use Rattle.elementary.specs.Elementary.{ln_join, ln_parts}
use Rattle.elementary.proofs.Exact.{sub_whole}
use Rattle.elementary.proofs.logarithm.ln_parts.Goals as goal

-- the exponent, counted from 1075 down
less-bias : (z : ℕ) → z ≤ 2100 → whole (pos z) ⊖ hex 0x4090CC0000000000 ≡ whole (minus z 1075)
unfolding of_int of_bits
less-bias z h = sub_whole binary64 z 1075 (le_trans h (lit≤ tt)) (lit≤ tt)

pub returns : goal.returns
unfolding ln_parts
returns c =
    let a = c.args in
    c.ln_join.ensures
    ∙ ap (λ (e : Float). ln_join (e ⊖ hex 0x4090CC0000000000) ((a.f ⊖ 1ᶠ) ⊘ (a.f ⊕ 1ᶠ))) c.nearest_u64_to_f64-e.ensures
    ∙ ap (λ (e : Float). ln_join e ((a.f ⊖ 1ᶠ) ⊘ (a.f ⊕ 1ᶠ))) (less-bias a.size c.requires)
