-- A number of two words, divided: the high word's quotient and the two remainders tell. Assumes nothing.
use Rattle.std.proofs.Common.{◌≡◌, ℕ, ◌+◌, ◌*◌, ◌/◌, ◌%◌, ◌^◌, ◌<◌, ◌≤◌, true, false, sym, mod-lt, mul-pos, div-add-mod', arith, pow_pos}
use Rattle.elementary.specs.WholeUp.{next}
use Rattle.elementary.proofs.WholeUp.{next_only}

-- h * 2 ^ 23 + l over u * 2 ^ 23
module _ (h l u : ℕ) (small : l < 2 ^ 23) (some : 0 < u) where
  -- the remainder is the high word's, with the low word after it
  parted : h * 2 ^ 23 + l ≡ h / u * (u * 2 ^ 23) + (h % u * 2 ^ 23 + l)
  parted = omega (arith, div-add-mod' h u)

  rest_lt : h % u * 2 ^ 23 + l < u * 2 ^ 23
  rest_lt = omega (arith, mod-lt h some)

  divisor : 0 < u * 2 ^ 23
  divisor = mul-pos some (pow_pos 23)

  pub words_cut : h / u ≡ next true (h * 2 ^ 23 + l) (u * 2 ^ 23)
  words_cut = sym (next_only true (h * 2 ^ 23 + l) (u * 2 ^ 23) (h / u) divisor (omega (arith, parted), omega (arith, parted, rest_lt)))

  pub words_up : 0 < h % u + l → h / u + 1 ≡ next false (h * 2 ^ 23 + l) (u * 2 ^ 23)
  words_up g = sym (next_only false (h * 2 ^ 23 + l) (u * 2 ^ 23) (h / u + 1) divisor (omega (arith, parted, rest_lt), omega (arith, parted)))

  pub words_whole : h % u + l ≤ 0 → h / u ≡ next false (h * 2 ^ 23 + l) (u * 2 ^ 23)
  words_whole g = sym (next_only false (h * 2 ^ 23 + l) (u * 2 ^ 23) (h / u) divisor (omega (arith, parted), omega (arith, parted, divisor)))
