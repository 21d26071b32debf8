-- Where a plan begins: a plan that is reported is above the budget left. Assumes nothing.
use Rattle.std.proofs.Common.{◌≡◌, ℕ, ◌*◌, ◌≤◌, Bool, true, false, cond, ◌&&◌, T, List, pos, refl, subst, le_refl, zero-lt-suc, mul-pos, sub-le, arith}
use lib.Ieee.{Float, nan, inf, fin, binary64, up, down, div, lt, le, of_bits, fits}
use lib.Ieee.Fits.{down_pos, mul-fits, and_r}
use Rattle.elementary.specs.Float.{◌⊗◌, ◌⊘◌, whole, 1ᶠ, 2ᶠ, finite, positive}
use Rattle.elementary.specs.Reply.{given}
use Rattle.elementary.specs.Elementary.{CEIL, ceil_of, or_nan}
use Rattle.elementary.proofs.Signs.{nonneg}
use Rattle.elementary.proofs.Order.{not_lt→le, round_nonneg, round_le_held, finite_below}
use Rattle.operator.specs.Vectors.{tab, at, every, larger}
use Rattle.operator.specs.Operator.{left_at, right_at}
use Rattle.plan.specs.Plan.{Ended, vector, over_cap, failed, Fixed, Turn, going, ended, cap, norm, needed, start, begin}
use Rattle.plan.proofs.Plans.{whole_nonneg}

-- ---- the steps needed for a time × norm that is finite and above zero are a number, so those that do not keep the budget are above it
half : (x : Float) → T (fits binary64 x) → T (positive x) → T (nonneg (x ⊘ 2ᶠ)) × T (finite (x ⊘ 2ᶠ))
unfolding positive finite lt div of_bits
half nan t p = absurd p
half (inf s) t p = absurd p
half (fin true m e) t p = absurd p
half (fin false m e) t p =
    let a = m * up e * 1 in
    let c = 2 * down e in
    let n = round_nonneg binary64 a c in
    (n, finite_below _ (fin false m e) n (round_le_held binary64 m e a c t (mul-pos (zero-lt-suc 1) (down_pos e)) (omega arith)) tt)

ceil_nonneg : (x : Float) → T (nonneg x) → T (finite x) → T (nonneg (or_nan (CEIL x)))
unfolding CEIL ceil_of given or_nan finite
ceil_nonneg nan p t = absurd p
ceil_nonneg (inf s) p t = absurd t
ceil_nonneg (fin true m e) p t = absurd p
ceil_nonneg (fin false m e) p t = round_nonneg binary64 _ 1

larger_nonneg : (x y : Float) → T (nonneg x) → T (nonneg y) → T (nonneg (larger x y))
unfolding larger
larger_nonneg x y p q = go (lt x y)
  where
    go : (b : Bool) → T (nonneg (cond b y x))
    go true = q
    go false = p

needed_nonneg : (x : Float) → T (fits binary64 x) → T (positive x) → T (nonneg (needed x))
unfolding needed of_bits
needed_nonneg x t p = let (n, f) = half x t p in larger_nonneg (or_nan (CEIL (x ⊘ 2ᶠ))) 1ᶠ (ceil_nonneg (x ⊘ 2ᶠ) n f) tt

not_le→lt : (x y : Float) → T (nonneg x) → T (nonneg y) → le x y ≡ false → T (lt y x)
not_le→lt x y p q h = go (lt y x) (not_lt→le y x q p)
  where
    go : (b : Bool) → (b ≡ false → T (le x y)) → T b
    go true k = tt
    go false k = subst T h (k refl)

-- ---- of whatever weights and offsets
abbrev pub Any : List Float → List Float → Type 0
Any w o = Unit {0}

-- ---- P holds of the weights and offsets, the steps spent are within the cap, and a report is of more steps than the budget left, at most b
abbrev pub EndOk : ℕ → (List Float → List Float → Type 0) → Ended → Type 0
EndOk b P (vector w o s) = P w o × (s ≤ cap)
EndOk b P (over_cap need c) = (c ≤ b) × T (lt (whole (pos c)) need)
EndOk b P (failed s) = s ≤ cap

abbrev pub TurnOk : ℕ → (List Float → List Float → Type 0) → Turn → Type 0
TurnOk b P (going g) = P g.w g.o
TurnOk b P (ended r) = EndOk b P r

module _ (P : List Float → List Float → Type 0) where
  start_ok : (t c : Bool) (b : ℕ) (w o left right : List Float) (rest need : Float) → P w o → (T t → c ≡ false → T (lt (whole (pos b)) need)) → TurnOk b P (start t c b w o left right rest need)
  unfolding start
  start_ok false c b w o left right rest need h k = sub-le cap b
  start_ok true false b w o left right rest need h k = (le_refl b, k tt refl)
  start_ok true true b w o left right rest need h k = h

  pub begin_ok : (p : Fixed) (b : ℕ) (w o : List Float) (rest : Float) → P w o → TurnOk b P (begin p b w o rest)
  unfolding begin
  begin_ok p b w o rest h =
      let left = tab p.n (left_at o) in
      let right = tab p.n (right_at p.n o) in
      let size = rest ⊗ norm p left right in
      let factors = every p.n (λ i. finite (at left i) && finite (at right i)) in
      start_ok _ _ b w o left right rest (needed size) h
      (λ t. not_le→lt (needed size) (whole (pos b)) (needed_nonneg size (mul-fits binary64 rest (norm p left right)) (and_r factors (positive size) t)) (whole_nonneg b))
