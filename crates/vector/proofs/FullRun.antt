-- A plan, what follows a step, and a whole run, by what the slices stand for. Assumes nothing.
use mathlib.Core.Path.{◌≡◌, refl, sym, ap, ap₂, subst, ◌∙◌}
use Prim.Native.Nat.{ℕ, ◌+◌, ◌-◌, ◌*◌, ◌≤◌, ◌<◌}
use native.Mathlib.Omega.{arith}
use native.Mathlib.Nat.{lt_of_lt_of_le}
use mathlib.Core.Bool.{Bool, true, false, ◌&&◌, cond}
use mathlib.Core.List.{List, ◌++◌}
use borrow.Author.Tests.{ltb-true, ltb-false}
use lib.Dec.{ltb}
use lib.ListN.{length, take, drop, length-append, length-replicate, get_or-append}
use lib.Seq.{length-take-le, drop-append-add, get_or-take}
use lib.Ieee.{Float, nan, inf, lt}
use Rattle.elementary.specs.Float.{◌⊕◌, ◌⊗◌, 0ᶠ, 1ᶠ, finite, positive}
use Rattle.elementary.specs.Elementary.{LN, or_nan}
use Rattle.operator.specs.Vectors.{tab, at, fill, every, fold, smaller}
use Rattle.operator.specs.Operator.{diagonal_at, left_at, rows}
use Rattle.plan.specs.Plan.{failed, cap, fixed_over, begin, room, plan_of, plan_with}
use Rattle.vector.specs.Run.{divided, rebalances, run_on, run}
use Rattle.vector.specs.Values.{padded}
use Rattle.series.specs.Slices.{Fit}
use Rattle.operator.specs.Slices.{right_by, factors_fit, left_over, right_over, both_fine}
use Rattle.operator.proofs.Slices.{sized_both, scaled_over_lem, left_over_lem, right_over_lem}
use Rattle.vector.specs.Inner.{stopped_of, told, AfterBy, AfterIs, BegunIs, EndIs}
use Rattle.series.specs.Half.{filled_out, full_size, full_factors, full, Centred}
use Rattle.vector.specs.Half.{full_fixed, RowsStand}
use Rattle.plan.specs.declared.RunInput.{RunInput}
use Rattle.vector.specs.declared.Outcome.{Outcome}
use Rattle.plan.specs.declared.plan.Planned.{Planned}
use Rattle.plan.specs.Slices.{plan_from, diagonal_for}
use Rattle.plan.proofs.Plans.{planned_over}
use Rattle.vector.specs.declared.run.Steps.{Steps}
use Rattle.vector.specs.declared.run.Pace.{Pace}
use Rattle.operator.proofs.Lists.{length_tab, tab_ext}
use Rattle.operator.proofs.Loops.{drop_fill}
use Rattle.series.proofs.Half.{at_far}
use Rattle.series.proofs.Full.{at_full, size_full, full_own_tab, full_with, every_with, full_fill, left_full, right_full, centred_factors, finite_full}
use Rattle.vector.proofs.FullPlan.{divided_full, rebalances_full, norm_full}
use Rattle.vector.proofs.RunLaws.{Scaled, begun, not_begun, run_later, run_refused}
use Rattle.elementary.specs.Checks.{by}

-- ---- a plan
module _ (h : Bool) (n b : ℕ) (rest : Float) (o left right d : List Float) (eta : Float) (two : 2 ≤ n) (fits : b ≤ cap) (good : Bool) (el : left ≡ tab n (left_at o)) (er : right ≡ tab n (right_by h n o))
    (eg : good ≡ every n (λ i. finite (at left i) && finite (at right i))) (a : Pace) (diag : List Float) where
  some : 1 ≤ n
  some = omega arith

  centred : Centred h n left right
  centred = centred_factors h n o left right some el er

  left_is : full_factors h n left right ≡ tab (full_size h n) (left_at (full h n o))
  left_is = ap₂ (full_factors h n) el er ∙ left_full h n o two

  good_is : good ≡ every (full_size h n) (λ i. finite (at (full_factors h n left right) i) && finite (at (full_factors h n right left) i))
  good_is = eg ∙ finite_full h n left right some centred

  plan_full : plan_of (fixed_over n d eta) b left right rest ≡ plan_of (full_fixed h n d eta) b (full_factors h n left right) (full_factors h n right left) rest
  unfolding plan_of
  plan_full = rw (norm_full h n left right some centred d eta)

  scaled_full : (q : Planned) → Scaled (fixed_over n d eta) diag q → Scaled (full_fixed h n d eta) (full h n diag) q
  scaled_full (Planned.Steps s dt) e = ap (full h n) e ∙ full_with h n some (λ x y. x ⊗ dt) d d
  scaled_full (Planned.OverCap need) e = tt
  scaled_full Planned.Refused e = tt

  -- the slices agree
  plan_slices : length d ≡ n → (q : Planned) → q ≡ plan_with rest d eta left right b → q ≡ plan_of (fixed_over n d eta) b left right rest
  plan_slices ed q e = rw ed at (planned_over rest d eta left right b (ap length el ∙ length_tab n _ ∙ sym ed) (ap length er ∙ length_tab n _ ∙ sym ed) q e)

  begun_full : length d ≡ n → good ≡ true → (q : Planned) → q ≡ plan_with rest d eta left right b → Scaled (fixed_over n d eta) diag q → a ≡ told b rest q
      → BegunIs (full_fixed h n d eta) b rest (full h n o) (full_factors h n left right) (full_factors h n right left) (full h n diag) a
  begun_full ed g q e s = begun (full_fixed h n d eta) b rest (full h n o) _ _ (full h n diag) fits good left_is (ap₂ (full_factors h n) er el ∙ right_full h n o two) good_is a g q (plan_slices ed q e ∙ plan_full) (scaled_full q s)

  not_begun_full : good ≡ false → a ≡ stopped_of (Outcome.Refused (by 11))
      → BegunIs (full_fixed h n d eta) b rest (full h n o) (full_factors h n left right) (full_factors h n right left) (full h n diag) a
  not_begun_full g = not_begun (full_fixed h n d eta) b rest (full h n o) _ _ (full h n diag) fits good left_is (ap₂ (full_factors h n) er el ∙ right_full h n o two) good_is a g

-- as the code makes it, in slices of n entries each
module _ (h : Bool) (n b : ℕ) (rest : Float) (o left₀ right₀ d diag₀ : List Float) (eta : Float) (two : 2 ≤ n) (fits : b ≤ cap) (on : length o ≡ n) (dn : length d ≡ n) (ln : length left₀ ≡ n) (rn : length right₀ ≡ n) (gn : length diag₀ ≡ n)
    (left right diag : List Float) (q : Planned) (el : left ≡ left_over o left₀ right₀) (er : right ≡ right_over h o left₀ right₀) (ed : diag ≡ diagonal_for q d diag₀)
    (ep : q ≡ plan_from (factors_fit o left₀ right₀ && both_fine (length o) left right) rest d eta left right b) where
  lefts : left ≡ tab n (left_at o)
  lefts = rw on at (left_over_lem o left₀ right₀ (ln ∙ sym on) (rn ∙ sym on) left el)

  rights : right ≡ tab n (right_by h n o)
  rights = rw on at (right_over_lem o left₀ right₀ (ln ∙ sym on) (rn ∙ sym on) h right er)

  pub centred_slices : Centred h n left right
  centred_slices = centred_factors h n o left right (omega arith) lefts rights

  scaled : (p : Planned) → diag ≡ diagonal_for p d diag₀ → Scaled (fixed_over n d eta) diag p
  unfolding diagonal_for
  scaled (Planned.Steps s dt) e = rw dn at (scaled_over_lem d dt diag₀ diag (gn ∙ sym dn) e)
  scaled (Planned.OverCap need) e = tt
  scaled Planned.Refused e = tt

  planned_fine : q ≡ plan_from (both_fine n left right) rest d eta left right b
  planned_fine = ep ∙ rw (sized_both (length o) (length left₀) (length right₀) (ln ∙ sym on) (rn ∙ sym on), on) refl

  pub begun_slices : (a : Pace) → a ≡ told b rest q → BegunIs (full_fixed h n d eta) b rest (full h n o) (full_factors h n left right) (full_factors h n right left) (full h n diag) a
  unfolding plan_from
  begun_slices a ea = go (both_fine n left right) refl planned_fine
    where
      go : (t : Bool) → both_fine n left right ≡ t → q ≡ plan_from t rest d eta left right b
          → BegunIs (full_fixed h n d eta) b rest (full h n o) (full_factors h n left right) (full_factors h n right left) (full h n diag) a
      go true t e = begun_full h n b rest o left right d eta two fits (both_fine n left right) lefts rights refl a diag dn t q e (scaled q ed) ea
      go false t e = not_begun_full h n b rest o left right d eta two fits (both_fine n left right) lefts rights refl a diag t (ea ∙ ap (told b rest) e)

-- ---- after a step, v being its sum
module _ (h : Bool) (n : ℕ) (some : 1 ≤ n) (a : Steps) (v o : List Float) (r : Pace) (w' o' : List Float) (long : length v ≡ n) (f : Fit v) where
  abbrev divided_rows : full h n (divided n v) ≡ divided (full_size h n) (full h n v)
  divided_rows = divided_full h n some v long f

  long_divided : length (divided n v) ≡ n
  unfolding divided
  long_divided = length_tab n _

  after_by : (good c e : Bool) → AfterBy good c e n a (divided n v) o r w' o' → AfterBy good c e (full_size h n) a (divided (full_size h n) (full h n v)) (full h n o) r (full h n w') (full h n o')
  unfolding AfterBy
  after_by false c e x = x
  after_by true false e x = (x.0, ap (full h n) x.1 ∙ divided_rows, ap (full h n) x.2)
  after_by true true false x = x
  after_by true true true x = (
    x.0,
    ap (full h n) x.1 ∙ full_fill h n some 1ᶠ,
    ap (full h n) x.2 ∙ full_with h n some (λ y z. y ⊕ or_nan (LN z)) o (divided n v) ∙ ap (λ (l : List Float). tab (full_size h n) (λ i. at (full h n o) i ⊕ or_nan (LN (at l i)))) divided_rows,
  )

  -- whether the step has settled, each entry of its sum being positive besides
  pub after_step_full : (t : Bool) → AfterIs (t && every n (λ i. positive (at v i))) n a (divided n v) o r w' o'
      → AfterIs (t && every (full_size h n) (λ i. positive (at (full h n v) i))) (full_size h n) a (divided (full_size h n) (full h n v)) (full h n o) r (full h n w') (full h n o')
  after_step_full t x =
      let good = ap (λ (b : Bool). t && b) (every_with h n some (λ y z. positive y) v v) in
      let low = rebalances_full h n some (divided n v) long_divided (a.steps - 1) ∙ ap (λ (l : List Float). rebalances (fold smaller (inf false) l) (a.steps - 1)) divided_rows in
      let all = every_with h n some (λ y z. positive y) (divided n v) (divided n v) ∙ ap (λ (l : List Float). every (full_size h n) (λ i. positive (at l i))) divided_rows in
      rw (← good, ← low, ← all) (after_by _ _ _ x)

-- ---- the whole run by its first n rows
module _ (h : Bool) (n : ℕ) (x : RunInput) (some : 1 ≤ n) (stand : RowsStand h n x.bound x.alpha x.beta x.eta) (later : lt 0ᶠ x.tau ≡ true) where
  abbrev entries : ℕ → List Float
  entries k = tab k (diagonal_at x.bound x.alpha x.beta x.eta)

  all_finite_lem : every n (λ i. finite (at (entries n) i)) ≡ every (rows x.bound) (λ i. finite (at (entries (rows x.bound)) i))
  all_finite_lem = every_with h n some (λ y z. finite y) (entries n) (entries n) ∙ ap₂ (λ (k : ℕ) (l : List Float). every k (λ i. finite (at l i))) stand.sized stand.diagonals

  pub run_full : (d o : List Float) (q : Outcome) (w' o' : List Float) → d ≡ entries n → o ≡ fill n 0ᶠ → every n (λ i. finite (at (entries n) i)) ≡ true
      → EndIs (run_on cap (full_fixed h n d x.eta) (begin (full_fixed h n d x.eta) cap (fill (full_size h n) 1ᶠ) (full h n o) x.tau)) q w' o' → EndIs (run x) q w' o'
  run_full d o q w' o' ed eo f e =
      run_later x (full h n d) (full h n o) q w' o' later (ap (full h n) ed ∙ stand.diagonals)
      (ap (full h n) eo ∙ full_fill h n some 0ᶠ ∙ ap (λ (k : ℕ). fill k 0ᶠ) stand.sized) (sym all_finite_lem ∙ f) (rw stand.sized at e)

  pub run_full_refused : every n (λ i. finite (at (entries n) i)) ≡ false → run x ≡ failed 0
  run_full_refused f = run_refused x later (sym all_finite_lem ∙ f)

-- ---- an array whose first n rows are l's, filled out to all rows
module _ (h : Bool) (n : ℕ) (a l : List Float) (e : a ≡ padded n l) (long : length l ≡ n) (some : 1 ≤ n) where
  size_twice : (t : Bool) → full_size t n ≤ n + n
  unfolding full_size
  size_twice true = omega arith
  size_twice false = omega arith

  room_of_lem : (k : ℕ) → n ≤ k → k ≤ room → k ≤ length a
  unfolding padded
  room_of_lem k f g = rw (e, length-append l (fill (room - n) 0ᶠ), long, length-replicate (room - n) 0ᶠ) (omega arith)

  pub out_room : (all : ℕ) → full_size h n ≡ all → all ≤ room → all ≤ length a
  out_room all sized within = room_of_lem all (subst (λ (k : ℕ). n ≤ k) sized (size_full h n some)) within

  pub out_length : (all : ℕ) → full_size h n ≡ all → all ≤ room → length (take all a) ≡ all
  out_length all sized within = length-take-le all a (out_room all sized within)

  pub out_asks : (all : ℕ) → full_size h n ≡ all → all ≤ room → (1 ≤ n) × (n ≤ length (take all a)) × (length (take all a) ≤ n + n)
  out_asks all sized within =
      rw (out_length all sized within) (some, subst (λ (k : ℕ). n ≤ k) sized (size_full h n some), subst (λ (k : ℕ). k ≤ n + n) sized (size_twice h))

  at_out : (k i : ℕ) → n ≤ k → i < n → at (take k a) i ≡ at l i
  unfolding padded
  at_out k i f g = get_or-take k a i nan (lt_of_lt_of_le g f) ∙ ap (λ (m : List Float). at m i) e ∙ get_or-append l _ nan i (rw long g)

  -- past row n, what the full rows have
  far_out : (t : Bool) (i : ℕ) → n ≤ i → i < full_size t n → at l (full_size t n - 1 - i) ≡ at (full t n l) i
  unfolding full_size full_factors
  far_out false i f g = absurd (omega arith)
  far_out true i f g = let same : rows (n - 1) - 1 - i ≡ 2 * (n - 1) - i = omega arith in ap (at l) same ∙ sym (at_far (n - 1) l l i (omega arith) g)

  filled_out_lem : full_size h n ≤ room → filled_out (length (take (full_size h n) a)) n (take (full_size h n) a) (take (full_size h n) a) ≡ full h n l
  unfolding filled_out
  filled_out_lem within =
      let k = full_size h n in
      let f : n ≤ k = size_full h n some in
      let size : length (take k a) ≡ k = length-take-le k a (room_of_lem k f within) in
      rw size (tab_ext k _ (at (full h n l)) (λ i g. go f i g (ltb i n) refl)) ∙ full_own_tab h n some l long
    where
      go : n ≤ full_size h n → (i : ℕ) → i < full_size h n → (t : Bool) → ltb i n ≡ t → cond t (at (take (full_size h n) a) i) (at (take (full_size h n) a) (full_size h n - 1 - i)) ≡ at (full h n l) i
      go f i g true e = at_out (full_size h n) i f (ltb-true i n e) ∙ sym (at_full h n l l i (ltb-true i n e))
      go f i g false e =
          let m = ltb-false i n e in
          at_out (full_size h n) (full_size h n - 1 - i) f (omega (arith, size_twice h)) ∙ far_out h i m g

  rest_out : (k : ℕ) → n ≤ k → drop k a ≡ fill (room - k) 0ᶠ
  unfolding padded
  rest_out k f =
      let c : k ≡ length l + (k - n) = omega arith in
      let z : room - n - (k - n) ≡ room - k = omega arith in
      ap (drop k) e ∙ ap (λ (m : ℕ). drop m (l ++ fill (room - n) 0ᶠ)) c ∙ drop-append-add l (fill (room - n) 0ᶠ) (k - n) ∙ drop_fill (room - n) (k - n) 0ᶠ ∙ ap (λ (m : ℕ). fill m 0ᶠ) z

  pub out_is : (all : ℕ) → full_size h n ≡ all → all ≤ room → (m : List Float) → m ≡ filled_out (length (take all a)) n (take all a) (take all a) → m ++ drop all a ≡ padded all (full h n l)
  unfolding padded
  out_is all sized within m em =
      let f : n ≤ all = subst (λ (k : ℕ). n ≤ k) sized (size_full h n some) in
      let rows_are : filled_out (length (take all a)) n (take all a) (take all a) ≡ full h n l = subst (λ (k : ℕ). k ≤ room → filled_out (length (take k a)) n (take k a) (take k a) ≡ full h n l) sized filled_out_lem within in
      ap₂ (λ (x y : List Float). x ++ y) (em ∙ rows_are) (rest_out all f)
