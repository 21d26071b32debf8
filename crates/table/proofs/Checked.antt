-- What a table holds that passes the check of 24, and a row that does; and what a row holds that agrees. Each law stands both ways. Assumes nothing.
use mathlib.Core.Path.{◌≡◌, refl}
use Prim.Native.Nat.{ℕ, ◌+◌, ◌*◌, ◌<◌, ◌≤◌}
use native.Mathlib.Omega.{}
use mathlib.Core.Bool.{Bool, true, false, ◌&&◌, ◌||◌, and-eq-true_iff}
use mathlib.Core.List.{List}
use borrow.Author.Tests.{leb-true, leb-false, eqb-true, le-leb, lt-leb, eq-eqb}
use lib.Dec.{leb, eqb}
use Rattle.operator.specs.Vectors.{every}
use Rattle.operator.specs.Operator.{rows}
use Rattle.operator.proofs.Lists.{every_each, every_of}
use Rattle.operator.proofs.Slices.{both_true}
use Rattle.plan.specs.Plan.{cap, bound_ok}
use Rattle.plan.specs.declared.RunInput.{RunInput}
use Rattle.table.specs.Places.{rows_kept, steps_at, length_at, bound_at, alpha_at, beta_at, eta_at, tau_at}
use Rattle.table.specs.Promises.{Same}
use Rattle.table.specs.Table.{number, filled, next, bits, counts_ok, row_ok, table_ok, agrees}

and : (a b : Bool) → a ≡ true → b ≡ true → (a && b) ≡ true
and a b e f = (and-eq-true_iff a b).1 (e, f)

-- ---- the two counts
-- below four rows, the next is the first that is not filled
pub record CountsPassed (f n : ℕ) : Type 0 where
  pub few : f ≤ 4
  pub within : n ≤ 3
  pub in_turn : f < 4 → n ≡ f

pub counts_passed : (f n : ℕ) → counts_ok f n ≡ true → CountsPassed f n
unfolding counts_ok
counts_passed f n e =
    let (a, d) = both_true (leb f rows_kept) (leb n 3 && (leb rows_kept f || eqb n f)) e in
    let (b, c) = both_true (leb n 3) (leb rows_kept f || eqb n f) d in
    record { few = leb-true f rows_kept a; within = leb-true n 3 b; in_turn = λ h. eqb-true n f (rw (lt-leb rows_kept f h) at c) }

pub counts_pass : (f n : ℕ) → CountsPassed f n → counts_ok f n ≡ true
unfolding counts_ok
counts_pass f n c = rw (le-leb f rows_kept c.few, le-leb n 3 c.within) (go (leb rows_kept f) refl)
  where
    go : (b : Bool) → leb rows_kept f ≡ b → (b || eqb n f) ≡ true
    go true e = refl
    go false e = eq-eqb n f (c.in_turn (leb-false rows_kept f e))

-- ---- a row
pub record RowPassed (t : List ℕ) (r : ℕ) : Type 0 where
  pub steps : number t (steps_at r) ≤ 11000
  pub least : 1 ≤ number t (bound_at r)
  pub most : number t (bound_at r) ≤ 200
  pub size : number t (length_at r) ≡ 2 * number t (bound_at r) + 1

pub row_passed : (t : List ℕ) (r : ℕ) → row_ok t r ≡ true → RowPassed t r
unfolding row_ok
row_passed t r e =
    let s = number t (steps_at r) in
    let b = number t (bound_at r) in
    let l = number t (length_at r) in
    let (es, f) = both_true (leb s cap) (bound_ok b && eqb l (rows b)) e in
    let (eb, el) = both_true (bound_ok b) (eqb l (rows b)) f in
    let (e1, e2) = both_true (leb 1 b) (leb b 200) eb in
    record { steps = leb-true s cap es; least = leb-true 1 b e1; most = leb-true b 200 e2; size = eqb-true l (rows b) el }

pub row_pass : (t : List ℕ) (r : ℕ) → RowPassed t r → row_ok t r ≡ true
unfolding row_ok
row_pass t r p =
    let s = number t (steps_at r) in
    let b = number t (bound_at r) in
    let l = number t (length_at r) in
    and (leb s cap) (bound_ok b && eqb l (rows b)) (le-leb s cap p.steps)
    (and (bound_ok b) (eqb l (rows b)) (and (leb 1 b) (leb b 200) (le-leb 1 b p.least) (le-leb b 200 p.most)) (eq-eqb l (rows b) p.size))

-- ---- a table
pub record TablePassed (t : List ℕ) : Type 0 where
  pub few : filled t ≤ 4
  pub within : next t ≤ 3
  pub in_turn : filled t < 4 → next t ≡ filled t
  pub each_row : (r : ℕ) → r < filled t → row_ok t r ≡ true

pub table_passed : (t : List ℕ) → table_ok t ≡ true → TablePassed t
unfolding table_ok
table_passed t e =
    let (a, b) = both_true (counts_ok (filled t) (next t)) (every (filled t) (row_ok t)) e in
    let c = counts_passed (filled t) (next t) a in
    record { few = c.few; within = c.within; in_turn = c.in_turn; each_row = every_each (filled t) (row_ok t) b }

pub table_pass : (t : List ℕ) → TablePassed t → table_ok t ≡ true
unfolding table_ok
table_pass t p =
    and (counts_ok (filled t) (next t)) (every (filled t) (row_ok t))
    (counts_pass (filled t) (next t) (record { few = p.few; within = p.within; in_turn = p.in_turn }))
    (every_of (filled t) (row_ok t) p.each_row)

-- ---- a row that agrees with what a vector is made from
pub agreed : (t : List ℕ) (x : RunInput) (r : ℕ) → agrees t x r ≡ true → Same t x r
unfolding agrees
agreed t x r e =
    let b = eqb (number t (bound_at r)) x.bound in
    let f = eqb (number t (alpha_at r)) (bits x.alpha) in
    let g = eqb (number t (beta_at r)) (bits x.beta) in
    let h = eqb (number t (eta_at r)) (bits x.eta) in
    let k = eqb (number t (tau_at r)) (bits x.tau) in
    let (e4, ek) = both_true (b && f && g && h) k e in
    let (e3, eh) = both_true (b && f && g) h e4 in
    let (e2, eg) = both_true (b && f) g e3 in
    let (eb, ef) = both_true b f e2 in
    record {
      bound = eqb-true (number t (bound_at r)) x.bound eb;
      alpha = eqb-true (number t (alpha_at r)) (bits x.alpha) ef;
      beta = eqb-true (number t (beta_at r)) (bits x.beta) eg;
      eta = eqb-true (number t (eta_at r)) (bits x.eta) eh;
      tau = eqb-true (number t (tau_at r)) (bits x.tau) ek;
    }

pub agree : (t : List ℕ) (x : RunInput) (r : ℕ) → Same t x r → agrees t x r ≡ true
unfolding agrees
agree t x r a =
    rw (
      eq-eqb (number t (bound_at r)) x.bound a.bound,
      eq-eqb (number t (alpha_at r)) (bits x.alpha) a.alpha,
      eq-eqb (number t (beta_at r)) (bits x.beta) a.beta,
      eq-eqb (number t (eta_at r)) (bits x.eta) a.eta,
      eq-eqb (number t (tau_at r)) (bits x.tau) a.tau,
    )
