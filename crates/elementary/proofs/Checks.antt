-- The first check that fails is the one that refuses. Assumes nothing.
use Rattle.std.specs.Prelude.{Result, Ok, Err}
use Rattle.std.proofs.Common.{◌≡◌, ℕ, Bool, true, false, List, [], ◌∷◌, refl, ap, arith}
use Rattle.elementary.specs.declared.Refusal.{Refusal}
use Rattle.elementary.specs.Checks.{Verdict, passes, refused, verdict, first_of, first_failing, check_of, Refuses, here, later, FirstFailing, Passes, none, each, NoneFailing, FailingJoined, by}

fails : (l : List (Bool × ℕ)) (n : ℕ) → first_failing l ≡ refused n → Refuses l n
unfolding first_failing first_of verdict
fails [] n e = let z : ◌≡◌ {A = ℕ} 0 1 = cc in absurd (omega arith)
fails ((true, m) ∷ l) n e = later refl (fails l n e)
fails ((false, m) ∷ l) n e = let z : m ≡ n = cc in rw z (here refl)

refuses : (l : List (Bool × ℕ)) (n : ℕ) → Refuses l n → first_failing l ≡ refused n
unfolding first_failing first_of verdict
refuses _ n (here e) = rw e
refuses _ n (later {l = l} e r) = rw e (refuses l n r)

pub first_failing_lem : FirstFailing
first_failing_lem l n = (fails l n, refuses l n)

pass : (l : List (Bool × ℕ)) → first_failing l ≡ passes → Passes l
unfolding first_failing first_of verdict
pass [] e = none
pass ((true, m) ∷ l) e = each refl (pass l e)
pass ((false, m) ∷ l) e = let z : ◌≡◌ {A = ℕ} 0 1 = cc in absurd (omega arith)

passed : (l : List (Bool × ℕ)) → Passes l → first_failing l ≡ passes
unfolding first_failing first_of verdict
passed _ none = refl
passed _ (each {l = l} e r) = rw e (passed l r)

pub none_failing : NoneFailing
none_failing l = (pass l, passed l)

pub failing_joined : FailingJoined
unfolding first_failing first_of verdict
failing_joined [] r = refl
failing_joined ((true, n) ∷ l) r = failing_joined l r
failing_joined ((false, n) ∷ l) r = refl

-- ---- as the code says it
-- refusals that are the same have the same number
pub same_number : {m n : ℕ} → by m ≡ by n → m ≡ n
same_number e = ap (λ (r : Refusal). r.0) e

pub same_err : {T : Type 0} {m n : ℕ} → ◌≡◌ {A = Result T Refusal} (Err (by m)) (Err (by n)) → m ≡ n
same_err {m = m} {n = n} e = same_number (let k : by m ≡ by n = cc in k)

pub check_passes : (v : Verdict) → Ok tt ≡ check_of v → v ≡ passes
unfolding check_of
check_passes passes e = refl
check_passes (refused n) e = let z : ◌≡◌ {A = ℕ} 0 1 = cc in absurd (omega arith)

pub check_refused : (v : Verdict) (r : Refusal) → Err r ≡ check_of v → v ≡ refused r.0
unfolding check_of
check_refused passes r e = let z : ◌≡◌ {A = ℕ} 0 1 = cc in absurd (omega arith)
check_refused (refused m) r e = let k : r ≡ by m = cc in rw k refl
