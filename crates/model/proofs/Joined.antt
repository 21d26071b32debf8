-- Checks put together as the code does are those of the lists put together. Assumes nothing.
use Rattle.std.specs.Prelude.{Result, Ok, Err}
use mathlib.Core.Path.{◌≡◌, refl, sym, ap}
use Prim.Native.Nat.{ℕ}
use mathlib.Core.Bool.{Bool, true, false}
use mathlib.Core.List.{List, ◌∷◌, ◌++◌, []}
use Rattle.elementary.specs.Checks.{Verdict, passes, refused, verdict, first_of, first_failing, check_of, Refuses, here, later, by}
use Rattle.elementary.proofs.Checks.{failing_joined}
use Rattle.model.specs.Checks.{verdict_of, one_check, first_refusal}
use Rattle.elementary.specs.declared.Refusal.{Refusal}

pub verdict_told : (v : Verdict) → verdict_of (check_of v) ≡ v
unfolding verdict_of check_of
verdict_told passes = refl
verdict_told (refused n) = refl

pub first_passed : (k : Result Unit Refusal) → first_refusal (Ok tt) k ≡ k
unfolding first_refusal first_of verdict_of check_of
first_passed (Ok tt) = refl
first_passed (Err n) = refl

pub one_told : (b : Bool) (n : ℕ) → one_check b (by n) ≡ check_of (first_failing ((b, n) ∷ []))
unfolding one_check first_failing first_of verdict
one_told true n = refl
one_told false n = refl

pub joined_told : (l r : List (Bool × ℕ)) → first_refusal (check_of (first_failing l)) (check_of (first_failing r)) ≡ check_of (first_failing (l ++ r))
unfolding first_refusal
joined_told l r = rw (verdict_told (first_failing l), verdict_told (first_failing r)) (ap check_of (sym (failing_joined l r)))

-- what refuses still refuses with more checks after it
pub refuses_more : {l : List (Bool × ℕ)} {n : ℕ} (r : List (Bool × ℕ)) → Refuses l n → Refuses (l ++ r) n
refuses_more r (here e) = here e
refuses_more r (later e k) = later e (refuses_more r k)
