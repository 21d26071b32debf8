-- What a `?` hands on: the refusal that it met. Assumes nothing.
use Rattle.std.proofs.Common.{◌≡◌, ap, ◌∙◌, Result, Ok, Err, IsErrAnd}
use Rattle.std.proofs.lemmas.Result.{err_from_is_err_and}

pub handed_on : {T E : Type 0} (r : Result T E) (e : E) → IsErrAnd r (λ x. x ≡ e) → r ≡ Err e
handed_on r e h = let p = err_from_is_err_and r h in p.1 ∙ ap Err p.2

-- pairs that are the same have the same parts
pub ok_pair : {A B E : Type 0} {x x' : A} {y y' : B} → ◌≡◌ {A = Result (A × B) E} (Ok (x, y)) (Ok (x', y')) → (x ≡ x') × (y ≡ y')
ok_pair {A = A} {B = B} {x = x} {x' = x'} {y = y} {y' = y'} e =
    let p : ◌≡◌ {A = A × B} (x, y) (x', y') = cc in
    (ap (λ (z : A × B). z.0) p, ap (λ (z : A × B). z.1) p)
