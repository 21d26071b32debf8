-- Each refusal of the entries on amounts is the reply in just the situation that the paper names. Assumes nothing.
use Rattle.std.specs.Prelude.{Option, Result, Ok, Err}
use Rattle.std.proofs.Common.{◌≡◌, ℕ, Bool, true, false, ◌&&◌, ◌⊎◌, ◌↔◌, List, ℤ, sym, refl, ap, ◌∙◌, subst, inl, inr, arith}
use mathlib.Core.Logic.Iff
use lib.Ieee.{Float}
use Rattle.elementary.specs.Float.{positive}
use Rattle.elementary.specs.Checks.{first_failing, Refuses, Passes, by}
use Rattle.vector.specs.Refusals.{numerical}
use Rattle.plan.specs.Plan.{bound_ok}
use Rattle.plan.specs.declared.RunInput.{RunInput}
use Rattle.distances.specs.Distances.{within, fine, sides}
use Rattle.distances.specs.FloatEntry.{floats_ok, float_entry}
use Rattle.distances.specs.Refusing.{EntryFails, FloatRefused, at_5, at_1, at_4, at_11}
use Rattle.distances.specs.declared.Answer.{Answer}
use Rattle.distances.proofs.Refusing.{never, float_refusals}
use Rattle.quote.specs.Refusals.{capped}
use Rattle.amounts.specs.Amounts.{tau_of}
use Rattle.model.specs.Model.{lots, model_of, model_from, model_by, model_if, input_of, exact_checks, exact_model, closed_checks, closed_model}
use Rattle.quote.specs.ClosedForm.{slope, bid_form, ask_form, form_if, closed_form_distances}
use Rattle.quote.specs.Quotes.{with_steps, exact_by, exact_from, exact_answer, exact_quotes, wrapped, optimal_quotes, closed_by, closed_from, closed_answer, closed_form_quotes}
use Rattle.prices.specs.Refusing.{Priced}
use Rattle.quote.specs.Promises.{PricedOf, FormFails, by_slope, by_bid, by_ask, ExactRefusals, OptimalRefusals, ClosedRefusals}
use Rattle.model.specs.declared.Model.{Model}
use Rattle.quote.specs.declared.ExactQuotes.{ExactQuotes}
use Rattle.quote.specs.declared.ExactQuotes.TheVariants as Exact
use Rattle.model.proofs.Passed.{Made, stopped, passed, made, stops, goes_on, exact_passed, bound_passed, lots_passed, tau_passed, floats_passed}
use Rattle.distances.specs.Promises.{Finite}
use Rattle.prices.proofs.Refusing.{prices_refused}
use Rattle.quote.proofs.Finite.{answer_finite, closed_finite}
use Rattle.elementary.specs.declared.Refusal.{Refusal}
use Rattle.prices.specs.declared.GlftQuotes.{GlftQuotes}
use Rattle.elementary.proofs.Checks.{same_err, same_number}

-- ---- by the numbers' checks, or after them: g reckons from a model, and answers a refusal by its number
module _ {R : Type 0} (refusal : ℕ → R) (g : Result (Model × ℤ) Refusal → R) (kept : (r : ℕ) → g (Err (by r)) ≡ refusal r) (alike : (r n : ℕ) → refusal r ≡ refusal n → r ≡ n) where
  stopped_at : {l : List (Bool × ℕ)} {b : Model} {q : ℤ} {x : Result (Model × ℤ) Refusal} (n : ℕ) → Made l b q x → g x ≡ refusal n → Refuses l n ⊎ (Passes l × (g (Ok (b, q)) ≡ refusal n))
  stopped_at {l} n (stopped {n = r} k) e = inl (subst (λ (i : ℕ). Refuses l i) (alike r n (sym (kept r) ∙ e)) k)
  stopped_at n (passed k) e = inr (k, e)

  pub after_checks : (l : List (Bool × ℕ)) (b : Model) (q : ℤ) (n : ℕ) → (g (model_if (first_failing l) b q) ≡ refusal n) ↔ (Refuses l n ⊎ (Passes l × (g (Ok (b, q)) ≡ refusal n)))
  after_checks l b q n = (
    stopped_at n (made l b q),
    λ x. elim x [ inl k ↦ ap g (stops b q k) ∙ kept n | inr k ↦ ap g (goes_on b q k.0) ∙ k.1 ],
  )

-- both ways, put together
joined : {A B C D P : Type 0} → (A ↔ (B ⊎ P)) → (B ↔ (C ⊎ D)) → (A ↔ (C ⊎ (D ⊎ P)))
joined f g = (
  λ a. elim (f.0 a) [ inl b ↦ elim (g.0 b) [ inl c ↦ inl c | inr d ↦ inr (inl d) ] | inr p ↦ inr (inr p) ],
  λ x. elim x [ inl c ↦ f.1 (inl (g.1 (inl c))) | inr y ↦ elim y [ inl d ↦ f.1 (inl (g.1 (inr d))) | inr p ↦ f.1 (inr p) ] ],
)

-- after the checks, D being what the reply comes to: P is their passing
pub late : {P D F : Type 0} {n m : ℕ} → (P → D ↔ ((n ≡ m) × F)) → (P × D) ↔ ((n ≡ m) × (P × F))
late f = (λ x. let y = (f x.0).0 x.1 in (y.0, (x.0, y.1)), λ x. (x.1.0, (f x.1.0).1 (x.0, x.1.1)))

pub right : {A B C : Type 0} → (B ↔ C) → (A ⊎ B) ↔ (A ⊎ C)
right f = (λ x. elim x [ inl a ↦ inl a | inr b ↦ inr (f.0 b) ], λ x. elim x [ inl a ↦ inl a | inr c ↦ inr (f.1 c) ])

-- ---- exact quotes
float_fails : (k base : Float) (x : RunInput) (q : ℤ) (n : ℕ) → floats_ok k base x ≡ true → bound_ok x.bound ≡ true → within x.bound q ≡ true
    → ((float_entry k base x q).answer ≡ Answer.Refused (by n)) ↔ ((n ≡ numerical) × EntryFails k base x q)
float_fails k base x q n f b h =
    let r = float_refusals k base x q in
    (λ e. go ((r n).0 e), λ e. rw e.0 ((r numerical).1 (at_11 f b h e.1)))
  where
    go : {m : ℕ} → FloatRefused k base x q m → (m ≡ numerical) × EntryFails k base x q
    go (at_5 e) = never (sym f ∙ e)
    go (at_1 e i) = never (sym b ∙ i)
    go (at_4 e i j) = never (sym h ∙ j)
    go (at_11 e i j y) = (refl, y)

with_steps_refused : (s : ℕ) (j : Result GlftQuotes Refusal) (n : ℕ) → with_steps s j ≡ Exact.Refused (by n) → j ≡ Err (by n)
unfolding with_steps
with_steps_refused s (Ok q) n e = cc
with_steps_refused s (Err r) n e = cc

-- an answer whose distances, if it has any, are finite
abbrev FiniteAnswer : Answer → Type 0
FiniteAnswer r = (b a : Option Float) (s : ℕ) → r ≡ Answer.Distances b a s → Finite b a

module _ (mid least : ℤ) where
  exact_refused : (r : Answer) (n : ℕ) → FiniteAnswer r → exact_by mid least r ≡ Exact.Refused (by n) → (r ≡ Answer.Refused (by n)) ⊎ PricedOf mid least r n
  unfolding exact_by
  exact_refused (Answer.Distances b a s) n f e =
      let g = f b a s refl in
      inr (b, a, s, refl, (prices_refused mid least b a n g.0 g.1).0 (with_steps_refused s _ n e))
  exact_refused (Answer.OverCap need b s) n f e = let z : ◌≡◌ {A = ℕ} 0 1 = cc in absurd (omega arith)
  exact_refused (Answer.Refused r) n f e = let z : r ≡ by n = cc in inl (rw z)

  pub exact_by_lem : (r : Answer) (n : ℕ) → FiniteAnswer r → (exact_by mid least r ≡ Exact.Refused (by n)) ↔ ((r ≡ Answer.Refused (by n)) ⊎ PricedOf mid least r n)
  unfolding exact_by with_steps
  exact_by_lem r n f = (
    exact_refused r n f,
    λ x. elim x [ inl e ↦ rw e | inr p ↦ let g = f p.0 p.1 p.2 p.3 in rw (p.3, (prices_refused mid least p.0 p.1 n g.0 g.1).1 p.4) ],
  )

same_answer : (r n : ℕ) → Answer.Refused (by r) ≡ Answer.Refused (by n) → r ≡ n
same_answer r n e = same_number (let z : by r ≡ by n = cc in z)

pub exact_refusals : ExactRefusals
unfolding exact_quotes exact_answer exact_model exact_from model_of model_from model_by
exact_refusals mid h c vol t n =
    let tau = tau_of c.terminal_time t in
    let m = model_of c vol in
    joined (exact_by_lem mid c.min_spread (exact_answer mid h c vol t) n (answer_finite mid h c vol t))
    (Iff.trans (after_checks (λ r. Answer.Refused (by r)) (λ x. exact_from x tau) (λ r. refl) same_answer (exact_checks mid h c vol t) m (lots h c) n)
    (right (late (λ k.
    let p = exact_passed mid h c vol t k in
    float_fails m.k m.base (input_of m tau) (lots h c) n (floats_passed m tau p.4 (tau_passed mid h c vol t p.0)) (bound_passed c p.1) (lots_passed h c p.3)))))

-- ---- the wrapper's
pub optimal_refusals : OptimalRefusals
unfolding optimal_quotes wrapped
optimal_refusals mid h c vol t n = (to (exact_quotes mid h c vol t), λ x. elim x [ inl e ↦ rw e | inr k ↦ rw (k.1.3, k.0) ])
  where
    to : (r : ExactQuotes) → wrapped r ≡ Err (by n) → (r ≡ Exact.Refused (by n)) ⊎ ((n ≡ capped) × ((need : Float) × (b : ℕ) × (s : ℕ) × (r ≡ Exact.OverStepCap need b s)))
    to (Exact.Quotes q s) e = let z : ◌≡◌ {A = ℕ} 0 1 = cc in absurd (omega arith)
    to (Exact.OverStepCap need b s) e = inr (sym (same_err e), (need, b, s, refl))
    to (Exact.Refused r) e = let z : r ≡ by n = cc in inl (rw z)

-- ---- those of the closed form
form_fails : (m : Model) (q : ℤ) (n : ℕ) → (closed_form_distances m q ≡ Err (by n)) ↔ ((n ≡ numerical) × FormFails m q)
unfolding closed_form_distances form_if sides
form_fails m q n = (to (positive (slope m)) refl, from)
  where
    either : (b a : Bool) → positive (slope m) ≡ true → fine (bid_form m q) ≡ b → fine (ask_form m q) ≡ a → sides (b && a) (bid_form m q) (ask_form m q) ≡ Err (by n) → (n ≡ numerical) × FormFails m q
    either false a s eb ea e = (sym (same_err e), by_bid s eb)
    either true false s eb ea e = (sym (same_err e), by_ask s ea)
    either true true s eb ea e = let z : ◌≡◌ {A = ℕ} 0 1 = cc in absurd (omega arith)

    to : (t : Bool) → positive (slope m) ≡ t → form_if t m q ≡ Err (by n) → (n ≡ numerical) × FormFails m q
    to false s e = (sym (same_err e), by_slope s)
    to true s e = either (fine (bid_form m q)) (fine (ask_form m q)) s refl refl e

    neither : (b : Bool) → (b && false) ≡ false
    neither true = refl
    neither false = refl

    from : (n ≡ numerical) × FormFails m q → form_if (positive (slope m)) m q ≡ Err (by n)
    from (e, by_slope s) = rw (e, s)
    from (e, by_bid s x) = rw (e, s, x)
    from (e, by_ask s x) = rw (e, s, x, neither)

abbrev FiniteSides : Result (Option Float × Option Float) Refusal → Type 0
FiniteSides r = (b a : Option Float) → r ≡ Ok (b, a) → Finite b a

abbrev PricedSides : ℤ → ℤ → Result (Option Float × Option Float) Refusal → ℕ → Type 0
PricedSides mid least r n = (b : Option Float) × (a : Option Float) × (r ≡ Ok (b, a)) × Priced mid least b a n

module _ (mid least : ℤ) where
  closed_refused : (r : Result (Option Float × Option Float) Refusal) (n : ℕ) → FiniteSides r → closed_by mid least r ≡ Err (by n) → (r ≡ Err (by n)) ⊎ PricedSides mid least r n
  unfolding closed_by
  closed_refused (Ok (b, a)) n f e =
      let g = f b a refl in
      inr (b, a, refl, (prices_refused mid least b a n g.0 g.1).0 e)
  closed_refused (Err r) n f e = let z : r ≡ by n = cc in inl (rw z)

  closed_by_lem : (r : Result (Option Float × Option Float) Refusal) (n : ℕ) → FiniteSides r → (closed_by mid least r ≡ Err (by n)) ↔ ((r ≡ Err (by n)) ⊎ PricedSides mid least r n)
  unfolding closed_by
  closed_by_lem r n f = (
    closed_refused r n f,
    λ x. elim x [ inl e ↦ rw e | inr p ↦ let g = f p.0 p.1 p.2 in rw (p.2, (prices_refused mid least p.0 p.1 n g.0 g.1).1 p.3) ],
  )

pub closed_refusals : ClosedRefusals
unfolding closed_form_quotes closed_answer closed_from closed_model
closed_refusals mid h c vol n =
    let m = model_of c vol in
    joined (closed_by_lem mid c.min_spread (closed_answer mid h c vol) n (closed_finite (closed_model mid h c vol)))
    (Iff.trans (after_checks (λ r. Err (by r)) closed_from (λ r. refl) (λ r n e. same_err e) (closed_checks mid h c vol) m (lots h c) n)
    (right (late (λ k. form_fails m (lots h c) n))))
