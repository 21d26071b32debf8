-- 23, 24 and the numbers after them: each is the reply in just the situation that the change request names. Assumes nothing.
use Rattle.std.specs.Prelude.{Err}
use mathlib.Core.Path.{◌≡◌, refl, sym, ◌∙◌, subst}
use mathlib.Core.Logic.{◌↔◌, ◌⊎◌, inl, inr}
use Prim.Native.Nat.{ℕ, ◌/◌, ◌<◌, ◌≤◌}
use native.Mathlib.Omega.{arith}
use mathlib.Core.Bool.{Bool, true, false, ◌&&◌}
use mathlib.Core.List.{List, []}
use borrow.Author.Tests.{leb-true, leb-false, eqb-false, le-leb, lt-leb, eq-eqb}
use lib.ListN.{length}
use lib.Dec.{T, leb, eqb}
use lib.IntN.{ℤ}
use lib.Ieee.{Float}
use Rattle.elementary.specs.Checks.{verdict, first_of, first_failing, check_of, Refuses, here, later, Passes, by}
use Rattle.elementary.specs.Float.{positive}
use Rattle.elementary.proofs.Checks.{same_number, same_err}
use Rattle.operator.specs.Vectors.{every}
use Rattle.operator.specs.Operator.{rows}
use Rattle.operator.proofs.Lists.{never_true, failing_one}
use Rattle.plan.specs.Plan.{cap, largest_bound}
use Rattle.plan.specs.declared.RunInput.{RunInput}
use Rattle.vector.specs.Refusals.{numerical}
use Rattle.vector.specs.declared.ValueVector.{ValueVector}
use Rattle.distances.specs.Distances.{within, place, length_ok, exact_distances}
use Rattle.distances.specs.Refusing.{ReadFails, DistancesRefused, by_5, by_1, by_4, by_11}
use Rattle.distances.specs.declared.Answer.{Answer}
use Rattle.distances.proofs.Reading.{read_refusals}
use Rattle.distances.proofs.Refusing.{distances_refusals}
use Rattle.distances.proofs.Finite.{finite_distances}
use Rattle.distances.proofs.Checked.{scale_pass}
use Rattle.amounts.specs.Amounts.{tau_of}
use Rattle.model.specs.Model.{lots, model_of, model_from, model_by, exact_checks, exact_model}
use Rattle.model.specs.declared.GLFTConfig.{GLFTConfig}
use Rattle.model.specs.declared.Model.{Model}
use Rattle.model.proofs.Passed.{stops, exact_passed, bound_passed, lots_passed, tau_passed, floats_passed}
use Rattle.prices.specs.Refusing.{Priced, by_13, by_14}
use Rattle.quote.specs.Quotes.{exact_by, exact_quotes}
use Rattle.quote.specs.Promises.{PricedOf}
use Rattle.quote.specs.Replies.{ReplyKept}
use Rattle.quote.proofs.Refusing.{exact_by_lem}
use Rattle.quote.proofs.Replies.{replies_kept}
use Rattle.quote.specs.declared.ExactQuotes.{ExactQuotes}
use Rattle.table.specs.Refusals.{small_table, bad_table}
use Rattle.table.specs.Places.{table_room, rows_kept, steps_at, length_at, bound_at}
use Rattle.table.specs.Table.{number, filled, next, row_vector, counts_ok, row_ok, table_ok, used_with, used_if, Used, table_used, cleared_by}
use Rattle.table.specs.Promises.{First, Fails, many_filled, far_next, next_not_count, many_steps, no_bound, large_bound, other_length, Passing, input_for, row_answer, LaterRefused, row_read, row_priced, made as made-refused, TableRefusals}
use Rattle.table.proofs.Checked.{row_passed, table_passed}
use Rattle.table.proofs.Courses.{Course, table_refused, checks_refused, taken, made, course}
use Rattle.table.proofs.Sound.{not_refused}
use Rattle.table.proofs.Unchanged.{both_ways, found_first, found_none, one_first, first_some, no_fails, unfailing}

-- ---- a table that does not pass has something that 24 names
module _ (t : List ℕ) where
  row_fails : (r : ℕ) → r < filled t → row_ok t r ≡ false → Fails t
  unfolding row_ok
  row_fails r k e = go (leb s cap) refl (leb 1 b) refl (leb b largest_bound) refl (eqb l (rows b)) refl
    where
      s : ℕ
      s = number t (steps_at r)

      b : ℕ
      b = number t (bound_at r)

      l : ℕ
      l = number t (length_at r)

      go : (p : Bool) → leb s cap ≡ p → (q : Bool) → leb 1 b ≡ q → (m : Bool) → leb b largest_bound ≡ m → (n : Bool) → eqb l (rows b) ≡ n → Fails t
      go false ep q eq m em n en = many_steps r k (leb-false s cap ep)
      go true ep false eq m em n en = no_bound r k (omega (arith, leb-false 1 b eq))
      go true ep true eq false em n en = large_bound r k (leb-false b largest_bound em)
      go true ep true eq true em false en = other_length r k (eqb-false l (rows b) en)
      go true ep true eq true em true en = let z : row_ok t r ≡ true = rw (ep, eq, em, en) in absurd (subst T (sym z ∙ e) tt)

  pub bad_fails : table_ok t ≡ false → Fails t
  unfolding table_ok counts_ok
  bad_fails e = go (leb (filled t) rows_kept) refl (leb (next t) 3) refl (every (filled t) (row_ok t)) refl (leb rows_kept (filled t)) refl (eqb (next t) (filled t)) refl
    where
      go : (a : Bool) → leb (filled t) rows_kept ≡ a → (b : Bool) → leb (next t) 3 ≡ b → (f : Bool) → every (filled t) (row_ok t) ≡ f → (c : Bool) → leb rows_kept (filled t) ≡ c
          → (d : Bool) → eqb (next t) (filled t) ≡ d → Fails t
      go false ea b eb f ef c ec d ed = many_filled (leb-false (filled t) rows_kept ea)
      go true ea false eb f ef c ec d ed = far_next (leb-false (next t) 3 eb)
      go true ea true eb false ef c ec d ed = let (r, k, g) = failing_one (filled t) (row_ok t) ef in row_fails r k g
      go true ea true eb true ef false ec false ed = next_not_count (leb-false rows_kept (filled t) ec) (eqb-false (next t) (filled t) ed)
      go true ea true eb true ef false ec true ed = let z : table_ok t ≡ true = rw (ea, eb, ec, ed, ef) in absurd (subst T (sym z ∙ e) tt)
      go true ea true eb true ef true ec d ed = let z : table_ok t ≡ true = rw (ea, eb, ec, ef) in absurd (subst T (sym z ∙ e) tt)

-- ---- no number below this layer is above 14
priced_few : {mid least : ℤ} {r : Answer} {n : ℕ} → PricedOf mid least r n → n ≤ 14
priced_few p = go p.4
  where
    go : {mid least : ℤ} {b a : _} {m : ℕ} → Priced mid least b a m → m ≤ 14
    go (by_13 e) = omega arith
    go (by_14 e f) = omega arith

distances_few : {v : ValueVector} {k base : Float} {q : ℤ} {n : ℕ} → DistancesRefused v k base q n → n ≤ 14
distances_few (by_5 e) = omega arith
distances_few (by_1 e f) = omega arith
distances_few (by_4 e f g) = omega arith
distances_few (by_11 e f g h) = omega arith

module _ (t : List ℕ) (mid h : ℤ) (c : GLFTConfig) (vol : ℤ) (now : ℕ) where
  abbrev x : RunInput
  x = input_for c vol now

  abbrev least : ℤ
  least = c.min_spread

  checks_few : {n : ℕ} → Refuses (exact_checks mid h c vol now) n → n ≤ 14
  checks_few (here e) = omega arith
  checks_few (later a (here e)) = omega arith
  checks_few (later a (later b (here e))) = omega arith
  checks_few (later a (later b (later d (here e)))) = omega arith
  checks_few (later a (later b (later d (later f (here e))))) = omega arith
  checks_few {n = n} (later a (later b (later d (later f (later _ x))))) = elim x [ ]

  exact_few : (n : ℕ) → exact_quotes mid h c vol now ≡ ExactQuotes.Refused (by n) → n ≤ 14
  unfolding ReplyKept
  exact_few n e = subst ReplyKept e (replies_kept mid h c vol now)

  -- the answer of a row is refused as its distances are
  row_distances : (r n : ℕ) → (row_answer t r h c vol ≡ Answer.Refused (by n)) ↔ (exact_distances (row_vector t r).vector (model_of c vol).k (model_of c vol).base (lots h c) ≡ Err (by n))
  unfolding row_vector
  row_distances r n =
      let f = read_refusals (row_vector t r) (model_of c vol).k (model_of c vol).base (lots h c) n in
      (λ e. elim (f.0 e) [ inl d ↦ let z : ◌≡◌ {A = ℕ} 0 1 = cc in absurd (omega arith) | inr y ↦ y.2 ], λ e. f.1 (inr (number t (steps_at r), refl, e)))

  row_by : (r n : ℕ) → (exact_by mid least (row_answer t r h c vol) ≡ ExactQuotes.Refused (by n)) ↔ ((row_answer t r h c vol ≡ Answer.Refused (by n)) ⊎ PricedOf mid least (row_answer t r h c vol) n)
  row_by r n = exact_by_lem mid least (row_answer t r h c vol) n (finite_distances.answer (row_vector t r) (model_of c vol).k (model_of c vol).base (lots h c))

  row_few : (r n : ℕ) → exact_by mid least (row_answer t r h c vol) ≡ ExactQuotes.Refused (by n) → n ≤ 14
  row_few r n e = elim ((row_by r n).0 e) [ inl d ↦ distances_few ((distances_refusals _ _ _ _ n).0 ((row_distances r n).0 d)) | inr p ↦ priced_few p ]

  -- ---- 23
  small_only : {v : Used} {a : Answer} → Course t mid h c vol now v a → v.reply ≡ ExactQuotes.Refused (by small_table) → length t < table_room
  small_only (table_refused (here d)) e = leb-false table_room (length t) d
  small_only (table_refused (later d (here f))) e = let z : ◌≡◌ {A = ℕ} 24 23 = same_number (let y : by 24 ≡ by 23 = cc in y) in absurd (omega arith)
  small_only (checks_refused {n} p k) e = let z : n ≡ 23 = same_number (let y : by n ≡ by 23 = cc in y) in absurd (omega (arith, checks_few k))
  small_only (taken r p k d) e = absurd (omega (arith, row_few r 23 e))
  small_only (made p k d) e = absurd (omega (arith, exact_few 23 e))
  small_only (table_refused {n = n} (later d (later _ x))) e = elim x [ ]

  small_refused : length t < table_room → (table_used t mid h c vol now).reply ≡ ExactQuotes.Refused (by small_table)
  unfolding table_used used_if first_failing first_of verdict
  small_refused k = rw (lt-leb table_room (length t) k)

  -- ---- 24
  bad_only : {v : Used} {a : Answer} → Course t mid h c vol now v a → v.reply ≡ ExactQuotes.Refused (by bad_table) → (table_room ≤ length t) × Fails t
  bad_only (table_refused (here d)) e = let z : ◌≡◌ {A = ℕ} 23 24 = same_number (let y : by 23 ≡ by 24 = cc in y) in absurd (omega arith)
  bad_only (table_refused (later d (here f))) e = (leb-true table_room (length t) d, bad_fails t f)
  bad_only (checks_refused {n} p k) e = let z : n ≡ 24 = same_number (let y : by n ≡ by 24 = cc in y) in absurd (omega (arith, checks_few k))
  bad_only (taken r p k d) e = absurd (omega (arith, row_few r 24 e))
  bad_only (made p k d) e = absurd (omega (arith, exact_few 24 e))
  bad_only (table_refused {n = n} (later d (later _ x))) e = elim x [ ]

  bad_refused : table_room ≤ length t → Fails t → (table_used t mid h c vol now).reply ≡ ExactQuotes.Refused (by bad_table)
  unfolding table_used used_if first_failing first_of verdict
  bad_refused k f = rw (le-leb table_room (length t) k, never_true (table_ok t) (λ o. no_fails t o f))

  -- ---- the numbers after them
  module _ (p : Passing t) where
    ok : table_ok t ≡ true
    ok = unfailing t p.1

    early : {n : ℕ} → Refuses (exact_checks mid h c vol now) n → (table_used t mid h c vol now).reply ≡ ExactQuotes.Refused (by n)
    unfolding table_used used_if used_with first_failing first_of verdict exact_model
    early k = rw (le-leb table_room (length t) p.0, ok, stops (model_of c vol) (lots h c) k)

    -- the row that is taken has the call's own bound, so a read of it is all that can fail
    module _ (k : Passes (exact_checks mid h c vol now)) (r : ℕ) (f : First t x r) where
      abbrev m : Model
      m = model_of c vol

      b-is : number t (bound_at r) ≡ c.max_inventory_lots
      unfolding model_of model_from model_by
      b-is = f.same.bound

      half : number t (length_at r) / 2 ≡ c.max_inventory_lots
      half = let q = row_passed t r ((table_passed t ok).each_row r f.row) in omega (arith, q.size, b-is)

      scaled : (positive m.k && positive m.base) ≡ true
      scaled =
          let q = exact_passed mid h c vol now k in
          scale_pass m.k m.base x (floats_passed m (tau_of c.terminal_time now) q.4 (tau_passed mid h c vol now q.0))

      sized : length_ok (row_vector t r).vector.n ≡ true
      unfolding row_vector length_ok
      sized =
          let q = row_passed t r ((table_passed t ok).each_row r f.row) in
          rw (half, bound_passed c (exact_passed mid h c vol now k).1) (eq-eqb (number t (length_at r)) (rows c.max_inventory_lots) (omega (arith, q.size, b-is)))

      halved : (row_vector t r).vector.n / 2 ≡ c.max_inventory_lots
      unfolding row_vector
      halved = half

      held : within ((row_vector t r).vector.n / 2) (lots h c) ≡ true
      held = rw halved (lots_passed h c (exact_passed mid h c vol now k).3)

      row-refused : (n : ℕ) → (row_answer t r h c vol ≡ Answer.Refused (by n)) ↔ ((n ≡ numerical) × ReadFails (row_vector t r).vector m.k m.base (place c.max_inventory_lots (lots h c)))
      row-refused n =
          let d = distances_refusals (row_vector t r).vector m.k m.base (lots h c) in
          (λ e. go ((d n).0 ((row_distances r n).0 e)), λ e. rw e.0 ((row_distances r numerical).1 ((d numerical).1 (by_11 scaled sized held (rw halved e.1)))))
        where
          go : {i : ℕ} → DistancesRefused (row_vector t r).vector m.k m.base (lots h c) i → (i ≡ numerical) × ReadFails (row_vector t r).vector m.k m.base (place c.max_inventory_lots (lots h c))
          go (by_5 e) = absurd (subst T (sym scaled ∙ e) tt)
          go (by_1 e i) = absurd (subst T (sym sized ∙ i) tt)
          go (by_4 e i j) = absurd (subst T (sym held ∙ j) tt)
          go (by_11 e i j y) = (refl, rw halved at y)

    others_only : (n : ℕ) → {v : Used} {a : Answer} → Course t mid h c vol now v a → v.reply ≡ ExactQuotes.Refused (by n)
        → Refuses (exact_checks mid h c vol now) n ⊎ (Passes (exact_checks mid h c vol now) × LaterRefused t mid h c vol now n)
    others_only n (table_refused k) e = absurd (not_refused t p.0 ok k)
    others_only n (checks_refused {n = i} g k) e = let z : i ≡ n = same_number (let y : by i ≡ by n = cc in y) in inl (subst (Refuses (exact_checks mid h c vol now)) z k)
    others_only n (taken r g k d) e =
        let f = found_first t x r d in
        elim ((row_by r n).0 e) [ inl y ↦ (let q = (row-refused k r f n).0 y in inr (k, row_read r f q.0 q.1)) | inr y ↦ inr (k, row_priced r f y) ]
    others_only n (made g k d) e = inr (k, made-refused (found_none t x d) e)

    later_is : (n : ℕ) → Passes (exact_checks mid h c vol now) → LaterRefused t mid h c vol now n → {v : Used} {a : Answer} → Course t mid h c vol now v a → v.reply ≡ ExactQuotes.Refused (by n)
    later_is n k y (table_refused d) = absurd (not_refused t p.0 ok d)
    later_is n k y (checks_refused g d) = absurd (both_ways k d)
    later_is n k (row_read r f e q) (taken i g d o) =
        rw (one_first t x r i f o) ((row_by r n).1 (inl ((row-refused k r f n).1 (e, q))))
    later_is n k (row_priced r f q) (taken i g d o) = rw (one_first t x r i f o) ((row_by r n).1 (inr q))
    later_is n k (made-refused f e) (taken i g d o) = let w = found_first t x i o in absurd (f i w.row w.same)
    later_is n k (row_read r f e q) (made g d o) = absurd (first_some t x r f o)
    later_is n k (row_priced r f q) (made g d o) = absurd (first_some t x r f o)
    later_is n k (made-refused f e) (made g d o) = e

-- ---- clearing
clear_refused : (t : List ℕ) (n : ℕ) → (cleared_by t ≡ Err (by n)) ↔ ((n ≡ small_table) × (length t < table_room))
unfolding check_of first_failing first_of verdict
clear_refused t n = (λ e. go (leb table_room (length t)) refl e, λ e. rw (lt-leb table_room (length t) e.1, e.0))
  where
    go : (b : Bool) → leb table_room (length t) ≡ b → check_of (first_of (verdict (b, small_table)) (first_failing [])) ≡ Err (by n) → (n ≡ small_table) × (length t < table_room)
    go true d e = let z : ◌≡◌ {A = ℕ} 0 1 = cc in absurd (omega arith)
    go false d e = (sym (same_err e), leb-false table_room (length t) d)

pub table_refusals : TableRefusals
table_refusals =
    record {
      small = λ t mid h c vol now. (small_only t mid h c vol now (course t mid h c vol now), small_refused t mid h c vol now);
      bad = λ t mid h c vol now. (bad_only t mid h c vol now (course t mid h c vol now), λ e. bad_refused t mid h c vol now e.0 e.1);
      others =
          λ t mid h c vol now n p. (
            others_only t mid h c vol now p n (course t mid h c vol now),
            λ e. elim e [ inl k ↦ early t mid h c vol now p k | inr y ↦ later_is t mid h c vol now p n y.0 y.1 (course t mid h c vol now) ],
          );
      clearing = clear_refused;
    }
