-- The rows so far are those of the term as it was, and the sums so far have them. Assumes nothing.
use mathlib.Core.Path.{◌≡◌, refl, ap, ap₂, ◌∙◌}
use Prim.Native.Nat.{ℕ, ◌+◌, ◌-◌, ◌<◌}
use native.Mathlib.Nat.{le_refl, le_trans}
use native.Mathlib.Omega.{arith}
use mathlib.Core.List.{List}
use lib.IntN.{pos}
use lib.Dec.{lit≤}
use lib.ListN.{length, length-set}
use lib.Ieee.{Float}
use Rattle.elementary.specs.Float.{◌⊕◌, ◌⊖◌, ◌⊗◌, ◌⊘◌, whole, 1ᶠ}
use Rattle.operator.specs.Vectors.{tab, at}
use Rattle.operator.proofs.Loops.{stored, stored_last, at_filled, later, later_one, later_is, later_first, later_all, before_first, before_later}
use Rattle.series.proofs.Slices.{row_through, row_inner, row_last, converged_at, term_made}
use Rattle.series.proofs.taylor.next_term.Invariants.{row, entry}
use Rattle.series.proofs.taylor.next_term.Goals as goal

pub loop-i-init : goal.loop-i-init
loop-i-init c =
    let p = c.requires in
    let x = c.args.x.now in
    let some : 0 < length x = le_trans (lit≤ tt) p.two_rows in
    (before_later x 1 (le_refl 1), later_one _ x some, later_one _ c.args.v.now (omega arith))

pub loop-i-preserved : goal.loop-i-preserved
loop-i-preserved c =
    let a = c.args in
    let x = a.x.now in
    let k = c.loop-i.i in
    let i = c.loop-i.invariant in
    let here : at c.loop-i.x k ≡ at x k = ap (λ (m : List Float). at m k) i.1 ∙ at_filled _ x k k (le_refl k) in
    let above : at c.loop-i.x (k + 1) ≡ at x (k + 1) = ap (λ (m : List Float). at m (k + 1)) i.1 ∙ at_filled _ x k (k + 1) (omega arith) in
    let sum : at c.loop-i.v k ≡ at a.v.now k = ap (λ (m : List Float). at m k) i.2 ∙ at_filled _ _ k k (le_refl k) in
    let t : a.rows.eta_dt ⊗ c.beside-beside.result ⊖ at a.rows.diag.now k ⊗ at c.loop-i.x k ≡ row a.rows.half a.rows.plain x a.rows.diag.now a.rows.eta_dt a.rows.left.now a.rows.right.now k =
    row_inner a.rows.half a.rows.plain _ a.rows.eta_dt x k _ _ _ _ (omega arith) (omega arith) i.0 above c.beside-beside.ensures (ap (λ (z : Float). a.rows.eta_dt ⊗ c.beside-beside.result ⊖ at a.rows.diag.now k ⊗ z) here) in
    let up : k ≡ k + 1 - 1 = omega arith in (
      here ∙ ap (at x) up ∙ before_later x (k + 1) (omega arith),
      stored _ x _ k _ (omega arith) i.1 (ap (λ (y : Float). y ⊗ (1ᶠ ⊘ c.from-inv.result)) t ∙ later_is _ x k (omega arith)),
      stored _ a.v.now _ k _ (omega arith) i.2 (ap₂ (λ (y z : Float). y ⊕ z ⊗ (1ᶠ ⊘ c.from-inv.result)) sum t ∙ later_is _ a.v.now k (omega arith)),
    )

pub returns : goal.returns
returns c =
    let a = c.args in
    let p = c.requires in
    let x = a.x.now in
    let v = a.v.now in
    let n = length x in
    let k = c.loop-i.i in
    let m = n - 1 in
    let end : k ≡ m = omega arith in
    let i = c.loop-i.invariant in
    let inv = 1ᶠ ⊘ c.from-inv.result in
    let by : Float → ℕ → Float = entry a.rows.half a.rows.plain x a.rows.diag.now a.rows.eta_dt a.rows.left.now a.rows.right.now in
    let f = by inv in
    let is : inv ≡ 1ᶠ ⊘ whole (pos a.order) = ap (λ (y : Float). 1ᶠ ⊘ y) c.from-inv.ensures in
    let some : 0 < n = le_trans (lit≤ tt) p.two_rows in
    let here : at c.loop-i.x m ≡ at x m = ap (λ (l : List Float). at l m) i.1 ∙ at_filled _ x k m (omega arith) in
    let sum : at c.loop-i.v m ≡ at v m = ap (λ (l : List Float). at l m) i.2 ∙ at_filled _ _ k m (omega arith) in
    let first : c.row_at.result ≡ row a.rows.half a.rows.plain x a.rows.diag.now a.rows.eta_dt a.rows.left.now a.rows.right.now 0 =
    row_through a.rows.half a.rows.plain _ a.rows.eta_dt x 0 _ _ _ p.two_rows (before_first x 0 refl) refl refl c.row_at.ensures in
    let last : c.last_row.result ≡ row a.rows.half a.rows.plain x a.rows.diag.now a.rows.eta_dt a.rows.left.now a.rows.right.now m =
    row_last a.rows.half a.rows.plain _ a.rows.eta_dt x m _ _ (omega arith) (rw end at i.0) (rw here at c.last_row.ensures) in
    let terms = stored_last (later f x) x _ k m n _ (omega arith) (omega arith) refl i.1 (ap (λ (y : Float). y ⊗ inv) last ∙ later_is f x m (omega arith)) in
    let sums = stored_last (later (λ j. at v j ⊕ f j) v) v _ k m n _ (omega arith) (omega arith) (omega arith) i.2 (ap₂ (λ (y z : Float). y ⊕ z ⊗ inv) sum last ∙ later_is (λ j. at v j ⊕ f j) v m (omega arith)) in
    term_made a.rows.half a.rows.plain _ a.rows.eta_dt a.order x v _ _ _
    (later_all f x _ n _ some terms (ap (λ (y : Float). y ⊗ inv) first) ∙ ap (λ (z : Float). tab n (by z)) is)
    (later_all (λ j. at v j ⊕ f j) v _ n _ some sums (ap₂ (λ (y z : Float). y ⊕ z ⊗ inv) (later_first _ v _ n some sums) first) ∙ ap (λ (z : Float). tab n (λ j. at v j ⊕ by z j)) is)
    (c.has_converged.ensures ∙ converged_at _ _ _ _ (simp length-set (omega arith)))
