-- Each of 6, 7 and 2 is the reply in just the situation that the paper names. Assumes nothing.
use mathlib.Core.Path.{◌≡◌, refl, ap}
use Prim.Native.Nat.{ℕ, ◌-◌}
use native.Mathlib.Omega.{arith}
use mathlib.Core.Bool.{Bool, true, false}
use mathlib.Core.List.{List}
use lib.ListN.{length, drop}
use Rattle.amounts.specs.Refusals.{limits}
use Rattle.record.specs.Record.{Read, taken, refused, numbers, fields, record_of, record_ok, record_if, record_from, read_record}
use Rattle.record.specs.Refusing.{RecordRefusals, RecordSkips}
use Rattle.record.specs.declared.record.Record.{Record}
use Rattle.record.specs.declared.record.RecordAnswer.{RecordAnswer}
use Rattle.record.proofs.Numbers.{numbers_stopped}
use Rattle.elementary.specs.Checks.{by}
use Rattle.elementary.proofs.Checks.{same_number}

-- ---- 6, 7 and 2, of a record
if_not_refused : (t : Bool) (r : Record) (next k : ℕ) → record_if t r next ≡ RecordAnswer.Refused (by k) → ⊥
unfolding record_if
if_not_refused true r next k e = let z : ◌≡◌ {A = ℕ} 0 1 = cc in omega arith
if_not_refused false r next k e = let z : ◌≡◌ {A = ℕ} 0 1 = cc in omega arith

from_refused : (n : ℕ) (x : Read (List ℕ)) (k : ℕ) → record_from n x ≡ RecordAnswer.Refused (by k) → x ≡ refused k
unfolding record_from
from_refused n (taken v r) k e = absurd (if_not_refused (record_ok (record_of v)) (record_of v) (n - length r) k e)
from_refused n (refused j) k e = ap refused (same_number (let z : by j ≡ by k = cc in z))

pub record_refusals : RecordRefusals
unfolding read_record record_from
record_refusals s at k =
    let x = numbers fields (drop at s) in
    let p = numbers_stopped fields (drop at s) k in
    (λ e. p.0 (from_refused (length s) x k e), λ h. ap (record_from (length s)) (p.1 h))

if_skipped : (t : Bool) (r : Record) (m k next : ℕ) → record_if t r m ≡ RecordAnswer.Skipped (by k) next → (k ≡ limits) × (t ≡ false) × (next ≡ m)
unfolding record_if
if_skipped true r m k next e = let z : ◌≡◌ {A = ℕ} 0 1 = cc in absurd (omega arith)
if_skipped false r m k next e = (same_number (let z : by k ≡ by limits = cc in z), refl, cc)

from_skipped : (n : ℕ) (x : Read (List ℕ)) (k next : ℕ) → record_from n x ≡ RecordAnswer.Skipped (by k) next
    → (k ≡ limits) × ((v : List ℕ) × (r : List ℕ) × (x ≡ taken v r) × (record_ok (record_of v) ≡ false) × (next ≡ n - length r))
unfolding record_from
from_skipped n (taken v r) k next e =
    let h = if_skipped (record_ok (record_of v)) (record_of v) (n - length r) k next e in
    (h.0, (v, r, refl, h.1, h.2))
from_skipped n (refused j) k next e = let z : ◌≡◌ {A = ℕ} 0 1 = cc in absurd (omega arith)

pub record_skips : RecordSkips
unfolding read_record record_from record_if
record_skips s at k next = (from_skipped (length s) (numbers fields (drop at s)) k next, λ h. rw (h.1.2, h.1.3, h.0, h.1.4))
