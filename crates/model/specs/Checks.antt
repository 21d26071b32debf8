-- A check's verdict, as the code says it, and the first of two. Definitions only.
use Rattle.std.specs.Prelude.{Bool, Result, Ok, Err}
use Rattle.elementary.specs.Checks.{Verdict, passes, refused, verdict, first_of, check_of}
use Rattle.elementary.specs.declared.Refusal.{Refusal}

unfoldable pub verdict_of : Result Unit Refusal → Verdict
verdict_of (Ok tt) = passes
verdict_of (Err r) = refused r.0

-- of one test and its refusal
unfoldable pub one_check : Bool → Refusal → Result Unit Refusal
one_check b r = check_of (verdict (b, r.0))

-- of two checks the first that refuses
unfoldable pub first_refusal : Result Unit Refusal → Result Unit Refusal → Result Unit Refusal
first_refusal a b = check_of (first_of (verdict_of a) (verdict_of b))
