-- The first n weights of a blank array are stored over. Assumes nothing.
use mathlib.Core.Path.{◌≡◌, ap, ◌∙◌}
use mathlib.Core.List.{List}
use Prim.Native.Nat.{ℕ}
use lib.Ieee.{Float}
use lib.ListN.{length-replicate}
use Rattle.elementary.specs.Float.{0ᶠ, 1ᶠ}
use Rattle.operator.specs.Vectors.{fill}
use Rattle.vector.specs.Values.{padded, vector_of}
use Rattle.plan.proofs.Room.{blank_length}
use Rattle.vector.proofs.Room.{blank_padded, back}
use Rattle.vector.proofs.run.at_end.Goals as goal

vector_is : (n : ℕ) (a b : List Float) → a ≡ padded n (fill n 1ᶠ) → b ≡ padded n (fill n 0ᶠ) → record { w = a; log_offset = b; n = n } ≡ vector_of n (fill n 1ᶠ) (fill n 0ᶠ)
unfolding vector_of
vector_is n a b ea eb = rw (ea, eb)

pub returns : goal.returns
returns c =
    let n = c.args.n in
    let few = c.requires in
    let ones : c.fill.new.self ≡ fill n 1ᶠ = c.fill.ensures.after (λ y e. e) ∙ ap (λ (k : ℕ). fill k 1ᶠ) (blank_length n _ c.zeros-w.ensures few) in
    vector_is n _ _ (back n _ _ (blank_padded n _ c.zeros-w.ensures few) (length-replicate n 0ᶠ) _ ∙ ap (padded n) ones) (blank_padded n _ c.zeros.ensures few)
