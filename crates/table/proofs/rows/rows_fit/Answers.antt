use Rattle.std.proofs.Common.{◌≡◌, ℕ, zero, suc, Bool, ◌&&◌, refl, ap, ◌∙◌, add-one, arith, rules}
use Rattle.std.specs.List.{list_all, range_with_len}
use Rattle.std.proofs.lemmas.Iterator.{YieldsList-from_range}
use Rattle.std.proofs.lemmas.Iterator.Search.{all_from_yields_List}
use Rattle.operator.specs.Vectors.{every_from}
use Rattle.table.specs.Table.{row_ok}
use Rattle.table.proofs.rows.rows_fit.Goals as goal

range_every : (p : ℕ → Bool) (i n : ℕ) → list_all p (range_with_len i n) ≡ every_from i n p
unfolding every_from
range_every p i zero = refl
range_every p i (suc n) = rw add-one (ap (λ (b : Bool). p i && b) (range_every p (suc i) n))

pub returns : goal.returns
returns c =
    let rows = row_ok c.args.table.numbers.now in
    all_from_yields_List rows _ _ _ c.all.ensures.ran (YieldsList-from_range 0 c.args.n c.args.n (cc) (omega arith)) (λ x b q h. search rules)
    ∙ range_every rows 0 c.args.n
