-- `desk::config_at` meets its contract: each field is the word that the definition names. Assumes nothing.
use Rattle.amounts.proofs.Limits.{kept}
use Rattle.desk.specs.Desk.{config_at}
use Rattle.desk.proofs.config_at.Goals as goal

pub returns : goal.returns
unfolding config_at
returns c =
    rw (kept _ c.amount_at.type_inv, kept _ c.amount_at-2.type_inv, kept _ c.amount_at-3.type_inv, kept _ c.amount_at-4.type_inv, kept _ c.amount_at-5.type_inv, kept _ c.amount_at-6.type_inv, c.amount_at.ensures, c.amount_at-2.ensures, c.amount_at-3.ensures, c.bound_of.ensures, c.word_at.ensures, c.amount_at-4.ensures, c.word_at-2.ensures, c.amount_at-5.ensures, c.amount_at-6.ensures)
