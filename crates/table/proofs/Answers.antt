-- From a cleared table every answer is that of `exact_quotes`, and demand 3 holds of any two. Assumes nothing.
use mathlib.Core.Path.{◌≡◌, refl, sym, ap, ◌∙◌}
use Prim.Native.Nat.{ℕ, ◌≤◌}
use mathlib.Core.List.{List, [], ◌∷◌}
use lib.ListN.{length}
use lib.IntN.{ℤ, neg_ℤ}
use Rattle.distances.specs.Promises.{exchanged}
use Rattle.distances.specs.declared.Answer.{Answer}
use Rattle.model.specs.Configuration.{turned}
use Rattle.model.specs.declared.GLFTConfig.{GLFTConfig}
use Rattle.quote.specs.Quotes.{exact_answer, exact_by, exact_quotes}
use Rattle.quote.proofs.Mirrors.{exact_mirror}
use Rattle.quote.proofs.Pairs.{exact_pairs}
use Rattle.table.specs.Places.{table_room}
use Rattle.table.specs.Table.{Used, table_used, table_answer, cleared}
use Rattle.table.specs.Promises.{Call, clear, quote, after_call, after_all, replies, alone, TableAnswers, TablePriced, TableMirror}
use Rattle.table.proofs.Courses.{Course, table_refused, checks_refused, taken, made, course}
use Rattle.table.proofs.Sound.{Sound, sound_cleared, call_right}

-- ---- a list of calls
after_sound : (k : Call) (t : List ℕ) → Sound t → Sound (after_call k t)
unfolding after_call
after_sound clear t o = sound_cleared t o.long
after_sound (quote mid h c vol now) t o = (call_right t mid h c vol now o).sound

pub all_sound : (l : List Call) (t : List ℕ) → Sound t → Sound (after_all l t)
unfolding after_all
all_sound [] t o = o
all_sound (k ∷ l) t o = all_sound l (after_call k t) (after_sound k t o)

answers : (l : List Call) (t : List ℕ) → Sound t → replies l t ≡ alone l
unfolding replies alone
answers [] t o = refl
answers (clear ∷ l) t o = answers l (cleared t) (sound_cleared t o.long)
answers (quote mid h c vol now ∷ l) t o =
    let r = call_right t mid h c vol now o in
    let e : replies l (table_used t mid h c vol now).table ≡ alone l = answers l (table_used t mid h c vol now).table r.sound in
    λ i. r.reply i ∷ e i

pub table_answers : TableAnswers
table_answers t h l = answers l (cleared t) (sound_cleared t h)

-- ---- the reply, priced
pub table_priced : TablePriced
unfolding exact_by exact_quotes
table_priced t mid h c vol now = go (course t mid h c vol now)
  where
    go : {v : Used} {a : Answer} → Course t mid h c vol now v a → v.reply ≡ exact_by mid c.min_spread a
    go (table_refused k) = refl
    go (checks_refused p k) = refl
    go (taken r p k e) = refl
    go (made p k e) = refl

-- ---- demand 3
module _ (t : List ℕ) (long : table_room ≤ length t) (l : List Call) (mid h : ℤ) (c : GLFTConfig) (vol : ℤ) (now : ℕ) where
  answer_after : table_answer (after_all l (cleared t)) mid h c vol now ≡ exact_answer mid h c vol now
  answer_after = (call_right (after_all l (cleared t)) mid h c vol now (all_sound l (cleared t) (sound_cleared t long))).answer

  reply_after : (table_used (after_all l (cleared t)) mid h c vol now).reply ≡ exact_quotes mid h c vol now
  reply_after = (call_right (after_all l (cleared t)) mid h c vol now (all_sound l (cleared t) (sound_cleared t long))).reply

pub table_mirror : TableMirror
table_mirror t t' h h' l l' mid hold c vol now = (
  answer_after t' h' l' mid (neg_ℤ hold) (turned c) vol now ∙ (exact_mirror mid hold c vol now).0 ∙ ap exchanged (sym (answer_after t h l mid hold c vol now)),
  λ q q' s s' e e'. exact_pairs mid hold c vol now q q' s s' (sym (reply_after t h l mid hold c vol now) ∙ e) (sym (reply_after t' h' l' mid (neg_ℤ hold) (turned c) vol now) ∙ e'),
)
