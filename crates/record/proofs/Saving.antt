-- A record saved: its numbers written and read, one after the other, and the record that they make. Assumes nothing.
use Rattle.std.specs.Prelude.{Ok, Err}
use mathlib.Core.Path.{◌≡◌, refl, sym, ap, ◌∙◌}
use Prim.Native.Nat.{ℕ, zero, suc, ◌+◌, ◌-◌, ◌*◌, ◌^◌, ◌<◌, ◌≤◌, zero-le}
use native.Mathlib.Nat.{le_refl, le_of_eq}
use native.Mathlib.Numerals.{add-one}
use native.Mathlib.Omega.{arith}
use mathlib.Core.Bool.{Bool, true, false, ◌&&◌}
use mathlib.Core.List.{List, [], ◌∷◌, ◌++◌, append_assoc, append-nil}
use borrow.Author.Tests.{leb-true, le-leb, lt-leb}
use lib.IntN.{ℤ, pos, negsuc, nat_abs}
use lib.ListN.{length, get_or, take, drop, length-append, take-append-drop, drop_of_length-le}
use lib.Seq.{drop-cons, take_all, take-suc, get_or-drop, get_or-append-add}
use lib.Signed.{le_z}
use lib.Dec.{T, lit<}
use mir.Facts.{and_yes}
use borrow.Rule.Slice.PartMut.{mid_of, put_mid}
use Rattle.amounts.specs.Refusals.{limits}
use Rattle.amounts.specs.Amounts.{amount_limit}
use Rattle.record.specs.Refusals.{small_record_buffer}
use Rattle.record.specs.Record.{taken, ◌then◌, number, numbers, most_groups, fields, stored, record_of, record_ok}
use Rattle.buffers.specs.Over.{over}
use Rattle.record.specs.Save.{in_groups, all_in_groups, numbers_of, record_bytes, none_below, save_ok, record_room, saved_if, saved_in_if, saved, saved_in}
use Rattle.record.specs.Promises.{Bytes}
use Rattle.record.specs.declared.record.Record.{Record}
use Rattle.record.proofs.Left.{after}
use Rattle.record.proofs.Limits.{holding_limit, Bounds, bounds}
use Rattle.buffers.proofs.Texts.{Wrote, wrote_length, wrote_none, wrote_part, wrote_as}
use Rattle.record.proofs.Groups.{fewest_groups, groups_read, groups_written}
use Rattle.record.proofs.Holdings.{holdings_stored}
use Rattle.elementary.specs.Checks.{by}

-- ---- numbers one after the other
all_append : (u v : List ℕ) → all_in_groups (u ++ v) ≡ all_in_groups u ++ all_in_groups v
unfolding all_in_groups
all_append [] v = refl
all_append (n ∷ u) v = ap (λ (l : List ℕ). in_groups n ++ l) (all_append u v) ∙ sym (append_assoc (in_groups n) (all_in_groups u) (all_in_groups v))

all_one : (n : ℕ) → all_in_groups (n ∷ []) ≡ in_groups n
unfolding all_in_groups
all_one n = append-nil (in_groups n)

all_snoc : (v : List ℕ) (n : ℕ) → all_in_groups (v ++ (n ∷ [])) ≡ all_in_groups v ++ in_groups n
all_snoc v n = all_append v (n ∷ []) ∙ ap (λ (l : List ℕ). all_in_groups v ++ l) (all_one n)

-- ---- a loop that writes them, of which i are written
pub record Saving (v l out : List ℕ) (at i : ℕ) : Type 0 where
  pub few : i ≤ length v
  pub wrote : Wrote l (all_in_groups (take i v)) out at

pub saving_none : (v l : List ℕ) → Saving v l l 0 0
unfolding all_in_groups
saving_none v l = record { few = zero-le; wrote = wrote_none l }

module _ (v l out : List ℕ) (at i : ℕ) (fits : length (all_in_groups v) ≤ length l) (g : Saving v l out at i) where
  pub saving_length : length out ≡ length l
  saving_length =
      let e = ap length (ap all_in_groups (sym (take-append-drop i v)) ∙ all_append (take i v) (drop i v)) in
      wrote_length l (all_in_groups (take i v)) out at g.wrote (omega (arith, simp length-append at e, g.wrote.up_to))

  module _ (more : i < length v) where
    next : all_in_groups (take (suc i) v) ≡ all_in_groups (take i v) ++ in_groups (get_or v i 0)
    next = rw (take-suc v i 0 more) (all_snoc (take i v) (get_or v i 0))

    pub saving_room : at + length (in_groups (get_or v i 0)) ≤ length l
    saving_room =
        let e = ap length (ap all_in_groups (sym (take-append-drop (suc i) v)) ∙ all_append (take (suc i) v) (drop (suc i) v) ∙ ap (λ (m : List ℕ). m ++ all_in_groups (drop (suc i) v)) next) in
        omega (arith, simp length-append at e, g.wrote.up_to)

    pub saving_more : (part : List ℕ) (n : ℕ) → part ≡ over (in_groups (get_or v i 0)) (mid_of at (length out - at) out) → n ≡ length (in_groups (get_or v i 0))
        → Saving v l (put_mid at (length out - at) out part) (at + n) (i + 1)
    saving_more part n e k =
        record {
          few = omega arith;
          wrote = rw (add-one i, next) (wrote_part l (all_in_groups (take i v)) (in_groups (get_or v i 0)) out part at n g.wrote e k);
        }

  pub saving_all : length v ≤ i → (out ≡ over (all_in_groups v) l) × (at ≡ length (all_in_groups v))
  saving_all h = wrote_as l (all_in_groups (take i v)) (all_in_groups v) out at g.wrote (ap all_in_groups (take_all i v h))

-- ---- reading
-- each of them within the most groups
pub Held : List ℕ → Type 0
Held [] = Unit {0}
Held (n ∷ v) = (n < 128 ^ most_groups) × Held v

held_at : (v : List ℕ) → Held v → (i : ℕ) → get_or v i 0 < 128 ^ most_groups
unfolding Held
held_at [] h i = lit< tt
held_at (n ∷ v) h zero = h.0
held_at (n ∷ v) h (suc i) = held_at v h.1 i

held_length : (v : List ℕ) → Held v → length (all_in_groups v) ≤ length v * most_groups
unfolding Held all_in_groups
held_length [] h = le_refl 0
held_length (n ∷ v) h = rw (length-append (in_groups n) (all_in_groups v)) (omega (arith, (fewest_groups (most_groups - 1) n).1 h.0, held_length v h.1))

-- what is written is read
number_read : (n : ℕ) (r : List ℕ) → n < 128 ^ most_groups → number (in_groups n ++ r) ≡ taken n r
unfolding number
number_read n r h = groups_read (most_groups - 1) n false r h (λ e. let z : ◌≡◌ {A = ℕ} 0 1 = cc in absurd (omega arith))

some_read : (v : List ℕ) → Held v → (r : List ℕ) (i : ℕ) → i ≤ length v → numbers i (all_in_groups v ++ r) ≡ taken (take i v) (all_in_groups (drop i v) ++ r)
unfolding numbers ◌then◌ all_in_groups
some_read v h r zero k = refl
some_read v h r (suc i) k =
    let n = get_or v i 0 in
    rw (some_read v h r i (omega arith), drop-cons v i 0 k, append_assoc (in_groups n) (all_in_groups (drop (suc i) v)) r, number_read n (all_in_groups (drop (suc i) v) ++ r) (held_at v h i), take-suc v i 0 k)

-- what is read was written so
bytes_after : (u l : List ℕ) → Bytes (u ++ l) → Bytes l
bytes_after u l h i = rw (get_or-append-add u l i 0) at (h (length u + i))

pub bytes_drop : (s : List ℕ) (at : ℕ) → Bytes s → Bytes (drop at s)
bytes_drop s at h i = rw (get_or-drop at s i 0) (h (at + i))

all_none : all_in_groups [] ≡ []
unfolding all_in_groups
all_none = refl

pub numbers_written : (k : ℕ) (l v r : List ℕ) → Bytes l → numbers k l ≡ taken v r → (l ≡ all_in_groups v ++ r) × (length v ≡ k)
unfolding numbers number
numbers_written zero l v r h e =
    let x : [] ≡ v = cc in
    let y : l ≡ r = cc in
    rw (← x, ← y, all_none) (refl, refl)
numbers_written (suc k) l v r h e =
    let x = after (numbers k l) _ v r e in
    let y = after (number x.1) _ v r x.3 in
    let p = numbers_written k l x.0 x.1 h x.2 in
    let q = groups_written most_groups false x.1 y.0 y.1 (bytes_after (all_in_groups x.0) x.1 (rw p.0 at h)) y.2 in
    let w : x.0 ++ (y.0 ∷ []) ≡ v = cc in
    let z : y.1 ≡ r = cc in (
      p.0
          ∙ ap (λ (m : List ℕ). all_in_groups x.0 ++ m) q.0
          ∙ sym (append_assoc (all_in_groups x.0) (in_groups y.0) y.1)
          ∙ ap (λ (m : List ℕ). m ++ y.1) (sym (all_snoc x.0 y.0))
          ∙ ap (λ (m : List ℕ). all_in_groups (x.0 ++ (y.0 ∷ [])) ++ m) z
          ∙ ap (λ (m : List ℕ). all_in_groups m ++ r) w,
      sym (ap length w) ∙ length-append x.0 (y.0 ∷ []) ∙ ap (λ (m : ℕ). m + 1) p.1 ∙ add-one k,
    )

-- ---- the numbers of a record, and the record of its numbers
-- so many entries from a place on
entries : ℕ → ℕ → List ℕ → List ℕ
entries zero i v = []
entries (suc k) i v = get_or v i 0 ∷ entries k (suc i) v

entries_all : (k i : ℕ) (v : List ℕ) → i + k ≡ length v → entries k i v ≡ drop i v
unfolding entries
entries_all zero i v e = let h : length v ≤ i = omega arith in sym (drop_of_length-le v h)
entries_all (suc k) i v e = rw (drop-cons v i 0 (omega arith)) (ap (λ (l : List ℕ). get_or v i 0 ∷ l) (entries_all k (suc i) v (omega arith)))

pub numbers_again : (v : List ℕ) → length v ≡ fields → numbers_of (record_of v) ≡ v
unfolding numbers_of record_of entries
numbers_again v e = rw (holdings_stored.1 (get_or v 1 0)) (entries_all fields 0 v (sym e))

-- no amount but the holding is below zero
pub record NotBelow (r : Record) : Type 0 where
  pub mid : T (le_z (pos 0) r.mid_price)
  pub volatility : T (le_z (pos 0) r.volatility)
  pub risk : T (le_z (pos 0) r.risk_aversion)
  pub k : T (le_z (pos 0) r.order_intensity_k)
  pub scale : T (le_z (pos 0) r.intensity_scale_a)
  pub lot : T (le_z (pos 0) r.lot_size)
  pub spread : T (le_z (pos 0) r.min_spread)

seven : (m v r k a l s : Bool) → T (m && v && r && k && a && l && s) → T m × T v × T r × T k × T a × T l × T s
seven m v r k a l s h =
    let b6 = and_yes (m && v && r && k && a && l) s h in
    let b5 = and_yes (m && v && r && k && a) l b6.0 in
    let b4 = and_yes (m && v && r && k) a b5.0 in
    let b3 = and_yes (m && v && r) k b4.0 in
    let b2 = and_yes (m && v) r b3.0 in
    let b1 = and_yes m v b2.0 in
    (b1.0, b1.1, b2.1, b3.1, b4.1, b5.1, b6.1)

pub not_below : (r : Record) → T (save_ok r) → NotBelow r
unfolding save_ok none_below
not_below r h =
    let p = seven (le_z (pos 0) r.mid_price) (le_z (pos 0) r.volatility) (le_z (pos 0) r.risk_aversion) (le_z (pos 0) r.order_intensity_k) (le_z (pos 0) r.intensity_scale_a) (le_z (pos 0) r.lot_size) (le_z (pos 0) r.min_spread) (and_yes (record_ok r) (none_below r) h).1 in
    record { mid = p.0; volatility = p.1; risk = p.2; k = p.3; scale = p.4; lot = p.5; spread = p.6 }

pos_again : (z : ℤ) → T (le_z (pos 0) z) → pos (nat_abs z) ≡ z
pos_again (pos n) h = refl
pos_again (negsuc n) h = absurd h

pub record_again : (r : Record) → T (save_ok r) → record_of (numbers_of r) ≡ r
unfolding record_of numbers_of
record_again r h =
    let p = not_below r h in
    rw (pos_again r.mid_price p.mid, holdings_stored.0 r.inventory, pos_again r.volatility p.volatility, pos_again r.risk_aversion p.risk, pos_again r.order_intensity_k p.k, pos_again r.intensity_scale_a p.scale, pos_again r.lot_size p.lot, pos_again r.min_spread p.spread)

-- ---- a record within its limits has numbers that the groups hold, and fits the least buffer
pub limits_kept : (r : Record) → T (save_ok r) → Bounds (numbers_of r)
unfolding save_ok
limits_kept r h = bounds (numbers_of r) (rw (record_again r h) (and_yes (record_ok r) (none_below r) h).0)

pub holding_kept : (r : Record) → T (save_ok r) → nat_abs r.inventory ≤ amount_limit
unfolding numbers_of
holding_kept r h =
    let e = holding_limit (stored r.inventory) amount_limit in
    leb-true (nat_abs r.inventory) amount_limit (rw (holdings_stored.0 r.inventory) at e ∙ le-leb (stored r.inventory) (2 * amount_limit) (limits_kept r h).holds)

held : (r : Record) → T (save_ok r) → Held (numbers_of r)
unfolding Held numbers_of
held r h =
    let b = limits_kept r h in
    (omega (arith, b.mid), (omega (arith, b.holds), (omega (arith, b.volatility), (omega (arith, b.risk), (omega (arith, b.k), (omega (arith, b.scale), (omega (arith, b.bound), (omega (arith, b.lot), (omega (arith, b.terminal), (omega (arith, b.current), (omega (arith, b.spread), tt)))))))))))

pub numbers_eleven : (r : Record) → length (numbers_of r) ≡ fields
unfolding numbers_of
numbers_eleven r = refl

pub bytes_fit : (r : Record) → T (save_ok r) → length (record_bytes r) ≤ record_room
unfolding record_bytes
bytes_fit r h = rw (numbers_eleven r) at (held_length (numbers_of r) (held r h))

pub record_read : (r : Record) (t : List ℕ) → T (save_ok r) → numbers fields (record_bytes r ++ t) ≡ taken (numbers_of r) t
unfolding record_bytes
record_read r t h = some_read (numbers_of r) (held r h) t fields (le_of_eq (sym (numbers_eleven r))) ∙ rw (take_all fields (numbers_of r) (le_of_eq (numbers_eleven r)), drop_of_length-le (numbers_of r) (le_of_eq (numbers_eleven r)), all_none)

-- ---- what is answered and what is left in the buffer: a short buffer, a record that cannot be saved, one that can
module _ (r : Record) (b : List ℕ) where
  pub saved_short : length b < record_room → (saved r b ≡ Err (by small_record_buffer)) × (saved_in r b ≡ b)
  unfolding saved_if saved_in_if
  saved_short h = rw (lt-leb record_room (length b) h) (refl, refl)

  module _ (h : record_room ≤ length b) where
    pub saved_none : save_ok r ≡ false → (saved r b ≡ Err (by limits)) × (saved_in r b ≡ b)
    unfolding saved_if saved_in_if
    saved_none e = rw (le-leb record_room (length b) h, e) (refl, refl)

    pub saved_whole : save_ok r ≡ true → (saved r b ≡ Ok (length (record_bytes r))) × (saved_in r b ≡ over (record_bytes r) b)
    unfolding saved_if saved_in_if
    saved_whole e = rw (le-leb record_room (length b) h, e) (refl, refl)
