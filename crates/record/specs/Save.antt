-- Change request 1: a record saved, as the reader of module 6 reads it. Definitions only.
use Rattle.std.specs.Prelude.{ℕ, zero, suc, ◌+◌, ◌*◌, ◌/◌, ◌%◌, Bool, true, false, ◌&&◌, List, [], ◌∷◌, ◌++◌, pos, nat_abs, length, ltb, leb, Result, Ok, Err}
use Rattle.std.specs.Int.Signed.{le_z}
use Rattle.amounts.specs.Refusals.{limits}
use Rattle.record.specs.Refusals.{small_record_buffer}
use Rattle.record.specs.Record.{most_groups, fields, stored, record_ok}
use Rattle.buffers.specs.Over.{over}
use Rattle.record.specs.declared.record.Record.{Record}
use Rattle.elementary.specs.declared.Refusal.{Refusal}
use Rattle.elementary.specs.Checks.{by}

-- ---- a number in groups of seven bits, lowest first, the top bit set where another follows
-- is the number below 128, so that its group is the last; as many turns as the number says are enough
unfoldable pub in_groups_by : ℕ → Bool → ℕ → List ℕ
in_groups_by zero t n = n ∷ []
in_groups_by (suc k) true n = n ∷ []
in_groups_by (suc k) false n = (n % 128 + 128) ∷ in_groups_by k (ltb (n / 128) 128) (n / 128)

unfoldable pub in_groups : ℕ → List ℕ
in_groups n = in_groups_by n (ltb n 128) n

-- numbers one after the other
unfoldable pub all_in_groups : List ℕ → List ℕ
all_in_groups [] = []
all_in_groups (n ∷ v) = in_groups n ++ all_in_groups v

-- ---- a record's eleven numbers in the sheet's order, and its bytes
unfoldable pub numbers_of : Record → List ℕ
numbers_of r =
    nat_abs r.mid_price
    ∷ stored r.inventory
    ∷ nat_abs r.volatility
    ∷ nat_abs r.risk_aversion
    ∷ nat_abs r.order_intensity_k
    ∷ nat_abs r.intensity_scale_a
    ∷ r.max_inventory_lots
    ∷ nat_abs r.lot_size
    ∷ r.terminal_time
    ∷ r.current_time
    ∷ nat_abs r.min_spread
    ∷ []

unfoldable pub record_bytes : Record → List ℕ
record_bytes r = all_in_groups (numbers_of r)

-- ---- what can be saved: every number within its limit, and none below zero but the holding, or 2
unfoldable pub none_below : Record → Bool
none_below r =
    le_z (pos 0) r.mid_price && le_z (pos 0) r.volatility && le_z (pos 0) r.risk_aversion && le_z (pos 0) r.order_intensity_k
    && le_z (pos 0) r.intensity_scale_a && le_z (pos 0) r.lot_size && le_z (pos 0) r.min_spread

unfoldable pub save_ok : Record → Bool
save_ok r = record_ok r && none_below r

-- ---- the least buffer for a record: the most groups for each of its numbers, 88 bytes
abbrev pub record_room : ℕ
record_room = fields * most_groups

-- ---- what `save_record` answers, and what it leaves in the buffer: has that the room, can the record be saved
unfoldable pub saved_if : Bool → Bool → List ℕ → Result ℕ Refusal
saved_if false k t = Err (by small_record_buffer)
saved_if true false t = Err (by limits)
saved_if true true t = Ok (length t)

unfoldable pub saved_in_if : Bool → Bool → List ℕ → List ℕ → List ℕ
saved_in_if false k t b = b
saved_in_if true false t b = b
saved_in_if true true t b = over t b

abbrev pub saved : Record → List ℕ → Result ℕ Refusal
saved r b = saved_if (leb record_room (length b)) (save_ok r) (record_bytes r)

abbrev pub saved_in : Record → List ℕ → List ℕ
saved_in r b = saved_in_if (leb record_room (length b)) (save_ok r) (record_bytes r) b
