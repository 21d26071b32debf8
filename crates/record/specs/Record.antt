-- Document 01, module 6: a record, eleven numbers in groups of seven bits. Definitions only.
use Rattle.std.specs.Prelude.{ℕ, zero, suc, ◌+◌, ◌-◌, ◌*◌, ◌/◌, ◌%◌, Bool, true, false, ◌&&◌, List, [], ◌∷◌, ◌++◌, ℤ, pos, negsuc, set, length, get_or, drop, ltb, leb, eqb, Result, Ok, Err}
use Rattle.amounts.specs.Refusals.{limits}
use Rattle.amounts.specs.Amounts.{time_ok}
use Rattle.model.specs.Model.{model_limits}
use Rattle.model.specs.declared.GLFTConfig.{GLFTConfig}
use Rattle.record.specs.Refusals.{cut_short, malformed}
use Rattle.record.specs.declared.record.Record.{Record}
use Rattle.record.specs.declared.record.RecordAnswer.{RecordAnswer}
use Rattle.elementary.specs.declared.Refusal.{Refusal}
use Rattle.elementary.specs.Checks.{by}

-- what is read from the head of some bytes, and the bytes left; or a refusal
pub data Read (A : Type 0) : Type 0 where
  taken : A → List ℕ → Read A
  refused : ℕ → Read A

-- a refusal ends the reading, so of several the first met decides
infixl 40 ◌then◌
unfoldable pub ◌then◌ : {A B : Type 0} → Read A → (A → List ℕ → Read B) → Read B
taken x l then f = f x l
refused n then f = refused n

-- ---- a number: groups of seven bits, lowest first, the top bit set where another follows
-- is the group the last, is it a zero after others; and what follows else
unfoldable pub group : Bool → Bool → ℕ → List ℕ → Read ℕ → Read ℕ
group true true b l r = refused malformed
group true false b l r = taken b l
group false z b l r = r

-- the groups from here on, of which so many may come; have there been others before. Where none may come, the last byte's top bit asked for one too many.
unfoldable pub groups : ℕ → Bool → List ℕ → Read ℕ
groups zero later l = refused malformed
groups (suc k) later [] = refused cut_short
groups (suc k) later (b ∷ l) = group (ltb b 128) (later && eqb b 0) b l (groups k true l then λ n r. taken (b % 128 + 128 * n) r)

-- the most groups of a number
abbrev pub most_groups : ℕ
most_groups = 8

unfoldable pub number : List ℕ → Read ℕ
number l = groups most_groups false l

-- n numbers in order
unfoldable pub numbers : ℕ → List ℕ → Read (List ℕ)
numbers zero l = taken [] l
numbers (suc n) l = numbers n l then λ v r. number r then λ x q. taken (v ++ (x ∷ [])) q

-- what `read_numbers` answers of some bytes, n of them: the place after the numbers; and what it leaves where they go
unfoldable pub numbers_answer : ℕ → Read (List ℕ) → Result ℕ Refusal
numbers_answer n (taken v rest) = Ok (n - length rest)
numbers_answer n (refused k) = Err (by k)

unfoldable pub numbers_left : Read (List ℕ) → List ℕ → List ℕ
numbers_left (taken v rest) out = v
numbers_left (refused k) out = out

-- ---- the holding h is stored as 2 h, or - 2 h - 1 if negative
unfoldable pub stored : ℤ → ℕ
stored (pos n) = 2 * n
stored (negsuc n) = 2 * suc n - 1

-- what a stored number stands for: is it even, and its half
unfoldable pub holding_by : Bool → ℕ → ℤ
holding_by true n = pos n
holding_by false n = negsuc n

unfoldable pub holding : ℕ → ℤ
holding n = holding_by (eqb (n % 2) 0) (n / 2)

-- ---- the record of eleven numbers: mid, holding, volatility, risk aversion, k, A, bound, lot size, terminal, current, min spread
abbrev pub fields : ℕ
fields = 11

unfoldable pub record_of : List ℕ → Record
record_of v =
    record {
      mid_price = pos (get_or v 0 0);
      inventory = holding (get_or v 1 0);
      volatility = pos (get_or v 2 0);
      risk_aversion = pos (get_or v 3 0);
      order_intensity_k = pos (get_or v 4 0);
      intensity_scale_a = pos (get_or v 5 0);
      max_inventory_lots = get_or v 6 0;
      lot_size = pos (get_or v 7 0);
      terminal_time = get_or v 8 0;
      current_time = get_or v 9 0;
      min_spread = pos (get_or v 10 0);
    }

-- the configuration in a record; change request 7: stored records mean drift 0
unfoldable pub config_of : Record → GLFTConfig
config_of r =
    record {
      risk_aversion = r.risk_aversion;
      order_intensity_k = r.order_intensity_k;
      intensity_scale_a = r.intensity_scale_a;
      max_inventory_lots = r.max_inventory_lots;
      lot_size = r.lot_size;
      terminal_time = r.terminal_time;
      min_spread = r.min_spread;
      drift = pos 0;
    }

-- the largest bound that is read, 2 ^ 32 - 1
abbrev pub most_bound : ℕ
most_bound = 4_294_967_295

-- every amount and time within its limit, and the bound too, or 2
unfoldable pub record_ok : Record → Bool
record_ok r =
    model_limits r.mid_price r.inventory (config_of r) r.volatility && time_ok r.current_time && leb r.max_inventory_lots most_bound

-- ---- the record at a place of a sheet, and the next place; past the end there is no byte
unfoldable pub record_if : Bool → Record → ℕ → RecordAnswer
record_if true r next = RecordAnswer.Record r next
record_if false r next = RecordAnswer.Skipped (by limits) next

-- by its eleven numbers
abbrev pub record_by : List ℕ → ℕ → RecordAnswer
record_by v next = let r = record_of v in record_if (record_ok r) r next

-- of a sheet of n bytes
unfoldable pub record_from : ℕ → Read (List ℕ) → RecordAnswer
record_from n (taken v rest) = record_by v (n - length rest)
record_from n (refused k) = RecordAnswer.Refused (by k)

unfoldable pub read_record : List ℕ → ℕ → RecordAnswer
read_record s at = record_from (length s) (numbers fields (drop at s))

-- ---- change request 4: the same, with its holding or with one of 0 in its place
unfoldable pub as_held : Bool → List ℕ → List ℕ
as_held false v = v
as_held true v = set v 1 0

unfoldable pub held_as : Bool → Read (List ℕ) → Read (List ℕ)
held_as flat (taken v rest) = taken (as_held flat v) rest
held_as flat (refused k) = refused k

unfoldable pub read_as : Bool → List ℕ → ℕ → RecordAnswer
read_as flat s at = record_from (length s) (held_as flat (numbers fields (drop at s)))
