-- Change request 8: where each number of a table stands. A table is a list of 64-bit numbers; a float is there by its bits. Definitions only.
use Rattle.std.specs.Prelude.{ℕ, ◌+◌, ◌*◌}

-- the fewest numbers of a table
abbrev pub table_room : ℕ
table_room = 4096

-- how many vectors it keeps
abbrev pub rows_kept : ℕ
rows_kept = 4

-- ---- two counts, and then the rows: seven numbers, 401 weights and 401 offsets each
-- the count of filled rows, and the row that a new vector takes
abbrev pub filled_at : ℕ
filled_at = 0

abbrev pub next_at : ℕ
next_at = 1

abbrev pub row_size : ℕ
row_size = 809

abbrev pub row_at : ℕ → ℕ
row_at r = 2 + r * row_size

-- ---- in row r: the steps that its vector took, the vector's length, and what it was made from
abbrev pub steps_at : ℕ → ℕ
steps_at r = row_at r

abbrev pub length_at : ℕ → ℕ
length_at r = row_at r + 1

abbrev pub bound_at : ℕ → ℕ
bound_at r = row_at r + 2

abbrev pub alpha_at : ℕ → ℕ
alpha_at r = row_at r + 3

abbrev pub beta_at : ℕ → ℕ
beta_at r = row_at r + 4

abbrev pub eta_at : ℕ → ℕ
eta_at r = row_at r + 5

abbrev pub tau_at : ℕ → ℕ
tau_at r = row_at r + 6

-- weight i and offset i, from 0 to 400
abbrev pub weight_at : ℕ → ℕ → ℕ
weight_at r i = row_at r + 7 + i

abbrev pub offset_at : ℕ → ℕ → ℕ
offset_at r i = row_at r + 408 + i
