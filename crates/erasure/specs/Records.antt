-- Slices: the columns of a package, a cabinet's symbols, and the record that holds them. Assumes nothing.
use Rattle.std.specs.Prelude.{◌≡◌, ℕ, ◌+◌, ◌-◌, ◌*◌, ◌/◌, ◌<◌, List, ◌++◌, length}
use Rattle.std.specs.List.{range_with_len, flat_map}
use Rattle.base.specs.Bytes.{le_bytes, le_value, part}
use Rattle.algebra.specs.Fields.{Ops}
use Rattle.algebra.specs.Polynomials.{ValueAt}
use Rattle.algebra.specs.Slices.{stored_at}

-- a field with its widths and number, and how many symbols make a column
pub record Coding : Type 0 where
  pub ops : Ops
  pub width : ℕ
  pub stored : ℕ
  pub number : ℕ
  pub needed : ℕ

abbrev pub coding : Ops → ℕ → ℕ → ℕ → ℕ → Coding
coding f w v n k = record { ops = f; width = w; stored = v; number = n; needed = k }

-- symbol i of a package: its numbers of `width` bytes in order, and then zeros
abbrev pub symbol : Coding → List ℕ → ℕ → ℕ
symbol C pkg i = le_value (part pkg (i * C.width) C.width)

-- how many columns a package of so many bytes has: its symbols, up to a multiple of k, k to a column
abbrev pub columns : Coding → ℕ → ℕ
columns C bytes = (bytes / C.width + (C.needed - 1)) / C.needed

-- column j holds the symbols from j × k on
abbrev pub column : Coding → List ℕ → ℕ → ℕ → ℕ
column C pkg j i = symbol C pkg (j * C.needed + i)

-- a record's head: its whole length, the field's number and the issue
abbrev pub head_length : ℕ
head_length = 6

unfoldable pub head : ℕ → ℕ → ℕ → List ℕ
head whole number issue = le_bytes 2 whole ++ (le_bytes 2 number ++ le_bytes 2 issue)

abbrev pub issue_in : List ℕ → ℕ
issue_in bytes = le_value (part bytes 4 2)

abbrev pub record_length : Coding → ℕ → ℕ
record_length C bytes = head_length + columns C bytes * C.stored

-- a head, and after it a symbol for each column
unfoldable pub record_with : Coding → ℕ → ℕ → (ℕ → ℕ) → List ℕ
record_with C bytes issue symbols =
    head (record_length C bytes) C.number issue ++ flat_map (λ j. le_bytes C.stored (symbols j)) (range_with_len 0 (columns C bytes))

-- what record i of those that stand end to end holds for column j
abbrev pub given_symbol : Coding → ℕ → List ℕ → ℕ → ℕ → ℕ
given_symbol C bytes records i j = stored_at C.stored records (i * record_length C bytes + head_length + j * C.stored)

-- The record of cabinet c: its symbol in a column is the value at code c of the polynomial of degree below k whose value at
-- code i is the column's symbol i.
pub record IsRecord (C : Coding) (pkg : List ℕ) (c issue : ℕ) (bytes : List ℕ) : Type 0 where
  pub symbols : ℕ → ℕ
  pub values : (j : ℕ) → j < columns C (length pkg) → ValueAt C.ops C.needed (λ i. i) (column C pkg j) c (symbols j)
  pub laid : bytes ≡ record_with C (length pkg) issue symbols
