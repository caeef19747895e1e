-- A record's bytes: what is read of a record, and that the bytes are what is read of them. Assumes nothing.
use Rattle.std.proofs.Common.{◌≡◌, ℕ, ◌+◌, ◌*◌, ◌^◌, ◌<◌, ◌≤◌, List, [], ◌++◌, length, take, drop, sym, ap, ◌∙◌, arith}
use Rattle.std.specs.List.{range_with_len, flat_map}
use Rattle.std.proofs.lemmas.List.{append-nil, drop_at, drop-drop, length-drop, take-append-drop}
use Rattle.base.specs.Bytes.{Bytes, le_bytes, le_value, part}
use Rattle.base.proofs.Little.{le_value-le_bytes, le_bytes-le_value}
use Rattle.base.proofs.Parts.{take-add, Bytes-drop, Bytes-part, length_part}
use Rattle.base.proofs.Pieces.{pieces_same, relaid, stored-place}
use Rattle.erasure.specs.Records.{Coding, columns, head, record_length, record_with}
use Rattle.erasure.proofs.Weighing.{head_six}

module _ (C : Coding) (bytes : ℕ) where
  abbrev body : (ℕ → ℕ) → List ℕ
  body symbols = flat_map (λ j. le_bytes C.stored (symbols j)) (range_with_len 0 (columns C bytes))

  -- a symbol, and the numbers in the head, can be read again
  pub record_symbol : (issue : ℕ) (symbols : ℕ → ℕ) (j : ℕ) → j < columns C bytes → symbols j < 256 ^ C.stored →
      le_value (part (record_with C bytes issue symbols) (6 + j * C.stored) C.stored) ≡ symbols j
  unfolding record_with
  record_symbol issue symbols j hj fits =
      let v = C.stored in
      let front = head (record_length C bytes) C.number issue in
      let after : drop (6 + j * v) (front ++ body symbols) ≡ drop (j * v) (body symbols ++ []) =
      sym (drop-drop (j * v) 6 (front ++ body symbols)) ∙ ap (drop (j * v)) (drop_at front (body symbols) 6 (head_six (record_length C bytes) C.number issue) ∙ sym (append-nil (body symbols))) in
      ap (λ xs. le_value (take v xs)) after ∙ ap le_value (stored-place symbols v (columns C bytes) j [] hj) ∙ le_value-le_bytes v (symbols j) fits

  pub record_whole : (issue : ℕ) (symbols : ℕ → ℕ) → record_length C bytes < 65536 → le_value (part (record_with C bytes issue symbols) 0 2) ≡ record_length C bytes
  unfolding record_with head
  record_whole issue symbols h = le_value-le_bytes 2 (record_length C bytes) h

  pub record_number : (issue : ℕ) (symbols : ℕ → ℕ) → C.number < 65536 → le_value (part (record_with C bytes issue symbols) 2 2) ≡ C.number
  unfolding record_with head
  record_number issue symbols h = le_value-le_bytes 2 C.number h

  pub record_issue : (issue : ℕ) (symbols : ℕ → ℕ) → issue < 65536 → le_value (part (record_with C bytes issue symbols) 4 2) ≡ issue
  unfolding record_with head
  record_issue issue symbols h = le_value-le_bytes 2 issue h

  -- bytes that have a record's head are that record
  pub record_relaid : (bs : List ℕ) (issue : ℕ) → Bytes bs → length bs ≡ record_length C bytes → le_value (part bs 0 2) ≡ record_length C bytes →
      le_value (part bs 2 2) ≡ C.number → le_value (part bs 4 2) ≡ issue → bs ≡ record_with C bytes issue (λ j. le_value (part bs (6 + j * C.stored) C.stored))
  unfolding record_with head
  record_relaid bs issue real long whole number is =
      let v = C.stored in
      let pair : (at x : ℕ) → at + 2 ≤ length bs → le_value (part bs at 2) ≡ x → part bs at 2 ≡ le_bytes 2 x =
      λ at x h e. sym (ap (λ n. le_bytes n (le_value (part bs at 2))) (sym (length_part bs at 2 h)) ∙ le_bytes-le_value (part bs at 2) (Bytes-part bs at 2 real)) ∙ ap (le_bytes 2) e in
      let front : take 6 bs ≡ le_bytes 2 (record_length C bytes) ++ (le_bytes 2 C.number ++ le_bytes 2 issue) =
      take-add 2 4 bs ∙ ap (λ xs. take 2 bs ++ xs) (take-add 2 2 (drop 2 bs) ∙ ap (λ xs. take 2 (drop 2 bs) ++ take 2 xs) (drop-drop 2 2 bs))
      ∙ ap (λ xs. xs ++ (part bs 2 2 ++ part bs 4 2)) (pair 0 (record_length C bytes) (omega arith) whole)
      ∙ ap (λ xs. le_bytes 2 (record_length C bytes) ++ (xs ++ part bs 4 2)) (pair 2 C.number (omega arith) number)
      ∙ ap (λ xs. le_bytes 2 (record_length C bytes) ++ (le_bytes 2 C.number ++ xs)) (pair 4 issue (omega arith) is) in
      let rest : drop 6 bs ≡ body (λ j. le_value (part bs (6 + j * v) v)) =
      sym (relaid (drop 6 bs) v (columns C bytes) (Bytes-drop 6 bs real) (omega (arith, length-drop 6 bs)))
      ∙ pieces_same _ _ (columns C bytes) (λ j hj. ap (λ xs. le_bytes v (le_value (take v xs))) (drop-drop (j * v) 6 bs)) in
      sym (take-append-drop 6 bs) ∙ ap (λ xs. xs ++ drop 6 bs) front ∙ ap (λ xs. (le_bytes 2 (record_length C bytes) ++ (le_bytes 2 C.number ++ le_bytes 2 issue)) ++ xs) rest
