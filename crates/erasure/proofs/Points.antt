-- The weights of the symbols at any points, and the record that is made with them. Assumes nothing.
use denote.Param.Members.{Mut, Called}
use Rattle.std.proofs.Common.{◌≡◌, ℕ, zero, suc, ◌+◌, ◌-◌, ◌*◌, ◌/◌, ◌<◌, ◌≤◌, List, ◌++◌, map, length, get_or, take, drop, sym, refl, ap, ◌∙◌, subst, ⊎_elim, eq-or-lt_of_le, zero-add, div-mul-le_self, mul-div_cancel, arith}
use Rattle.std.specs.Array.{IsFromFnResultFrom}
use Rattle.std.specs.List.{range_with_len}
use Rattle.std.proofs.lemmas.List.FromFn.{fill_by_all, get_or-map-range_with_len, length-map-range_with_len, take-map-range_with_len}
use Rattle.std.proofs.lemmas.List.{get_or-map, length-map, take_all, take_at, drop_at, length-append, length-drop, length-take}
use borrow.Rule.Slice.PartMut.{put_mid, post_of}
use Rattle.base.specs.Bytes.{over}
use Rattle.base.proofs.Placed.{same_map}
use Rattle.base.proofs.Pieces.{over_whole}
use Rattle.algebra.specs.Fields.{Ops, Laws}
use Rattle.algebra.specs.Polynomials.{at}
use Rattle.algebra.specs.Lagrange.{weight}
use Rattle.algebra.specs.Slices.{combined}
use Rattle.algebra.proofs.ThroughPoints.{weight_same}
use Rattle.erasure.specs.Records.{Coding, columns, head, record_length}
use Rattle.erasure.specs.Formula.{weights_for, record_from, point_weights, combined_record}
use Rattle.erasure.proofs.Weighing.{laid, head_six, length-combined}

-- what from_fn makes with calls that each give h of their number
pub made_at : {F : Type 0} (g : Mut F (ℕ × Unit {0}) ℕ) (f : F) (h : ℕ → ℕ) → ((i y : ℕ) (q : F) → Called g f (i, tt) y q → (q ≡ f) × (y ≡ h i)) →
    (ys : List ℕ) (n i : ℕ) → IsFromFnResultFrom g f ys i n → (k : ℕ) → i ≤ k → k < i + n → get_or ys k 0 ≡ h k
made_at g f h call ys zero i each k low high = absurd (omega arith)
made_at g f h call ys (suc n) i (q, y, is, called, rest) k low high =
    let this = call i y q called in
    ⊎_elim (λ e. ap (λ m. get_or ys m 0) (sym e) ∙ is.1 0 ∙ this.1 ∙ ap h e)
    (λ l. made_at g f h call ys n (i + 1) (subst (λ q. IsFromFnResultFrom g q ys (i + 1) n) this.0 rest) k (omega arith) (omega arith)) (eq-or-lt_of_le low)

module _ (C : Coding) (x : ℕ) where
  pub weights_of : (ps last rest part : List ℕ) → length ps ≡ C.needed → length part ≡ C.needed →
      last ≡ over (map (λ p. weight C.ops (length ps) (at ps) p x) (take (length part) ps)) part → take C.needed (last ++ rest) ≡ point_weights C (at ps) x
  unfolding point_weights
  weights_of ps last rest part count long e =
      let k = C.needed in
      let g : ℕ → ℕ = λ p. weight C.ops k (at ps) p x in
      let ws = point_weights C (at ps) x in
      let each : map (λ p. weight C.ops (length ps) (at ps) p x) (take (length part) ps) ≡ ws =
      ap (λ n. map (λ p. weight C.ops n (at ps) p x) (take (length part) ps)) count ∙ ap (map g) (take_all (length part) ps (omega (arith, count, long)))
      ∙ fill_by_all (λ i. g (at ps i)) (map g ps) k 0 (length-map ps g ∙ count) (λ i l. get_or-map g ps i 0 0 (omega (arith, count))) in
      let size : length ws ≡ k = length-map-range_with_len (λ i. g (at ps i)) 0 k in
      let whole : last ≡ ws = e ∙ ap (λ xs. over xs part) each ∙ over_whole ws part (omega (arith, size, long)) in
      ap (λ xs. take k (xs ++ rest)) whole ∙ take_at ws rest k size

  -- the weights depend on the first k points alone
  pub same_weights : Laws C.ops → (ps qs : ℕ → ℕ) → ((i : ℕ) → i < C.needed → ps i ≡ qs i) → point_weights C ps x ≡ point_weights C qs x
  unfolding point_weights
  same_weights L ps qs e =
      let k = C.needed in same_map _ _ k (λ i h. weight_same C.ops L k ps qs (ps i) x e ∙ ap (λ p. weight C.ops k qs p x) (e i h))

  -- of sixteen points, the first k
  pub first_points : Laws C.ops → C.needed ≤ 16 → (g : ℕ → ℕ) (k : ℕ) (points : List ℕ) → k ≡ C.needed → points ≡ map g (range_with_len 0 16) →
      point_weights C (at (take k points)) x ≡ point_weights C g x
  first_points L few g k points ek e =
      let front : take k points ≡ map g (range_with_len 0 C.needed) = ap (λ n. take n points) ek ∙ ap (take C.needed) e ∙ take-map-range_with_len g 0 16 C.needed few in
      same_weights L (at (take k points)) g (λ i h. ap (λ xs. at xs i) front ∙ get_or-map-range_with_len g 0 C.needed i i 0 h (zero-add i))

-- what is left of an output after its head
rest_is : (front out : List ℕ) → length front ≡ 6 → 6 ≤ length out → take (length (front ++ post_of 0 6 out) - 6) (drop 6 (front ++ post_of 0 6 out)) ≡ drop 6 out
rest_is front out ef low =
    let whole = front ++ drop 6 out in
    ap (take (length whole - 6)) (drop_at front (drop 6 out) 6 ef)
    ∙ take_all (length whole - 6) (drop 6 out) (omega (arith, length-append front (drop 6 out), ef, length-drop 6 out))

over_size : (xs d : List ℕ) → length xs ≤ length d → length (over xs d) ≡ length d
over_size xs d h = length-append xs (drop (length xs) d) ∙ omega (arith, length-drop (length xs) d)

-- what combine leaves after a head
pub record_written : (f : Ops) (v : ℕ) (ws slices front out body : List ℕ) (stride : ℕ) → length front ≡ 6 → 6 ≤ length out →
    body ≡ over (combined f v ws slices stride (length (take (length (front ++ post_of 0 6 out) - 6) (drop 6 (front ++ post_of 0 6 out))) / v))
    (take (length (front ++ post_of 0 6 out) - 6) (drop 6 (front ++ post_of 0 6 out))) →
    put_mid 6 (length (front ++ post_of 0 6 out) - 6) (front ++ post_of 0 6 out) body ≡ front ++ over (combined f v ws slices stride ((length out - 6) / v)) (drop 6 out)
record_written f v ws slices front out body stride ef low e =
    let n = (length out - 6) / v in
    let whole : body ≡ over (combined f v ws slices stride n) (drop 6 out) =
    e ∙ ap (λ xs. over (combined f v ws slices stride (length xs / v)) xs) (rest_is front out ef low)
    ∙ ap (λ m. over (combined f v ws slices stride (m / v)) (drop 6 out)) (length-drop 6 out) in
    let size : length body ≡ length out - 6 =
    ap length whole ∙ over_size (combined f v ws slices stride n) (drop 6 out) (omega (arith, length-combined f v ws slices stride n, div-mul-le_self (length out - 6) v, length-drop 6 out))
    ∙ length-drop 6 out in
    laid front out body (length out - 6) ef (omega arith) size ∙ ap (λ xs. front ++ xs) whole

-- a record in the front of an output that has room for it, by the code's own name of its length
pub combined_laid : (C : Coding) (bytes c issue : ℕ) (points : ℕ → ℕ) (slices out last : List ℕ) (whole stride : ℕ) → whole ≡ record_length C bytes → 0 < C.stored → whole ≤ length out →
    last ≡ head (length (take whole out)) C.number issue
    ++ over (combined C.ops C.stored (point_weights C points c) slices stride ((length (take whole out) - 6) / C.stored)) (drop 6 (take whole out)) →
    last ++ post_of 0 whole out ≡ over (combined_record C bytes points slices stride c issue) out
unfolding combined_record
combined_laid C bytes c issue points slices out last whole stride ew pos room e =
    let v = C.stored in
    let own = take whole out in
    let cols = columns C bytes in
    let body = combined C.ops v (point_weights C points c) slices stride in
    let front = head (record_length C bytes) C.number issue in
    let wide : (n : ℕ) → length (body n) ≡ n * v = length-combined C.ops v (point_weights C points c) slices stride in
    let long : length own ≡ record_length C bytes = length-take whole out ∙ omega arith in
    let count : (length own - 6) / v ≡ cols = ap (λ n. (n - 6) / v) long ∙ ap (λ n. n / v) (omega arith) ∙ mul-div_cancel cols pos in
    let is : last ≡ front ++ body cols =
    e ∙ ap (λ n. head n C.number issue ++ over (body ((length own - 6) / v)) (drop 6 own)) long
    ∙ ap (λ n. front ++ over (body n) (drop 6 own)) count
    ∙ ap (λ xs. front ++ xs) (over_whole (body cols) (drop 6 own) (omega (arith, wide cols, length-drop 6 own, long))) in
    let size : length last ≡ whole =
    ap length is ∙ length-append front (body cols) ∙ ap (λ n. n + length (body cols)) (head_six (record_length C bytes) C.number issue)
    ∙ ap (λ n. 6 + n) (wide cols) ∙ sym ew in
    ap (λ n. last ++ drop n out) (sym size) ∙ ap (λ xs. over xs out) is

-- the record from a package's own slices is the one from the slices of the symbols at 0 to k - 1
pub own_slices : (C : Coding) (bytes : ℕ) (slices : List ℕ) (c issue : ℕ) →
    record_from C bytes slices c issue ≡ combined_record C bytes (λ i. i) slices (columns C bytes * C.stored) c issue
unfolding record_from combined_record weights_for point_weights
own_slices C bytes slices c issue = refl

-- and so is the one that is cut from them
pub own_cut : (C : Coding) → Laws C.ops → C.needed ≤ 16 → (bytes : ℕ) (slices : List ℕ) (c issue stride : ℕ) (points : ℕ → ℕ) → stride ≡ columns C bytes * C.stored →
    ((i : ℕ) → i < C.needed → points i ≡ i) → combined_record C bytes points slices stride c issue ≡ record_from C bytes slices c issue
unfolding combined_record
own_cut C L few bytes slices c issue stride points es own =
    let made : List ℕ → ℕ → List ℕ = λ ws s. head (record_length C bytes) C.number issue ++ combined C.ops C.stored ws slices s (columns C bytes) in
    ap (λ ws. made ws stride) (same_weights C c L points (λ i. i) own) ∙ ap (made (point_weights C (λ i. i) c)) es ∙ sym (own_slices C bytes slices c issue)
