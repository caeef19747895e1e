-- A package that is laid out symbol by symbol, column after column. Assumes nothing.
use Rattle.std.proofs.Common.{◌≡◌, ℕ, ◌+◌, ◌-◌, ◌*◌, ◌/◌, ◌%◌, ◌<◌, ◌≤◌, min, cond, leb, ltb, List, ◌++◌, length, drop, sym, refl, ap, ◌∙◌, subst, ⊎_elim, mod-lt, mul-le-mul_right, add-mul, one-mul, div-add-mod', div-mul-le_self, arith}
use Rattle.std.proofs.lemmas.Bool.{cases_lt, lt-leb, lt-ltb, le-ltb}
use Rattle.std.proofs.lemmas.Nat.{le-div}
use Rattle.std.proofs.lemmas.Grind.{div_ceil_times}
use Rattle.base.specs.Bytes.{le_bytes, over, written}
use Rattle.base.proofs.Pieces.{stored_none, stored_next, stored-end}
use Rattle.algebra.specs.Slices.{stored_at}
use Rattle.erasure.specs.Records.{Coding, columns}
use Rattle.recovery.specs.Gathered.{gathered}

module _ (C : Coding) (size : ℕ) (slices was : List ℕ) where
  abbrev room : ℕ
  room = length was / C.width

  abbrev symbol_of : ℕ → ℕ
  symbol_of t = stored_at C.stored slices (t % C.needed * size + t / C.needed * C.stored)

  -- the symbols before t stand in `now`, as far as there is room
  abbrev pub Laid : List ℕ → ℕ → Type 0
  Laid now t = now ≡ gathered C size slices (min t room) ++ drop (min t room * C.width) was

  pub laid_none : Laid was 0
  laid_none = let e : 0 ≡ min 0 room = omega arith in subst (λ n. was ≡ gathered C size slices n ++ drop (n * C.width) was) e (stored_none symbol_of C.width was)

  -- one more, or none where there is no room
  pub laid_next : (now last : List ℕ) (t width read : ℕ) → width ≡ C.width → 0 < C.width → length now ≡ length was → read ≡ symbol_of t → Laid now t →
      last ≡ cond (leb (t * width + width) (length now)) (written now (t * width) (le_bytes width read)) now → Laid last (t + 1)
  laid_next now last t width read ew pos long er e el = ⊎_elim
      (λ l.
      let here : min t room ≡ t = omega arith in
      let next : t + 1 ≡ min (t + 1) room = omega arith in
      subst (λ n. last ≡ gathered C size slices n ++ drop (n * C.width) was) next
      (stored_next symbol_of C.width width ew was now last t read (subst (λ n. now ≡ gathered C size slices n ++ drop (n * C.width) was) here e) long (subst (λ w. t < length was / w) (sym ew) l) er el))
      (λ l.
      let past : length now < t * width + width = subst (λ w. length now < t * w + w) (sym ew)
      (omega (arith, long, mul-le-mul_right C.width l, div-add-mod' (length was) C.width, mod-lt (length was) pos)) in
      let same : min t room ≡ min (t + 1) room = omega arith in
      subst (λ n. last ≡ gathered C size slices n ++ drop (n * C.width) was) same
      (el ∙ ap (λ b. cond b (written now (t * width) (le_bytes width read)) now) (lt-leb (t * width + width) (length now) past) ∙ e))
      (cases_lt t room)

  pub laid_all : (now : List ℕ) (t : ℕ) → room ≤ t → Laid now t → now ≡ over (gathered C size slices room) was
  laid_all now t h e =
      let all : min t room ≡ room = omega arith in
      stored-end symbol_of C.width C.width refl was now room refl (subst (λ n. now ≡ gathered C size slices n ++ drop (n * C.width) was) all e)

-- the columns of a package have a place for each of its symbols
pub columns_enough : (C : Coding) → 1 ≤ C.needed → 0 < C.width → (bytes n : ℕ) → n ≤ bytes → n / C.width ≤ columns C bytes * C.needed
columns_enough C low pos bytes n h =
    let s = bytes / C.width in
    let less : n / C.width ≤ s = le-div (n / C.width) bytes C.width pos (omega (arith, div-mul-le_self n C.width)) in
    omega (arith, div-add-mod' (s + (C.needed - 1)) C.needed, mod-lt (s + (C.needed - 1)) low)

-- which symbols of slice i are the package's
pub in_slice : (s k j i : ℕ) → 1 ≤ k → ltb j ((s - i) / k + min 1 ((s - i) % k)) ≡ ltb (j * k + i) s
in_slice s k j i low =
    let q = (s - i) / k + min 1 ((s - i) % k) in
    let t = div_ceil_times (s - i) k low in
    ⊎_elim
    (λ l. let here : j < q = ⊎_elim (λ h. h) (λ h. absurd (omega (arith, t.0, mul-le-mul_right k h))) (cases_lt j q) in lt-ltb j q here ∙ sym (lt-ltb (j * k + i) s l))
    (λ l. let past : q ≤ j = ⊎_elim (λ h. absurd (omega (arith, t.1, mul-le-mul_right k h, add-mul j 1 k, one-mul k))) (λ h. h) (cases_lt j q) in le-ltb j q past ∙ sym (le-ltb (j * k + i) s l))
    (cases_lt (j * k + i) s)
