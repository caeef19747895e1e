-- What the laws of a field give. Assumes nothing.
use Rattle.std.proofs.Common.{◌≡◌, ℕ, ◌<◌, sym, ap, ◌∙◌, arith}
use Rattle.algebra.specs.Fields.{Ops, Laws}

module _ (f : Ops) (L : Laws f) where
  pub zero-code : 0 < f.size
  zero-code = omega (arith, L.one_code)

  pub zero-add : (a : ℕ) → a < f.size → f.add 0 a ≡ a
  zero-add a h = L.add_comm 0 a ∙ L.add-zero a h

  pub add_left_comm : (a b c : ℕ) → f.add a (f.add b c) ≡ f.add b (f.add a c)
  add_left_comm a b c = sym (L.add_assoc a b c) ∙ ap (λ n. f.add n c) (L.add_comm a b) ∙ L.add_assoc b a c

  pub mul_left_comm : (a b c : ℕ) → f.mul a (f.mul b c) ≡ f.mul b (f.mul a c)
  mul_left_comm a b c = sym (L.mul_assoc a b c) ∙ ap (λ n. f.mul n c) (L.mul_comm a b) ∙ L.mul_assoc b a c

  pub add-mul : (a b c : ℕ) → f.mul (f.add a b) c ≡ f.add (f.mul a c) (f.mul b c)
  add-mul a b c = L.mul_comm (f.add a b) c ∙ L.mul-add c a b ∙ simp L.mul_comm

  pub sub_self : (a : ℕ) → a < f.size → f.sub a a ≡ 0
  sub_self a h = ap (λ n. f.sub n a) (sym (zero-add a h)) ∙ L.add_sub 0 a zero-code

  pub double-zero : (m : ℕ) → m < f.size → f.add m m ≡ m → m ≡ 0
  double-zero m h e = sym (L.add_sub m m h) ∙ ap (λ n. f.sub n m) e ∙ sub_self m h

  pub mul-zero : (a : ℕ) → f.mul a 0 ≡ 0
  mul-zero a = double-zero (f.mul a 0) (L.mul_code a 0) (sym (L.mul-add a 0 0) ∙ ap (f.mul a) (L.add-zero 0 zero-code))

  pub zero-mul : (a : ℕ) → f.mul 0 a ≡ 0
  zero-mul a = L.mul_comm 0 a ∙ mul-zero a

  pub one-mul : (a : ℕ) → a < f.size → f.mul 1 a ≡ a
  one-mul a h = L.mul_comm 1 a ∙ L.mul-one a h

  pub add_cancel : (a b c : ℕ) → a < f.size → b < f.size → f.add a c ≡ f.add b c → a ≡ b
  add_cancel a b c ha hb e = sym (L.add_sub a c ha) ∙ ap (λ n. f.sub n c) e ∙ L.add_sub b c hb

  -- the opposite
  abbrev pub neg : ℕ → ℕ
  neg a = f.sub 0 a

  pub neg-add : (a : ℕ) → f.add (neg a) a ≡ 0
  neg-add a = L.sub_add 0 a zero-code

  pub sub_is : (a b : ℕ) → a < f.size → f.sub a b ≡ f.add a (neg b)
  sub_is a b h = add_cancel (f.sub a b) (f.add a (neg b)) b (L.sub_code a b) (L.add_code a (neg b))
      (L.sub_add a b h ∙ sym (L.add_assoc a (neg b) b ∙ ap (f.add a) (neg-add b) ∙ L.add-zero a h))

  pub sub_nonzero : (a b : ℕ) → a < f.size → b < f.size → f.sub a b ≡ 0 → a ≡ b
  sub_nonzero a b ha hb e = sym (L.sub_add a b ha) ∙ ap (λ n. f.add n b) e ∙ zero-add b hb

  pub no_zero_divisor : (a b : ℕ) → a < f.size → b < f.size → 0 < a → f.mul a b ≡ 0 → b ≡ 0
  no_zero_divisor a b ha hb pos e =
      sym (L.mul-one b hb) ∙ ap (f.mul b) (sym (L.mul_inv a ha pos)) ∙ sym (L.mul_assoc b a (f.inv a))
      ∙ ap (λ n. f.mul n (f.inv a)) (L.mul_comm b a ∙ e) ∙ zero-mul (f.inv a)
