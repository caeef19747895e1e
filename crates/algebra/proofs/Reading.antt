-- The laws on codes alone give the laws of the operations that read other numbers as 0. Assumes nothing.
use Rattle.std.proofs.Common.{◌≡◌, ℕ, ◌<◌, cond, sym, ap, ◌∙◌, arith, le-ltb, lt-ltb}
use Rattle.algebra.specs.Fields.{Ops, Laws, code, reading}

pub record OnCodes (f : Ops) : Type 0 where
  pub one_code : 1 < f.size
  pub add_code : (a b : ℕ) → a < f.size → b < f.size → f.add a b < f.size
  pub sub_code : (a b : ℕ) → a < f.size → b < f.size → f.sub a b < f.size
  pub mul_code : (a b : ℕ) → a < f.size → b < f.size → f.mul a b < f.size
  pub inv_code : (a : ℕ) → a < f.size → f.inv a < f.size
  pub add_comm : (a b : ℕ) → a < f.size → b < f.size → f.add a b ≡ f.add b a
  pub add_assoc : (a b c : ℕ) → a < f.size → b < f.size → c < f.size → f.add (f.add a b) c ≡ f.add a (f.add b c)
  pub mul_comm : (a b : ℕ) → a < f.size → b < f.size → f.mul a b ≡ f.mul b a
  pub mul_assoc : (a b c : ℕ) → a < f.size → b < f.size → c < f.size → f.mul (f.mul a b) c ≡ f.mul a (f.mul b c)
  pub mul-add : (a b c : ℕ) → a < f.size → b < f.size → c < f.size → f.mul a (f.add b c) ≡ f.add (f.mul a b) (f.mul a c)
  pub add-zero : (a : ℕ) → a < f.size → f.add a 0 ≡ a
  pub mul-one : (a : ℕ) → a < f.size → f.mul a 1 ≡ a
  pub sub_add : (a b : ℕ) → a < f.size → b < f.size → f.add (f.sub a b) b ≡ a
  pub add_sub : (a b : ℕ) → a < f.size → b < f.size → f.sub (f.add a b) b ≡ a
  pub mul_inv : (a : ℕ) → a < f.size → 0 < a → f.mul a (f.inv a) ≡ 1
  pub inv_zero : f.inv 0 ≡ 0

code_lt : (s a : ℕ) → 1 < s → code s a < s
code_lt s a h = grind (arith, lt-ltb, le-ltb)

code_of : (s a : ℕ) → a < s → code s a ≡ a
code_of s a h = ap (λ b. cond b a 0) (lt-ltb a s h)

module _ (f : Ops) (O : OnCodes f) where
  abbrev k : ℕ → ℕ
  k = code f.size

  lt : (a : ℕ) → k a < f.size
  lt a = code_lt f.size a O.one_code

  is : (a : ℕ) → a < f.size → k a ≡ a
  is a h = code_of f.size a h

  twice : (a : ℕ) → k (k a) ≡ k a
  twice a = is (k a) (lt a)

  add-k : (a b : ℕ) → k (f.add (k a) (k b)) ≡ f.add (k a) (k b)
  add-k a b = is _ (O.add_code (k a) (k b) (lt a) (lt b))

  mul-k : (a b : ℕ) → k (f.mul (k a) (k b)) ≡ f.mul (k a) (k b)
  mul-k a b = is _ (O.mul_code (k a) (k b) (lt a) (lt b))

  zero-k : k 0 ≡ 0
  zero-k = is 0 (omega (arith, O.one_code))

  one_k : k 1 ≡ 1
  one_k = is 1 O.one_code

  pub lawful : Laws (reading f)
  lawful = record {
    one_code = O.one_code;
    add_code = λ a b. O.add_code (k a) (k b) (lt a) (lt b);
    sub_code = λ a b. O.sub_code (k a) (k b) (lt a) (lt b);
    mul_code = λ a b. O.mul_code (k a) (k b) (lt a) (lt b);
    inv_code = λ a. O.inv_code (k a) (lt a);
    add_reads = λ a b. sym (ap (λ n. f.add n (k (k b))) (twice a) ∙ ap (f.add (k a)) (twice b));
    sub_reads = λ a b. sym (ap (λ n. f.sub n (k (k b))) (twice a) ∙ ap (f.sub (k a)) (twice b));
    mul_reads = λ a b. sym (ap (λ n. f.mul n (k (k b))) (twice a) ∙ ap (f.mul (k a)) (twice b));
    inv_reads = λ a. ap f.inv (sym (twice a));
    add_comm = λ a b. O.add_comm (k a) (k b) (lt a) (lt b);
    add_assoc = λ a b c. ap (λ n. f.add n (k c)) (add-k a b) ∙ O.add_assoc (k a) (k b) (k c) (lt a) (lt b) (lt c) ∙ ap (f.add (k a)) (sym (add-k b c));
    mul_comm = λ a b. O.mul_comm (k a) (k b) (lt a) (lt b);
    mul_assoc = λ a b c. ap (λ n. f.mul n (k c)) (mul-k a b) ∙ O.mul_assoc (k a) (k b) (k c) (lt a) (lt b) (lt c) ∙ ap (f.mul (k a)) (sym (mul-k b c));
    mul-add = λ a b c. ap (f.mul (k a)) (add-k b c) ∙ O.mul-add (k a) (k b) (k c) (lt a) (lt b) (lt c)
        ∙ sym (ap (λ n. f.add n (k (f.mul (k a) (k c)))) (mul-k a b) ∙ ap (f.add (f.mul (k a) (k b))) (mul-k a c));
    add-zero = λ a h. ap (λ n. f.add n (k 0)) (is a h) ∙ ap (f.add a) zero-k ∙ O.add-zero a h;
    mul-one = λ a h. ap (λ n. f.mul n (k 1)) (is a h) ∙ ap (f.mul a) one_k ∙ O.mul-one a h;
    sub_add = λ a b h. ap (λ n. f.add n (k b)) (is _ (O.sub_code (k a) (k b) (lt a) (lt b))) ∙ ap (λ n. f.add (f.sub n (k b)) (k b)) (is a h) ∙ O.sub_add a (k b) h (lt b);
    add_sub = λ a b h. ap (λ n. f.sub n (k b)) (add-k a b) ∙ ap (λ n. f.sub (f.add n (k b)) (k b)) (is a h) ∙ O.add_sub a (k b) h (lt b);
    mul_inv = λ a h p. ap (f.mul (k a)) (is _ (O.inv_code (k a) (lt a))) ∙ ap (λ n. f.mul n (f.inv n)) (is a h) ∙ O.mul_inv a h p;
    inv_zero = ap f.inv zero-k ∙ O.inv_zero;
  }
