-- A field over codes, the whole numbers below a size: its operations and their laws. Assumes nothing.
use Rattle.std.specs.Prelude.{◌≡◌, ℕ, zero, suc, ◌*◌, ◌^◌, ◌<◌, ◌≤◌, Bool, cond, nat_eq, nat_lt}

pub record Ops : Type 0 where
  pub size : ℕ
  pub add : ℕ → ℕ → ℕ
  pub sub : ℕ → ℕ → ℕ
  pub mul : ℕ → ℕ → ℕ
  pub inv : ℕ → ℕ

-- a number that is no code is read as 0
abbrev pub code : ℕ → ℕ → ℕ
code size a = cond (nat_lt a size) a 0

pub record Laws (f : Ops) : Type 0 where
  pub one_code : 1 < f.size
  pub add_code : (a b : ℕ) → f.add a b < f.size
  pub sub_code : (a b : ℕ) → f.sub a b < f.size
  pub mul_code : (a b : ℕ) → f.mul a b < f.size
  pub inv_code : (a : ℕ) → f.inv a < f.size
  pub add_reads : (a b : ℕ) → f.add a b ≡ f.add (code f.size a) (code f.size b)
  pub sub_reads : (a b : ℕ) → f.sub a b ≡ f.sub (code f.size a) (code f.size b)
  pub mul_reads : (a b : ℕ) → f.mul a b ≡ f.mul (code f.size a) (code f.size b)
  pub inv_reads : (a : ℕ) → f.inv a ≡ f.inv (code f.size a)
  pub add_comm : (a b : ℕ) → f.add a b ≡ f.add b a
  pub add_assoc : (a b c : ℕ) → f.add (f.add a b) c ≡ f.add a (f.add b c)
  pub mul_comm : (a b : ℕ) → f.mul a b ≡ f.mul b a
  pub mul_assoc : (a b c : ℕ) → f.mul (f.mul a b) c ≡ f.mul a (f.mul b c)
  pub mul-add : (a b c : ℕ) → f.mul a (f.add b c) ≡ f.add (f.mul a b) (f.mul a c)
  pub add-zero : (a : ℕ) → a < f.size → f.add a 0 ≡ a
  pub mul-one : (a : ℕ) → a < f.size → f.mul a 1 ≡ a
  pub sub_add : (a b : ℕ) → a < f.size → f.add (f.sub a b) b ≡ a
  pub add_sub : (a b : ℕ) → a < f.size → f.sub (f.add a b) b ≡ a
  pub mul_inv : (a : ℕ) → a < f.size → 0 < a → f.mul a (f.inv a) ≡ 1
  pub inv_zero : f.inv 0 ≡ 0

-- w data bytes make one symbol, which is a code; v bytes store one code; the field's number fits two bytes
pub record Widths (f : Ops) (w v number : ℕ) : Type 0 where
  pub least : 1 ≤ w
  pub most : w ≤ 2
  pub ratio : 2 * v ≤ 3 * w
  pub fills : 256 ^ w ≤ f.size
  pub holds : f.size ≤ 256 ^ v
  pub small : number < 65536

-- operations on codes, made to read any number
abbrev pub reading : Ops → Ops
reading f = record {
  size = f.size;
  add = λ a b. f.add (code f.size a) (code f.size b);
  sub = λ a b. f.sub (code f.size a) (code f.size b);
  mul = λ a b. f.mul (code f.size a) (code f.size b);
  inv = λ a. f.inv (code f.size a);
}

-- the first of the numbers from `at` on, of `left` of them, that passes a test, or 0
unfoldable pub first_from : ℕ → ℕ → (ℕ → Bool) → ℕ
first_from at zero test = 0
first_from at (suc left) test = cond (test at) at (first_from (suc at) left test)

-- the inverse of a under a product on codes below a size: the first b with a × b = 1, or 0 where there is none
unfoldable pub inverse : ℕ → (ℕ → ℕ → ℕ) → ℕ → ℕ
inverse size mul a = first_from 0 size (λ b. nat_eq (mul a b) 1)
