-- GF(65537) is a field, which the interface asks to be shown: proofs, nobody has to believe them. Assumes nothing.
use Rattle.std.specs.Prelude.{◌≡◌, ℕ, zero, suc, ◌+◌, ◌-◌, ◌*◌, ◌%◌, ◌<◌}
use Rattle.std.proofs.Common.{sym, ap, ◌∙◌, mod-lt, mod-eq_of_lt, mul-add, mul_assoc, mul_comm, add_comm, add_assoc, mul-one, zero-mul, arith, lit<, lit≤}
use Rattle.std.proofs.Math.Nat.{mod-add-mod, add-mod-mod, add-mod_right}
use Rattle.algebra.specs.Fields.{Laws, Widths, inverse}
use Rattle.algebra.proofs.Inverses.{inverse_found, inverse_none, inverse_is}
use Rattle.algebra.proofs.Reading.{OnCodes, lawful}
use Rattle.gf65537.specs.Gf65537.{times, modulo_65537, gf65537}
use Rattle.gf65537.specs.Prime.{p, p-pos, mod-mul_left, mod-mul_right, exists}

undo : (a c : ℕ) → a < p → c < p → (a + (p - c) + c) % p ≡ a
undo a c h k = let e : a + (p - c) + c ≡ a + p = omega arith in ap (λ n. n % p) e ∙ add-mod_right a p ∙ mod-eq_of_lt h

redo : (a c : ℕ) → a < p → c < p → (a + c + (p - c)) % p ≡ a
redo a c h k = let e : a + c + (p - c) ≡ a + p = omega arith in ap (λ n. n % p) e ∙ add-mod_right a p ∙ mod-eq_of_lt h

product-comm : (a b : ℕ) → times a b ≡ times b a
product-comm a b = ap (λ n. n % p) (mul_comm a b)

product-assoc : (a b c : ℕ) → times (times a b) c ≡ times a (times b c)
product-assoc a b c = mod-mul_left (a * b) c ∙ ap (λ n. n % p) (mul_assoc a b c) ∙ sym (mod-mul_right a (b * c))

product_one : (a : ℕ) → a < p → times a 1 ≡ a
product_one a h = ap (λ n. n % p) (mul-one a) ∙ mod-eq_of_lt h

found : (a : ℕ) → a < p → 0 < a → (times a (inverse p times a) ≡ 1) × (inverse p times a < p)
found a h pos = let b = exists a pos h in inverse_found p times a b.0 b.1 b.2

pub inverse-zero : inverse p times 0 ≡ 0
inverse-zero = inverse_none p times 0 (λ b h e. let z : ◌≡◌ {A = ℕ} 0 1 = sym (ap (λ n. n % p) (zero-mul b)) ∙ e in omega arith)

-- an inverse is the inverse
pub only_inverse : (a b : ℕ) → b < p → times a b ≡ 1 → inverse p times a ≡ b
only_inverse a b h e = inverse_is p times a b h e (λ c hc ec.
    sym (product_one c hc) ∙ ap (times c) (sym e) ∙ sym (product-assoc c a b) ∙ ap (λ n. times n b) (product-comm c a ∙ ec)
    ∙ product-comm 1 b ∙ product_one b h)

inv-lt : (a : ℕ) → a < p → inverse p times a < p
inv-lt zero h = rw inverse-zero (lit< tt)
inv-lt (suc a) h = (found (suc a) h (omega arith)).1

on : OnCodes modulo_65537
on = record {
  one_code = lit< tt;
  add_code = λ a b ha hb. mod-lt (a + b) p-pos;
  sub_code = λ a b ha hb. mod-lt (a + (p - b)) p-pos;
  mul_code = λ a b ha hb. mod-lt (a * b) p-pos;
  inv_code = inv-lt;
  add_comm = λ a b ha hb. ap (λ n. n % p) (add_comm a b);
  add_assoc = λ a b c ha hb hc. mod-add-mod (a + b) p c ∙ ap (λ n. n % p) (add_assoc a b c) ∙ sym (add-mod-mod a (b + c) p);
  mul_comm = λ a b ha hb. product-comm a b;
  mul_assoc = λ a b c ha hb hc. product-assoc a b c;
  mul-add = λ a b c ha hb hc. mod-mul_right a (b + c) ∙ ap (λ n. n % p) (mul-add a b c) ∙ sym (mod-add-mod (a * b) p (a * c % p) ∙ add-mod-mod (a * b) (a * c) p);
  add-zero = λ a h. let e : a + 0 ≡ a = omega arith in ap (λ n. n % p) e ∙ mod-eq_of_lt h;
  mul-one = product_one;
  sub_add = λ a b ha hb. mod-add-mod (a + (p - b)) p b ∙ undo a b ha hb;
  add_sub = λ a b ha hb. mod-add-mod (a + b) p (p - b) ∙ redo a b ha hb;
  mul_inv = λ a h pos. (found a h pos).0;
  inv_zero = inverse-zero;
}

pub gf65537_laws : Laws gf65537
gf65537_laws = lawful modulo_65537 on

pub gf65537_widths : Widths gf65537 2 3 2
gf65537_widths = record { least = lit≤ tt; most = lit≤ tt; ratio = lit≤ tt; fills = lit≤ tt; holds = lit≤ tt; small = lit< tt }
