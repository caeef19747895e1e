-- What the code computes: Lagrange's formula. Nobody has to believe it, since the contracts that cite it also say, in a
-- polynomial's words, what it gives. Assumes nothing.
use Rattle.std.specs.Prelude.{ℕ, zero, suc, cond, ◌==◌}
use Rattle.algebra.specs.Fields.{Ops}
use Rattle.algebra.specs.Polynomials.{weighed}

-- g 0 * .. * g (n - 1)
abbrev pub prod_to : Ops → ℕ → (ℕ → ℕ) → ℕ
prod_to f zero g = 1
prod_to f (suc n) g = f.mul (prod_to f n g) (g n)

-- the factor of the point q in the weight of the point p, at x
abbrev pub factor : Ops → ℕ → ℕ → ℕ → ℕ
factor f p q x = cond (p == q) 1 (f.mul (f.sub x q) (f.inv (f.sub p q)))

-- the weight at x of the value at the point p, among k points
unfoldable pub weight : Ops → ℕ → (ℕ → ℕ) → ℕ → ℕ → ℕ
weight f k ps p x = prod_to f k (λ i. factor f p (ps i) x)

-- the value at x by Lagrange's formula, from the values vs at the points ps
abbrev pub lagrange : Ops → ℕ → (ℕ → ℕ) → (ℕ → ℕ) → ℕ → ℕ
lagrange f k ps vs x = weighed f k vs (λ j. weight f k ps (ps j) x)
