-- Polynomials over a field, by their coefficients from the constant one on. Assumes nothing.
use Rattle.std.specs.Prelude.{◌≡◌, ℕ, zero, suc, ◌<◌, List, [], ◌∷◌, length, slice_index}
use Rattle.algebra.specs.Fields.{Ops}

-- the value at x
abbrev pub eval : Ops → List ℕ → ℕ → ℕ
eval f [] x = 0
eval f (a ∷ cs) x = f.add a (f.mul x (eval f cs x))

-- the element of a list at a place, 0 past its end
abbrev pub at : List ℕ → ℕ → ℕ
at xs i = slice_index xs i

-- the first k points are codes, and differ
pub record Points (f : Ops) (k : ℕ) (ps : ℕ → ℕ) : Type 0 where
  pub code : (i : ℕ) → i < k → ps i < f.size
  pub apart : (i j : ℕ) → i < k → j < k → ps i ≡ ps j → i ≡ j

-- cs is a polynomial of degree below k that has the first k values at the first k points
pub record Through (f : Ops) (k : ℕ) (ps vs : ℕ → ℕ) (cs : List ℕ) : Type 0 where
  pub degree : length cs ≡ k
  pub codes : (i : ℕ) → at cs i < f.size
  pub passes : (i : ℕ) → i < k → eval f cs (ps i) ≡ vs i

-- k values at k differing codes are those of one polynomial of degree below k, and of one only
abbrev pub OnePolynomial : Ops → Type 0
OnePolynomial f = (k : ℕ) (ps vs : ℕ → ℕ) → Points f k ps → ((i : ℕ) → i < k → vs i < f.size) →
    (cs : List ℕ) × Through f k ps vs cs × ((ds : List ℕ) → Through f k ps vs ds → ds ≡ cs)

-- y is the value at x of the polynomial of degree below k through these points
pub record ValueAt (f : Ops) (k : ℕ) (ps vs : ℕ → ℕ) (x y : ℕ) : Type 0 where
  pub polynomial : List ℕ
  pub through : Through f k ps vs polynomial
  pub value : eval f polynomial x ≡ y

-- g 0 + .. + g (n - 1)
abbrev pub sum_to : Ops → ℕ → (ℕ → ℕ) → ℕ
sum_to f zero g = 0
sum_to f (suc n) g = f.add (sum_to f n g) (g n)

-- k values, each times its weight, added up
abbrev pub weighed : Ops → ℕ → (ℕ → ℕ) → (ℕ → ℕ) → ℕ
weighed f k vs ws = sum_to f k (λ j. f.mul (vs j) (ws j))

-- the weights ws give, from any values at k differing codes, the value at x of the polynomial through them
abbrev pub Interpolates : Ops → ℕ → (ℕ → ℕ) → ℕ → (ℕ → ℕ) → Type 0
Interpolates f k ps x ws = Points f k ps → x < f.size → (vs : ℕ → ℕ) → ((i : ℕ) → i < k → vs i < f.size) → ValueAt f k ps vs x (weighed f k vs ws)
