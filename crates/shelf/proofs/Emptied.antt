-- A cabinet whose slots are emptied one after the other. Assumes nothing.
use Rattle.std.proofs.Common.{◌≡◌, ℕ, ◌+◌, ◌≤◌, true, cond, ◌&&◌, eqb, ltb, List, refl, set, arith}
use Rattle.std.proofs.lemmas.Bool.Decides.{nat_tests}
use Rattle.std.proofs.lemmas.Grind.{common_steps}
use Rattle.rows.specs.Model.{RowModel, Empty, with_slot, with_reach, with_new}
use Rattle.rows.proofs.Laws.{same_model}
use Rattle.shelf.specs.Layout.{place, with_empty}

-- the row with the first n slots of a cabinet empty
unfoldable pub emptied : RowModel → ℕ → ℕ → RowModel
emptied m c n = record { count = m.count; room = m.room; reach = m.reach; slot = λ d g. cond (eqb d c && ltb g n) Empty (m.slot d g) }

pub emptied_none : (m : RowModel) (c : ℕ) → m ≡ emptied m c 0
unfolding emptied
emptied_none m c = same_model _ _ refl refl (λ d. refl) (λ d g. grind (arith, nat_tests))

pub emptied_more : (m k : RowModel) (c n : ℕ) → k ≡ emptied m c n → with_slot k c n Empty ≡ emptied m c (n + 1)
unfolding emptied
emptied_more m k c n e = rw e (same_model _ _ refl refl (λ d. refl) (λ d g. grind (arith, nat_tests)))

pub emptied_all : (m k l : RowModel) (c n : ℕ) → ((g : ℕ) → 8 ≤ g → m.slot c g ≡ Empty) → k ≡ with_reach m c true → n ≡ 8 → l ≡ emptied k c n → l ≡ with_new m c
unfolding emptied
emptied_all m k l c n past near all e = rw (e, near, all) (same_model _ _ refl refl (λ d. refl) (λ d g. grind (arith, nat_tests, past g)))

pub with_empty_more : (xs ys : List ℕ) (r q c n : ℕ) → q ≡ r → ys ≡ with_empty xs r c n → set ys (place r c n) 0 ≡ with_empty xs q c (n + 1)
unfolding with_empty
with_empty_more xs ys r q c n same e = grind (arith, common_steps)
