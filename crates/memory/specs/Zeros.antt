-- Memory that is wiped. Assumes nothing.
use Rattle.std.specs.Prelude.{Bool, ◌||◌, List, ℕ, ltb, length, replicate}

-- as many zeros as there were bytes
abbrev pub zeroed : List ℕ → List ℕ
zeroed xs = replicate (length xs) 0

-- one of four buffers of so many bytes is too short for working memory
abbrev pub short : ℕ → ℕ → ℕ → ℕ → Bool
short a b c d = ltb a 6400 || ltb b 6400 || ltb c 6400 || ltb d 6400
