-- A list from its end on.
use Rattle.std.specs.Prelude.{ℕ, List, reverse, take}

-- the first n of a list, the last of them in front
abbrev pub down_from : {X : Type 0} → ℕ → List X → List X
down_from n xs = reverse (take n xs)
