-- Looking an action up: past the states or the symbols there is none.
use Rattle.std.proofs.Common.{◌≡◌, ℕ, ◌≤◌, ltb, List, [], length, get_or, sym, refl, ap}
use Rattle.std.proofs.lemmas.List.{get_or_past}
use Rattle.std.proofs.lemmas.Bool.{cond_both, ltb-false}
use Rattle.grammar.specs.Build.{Act, nothing}
use Rattle.grammar.specs.Sets.{symbol_count}
use Rattle.tables.specs.Looked.{act_in}

-- the place of a row that has nothing past the last symbol
pub look_on : (rows : List (List Act)) (s x : ℕ) (row : List Act) → get_or rows s [] ≡ row → (symbol_count ≤ x → get_or row x nothing ≡ nothing) → get_or row x nothing ≡ act_in rows s x
look_on rows s x row e past =
    cond_both (ltb x symbol_count) (get_or (get_or rows s []) x nothing) nothing (λ a. get_or row x nothing ≡ a) (λ _. ap (λ (r : List Act). get_or r x nothing) (sym e)) (λ k. past (ltb-false x symbol_count k))

pub look_past : (rows : List (List Act)) (s x : ℕ) → length rows ≤ s → nothing ≡ act_in rows s x
look_past rows s x h = look_on rows s x [] (get_or_past rows s [] h) (λ _. refl)
