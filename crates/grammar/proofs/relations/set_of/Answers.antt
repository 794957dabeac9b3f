use Rattle.std.proofs.Common.{◌≡◌, ℕ, zero, suc, List, [], ◌∷◌, map, length, slice_index_or, ap, ◌∙◌, rules}
use Rattle.grammar.specs.Flagging.{spread}
use Rattle.grammar.specs.Sets.{Flags, has, none, symbol_count, codes}
use Rattle.grammar.proofs.relations.set_of.Goals as goal

-- a row of a table, or no symbol past its end, says the same of each code
row_spread : (t : List Flags) (x : ℕ) (s : Flags) → s ≡ slice_index_or t x none → length s ≡ symbol_count → s ≡ map (has (slice_index_or t x [])) codes
row_spread [] x s e l = e
row_spread (r ∷ t) zero s e l = spread s l ∙ ap (λ u. map (has u) codes) e
row_spread (r ∷ t) (suc x) s e l = row_spread t x s e l

pub returns : goal.returns
returns c = row_spread c.args.table.now c.args.symbol c.unwrap_or.result (search rules) (search rules)
