-- The complete rules of an item set are those in it with nothing behind their dots.
use Rattle.std.proofs.Common.{◌≡◌, ℕ, true, ◌↔◌, List, [], length, subst, arith}
use lib.Seq.{drop-length}
use Rattle.book.specs.Rules.{Production}
use Rattle.grammar.specs.Sets.{up_from}
use Rattle.grammar.specs.Numbered.{numbered}
use Rattle.grammar.specs.Items.{Items, is_complete, complete_in}
use Rattle.grammar.specs.Meaning.{rule_of, Holds, after}
use Rattle.grammar.specs.Laws.{Shaped}
use Rattle.grammar.specs.Rounds.{In}
use Rattle.grammar.proofs.Rights.{nothing_behind}
use Rattle.grammar.proofs.Reading.{held_row}
use Rattle.grammar.specs.Listed.{kept_from, kept_has, counted_has}

-- a rule that is in with nothing behind its dot
abbrev pub Complete : List Production → Items → ℕ → Type 0
Complete rules items r = (d : ℕ) × Holds items r d × (after rules r d ≡ [])

pub complete_means : (rules : List Production) (items : Items) → Shaped rules items → (r : ℕ) → (is_complete (numbered rules) items r ≡ true) ↔ Complete rules items r
complete_means rules items sh r = (from, to)
  where
    from : is_complete (numbered rules) items r ≡ true → Complete rules items r
    from e = (length (rule_of rules r).rhs, e, drop-length (rule_of rules r).rhs)

    to : Complete rules items r → is_complete (numbered rules) items r ≡ true
    to c =
        let end : c.0 ≡ length (rule_of rules r).rhs = omega (arith, sh.within r c.0 c.1, nothing_behind (rule_of rules r).rhs c.0 c.2) in
        subst (Holds items r) end c.1

pub complete_in_means : (rules : List Production) (items : Items) → Shaped rules items → (r : ℕ) → In r (complete_in (numbered rules) items) ↔ Complete rules items r
complete_in_means rules items sh r = (from, to)
  where
    from : In r (complete_in (numbered rules) items) → Complete rules items r
    from i = (complete_means rules items sh r).0 (kept_from (is_complete (numbered rules) items) (up_from 0 (length (numbered rules))) r i).1

    to : Complete rules items r → In r (complete_in (numbered rules) items)
    to c =
        kept_has (is_complete (numbered rules) items) (up_from 0 (length (numbered rules))) r
        (counted_has 0 (length (numbered rules)) r (omega arith) (omega (arith, held_row items r c.0 c.1, sh.rows))) ((complete_means rules items sh r).1 c)
