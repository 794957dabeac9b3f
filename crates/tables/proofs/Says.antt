-- What filling tables and writing a row say, test by test.
use Rattle.std.proofs.Common.{◌≡◌, ℕ, ◌<◌, ◌≤◌, leb, List, [], ◌++◌, map, length, get_or, drop, sym, ap, ◌∙◌, arith}
use lib.ListN.{length-map}
use Rattle.std.proofs.lemmas.Bool.{lt-ltb, le-ltb, le-leb, lt-leb}
use Rattle.book.specs.Answers.{Answer, granted, refused, no, refuse_if, leaves}
use Rattle.book.specs.Held.{production_of, productions_of}
use Rattle.book.specs.Symbols.{most_rules}
use Rattle.book.specs.declared.rules.Rule.{Rule}
use Rattle.grammar.specs.Build.{Act, build_says}
use Rattle.grammar.specs.Lookahead.{Policy}
use Rattle.grammar.specs.Sets.{symbol_count}
use Rattle.tables.specs.Acts.{word_of}
use Rattle.tables.specs.Built.{fill_says, row_says, row_in}

module _ (policy : Policy) (rs : List Rule) where
  pub fill_many : most_rules < length rs → refused (no 1 []) ≡ fill_says policy (productions_of rs)
  fill_many h =
      sym (ap (λ t. refuse_if t (no 1 []) (build_says policy (productions_of rs))) (lt-ltb most_rules (length (productions_of rs)) (omega (arith, h, length-map rs production_of))))

  pub fill_few : length rs ≤ most_rules → build_says policy (productions_of rs) ≡ fill_says policy (productions_of rs)
  fill_few h =
      sym (ap (λ t. refuse_if t (no 1 []) (build_says policy (productions_of rs))) (le-ltb most_rules (length (productions_of rs)) (omega (arith, h, length-map rs production_of))))

module _ (rows : List (List Act)) (s : ℕ) (out : List ℕ) where
  -- what is left where this is the answer
  pub row_leaves : (a : Answer ℕ) → a ≡ row_says rows s (length out) → leaves a (λ n. map word_of (get_or rows s []) ++ drop n out) out ≡ row_in rows s out
  row_leaves a e = ap (λ b. leaves b (λ n. map word_of (get_or rows s []) ++ drop n out) out) e

  pub row_short : length out < symbol_count → refused (no 20 []) ≡ row_says rows s (length out)
  row_short h = sym (ap (λ t. refuse_if t (no 20 []) (refuse_if (leb (length rows) s) (no 21 []) (granted symbol_count))) (lt-ltb (length out) symbol_count h))

  long : symbol_count ≤ length out → row_says rows s (length out) ≡ refuse_if (leb (length rows) s) (no 21 []) (granted symbol_count)
  long h = ap (λ t. refuse_if t (no 20 []) (refuse_if (leb (length rows) s) (no 21 []) (granted symbol_count))) (le-ltb (length out) symbol_count h)

  pub row_past : symbol_count ≤ length out → length rows ≤ s → refused (no 21 []) ≡ row_says rows s (length out)
  row_past h p = sym (long h ∙ ap (λ t. refuse_if t (no 21 []) (granted symbol_count)) (le-leb (length rows) s p))

  pub row_given : symbol_count ≤ length out → s < length rows → granted symbol_count ≡ row_says rows s (length out)
  row_given h p = sym (long h ∙ ap (λ t. refuse_if t (no 21 []) (granted symbol_count)) (lt-leb (length rows) s p))
