-- A book's rules are never too many to fill tables from, and what a build leaves.
use Rattle.std.proofs.Common.{◌≡◌, Bool, true, false, ◌&&◌, leb, List, [], length, is_err, Ok, Err, Result, Some, None, sym, ap, subst}
use Rattle.std.proofs.lemmas.Option.{none-some, same_Some}
use Rattle.std.proofs.lemmas.Bool.{false≢true, and_parts, leb-true, le-ltb}
use Rattle.book.specs.Answers.{Answer, granted, refused, Refusal, no, said_of, refuse_if, leaves}
use Rattle.book.specs.declared.books.Book.{Book}
use Rattle.book.specs.Held.{rules_of}
use Rattle.book.specs.Rules.{Production, all_bounded, distinct, is_well_formed}
use Rattle.book.specs.Symbols.{most_rules}
use Rattle.grammar.specs.Build.{Act, build_says}
use Rattle.grammar.specs.Laws.{Lawful}
use Rattle.grammar.specs.Lookahead.{Policy}
use Rattle.tables.specs.declared.building.Tables.{Tables}
use Rattle.tables.specs.declared.building.BuildError.{BuildError}
use Rattle.tables.specs.Built.{table_of, build_refusal, fill_says}
use Rattle.reading.specs.Building.{Belonging}
use Rattle.card.specs.Belongs.{Belongs}
use Rattle.card.specs.Models.{unbuilt, built_with}

pub fills : (policy : Policy) (rules : List Production) → is_well_formed rules ≡ true → fill_says policy rules ≡ build_says policy rules
fills policy rules w =
    let few = leb-true (length rules) most_rules (and_parts (leb (length rules) most_rules) (all_bounded rules && distinct rules) w).0 in
    ap (λ (b : Bool). refuse_if b (no 1 []) (build_says policy rules)) (le-ltb most_rules (length rules) few)

-- a refused build leaves its card without tables, a granted one with those of its rules

pub refused_leaves : (rules : List Production) (n : Refusal) (says : Answer (List (List Act))) → refused n ≡ says → unbuilt rules ≡ leaves says (built_with rules) (unbuilt rules)
refused_leaves rules n says e = ap (λ (a : Answer (List (List Act))). leaves a (built_with rules) (unbuilt rules)) e

pub granted_leaves : (rules : List Production) (rows : List (List Act)) (says : Answer (List (List Act))) → granted rows ≡ says → built_with rules rows ≡ leaves says (built_with rules) (unbuilt rules)
granted_leaves rules rows says e = ap (λ (a : Answer (List (List Act))). leaves a (built_with rules) (unbuilt rules)) e

-- a fill's answer is a grant or a refusal

pub fill_grants : (r : Result (Unit {0}) BuildError) (rows : List (List Act)) (says : Answer (List (List Act))) → is_err r ≡ false
    → said_of (λ _. rows) build_refusal r ≡ says → granted rows ≡ says
fill_grants (Ok x) rows says is f = f
fill_grants (Err y) rows says is f = absurd (false≢true (sym is))

pub fill_leaves_none : (r : Result (Unit {0}) BuildError) (rules : List Production) (rows : List (List Act)) (says : Answer (List (List Act))) → is_err r ≡ true
    → said_of (λ _. rows) build_refusal r ≡ says → unbuilt rules ≡ leaves says (built_with rules) (unbuilt rules)
fill_leaves_none (Ok x) rules rows says is f = absurd (false≢true is)
fill_leaves_none (Err y) rules rows says is f = refused_leaves rules (build_refusal y) says f

pub granted_belongs : (policy : Policy) → Lawful policy → (b : Book) (t : Tables) → granted (table_of t) ≡ build_says policy (rules_of b) → Belongs b (Some t)
granted_belongs policy law b t e = λ u same. subst (λ (v : Tables). Belonging (rules_of b) (table_of v)) (same_Some t u same) ∣ (policy, law, sym e) ∣₁

pub none_belongs : (b : Book) → Belongs b None
none_belongs b = λ t e. absurd (none-some t e)
