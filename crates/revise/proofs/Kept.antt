-- A script keeps the bounds of a book, and the file of a book within its bounds fits the program's buffer.
use Rattle.std.proofs.Common.{Ok, Err, Result, ◌≡◌, ℕ, ◌*◌, ◌≤◌, Bool, true, false, cond, ◌&&◌, leb, List, [], ◌∷◌, length, Some, None, Option, refl, ap, arith, length-append}
use Rattle.std.proofs.lemmas.Bool.{and_parts, leb-true, le-ltb}
use Rattle.std.specs.List.{flat_map}
use Rattle.book.specs.Answers.{Answer, granted, refused, no, refuse_if, leaves, said, and_then}
use Rattle.book.specs.Refusals.{load_refusal}
use Rattle.book.specs.declared.files.LoadError.{LoadError}
use Rattle.std.specs.Result.{is_err}
use Rattle.book.specs.Files.{record_of, file_of, save_says, load_says, loaded}
use Rattle.book.specs.Rules.{Production, ◌⟶◌, all_symbols, is_bounded, all_bounded, is_well_formed}
use Rattle.book.specs.Symbols.{longest_right, within, is_nonterminal}
use Rattle.book.proofs.Admission.{few, bounded, entered_well_formed, struck_well_formed}
use Rattle.book.proofs.Records.{length_file}
use Rattle.revise.specs.Lines.{is_granted}
use Rattle.revise.specs.Runs.{is_passed, changed, read_leaves, line_leaves, lines_leave, script_leaves}
use Rattle.revise.specs.Saves.{most_bytes}
use Rattle.revise.specs.Scripts.{Change, strikes, enters, change_read, cut}

module _ (rules : List Production) (sound : is_well_formed rules ≡ true) where
  change_keeps : (step : Change) → is_well_formed (changed rules step) ≡ true
  change_keeps (strikes k) = struck_well_formed rules k sound
  change_keeps (enters l ws) = entered_well_formed rules (l ⟶ ws) sound

  read_keeps : (o : Option Change) → is_well_formed (read_leaves rules o) ≡ true
  read_keeps None = sound
  read_keeps (Some step) = change_keeps step

  by_test : (t : Bool) (o : Option Change) → is_well_formed (cond t rules (read_leaves rules o)) ≡ true
  by_test true o = sound
  by_test false o = read_keeps o

lines_keep : (rules : List Production) (ls : List (List ℕ)) → is_well_formed rules ≡ true → is_well_formed (lines_leave rules ls) ≡ true
lines_keep rules [] sound = sound
lines_keep rules (l ∷ ls) sound = lines_keep (line_leaves rules l) ls (by_test rules sound (is_passed l) (change_read l))

pub script_keeps : (rules : List Production) (steps : List ℕ) → is_well_formed rules ≡ true → is_well_formed (script_leaves rules steps) ≡ true
script_keeps rules steps sound = lines_keep rules (cut 10 steps) sound

record_size : (p : Production) → is_bounded p ≡ true → length (record_of p) ≤ 8
record_size p b =
    let size = length p.rhs in
    let others = and_parts (is_nonterminal p.lhs) (within 1 longest_right size && all_symbols p.rhs) b in
    let inside = and_parts (within 1 longest_right size) (all_symbols p.rhs) others.1 in
    let limits = and_parts (leb 1 size) (leb size longest_right) inside.0 in
    omega (arith, leb-true size longest_right limits.1)

records_size : (ps : List Production) → all_bounded ps ≡ true → length (flat_map record_of ps) ≤ 8 * length ps
records_size [] b = omega arith
records_size (p ∷ ps) b =
    let parts = and_parts (is_bounded p) (all_bounded ps) b in
    omega (arith, length-append (record_of p) (flat_map record_of ps), record_size p parts.0, records_size ps parts.1)

pub save_fits : (rules : List Production) → is_well_formed rules ≡ true → save_says rules most_bytes ≡ granted (length (file_of rules))
save_fits rules sound =
    let room : length (file_of rules) ≤ most_bytes = omega (arith, length_file rules, records_size rules (bounded rules sound), few rules sound) in
    ap (λ t. refuse_if t (no 20 []) (granted (length (file_of rules)))) (le-ltb most_bytes (length (file_of rules)) room)

by_answer : (rules : List Production) (a : Answer (List Production)) → is_granted a ≡ true → a ≡ granted (leaves a (λ file. file) rules)
by_answer rules (granted x) e = refl
by_answer rules (refused n) e = let z : ◌≡◌ {A = ℕ} 0 1 = cc in absurd (omega arith)

-- a file that is granted gives the rules after the load
pub load_grants : (rules : List Production) (bytes : List ℕ) → is_granted (load_says bytes) ≡ true → load_says bytes ≡ granted (loaded rules bytes)
load_grants rules bytes e = by_answer rules (load_says bytes) e

-- a load without an error is a grant
pub outcome_granted : (o : Result (Unit {0}) LoadError) (a : Answer (List Production)) → said load_refusal o ≡ and_then a (λ _. granted tt) → is_err o ≡ false → is_granted a ≡ true
outcome_granted (Ok x) (granted y) e f = refl
outcome_granted (Ok x) (refused n) e f = let z : ◌≡◌ {A = ℕ} 0 1 = cc in absurd (omega arith)
outcome_granted (Err x) a e f = let z : ◌≡◌ {A = ℕ} 0 1 = cc in absurd (omega arith)
