-- Book files: the bytes that stand for a list of rules, and what loading any bytes gives.
use Rattle.std.specs.Prelude.{◌≡◌, ℕ, zero, suc, ◌+◌, ◌-◌, true, cond, not, List, [], ◌∷◌, ◌++◌, length, take, drop, Some, None, Option, ◌==◌, nat_lt}
use Rattle.std.specs.List.{flat_map}
use Rattle.book.specs.Answers.{Answer, granted, refused, no, refuse_if, and_then, leaves}
use Rattle.book.specs.Symbols.{longest_right, within}
use Rattle.book.specs.Rules.{Production, ◌⟶◌, enter_says, is_well_formed}

-- Saving.

-- a rule's record: its kind, which is the length of its right side, then its sides
abbrev pub record_of : Production → List ℕ
record_of p = length p.rhs ∷ p.lhs ∷ p.rhs

-- the kind of the record that closes a file; its body is the number of rules
abbrev pub closing_kind : ℕ
closing_kind = 7

abbrev pub file_of : List Production → List ℕ
file_of rules = flat_map record_of rules ++ closing_kind ∷ length rules ∷ []

abbrev pub save_says : List Production → ℕ → Answer ℕ
save_says rules room = refuse_if (nat_lt room (length (file_of rules))) (no 20 []) (granted (length (file_of rules)))

-- the buffer after a save
abbrev pub saved_in : List Production → List ℕ → List ℕ
saved_in rules buffer = leaves (save_says rules (length buffer)) (λ n. file_of rules ++ drop n buffer) buffer

-- Loading. A record at a place either refuses, or gives a rule to enter (Some), or closes the file (None).

-- a refused enter is 17, with the place of the record and the enter's number
abbrev pub rule_at : ℕ → Production → Answer (Unit {0}) → Answer (Option Production)
rule_at place p (granted _) = granted (Some p)
rule_at place p (refused (no n names)) = refused (no 17 (place ∷ n ∷ []))

-- the first n bytes of what is left of a record
abbrev pub front_says : List ℕ → ℕ → ℕ → Answer (List ℕ)
front_says bytes n place = refuse_if (nat_lt (length bytes) n) (no 16 (place ∷ [])) (granted (take n bytes))

-- a rule's body, where the right side has n symbols
abbrev pub body_says : List Production → ℕ → ℕ → List ℕ → Answer (Option Production)
body_says rules place n [] = refused (no 16 (place ∷ []))
body_says rules place n (left ∷ rest) =
    and_then (front_says rest n place) (λ right. rule_at place (left ⟶ right) (enter_says rules (left ⟶ right)))

-- nothing may follow the closing record
abbrev pub end_says : ℕ → List ℕ → Answer (Option Production)
end_says place [] = granted None
end_says place (b ∷ bytes) = refused (no 19 (place ∷ []))

abbrev pub closing_says : List Production → ℕ → List ℕ → Answer (Option Production)
closing_says rules place [] = refused (no 16 (place ∷ []))
closing_says rules place (count ∷ rest) = refuse_if (not (count == length rules)) (no 18 (place ∷ [])) (end_says (place + 2) rest)

abbrev pub record_says : List Production → ℕ → List ℕ → Answer (Option Production)
record_says rules place [] = refused (no 16 (place ∷ []))
record_says rules place (kind ∷ bytes) =
    cond (kind == closing_kind) (closing_says rules place bytes)
    (refuse_if (not (within 1 longest_right kind)) (no 15 (place ∷ []))
    (body_says rules place kind bytes))

-- the rules after what a record says: with its rule, if it gives one
abbrev pub rules_after : List Production → Answer (Option Production) → List Production
rules_after rules said = leaves said (elim [ None ↦ rules | Some p ↦ rules ++ p ∷ [] ]) rules

abbrev pub record_leaves : List Production → ℕ → List ℕ → List Production
record_leaves rules place bytes = rules_after rules (record_says rules place bytes)

abbrev pub width : Production → ℕ
width p = length (record_of p)

-- The rules of a file from a place on, after those of the records before; `skip` bytes still belong to the last of these.
abbrev pub load_from : List ℕ → ℕ → List Production → ℕ → Answer (List Production)
load_from [] skip rules place = refused (no 16 (place ∷ []))
load_from (b ∷ bytes) (suc skip) rules place = load_from bytes skip rules place
load_from (b ∷ bytes) zero rules place =
    and_then (record_says rules place (b ∷ bytes))
    (elim [ None ↦ granted rules | Some p ↦ load_from bytes (width p - 1) (rules ++ p ∷ []) (place + width p) ])

abbrev pub load_says : List ℕ → Answer (List Production)
load_says bytes = load_from bytes 0 [] 0

-- the rules after a load
abbrev pub loaded : List Production → List ℕ → List Production
loaded rules bytes = leaves (load_says bytes) (λ file. file) rules

-- A saved book loads as the same rules: the first n bytes of a buffer are a file of these rules, if a book can have them.
abbrev pub LoadsBack : List Production → ℕ → List ℕ → Type 0
LoadsBack rules n buffer = is_well_formed rules ≡ true → load_says (take n buffer) ≡ granted rules

-- A file that loads is the one that save writes: these bytes are the file of the rules that they gave.
abbrev pub IsFileOf : List ℕ → List Production → Type 0
IsFileOf bytes rules = bytes ≡ file_of rules
