-- What a call answers: a grant, or a refusal by its number.
use Rattle.std.specs.Prelude.{ℕ, Bool, true, false, List, Ok, Err, Result}

-- a refusal: its number, and the values that it names
pub data Refusal : Type 0 where
  no : ℕ → List ℕ → Refusal

-- granted, with the answer's value, or refused
pub data Answer (A : Type 0) : Type 0 where
  granted : A → Answer A
  refused : Refusal → Answer A

-- what a Result says, where `value` is what an Ok stands for, and `name` gives each error its refusal
abbrev pub said_of : {A B E : Type 0} → (A → B) → (E → Refusal) → Result A E → Answer B
said_of value name (Ok x) = granted (value x)
said_of value name (Err e) = refused (name e)

abbrev pub said : {A E : Type 0} → (E → Refusal) → Result A E → Answer A
said name r = said_of (λ x. x) name r

-- a test that refuses stands before the tests that follow it
abbrev pub refuse_if : {A : Type 0} → Bool → Refusal → Answer A → Answer A
refuse_if true n others = refused n
refuse_if false n others = others

-- what follows a grant; a refusal is the answer
abbrev pub and_then : {A B : Type 0} → Answer A → (A → Answer B) → Answer B
and_then (granted x) f = f x
and_then (refused n) f = refused n

-- what a call leaves: one thing on a grant, another on a refusal
abbrev pub leaves : {A B : Type 0} → Answer A → (A → B) → B → B
leaves (granted x) f same = f x
leaves (refused n) f same = same
