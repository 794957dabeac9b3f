-- Item sets row by row: rules put in at dot 0, dots moved on.
use Rattle.std.proofs.Common.{◌≡◌, ℕ, ◌-◌, ◌≤◌, Bool, true, false, not, ◌&&◌, ◌⊎◌, List, [], ◌∷◌, length, drop, replicate, refl, ap, ◌∙◌, inl, inr, arith, length-drop}
use Rattle.std.proofs.lemmas.List.{drop_all}
use Rattle.grammar.specs.Sets.{Flags, has, insert}
use Rattle.grammar.specs.Items.{before}
use Rattle.grammar.specs.Flagging.{insert_if}

-- a rule that is wanted and not in is put in; any other row stays
pub put_in : (b : Bool) (row : Flags) → (b && not (has row 0)) ≡ true → insert row 0 ≡ insert_if b row 0
put_in true row e = refl
put_in false row e = cc

pub left_out : (b : Bool) (row : Flags) → (b && not (has row 0)) ≡ false → row ≡ insert_if b row 0
left_out false row e = refl
left_out true [] e = refl
left_out true (true ∷ bs) e = refl
left_out true (false ∷ bs) e = cc

-- past the right side no dot stands before a symbol
before_none : (x : ℕ) (bs : Flags) → before x [] bs ≡ replicate (length bs) false
before_none x [] = refl
before_none x (b ∷ bs) = ap (λ q. false ∷ q) (before_none x bs)

pub before_rest : (x : ℕ) (ys : List ℕ) (bs : Flags) (d : ℕ) → (length ys ≤ d) ⊎ (length bs ≤ d) → before x (drop d ys) (drop d bs) ≡ replicate (length bs - d) false
before_rest x ys bs d (inl h) = ap (λ q. before x q (drop d bs)) (drop_all d ys h) ∙ before_none x (drop d bs) ∙ ap (λ n. replicate n false) (length-drop d bs)
before_rest x ys bs d (inr h) =
    let z : 0 ≡ length bs - d = omega arith in
    ap (before x (drop d ys)) (drop_all d bs h) ∙ ap (λ n. replicate n false) z
