-- One line of a script: what is left of the script after it.
use Rattle.std.proofs.Common.{◌≡◌, ℕ, ◌+◌, List, ◌∷◌, ◌++◌, sym, ap, ◌∙◌, ap₂, append_assoc}
use Rattle.book.specs.Rules.{Production}
use Rattle.revise.specs.Runs.{line_leaves, line_text, lines_leave, lines_text}

module _ (rules next : List Production) (line : List ℕ) (pieces others : List (List ℕ)) (cuts : pieces ≡ line ∷ others) (leaves : next ≡ line_leaves rules line) where
  pub leave_step : lines_leave next others ≡ lines_leave rules pieces
  leave_step = ap (λ ps. lines_leave ps others) leaves ∙ ap (lines_leave rules) (sym cuts)

  pub text_step : (n : ℕ) (part : List ℕ) → part ≡ line_text n rules line → lines_text n rules pieces ≡ part ++ lines_text (n + 1) next others
  text_step n part e = ap (lines_text n rules) cuts ∙ ap₂ (λ bs ps. bs ++ lines_text (n + 1) ps others) (sym e) (sym leaves)

-- one more part of a report: what is left was the part and then the rest
pub report_more : (old part new was rest whole : List ℕ) → new ≡ old ++ part → was ≡ part ++ rest → old ++ was ≡ whole → new ++ rest ≡ whole
report_more old part new was rest whole n w o = ap (λ bs. bs ++ rest) n ∙ append_assoc old part rest ∙ ap (λ bs. old ++ bs) (sym w) ∙ o
