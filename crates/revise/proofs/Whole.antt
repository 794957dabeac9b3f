-- A revision whose old file loads: rules0 are the old file's, rules1 those that the script leaves.
use Rattle.std.proofs.Common.{◌≡◌, ℕ, true, List, [], ◌∷◌, ◌++◌, length, Some, None, Option, sym, ap, ◌∙◌, subst}
use Rattle.book.specs.Answers.{granted, leaves}
use Rattle.book.specs.Files.{file_of, load_says, loaded, save_says}
use Rattle.book.specs.Rules.{Production, is_well_formed}
use Rattle.book.proofs.RoundTrip.{saved_loads, loaded_well_formed}
use Rattle.revise.specs.Lines.{LoadTold, is_granted, save_line}
use Rattle.revise.specs.Revisions.{revised_file, LoadsRevised, after_load, Reported}
use Rattle.revise.specs.Runs.{script_leaves, script_text}
use Rattle.revise.specs.Saves.{most_bytes, saved_file}
use Rattle.revise.proofs.Kept.{script_keeps, save_fits, load_grants}

module _ (old steps : List ℕ) (rules0 rules1 : List Production)
    (first : rules0 ≡ loaded [] old) (ok : is_granted (load_says old) ≡ true) (last : rules1 ≡ script_leaves rules0 steps) where
  grants : load_says old ≡ granted (loaded [] old)
  grants = load_grants [] old ok

  sound : is_well_formed (script_leaves (loaded [] old) steps) ≡ true
  sound = script_keeps (loaded [] old) steps (loaded_well_formed old (loaded [] old) grants)

  left : rules1 ≡ script_leaves (loaded [] old) steps
  left = last ∙ ap (λ rs. script_leaves rs steps) first

  made_file : (o : Option (List ℕ)) → o ≡ saved_file rules1 → o ≡ Some (file_of (script_leaves (loaded [] old) steps))
  made_file o e = e ∙ ap saved_file left ∙ ap (λ a. leaves a (λ _. Some (file_of (script_leaves (loaded [] old) steps))) None) (save_fits _ sound)

  pub new_file : (o : Option (List ℕ)) → o ≡ saved_file rules1 → o ≡ revised_file old steps
  new_file o e = made_file o e ∙ sym (ap (λ a. leaves a (λ rules. Some (file_of (script_leaves rules steps))) None) grants)

  pub new_loads : (o : Option (List ℕ)) → o ≡ saved_file rules1 → LoadsRevised old steps o
  new_loads o e = subst (LoadsRevised old steps) (sym (made_file o e)) (saved_loads _ sound)

  pub reported : (from to told did saved printed : List ℕ) → LoadTold from old (length rules0) told → did ≡ script_text rules0 steps → saved ≡ save_line to (save_says rules1 most_bytes)
      → printed ≡ told ++ 10 ∷ (did ++ (saved ++ 10 ∷ [])) → Reported from old steps to printed
  reported from to told did saved printed t d s p = (
    told,
    subst (λ n. LoadTold from old n told) (ap length first) t,
    p ∙ ap (λ bs. told ++ 10 ∷ (bs ++ (saved ++ 10 ∷ []))) (d ∙ ap (λ rs. script_text rs steps) first)
        ∙ ap (λ bs. told ++ 10 ∷ (script_text (loaded [] old) steps ++ (bs ++ 10 ∷ []))) (s ∙ ap (λ rs. save_line to (save_says rs most_bytes)) left ∙ ap (save_line to) (save_fits _ sound))
        ∙ ap (λ a. told ++ 10 ∷ after_load a steps to) (sym grants),
  )
