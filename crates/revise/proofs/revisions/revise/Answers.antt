use Rattle.std.proofs.Common.{◌≡◌, false, ap, ◌∙◌, rules}
use Rattle.std.specs.Result.{is_err}
use Rattle.book.specs.Files.{load_says, loaded}
use Rattle.book.specs.Held.{rules_of}
use Rattle.revise.proofs.Kept.{outcome_granted}
use Rattle.revise.proofs.Whole.{new_file, new_loads, reported}
use Rattle.revise.proofs.revisions.revise.Goals as goal

pub returns : goal.returns
returns c =
    let old = c.args.bytes.now in
    let steps = c.args.script.now in
    let rules0 = rules_of c.load.new.book in
    let rules1 = rules_of c.run_script.new.book in
    let first = c.in_ok-loaded.ensures.rules ∙ ap (λ rs. loaded rs old) c.new-book.ensures.rules in
    let fine : is_err c.in_ok-loaded.loaded.outcome ≡ false = search rules in
    let ok = outcome_granted _ (load_says old) c.in_ok-loaded.ensures.outcome fine in
    let last = c.in_ok-steps.ensures.rules in
    let saved = c.in_ok-saved.ensures.file in
    record {
      file = new_file old steps rules0 rules1 first ok last _ saved;
      loads = new_loads old steps rules0 rules1 first ok last _ saved;
      report = reported old steps rules0 rules1 first ok last _ _ _ _ _ _ c.in_ok-loaded.ensures.line c.in_ok-steps.ensures.text c.in_ok-saved.ensures.line c.in_ok-report.ensures.ok;
    }
