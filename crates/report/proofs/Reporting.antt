-- What a report answers and leaves, by the room that the buffer has.
use Rattle.std.proofs.Common.{Ok, Err, refl, ◌≡◌, ℕ, ◌<◌, ◌≤◌, List, [], ◌++◌, length, drop, sym, ap, ◌∙◌, ap₂, arith}
use Rattle.std.proofs.lemmas.List.{take-append-drop}
use Rattle.std.proofs.lemmas.Bool.Decides.{nat_tests}
use Rattle.book.specs.Answers.{granted, refused, no, leaves}
use Rattle.report.specs.Buffers.{Puts, report_says, Reports}
use Rattle.report.specs.Writers.{Writes}
use Rattle.report.specs.declared.reports.ReportError.TheVariants.{Short}
use Rattle.report.specs.declared.writers.Writer.{Writer}

-- too short a buffer stays as it is
pub reports_short : (text out : List ℕ) (enough : ℕ) → length out < length text → (enough ≤ length out → ⊥) → Reports text enough out out (Err Short)
reports_short text out enough h wanting =
    let says : refused (no 20 []) ≡ report_says text (length out) = grind (arith, nat_tests) in
    record { answer = says; buffer = ap (λ a. leaves a (λ n. text ++ drop n out) out) says; room = λ k. absurd (wanting k) }

-- a text that a new writer wrote
pub reports_all : (text out after : List ℕ) (enough n : ℕ) (old new : Writer) → length text ≤ length out → old.at ≡ 0 → old.out.now ≡ out
    → Writes text old new → after ≡ new.out.now → n ≡ new.at → Reports text enough out after (Ok n)
reports_all text out after enough n old new h start buffer wrote now at =
    let p : Puts text 0 out after n = let w = wrote.puts in rw (now, at, ← start, ← buffer) w in
    let size : n ≡ length text = omega (arith, p.next) in
    let says : granted n ≡ report_says text (length out) = ap granted size ∙ grind (arith, nat_tests) in
    let left = sym (take-append-drop n after) ∙ ap₂ ◌++◌ p.front p.back ∙ ap (λ a. leaves a (λ k. text ++ drop k out) out) says in
    record { answer = says; buffer = left; room = λ _. refl }
