-- What each step of the run leaves to be told.
use Rattle.std.proofs.Common.{◌≡◌, ℕ, ◌≤◌, List, length, Some, Result, sym, ap, ◌∙◌, arith}
use Rattle.book.specs.Answers.{Answer, granted, refused, Refusal, and_then, leaves}
use Rattle.source.specs.Streams.{Stream}
use Rattle.reading.specs.declared.outcomes.Step.{Step}
use Rattle.reading.specs.declared.outcomes.Outcome.{Outcome}
use Rattle.card.specs.declared.refusals.ReadError.{ReadError}
use Rattle.card.specs.Models.{Model}
use Rattle.card.specs.Wanting.{told_by, steps_by, read_on}
use Rattle.report.specs.Buffers.{report_says, report_in, Reports}
use Rattle.report.specs.declared.reports.ReportError.{ReportError}
use Rattle.report.specs.Texts.{read_text}
use Rattle.report.proofs.Answering.{read_answers}
use Rattle.translate.specs.Translations.{after, told_of}
use Rattle.translate.specs.Tellings.{told_read}

-- the text of a read's result
pub read_told : (m : Model) (room : ℕ) (s : Stream) (r : Result Outcome ReadError) (list : List Step) → read_on m room s ≡ Some (told_by r list)
    → steps_by r ≤ length list → read_text r list ≡ told_read m room s
read_told m room s r list says within = read_answers r list within ∙ sym (ap told_of says)

-- what a call says that answers no more than its grant or refusal
abbrev pub Granted : {A : Type 0} → Answer A → Type 0
Granted says = ◌≡◌ {A = Answer (Unit {0})} (granted tt) (and_then says (λ _. granted tt))

abbrev pub Refused : {A : Type 0} → Refusal → Answer A → Type 0
Refused n says = ◌≡◌ {A = Answer (Unit {0})} (refused n) (and_then says (λ _. granted tt))

-- a granted call goes on from what it left
pub goes : {A M : Type 0} (says : Answer A) (tells : Refusal → List ℕ) (leads : A → M) (tell : M → List ℕ) (same left : M)
    → Granted says → left ≡ leaves says leads same → tell left ≡ after says tells (λ x. tell (leads x))
goes (granted x) tells leads tell same left e is = ap tell is
goes (refused n) tells leads tell same left e is = let z : ◌≡◌ {A = ℕ} 0 1 = cc in absurd (omega arith)

-- a refused one ends the run
pub ends : {A : Type 0} (says : Answer A) (tells : Refusal → List ℕ) (goes_on : A → List ℕ) (n : Refusal)
    → Refused n says → tells n ≡ after says tells goes_on
ends (granted x) tells goes_on n e = let z : ◌≡◌ {A = ℕ} 0 1 = cc in absurd (omega arith)
ends (refused m) tells goes_on n e = let same : n ≡ m = cc in ap tells same

-- a report of an equal text, in a buffer that is large enough for it too
pub reports_as : (text other : List ℕ) (enough more : ℕ) (old new : List ℕ) (r : Result ℕ ReportError) → text ≡ other → enough ≤ more
    → Reports text enough old new r → Reports other more old new r
reports_as text other enough more old new r same le w = record {
  answer = w.answer ∙ ap (λ t. report_says t (length old)) same;
  buffer = w.buffer ∙ ap (λ t. report_in t old) same;
  room = λ h. w.room (omega arith);
}
