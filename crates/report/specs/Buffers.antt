-- Texts in a lent buffer.
use Rattle.std.specs.Prelude.{◌≡◌, ℕ, ◌+◌, ◌*◌, ◌≤◌, true, List, [], ◌++◌, length, take, drop, nat_lt, Result, is_ok}
use Rattle.book.specs.Answers.{Answer, granted, Refusal, no, refuse_if, leaves, said}
use Rattle.report.specs.declared.reports.ReportError.{ReportError}
use Rattle.report.specs.declared.reports.ReportError.TheVariants as report

-- a text written at a place: the place past it, what stands before that, and what stands from there on
pub record Puts (text : List ℕ) (at : ℕ) (before after : List ℕ) (end : ℕ) : Type 0 where
  pub next : end ≡ at + length text
  pub front : take end after ≡ take at before ++ text
  pub back : drop end after ≡ drop end before

abbrev pub report_refusal : ReportError → Refusal
report_refusal report.Short = no 20 []

-- how many bytes a text has; a buffer with less room is refused
abbrev pub report_says : List ℕ → ℕ → Answer ℕ
report_says text room = refuse_if (nat_lt room (length text)) (no 20 []) (granted (length text))

-- the buffer after a report
abbrev pub report_in : List ℕ → List ℕ → List ℕ
report_in text buffer = leaves (report_says text (length buffer)) (λ n. text ++ drop n buffer) buffer

-- what a report of a text answers and leaves; a buffer of this size is always enough
pub record Reports (text : List ℕ) (enough : ℕ) (old new : List ℕ) (result : Result ℕ ReportError) : Type 0 where
  pub answer : said report_refusal result ≡ report_says text (length old)
  pub buffer : new ≡ report_in text old
  pub room : enough ≤ length old → is_ok result ≡ true

-- Room that is always enough.

-- for one line: a word of at most 8 bytes, 5 numbers of at most 20 digits, each after a blank, and the newline
abbrev pub line_room : ℕ
line_room = 114

-- for the line of a step: a rule of at most 3 digits, and 2 numbers
abbrev pub step_room : ℕ
step_room = 46

-- for a read with so many places in the list
abbrev pub read_room : ℕ → ℕ
read_room places = line_room + step_room * places
