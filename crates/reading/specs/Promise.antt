-- What a read promises, in terms of rules, trees and the source alone.
use Rattle.std.specs.Prelude.{◌≡◌, ℕ, ◌+◌, ◌*◌, ◌≤◌, true, ◌↔◌, List, [], length, Some, Option}
use Rattle.book.specs.Rules.{Production, all_bounded}
use Rattle.source.specs.Streams.{Stream, Token, Ending, clean, fault, all_terminals}
use Rattle.grammar.specs.Meaning.{rule_of, InBook, Move, Member, Reached, Yields}
use Rattle.reading.specs.Trees.{Tree, Derives, StepOfNode, tree_steps, count_of}
use Rattle.reading.specs.Tables.{Faithful}
use Rattle.reading.specs.Reading.{most_words, accepted, ReadAnswer, SpannedSymbol, StackedSymbol, codes_of, Reads, answer_within, read_says}

-- how many steps a read writes at the most for each word
abbrev pub steps_per_word : ℕ
steps_per_word = 80

-- every symbol of the book is reached and yields, as far as reading needs it
pub record AllUseful (rules : List Production) : Type 0 where
  pub reached : (q : ℕ) → InBook rules q → Reached rules (rule_of rules q).lhs
  pub yields : (q : ℕ) → InBook rules q → (x : ℕ) → Member x (rule_of rules q).rhs → Yields rules x

-- an ending that is no fault
abbrev pub EndsCleanly : Ending → Type 0
EndsCleanly (clean at) = Unit {0}
EndsCleanly (fault k at) = ⊥

-- the rules derive the line by a tree with no more steps than the list has places
pub record Fitting (rules : List Production) (line : List ℕ) (cap : ℕ) : Type 0 where
  pub tree : Tree
  pub derives : Derives rules tree line
  pub fits : length (tree_steps tree 0) ≤ cap

-- the list holds each step of the one tree exactly once
pub record Listed (rules : List Production) (line : List ℕ) (out : List StepOfNode) : Type 0 where
  pub tree : Tree
  pub derives : Derives rules tree line
  pub only : (t : Tree) → Derives rules t line → t ≡ tree
  pub long : length out ≡ length (tree_steps tree 0)
  pub holds : (x : StepOfNode) → count_of x out ≡ count_of x (tree_steps tree 0)
  pub once : (x : StepOfNode) → count_of x (tree_steps tree 0) ≤ 1

-- accepted exactly when the source ends cleanly after no more words than a read may take and the rules derive them by a tree that fits the list; the
-- steps are then the tree's; and accepted or not, they are few for the words taken
pub record Kept (rules : List Production) (line : List ℕ) (ending : Ending) (cap : ℕ) (a : ReadAnswer) : Type 0 where
  pub accepts : (a.read_verdict ≡ accepted) ↔ (EndsCleanly ending × (length line ≤ most_words) × Fitting rules line cap)
  pub lists : a.read_verdict ≡ accepted → Listed rules line a.steps_written
  pub few : length a.steps_written ≤ steps_per_word * a.words_taken

-- every read on tables of a book whose symbols are useful keeps the promise
abbrev pub ReadsWell : Type 0
ReadsWell =
    (rules : List Production) (T : Faithful rules) → all_bounded rules ≡ true → AllUseful rules → (s : Stream) (cap : ℕ) (a : ReadAnswer) → all_terminals s.tokens ≡ true
    → Reads rules T.start_state T.next_state T.action_at s.ending cap [] [] s.tokens 0 0 [] a → Kept rules (codes_of s.tokens) s.ending cap a

-- a read has one answer, whatever the tables
abbrev pub OneAnswer : Type 0
OneAnswer =
    (rules : List Production) (start : ℕ) (next : ℕ → ℕ → ℕ) (action : ℕ → ℕ → Option Move) (ending : Ending) (cap : ℕ)
    (ps : List StackedSymbol) (xs : List SpannedSymbol) (ws : List Token) (n at : ℕ) (out : List StepOfNode) (a c : ReadAnswer)
    → Reads rules start next action ending cap ps xs ws n at out a → Reads rules start next action ending cap ps xs ws n at out c → a ≡ c

-- what is worked out within some number of turns is the answer of the read
abbrev pub WorkedOut : Type 0
WorkedOut =
    (rules : List Production) (start : ℕ) (next : ℕ → ℕ → ℕ) (action : ℕ → ℕ → Option Move) (ending : Ending) (cap k : ℕ)
    (ps : List StackedSymbol) (xs : List SpannedSymbol) (ws : List Token) (n at : ℕ) (out : List StepOfNode) (a : ReadAnswer)
    → answer_within rules start next action ending cap k ps xs ws n at out ≡ Some a → Reads rules start next action ending cap ps xs ws n at out a

-- no more words taken than there were and than a read may take, the one that is refused among them; no more steps than the list has places
pub record Limited (words room : ℕ) (a : ReadAnswer) : Type 0 where
  pub words_left : a.words_taken ≤ words
  pub words_few : a.words_taken ≤ most_words + 1
  pub steps_fit : length a.steps_written ≤ room

-- every read keeps these limits, whatever the tables
abbrev pub KeepsLimits : Type 0
KeepsLimits =
    (rules : List Production) (start : ℕ) (next : ℕ → ℕ → ℕ) (action : ℕ → ℕ → Option Move) (s : Stream) (cap : ℕ) (a : ReadAnswer)
    → Reads rules start next action s.ending cap [] [] s.tokens 0 0 [] a → Limited (length s.tokens) cap a

-- every read ends, with what it says
abbrev pub AnswersAlways : Type 0
AnswersAlways =
    (rules : List Production) (T : Faithful rules) → all_bounded rules ≡ true → AllUseful rules → (s : Stream) (cap : ℕ) → all_terminals s.tokens ≡ true
    → (a : ReadAnswer) × (read_says rules T.start_state T.next_state T.action_at cap s ≡ Some a)
