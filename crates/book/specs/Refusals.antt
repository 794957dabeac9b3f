-- Each refusal of the book's calls: its number, and the values that it names.
use Rattle.std.specs.Prelude.{ℕ, [], ◌∷◌}
use Rattle.book.specs.Answers.{Refusal, no}
use Rattle.book.specs.declared.rules.EnterError.{EnterError}
use Rattle.book.specs.declared.rules.EnterError.TheVariants as enter
use Rattle.book.specs.declared.files.LoadError.{LoadError}
use Rattle.book.specs.declared.files.LoadError.TheVariants as load
use Rattle.book.specs.declared.files.SaveError.{SaveError}
use Rattle.book.specs.declared.files.SaveError.TheVariants as save
use Rattle.book.specs.declared.books.StrikeError.{StrikeError}
use Rattle.book.specs.declared.books.StrikeError.TheVariants as strike

abbrev pub enter_refusal : EnterError → Refusal
enter_refusal enter.Full = no 1 []
enter_refusal enter.Left = no 2 []
enter_refusal enter.Length = no 3 []
enter_refusal (enter.Code i) = no 4 (i ∷ [])
enter_refusal enter.Duplicate = no 5 []

abbrev pub strike_refusal : StrikeError → Refusal
strike_refusal strike.Missing = no 6 []

abbrev pub number_of : Refusal → ℕ
number_of (no n names) = n

-- each names the byte index where the record begins or is due, 19 that of the byte that follows the file; 17 also the number of the enter's refusal
abbrev pub load_refusal : LoadError → Refusal
load_refusal (load.Kind place) = no 15 (place ∷ [])
load_refusal (load.Ended place) = no 16 (place ∷ [])
load_refusal (load.Enter place cause) = no 17 (place ∷ number_of (enter_refusal cause) ∷ [])
load_refusal (load.Count place) = no 18 (place ∷ [])
load_refusal (load.Trailing place) = no 19 (place ∷ [])

abbrev pub save_refusal : SaveError → Refusal
save_refusal save.Short = no 20 []
