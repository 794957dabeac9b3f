-- Scripts: the lines of a text, and the change to a book that a line asks for.
use Rattle.std.specs.Prelude.{ℕ, ◌+◌, ◌-◌, ◌*◌, Bool, cond, ◌&&◌, List, [], ◌∷◌, Some, None, codes, Option, ◌==◌, nat_le}
use Rattle.std.specs.Option.{option_map}

-- Pieces.

-- a byte put before the first of some pieces
abbrev pub on_first : ℕ → List (List ℕ) → List (List ℕ)
on_first b [] = []
on_first b (word ∷ words) = (b ∷ word) ∷ words

-- the pieces of a text between the marks in it; there is one more of them than there are marks
abbrev pub cut : ℕ → List ℕ → List (List ℕ)
cut mark [] = [] ∷ []
cut mark (b ∷ bytes) = cond (b == mark) ([] ∷ cut mark bytes) (on_first b (cut mark bytes))

-- Numbers.

-- the bytes `0` to `9`
abbrev pub is_digit : ℕ → Bool
is_digit b = nat_le 48 b && nat_le b 57

-- a value with one more digit
abbrev pub more_digits : ℕ → ℕ → ℕ
more_digits n b = 10 * n + (b - 48)

-- the number that digits make after those that made n; none at another byte, nor above the limit
abbrev pub number_from : ℕ → ℕ → List ℕ → Option ℕ
number_from limit n [] = Some n
number_from limit n (b ∷ bytes) = cond (is_digit b && nat_le (more_digits n b) limit) (number_from limit (more_digits n b) bytes) None

-- the number that a text is, in base ten: at least one digit
abbrev pub number_of : ℕ → List ℕ → Option ℕ
number_of limit [] = None
number_of limit (b ∷ bytes) = number_from limit 0 (b ∷ bytes)

-- a number put before others, if there is one
abbrev pub before : Option ℕ → Option (List ℕ) → Option (List ℕ)
before None ns = None
before (Some n) ns = option_map (λ ms. n ∷ ms) ns

-- the numbers that some texts are, if each is one
abbrev pub numbers_of : ℕ → List (List ℕ) → Option (List ℕ)
numbers_of limit [] = Some []
numbers_of limit (word ∷ words) = before (number_of limit word) (numbers_of limit words)

-- Changes.

-- strike the rule of a number, or enter the rule with a left code and right codes
pub data Change : Type 0 where
  strikes : ℕ → Change
  enters : ℕ → List ℕ → Change

-- what follows a word at the start of a line
abbrev pub after : List ℕ → List ℕ → Option (List ℕ)
after [] bytes = Some bytes
after (w ∷ word) [] = None
after (w ∷ word) (b ∷ bytes) = cond (w == b) (after word bytes) None

-- the text after `strike ` is a number of two bytes
abbrev pub strike_read : List ℕ → Option Change
strike_read bytes = option_map strikes (number_of 65535 bytes)

-- the first code is the left one
abbrev pub entering : Option (List ℕ) → Option Change
entering None = None
entering (Some []) = None
entering (Some (l ∷ ws)) = Some (enters l ws)

-- the text after `enter ` is codes of one byte, one blank apart
abbrev pub enter_read : List ℕ → Option Change
enter_read bytes = entering (numbers_of 255 (cut 32 bytes))

-- what is read of the text after a command's word, or else another reading
abbrev pub read_after : Option (List ℕ) → (List ℕ → Option Change) → Option Change → Option Change
read_after None read others = others
read_after (Some bytes) read others = read bytes

-- the change that a line asks for; none where it cannot be read
abbrev pub change_read : List ℕ → Option Change
change_read bytes = read_after (after (codes "strike ") bytes) strike_read (read_after (after (codes "enter ") bytes) enter_read None)
