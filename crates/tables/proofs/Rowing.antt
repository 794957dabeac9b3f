-- Rows of actions, place by place and rule by rule.
use Rattle.std.proofs.Common.{◌≡◌, ℕ, zero, suc, ◌+◌, ◌-◌, ◌<◌, ◌≤◌, Bool, true, false, List, [], ◌∷◌, ◌++◌, map, length, get_or, take, drop, set, Some, sym, refl, ap, ◌∙◌, ap₂, arith, length-set}
use Rattle.std.proofs.lemmas.List.{at_drop_more, take_more_set, take_all, map_push}
use Rattle.grammar.specs.Sets.{codes, symbol_count, keep, up_from}
use Rattle.grammar.specs.Lookahead.{Look, in_lookahead, lookahead_of}
use Rattle.grammar.specs.Build.{Act, beside, reduce_by, with_reduces, is_conflict, conflict_in}
use Rattle.grammar.proofs.Turns.{table_more, keep_more}
use Rattle.tables.specs.Acts.{besides, reduced}

-- a table that is filled place by place, as what its elements stand for
pub mapped_more : {A B : Type 0} (h : A → B) (g : ℕ → B) (n : ℕ) (all : List A) (x : ℕ) (v : A) → x < n → length all ≡ n → h v ≡ g x → map h (take x all) ≡ map g (up_from 0 x)
    → (length (set all x v) ≡ n) × (map h (take (x + 1) (set all x v)) ≡ map g (up_from 0 (x + 1)))
mapped_more h g n all x v l long e inv = (
  length-set all x v ∙ long,
  ap (map h) (take_more_set all x v (omega arith)) ∙ map_push h (take x all) v ∙ ap₂ (λ t w. t ++ w ∷ []) inv e ∙ sym (table_more g x),
)

pub mapped_done : {A B : Type 0} (h : A → B) (g : ℕ → B) (n : ℕ) (all : List A) (x : ℕ) → n ≤ x → x ≤ n → length all ≡ n → map h (take x all) ≡ map g (up_from 0 x) → map h all ≡ map g (up_from 0 n)
mapped_done h g n all x low high long inv =
    let e : x ≡ n = omega arith in
    ap (map h) (sym (take_all x all (omega arith))) ∙ inv ∙ ap (λ m. map g (up_from 0 m)) e

-- one cell more
pub conflict_step : {C : Type 0} (act : C → Act) (cells : List C) (x : ℕ) (d : C) (t : Bool) → x < length cells → is_conflict (act (get_or cells x d)) ≡ t
    → conflict_in x (map act (drop x cells)) ≡ elim t [ true ↦ Some x | false ↦ conflict_in (x + 1) (map act (drop (x + 1) cells)) ]
conflict_step act cells x d t h e =
    let f : suc x ≡ x + 1 = omega arith in
    let rest = map act (drop (x + 1) cells) in
    let step : conflict_in x (map act (drop x cells)) ≡ elim (is_conflict (act (get_or cells x d))) [ true ↦ Some x | false ↦ conflict_in (suc x) rest ] =
    at_drop_more (λ q. conflict_in x (map act q)) cells x d h in
    step ∙ ap₂ (λ b y. elim b [ true ↦ Some x | false ↦ conflict_in y rest ]) e f

-- Complete rules in turn.

besides_map : (a : Act) (p : ℕ → Bool) (f : ℕ → Act) (k n : ℕ) → besides a (map p (up_from k n)) (map f (up_from k n)) ≡ map (λ x. elim (p x) [ true ↦ beside (f x) a | false ↦ f x ]) (up_from k n)
besides_map a p f k zero = refl
besides_map a p f k (suc n) = ap (λ q. elim (p k) [ true ↦ beside (f k) a | false ↦ f k ] ∷ q) (besides_map a p f (suc k) n)

-- rule by rule or symbol by symbol, the row is the same
pub reduced_is : (look : Look) (rs : List ℕ) (f : ℕ → Act) → reduced look rs (map f codes) ≡ map (λ x. with_reduces look x rs (f x)) codes
reduced_is look [] f = refl
reduced_is look (r ∷ rs) f =
    ap (reduced look rs) (besides_map (reduce_by r) (in_lookahead look r) f 0 symbol_count)
    ∙ reduced_is look rs (λ x. elim (in_lookahead look r x) [ true ↦ beside (f x) (reduce_by r) | false ↦ f x ])

-- one number more
pub reduced_more : (look : Look) (p : ℕ → Bool) (n k : ℕ) (t : Bool) (acts : List Act) → k < n → p k ≡ t
    → reduced look (keep p (up_from k (n - k))) acts ≡ reduced look (keep p (up_from (k + 1) (n - (k + 1)))) (elim t [ true ↦ besides (reduce_by k) (lookahead_of look k) acts | false ↦ acts ])
reduced_more look p n k true acts h e = ap (λ rs. reduced look rs acts) (keep_more p n k h true e)
reduced_more look p n k false acts h e = ap (λ rs. reduced look rs acts) (keep_more p n k h false e)

-- a list of what a function gives of each element
pub mapped_is : {A B : Type 0} (f : A → B) (xs : List A) (ys : List B) (d : A) (e : B) → length ys ≡ length xs → ((k : ℕ) → k < length xs → get_or ys k e ≡ f (get_or xs k d)) → ys ≡ map f xs
mapped_is f [] [] d e l each = refl
mapped_is f [] (y ∷ ys) d e l each = absurd (omega arith)
mapped_is f (x ∷ xs) [] d e l each = absurd (omega arith)
mapped_is f (x ∷ xs) (y ∷ ys) d e l each = ap₂ ◌∷◌ (each 0 (omega arith)) (mapped_is f xs ys d e (omega arith) (λ k h. each (suc k) (omega arith)))
