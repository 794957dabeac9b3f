-- Reads, lookaheads and their overlap, turn by turn.
use Rattle.std.proofs.Common.{◌≡◌, ℕ, zero, suc, ◌+◌, ◌-◌, ◌<◌, ◌≤◌, Bool, true, false, ◌&&◌, ◌||◌, ◌⊎◌, List, [], ◌∷◌, map, length, drop, refl, sym, ap, ◌∙◌, inl, inr, arith}
use Rattle.std.specs.List.{list_any, zip}
use Rattle.std.proofs.lemmas.List.{drop_all}
use Rattle.book.specs.Rules.{Production}
use Rattle.grammar.specs.Items.{Items, read_row, read_rows}
use Rattle.grammar.specs.Lookahead.{Look, lookahead_of, meets, overlap}
use Rattle.grammar.specs.Sets.{Flags, symbol_count, codes, has, union, any, keep, up_from}
use Rattle.grammar.proofs.Turns.{keep_more, up_done}

-- Reads.

read_row_end : (s : Flags) (ws : List ℕ) → read_row s ws [] ≡ s
read_row_end s [] = refl
read_row_end s (w ∷ ws) = refl

pub read_row_done : (s : Flags) (ws : List ℕ) (row : Flags) → (ws ≡ []) ⊎ (row ≡ []) → read_row s ws row ≡ s
read_row_done s ws row (inl e) = ap (λ t. read_row s t row) e
read_row_done s ws row (inr e) = ap (read_row s ws) e ∙ read_row_end s ws

read_rows_end : (s : Flags) (ls : List Production) → read_rows s ls [] ≡ s
read_rows_end s [] = refl
read_rows_end s (l ∷ ls) = refl

pub read_rows_done : (s : Flags) (ls : List Production) (rows : Items) (k : ℕ) → (length ls ≤ k) ⊎ (length rows ≤ k) → read_rows s (drop k ls) (drop k rows) ≡ s
read_rows_done s ls rows k (inl h) = ap (λ t. read_rows s t (drop k rows)) (drop_all k ls h)
read_rows_done s ls rows k (inr h) = ap (read_rows s (drop k ls)) (drop_all k rows h) ∙ read_rows_end s (drop k ls)

-- Whether two sets of n flags have one in common.

any_behind : (p : ℕ → Bool) (k n : ℕ) → any p (up_from (suc k) n) ≡ any (λ x. p (suc x)) (up_from k n)
any_behind p k zero = refl
any_behind p k (suc n) = ap (λ b. elim (p (suc k)) [ true ↦ true | false ↦ b ]) (any_behind p (suc k) n)

any_both : (s t : Flags) (n : ℕ) → length s ≡ n → length t ≡ n → list_any (λ (p : Bool × Bool). p.0 && p.1) (zip s t) ≡ any (λ x. has s x && has t x) (up_from 0 n)
any_both [] t zero l m = refl
any_both [] t (suc n) l m = absurd (omega arith)
any_both (a ∷ s) [] zero l m = absurd (omega arith)
any_both (a ∷ s) [] (suc n) l m = absurd (omega arith)
any_both (a ∷ s) (b ∷ t) zero l m = absurd (omega arith)
any_both (a ∷ s) (b ∷ t) (suc n) l m =
    turn (a && b) _ _ (any_both s t n (omega arith) (omega arith) ∙ sym (any_behind (λ x. has (a ∷ s) x && has (b ∷ t) x) 0 n))
  where
    turn : (c x y : Bool) → x ≡ y → (c || x) ≡ elim c [ true ↦ true | false ↦ y ]
    turn true x y e = refl
    turn false x y e = e

pub any_meets : (s t : Flags) → length s ≡ symbol_count → length t ≡ symbol_count → list_any (λ (p : Bool × Bool). p.0 && p.1) (zip s t) ≡ meets s t
any_meets s t l m = any_both s t symbol_count l m

-- Lookaheads of the book's own rules are what the policy says.

pub lookahead_own : (look : Look) (r : ℕ) → (r ≡ 0 → ⊥) → lookahead_of look r ≡ map (look r) codes
lookahead_own look zero h = absurd (h refl)
lookahead_own look (suc r) h = refl

-- Overlap, one complete rule on.

module _ (lookahead : ℕ → Flags) (p : ℕ → Bool) (n k : ℕ) (seen : Flags) where
  abbrev rest : List Flags
  rest = map lookahead (keep p (up_from (k + 1) (n - (k + 1))))

  turn : k < n → (t : Bool) → p k ≡ t → overlap seen (map lookahead (keep p (up_from k (n - k)))) ≡ overlap seen (elim t [ true ↦ lookahead k ∷ rest | false ↦ rest ])
  turn h true e = ap (λ ks. overlap seen (map lookahead ks)) (keep_more p n k h true e)
  turn h false e = ap (λ ks. overlap seen (map lookahead ks)) (keep_more p n k h false e)

  meeting : (t : Bool) → meets seen (lookahead k) ≡ t → overlap seen (lookahead k ∷ rest) ≡ elim t [ true ↦ true | false ↦ overlap (union seen (lookahead k)) rest ]
  meeting t e = ap (λ b. elim b [ true ↦ true | false ↦ overlap (union seen (lookahead k)) rest ]) e

  pub overlap_here : k < n → p k ≡ true → meets seen (lookahead k) ≡ true → overlap seen (map lookahead (keep p (up_from k (n - k)))) ≡ true
  overlap_here h e m = turn h true e ∙ meeting true m

  pub overlap_on : k < n → p k ≡ true → meets seen (lookahead k) ≡ false
      → overlap seen (map lookahead (keep p (up_from k (n - k)))) ≡ overlap (union seen (lookahead k)) (map lookahead (keep p (up_from (k + 1) (n - (k + 1)))))
  overlap_on h e m = turn h true e ∙ meeting false m

  pub overlap_past : k < n → p k ≡ false → overlap seen (map lookahead (keep p (up_from k (n - k)))) ≡ overlap seen (map lookahead (keep p (up_from (k + 1) (n - (k + 1)))))
  overlap_past h e = turn h false e

  pub overlap_done : n ≤ k → overlap seen (map lookahead (keep p (up_from k (n - k)))) ≡ false
  overlap_done h = ap (λ ks. overlap seen (map lookahead (keep p ks))) (up_done n k h)
