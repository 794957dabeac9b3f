-- Texts written one after another.
use Rattle.std.proofs.Common.{◌≡◌, ℕ, ◌+◌, ◌-◌, ◌≤◌, List, ◌++◌, take, drop, sym, ap, ◌∙◌, subst, arith}
use Rattle.std.proofs.lemmas.List.{append_assoc, length-append, drop-drop}
use Rattle.report.specs.Buffers.{Puts}
use Rattle.report.specs.Writers.{Writes}
use Rattle.report.specs.declared.writers.Writer.{Writer}

-- what stands past a place, further on
back_on : (xs ys : List ℕ) (a b : ℕ) → a ≤ b → drop a xs ≡ drop a ys → drop b xs ≡ drop b ys
back_on xs ys a b h e =
    let q : a + (b - a) ≡ b = omega arith in
    ap (λ k. drop k xs) (sym q) ∙ sym (drop-drop (b - a) a xs) ∙ ap (drop (b - a)) e ∙ drop-drop (b - a) a ys ∙ ap (λ k. drop k ys) q

pub puts_same : (t u : List ℕ) (at : ℕ) (xs ys : List ℕ) (m : ℕ) → t ≡ u → Puts t at xs ys m → Puts u at xs ys m
puts_same t u at xs ys m e p = subst (λ w. Puts w at xs ys m) e p

-- a text, and another from the place past it on
pub puts_then : (t u : List ℕ) (at m n : ℕ) (xs ys zs : List ℕ) → Puts t at xs ys m → Puts u m ys zs n → Puts (t ++ u) at xs zs n
puts_then t u at m n xs ys zs p q = record {
  next = omega (arith, p.next, q.next, length-append t u);
  front = q.front ∙ ap (λ w. w ++ u) p.front ∙ append_assoc (take at xs) t u;
  back = q.back ∙ back_on ys xs m n (omega (arith, q.next)) p.back;
}

pub writes_same : (t u : List ℕ) (a b : Writer) → t ≡ u → Writes t a b → Writes u a b
writes_same t u a b e w = subst (λ s. Writes s a b) e w

-- a text, and another from the place past it on
pub writes_then : (t u : List ℕ) (a b c : Writer) → Writes t a b → Writes u b c → Writes (t ++ u) a c
writes_then t u a b c v w = record {
  same = w.same ∙ v.same;
  size = w.size ∙ v.size;
  puts = puts_then t u _ _ _ _ _ _ v.puts w.puts;
}
