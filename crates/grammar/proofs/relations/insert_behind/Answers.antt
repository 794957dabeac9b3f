use Rattle.std.proofs.Common.{◌≡◌, ℕ, ◌<◌, ◌≤◌, Bool, true, false, List, [], ◌∷◌, length, get_or, take, drop, refl, sym, ap, ◌∙◌, ap₂, arith}
use Rattle.grammar.specs.Relations.{behind}
use Rattle.grammar.specs.Sets.{Flags, has, insert}
use Rattle.grammar.proofs.relations.insert_behind.Goals as goal

-- one pair of neighbours on; t is what the test says of the first
module _ (p : ℕ → Bool) (s : Flags) where
  turn : (t : Bool) (n : ℕ) (rest pair next : List ℕ) → n ≡ 2 → n ≤ length rest → pair ≡ take n rest → next ≡ drop 1 rest → t ≡ p (get_or pair 0 0)
      → behind p (elim t [ true ↦ insert s (get_or pair 1 0) | false ↦ s ]) (get_or next 0 0) (drop 1 next) ≡ behind p s (get_or rest 0 0) (drop 1 rest)
  turn t n [] pair next two h e f is = absurd (omega arith)
  turn t n (x ∷ []) pair next two h e f is = absurd (omega arith)
  turn t n (x ∷ y ∷ more) pair next two h e f is =
      let both : pair ≡ x ∷ y ∷ [] = e ∙ ap (λ k. take k (x ∷ y ∷ more)) two in
      ap (λ b. behind p (elim b [ true ↦ insert s (get_or pair 1 0) | false ↦ s ]) (get_or next 0 0) (drop 1 next)) is
      ∙ ap₂ (λ q z. behind p (elim (p (get_or q 0 0)) [ true ↦ insert s (get_or q 1 0) | false ↦ s ]) (get_or z 0 0) (drop 1 z)) both f

  done : (n : ℕ) (rest : List ℕ) → n ≡ 2 → length rest < n → behind p s (get_or rest 0 0) (drop 1 rest) ≡ s
  done n [] two h = refl
  done n (x ∷ []) two h = refl
  done n (x ∷ y ∷ more) two h = absurd (omega arith)

pub loop-pair-preserved : goal.loop-pair-preserved
loop-pair-preserved c =
    let steps = c.in-Some.ensures.steps in (
      steps.0 ∙ c.loop-pair.invariant.0,
      turn (λ x. has (get_or c.args.rights.now x []) c.args.a) c.loop-pair.set false c.loop-pair.pair-iterator.size c.loop-pair.pair-iterator.rest.now c.in-Some.pair.now c.next.new.self.rest.now
          c.loop-pair.invariant.0 steps.1.0 steps.1.1 steps.1.2 c.if-related.ensures ∙ c.loop-pair.invariant.1,
    )

pub returns : goal.returns
returns c =
    sym (done (λ x. has (get_or c.args.rights.now x []) c.args.a) c.loop-pair.set c.loop-pair.pair-iterator.size c.loop-pair.pair-iterator.rest.now c.loop-pair.invariant.0 c.in-None.ensures.steps.1.0)
    ∙ c.loop-pair.invariant.1
