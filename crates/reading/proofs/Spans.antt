-- The reader with spans and limits does what the reader with trees does.
use Rattle.std.proofs.Common.{◌≡◌, ℕ, suc, ◌+◌, ◌<◌, ◌≤◌, Bool, true, false, cond, ltb, List, [], ◌∷◌, ◌++◌, length, Some, None, Option, sym, refl, ap, ◌∙◌, subst, append-nil, add-zero, zero-add, arith, length-append}
use Rattle.grammar.specs.Meaning.{rule_of, Move, shifts, accepts, reduces}
use Rattle.reading.specs.Promise.{EndsCleanly}
use Rattle.book.specs.Answers.{refused, no}
use Rattle.source.specs.Streams.{Token, Ending, clean, fault}
use Rattle.reading.specs.Trees.{Tree, Forest, node, leaf, none, ◌&◌, label, labels, StepOfNode, width_of, widths_of}
use Rattle.reading.specs.Tables.{Faithful}
use Rattle.reading.specs.Reader.{Pile, base, push, go, done, stuck, top_of, next_symbol, obey, step_from, as_leaves, stack_width, writes_at}
use Rattle.reading.specs.Reading.{codes_of, SpannedSymbol, StackedSymbol, accepted, ReadAnswer, Turned, on, halt, covered, top_state, at_ending, acting, turn_from, Reads}
use Rattle.book.specs.Rules.{Production, all_bounded}
use Rattle.reading.proofs.Basics.{right_some, zero_one}
use Rattle.reading.proofs.Stacks.{size, Kids, k_none, k_more, ◌⁺◌, labels_size, step_shift, step_reduce, unstack_reduce}
use Rattle.reading.proofs.Written.{kids_width}
use Rattle.std.proofs.lemmas.Bool.{ltb-true, ltb-false}
use Rattle.reading.proofs.Behind.{Linked}
use Rattle.reading.proofs.Stepping.{Popped, popped, by_chosen}
use Rattle.reading.proofs.Accepting.{accepts_some}
use Rattle.reading.proofs.Sound.{reads_some}

module _ (rules : List Production) where
  -- what the stack shows
  abbrev pub places : Pile → List StackedSymbol
  places base = []
  places (push σ t s) = record { spanned = record { sym_code = label rules t; first_word = stack_width σ; word_count = width_of t }; state_above = s } ∷ places σ

  -- what a forest shows, with `at` words left of it
  abbrev pub spans : Forest → ℕ → List SpannedSymbol
  spans none at = []
  spans (t & ts) at = record { sym_code = label rules t; first_word = at; word_count = width_of t } ∷ spans ts (at + width_of t)

  pub top_places : (s₀ : ℕ) (σ : Pile) → top_state s₀ (places σ) ≡ top_of s₀ σ
  top_places s₀ base = refl
  top_places s₀ (push σ t s) = refl

  kids_cover : {ks : Forest} {σ₀ σ : Pile} → Kids ks σ₀ σ → (n f w : ℕ) → (g : ℕ) × (covered (size ks + n) (places σ) f w ≡ covered n (places σ₀) g (widths_of ks + w)) × (1 ≤ size ks → g ≡ stack_width σ₀)
  kids_cover {σ₀} k_none n f w = (f, rw (zero-add n, zero-add w) refl, λ h. absurd (omega arith))
  kids_cover (k_more {t = t} {ks = ks} {σ = σ₀} k) n f w =
      let (g, e, h) = kids_cover k (suc n) f w in
      let p : suc (size ks) + n ≡ size ks + suc n = omega arith in
      let q : width_of t + (widths_of ks + w) ≡ width_of t + widths_of ks + w = omega arith in
      (stack_width σ₀, rw p (e ∙ ap (λ z. covered n (places σ₀) (stack_width σ₀) z) q), λ _. refl)

  -- the places of a rule's children
  reduce_cover : (T : Faithful rules) (σ₀ σ : Pile) (ks : Forest) (r : ℕ) → Kids ks σ₀ σ → labels rules ks ≡ (rule_of rules r).rhs → 1 ≤ size ks → covered (length (rule_of rules r).rhs) (places σ) 0 0 ≡ (places σ₀, stack_width σ₀, widths_of ks)
  reduce_cover T σ₀ σ ks r k e h =
      let (g, c, f) = kids_cover k 0 0 0 in
      let n : length (rule_of rules r).rhs ≡ size ks + 0 = ap length (sym e) ∙ labels_size rules T ks ∙ sym (add-zero (size ks)) in
      rw n (c ∙ rw (f h, add-zero (widths_of ks)) refl)

-- the end mark, once it was taken
abbrev pub mark : Bool → ℕ → List SpannedSymbol
mark true n = record { sym_code = 0; first_word = n; word_count = 0 } ∷ []
mark false n = []

module _ (rules : List Production) (T : Faithful rules) (bounded : all_bounded rules ≡ true) (ending : Ending) (cap : ℕ) where
  open T use {start_state, next_state, action_at}

  abbrev mv : List StackedSymbol → List SpannedSymbol → List Token → ℕ → ℕ → List StepOfNode → Turned
  mv ps xs ws n pl out = turn_from rules start_state next_state action_at ending cap ps xs ws n pl out

  abbrev Rd : List StackedSymbol → List SpannedSymbol → List Token → ℕ → ℕ → List StepOfNode → ReadAnswer → Type 0
  Rd ps xs ws n pl out a = Reads rules start_state next_state action_at ending cap ps xs ws n pl out a

  abbrev says : Pile → Forest → List StepOfNode
  says σ ρ = writes_at rules (action_at (top_of start_state σ) (next_symbol rules ρ)) σ

  -- what the reader with spans holds, when the one with trees holds σ and ρ
  pub record Shows (ps : List StackedSymbol) (xs : List SpannedSymbol) (ws : List Token) (n : ℕ) (σ : Pile) (ρ : Forest) : Type 0 where
    pub π : Forest
    pub fin : Bool
    pub is_ps : ps ≡ places rules σ
    pub is_xs : xs ≡ spans rules π (stack_width σ) ++ mark fin n
    pub is_n : n ≡ stack_width σ + widths_of π
    pub is_ρ : ρ ≡ π ⁺ as_leaves (codes_of ws)
    pub is_fin : fin ≡ true → ws ≡ []
    pub is_clean : fin ≡ true → EndsCleanly ending
    pub is_few : n ≤ 1000

  -- one turn of it, beside a step of the other
  pub data Seen (σ : Pile) (ρ : Forest) (out : List StepOfNode) (n : ℕ) : Turned → Type 0 where
    quiet : {ps : List StackedSymbol} {xs : List SpannedSymbol} {ws : List Token} {m pl : ℕ} → Shows ps xs ws m σ ρ → Seen σ ρ out n (on ps xs ws m pl out)
    stepping : {ps : List StackedSymbol} {xs : List SpannedSymbol} {ws : List Token} {m pl : ℕ} {out' : List StepOfNode} {σ' : Pile} {ρ' : Forest}
        → step_from rules T σ ρ ≡ go σ' ρ' → Shows ps xs ws m σ' ρ' → out' ≡ out ++ says σ ρ → (length out ≤ cap → length out' ≤ cap) → Seen σ ρ out n (on ps xs ws m pl out')
    full : {pl : ℕ} {σ' : Pile} {ρ' : Forest} → step_from rules T σ ρ ≡ go σ' ρ' → cap ≤ length out → length (says σ ρ) ≡ 1 → Seen σ ρ out n (halt (record { read_verdict = refused (no 14 []); words_taken = n; place_taken = pl; steps_written = out }))
    lost : {pl : ℕ} → step_from rules T σ ρ ≡ stuck → Seen σ ρ out n (halt (record { read_verdict = refused (no 13 []); words_taken = n; place_taken = pl; steps_written = out }))
    finished : {pl : ℕ} {t : Tree} → step_from rules T σ ρ ≡ done t → (ρ ≡ none → EndsCleanly ending) → stack_width σ ≤ 1000 → Seen σ ρ out n (halt (record { read_verdict = accepted; words_taken = n; place_taken = pl; steps_written = out }))
    long : {pl : ℕ} → 1000 ≤ n → n < stack_width σ + widths_of ρ → Seen σ ρ out n (halt (record { read_verdict = refused (no 12 []); words_taken = n + 1; place_taken = pl; steps_written = out }))
    faulty : {k pl : ℕ} → ending ≡ fault k pl → Seen σ ρ out n (halt (record { read_verdict = refused (no 11 (k ∷ pl ∷ [])); words_taken = n; place_taken = pl; steps_written = out }))

  module _ (σ : Pile) (L : Linked rules T σ) (pl : ℕ) (out : List StepOfNode) where
    at_end : (e : Ending) → ending ≡ e → stack_width σ ≤ 1000 → Seen σ none out (stack_width σ + 0) (at_ending rules start_state next_state action_at ending cap e (places rules σ) (stack_width σ + 0) out)
    at_end (clean at) q f = quiet record { π = none; fin = true; is_ps = refl; is_xs = refl; is_n = refl; is_ρ = refl; is_fin = λ _. refl; is_clean = λ _. subst EndsCleanly (sym q) tt; is_few = omega arith }
    at_end (fault k at) q f = faulty q

    at_word : (w : Token) (ws : List Token) (n : ℕ) (y : Bool) → n ≡ stack_width σ + 0 → ltb n 1000 ≡ y
        → Seen σ (leaf w.symbol & as_leaves (codes_of ws)) out n (cond y (on (places rules σ) (record { sym_code = w.symbol; first_word = n; word_count = 1 } ∷ []) ws (n + 1) w.position out) (halt (record { read_verdict = refused (no 12 []); words_taken = n + 1; place_taken = w.position; steps_written = out })))
    at_word w ws n true e q =
        let z : n ≡ stack_width σ = omega arith in
        let l = ltb-true n 1000 q in
        quiet record { π = leaf w.symbol & none; fin = false; is_ps = refl; is_xs = rw z refl; is_n = omega arith; is_ρ = refl; is_fin = λ f. absurd (zero_one (cc)); is_clean = λ f. absurd (zero_one (cc)); is_few = omega arith }
    at_word w ws n false e q = let h = ltb-false n 1000 q in long h (omega arith)

    -- at a symbol x, other than a shift
    module _ (π : Forest) (fin : Bool) (ws : List Token) (is_fin : fin ≡ true → ws ≡ []) (is_clean : fin ≡ true → EndsCleanly ending) (n : ℕ) (is_few : n ≤ 1000) (is_n : n ≡ stack_width σ + widths_of π) (x : SpannedSymbol) (xs : List SpannedSymbol) (is_xs : x ∷ xs ≡ spans rules π (stack_width σ) ++ mark fin n) where
      abbrev ρ₀ : Forest
      ρ₀ = π ⁺ as_leaves (codes_of ws)

      abbrev does : Option Move → Turned
      does a = acting rules start_state next_state action_at ending cap a (places rules σ) x xs ws n pl out

      at_reduce : (r : ℕ) (P : Popped rules T σ r) → action_at (top_of start_state σ) (next_symbol rules ρ₀) ≡ Some (reduces r) → Seen σ ρ₀ out n (does (Some (reduces r)))
      at_reduce r P a =
          subst
          (λ v. Seen σ ρ₀ out n (cond (ltb (length out) cap)
          (on v.0 (record { sym_code = (rule_of rules r).lhs; first_word = v.1; word_count = v.2 } ∷ x ∷ xs) ws n pl (out ++ (record { rule_no = r; first_word = v.1; word_count = v.2 } ∷ [])))
          (halt (record { read_verdict = refused (no 14 []); words_taken = n; place_taken = pl; steps_written = out }))))
          (sym c) (shown (ltb (length out) cap) refl)
        where
          some_kids : (ks : Forest) → labels rules ks ≡ (rule_of rules r).rhs → 1 ≤ size ks
          some_kids none e = absurd (right_some rules bounded r P.book (sym e))
          some_kids (k & ks) e = omega arith

          c : covered (length (rule_of rules r).rhs) (places rules σ) 0 0 ≡ (places rules P.σ₀, stack_width P.σ₀, widths_of P.ks)
          c = reduce_cover rules T P.σ₀ σ P.ks r P.kids P.fits (some_kids P.ks P.fits)

          x₀ : SpannedSymbol
          x₀ = record { sym_code = (rule_of rules r).lhs; first_word = stack_width P.σ₀; word_count = widths_of P.ks }

          st : StepOfNode
          st = record { rule_no = r; first_word = stack_width P.σ₀; word_count = widths_of P.ks }

          g : step_from rules T σ ρ₀ ≡ go P.σ₀ (node r P.ks & ρ₀)
          g = step_reduce rules T P.σ₀ σ ρ₀ P.ks r P.kids P.fits a

          w : says σ ρ₀ ≡ st ∷ []
          w = ap (λ c. writes_at rules c σ) a ∙ ap (λ u. record { rule_no = r; first_word = stack_width u.0; word_count = widths_of u.1 } ∷ []) (unstack_reduce rules T P.σ₀ σ P.ks r P.kids P.fits)

          k : stack_width σ ≡ stack_width P.σ₀ + widths_of P.ks
          k = kids_width P.kids

          shown : (y : Bool) → ltb (length out) cap ≡ y → Seen σ ρ₀ out n (cond y (on (places rules P.σ₀) (x₀ ∷ x ∷ xs) ws n pl (out ++ (st ∷ []))) (halt (record { read_verdict = refused (no 14 []); words_taken = n; place_taken = pl; steps_written = out })))
          shown true q = stepping g
              (record {
                π = node r P.ks & π;
                fin = fin;
                is_ps = refl;
                is_xs = ap (λ l. x₀ ∷ l) (is_xs ∙ ap (λ m. spans rules π m ++ mark fin n) k);
                is_n = omega (arith, k);
                is_ρ = refl;
                is_fin = is_fin;
                is_clean = is_clean;
                is_few = is_few;
              })
              (ap (λ l. out ++ l) (sym w)) (λ h. let l = length-append out (st ∷ []) in let k = ltb-true (length out) cap q in omega arith)
          shown false q = full g (ltb-false (length out) cap q) (ap length w)

      at_clean : (π₁ : Forest) (fin₁ : Bool) → (fin₁ ≡ true → EndsCleanly ending) → x ∷ xs ≡ spans rules π₁ (stack_width σ) ++ mark fin₁ n → π₁ ⁺ as_leaves (codes_of ws) ≡ none → EndsCleanly ending
      at_clean none true c i e = c refl
      at_clean none false c i e = absurd (zero_one (cc))
      at_clean (t & ts) fin₁ c i e = absurd (zero_one (cc))

      at_symbol : (a : Option Move) → action_at (top_of start_state σ) (next_symbol rules ρ₀) ≡ a → (action_at (top_of start_state σ) (next_symbol rules ρ₀) ≡ (Some shifts) → Seen σ ρ₀ out n (does (Some shifts))) → Seen σ ρ₀ out n (does a)
      at_symbol None e h = lost (ap (λ c. obey rules T c σ ρ₀) e)
      at_symbol (Some shifts) e h = h e
      at_symbol (Some accepts) e h =
          let (t, σ₁, s, z) = accepts_some rules T bounded σ L (by_chosen rules T e) in
          finished {t = t} (ap (λ c. obey rules T c σ ρ₀) e ∙ ap (λ x. obey rules T (Some accepts) x ρ₀) z) (at_clean π fin is_clean is_xs) (omega arith)
      at_symbol (Some (reduces r)) e h = at_reduce r (popped rules T L e) e

    see : (π : Forest) (fin : Bool) (ws : List Token) (n : ℕ) → n ≡ stack_width σ + widths_of π → (fin ≡ true → ws ≡ []) → (fin ≡ true → EndsCleanly ending) → n ≤ 1000 → Seen σ (π ⁺ as_leaves (codes_of ws)) out n (mv (places rules σ) (spans rules π (stack_width σ) ++ mark fin n) ws n pl out)
    see none false [] n e h c f = subst (λ m. Seen σ none out m (at_ending rules start_state next_state action_at ending cap ending (places rules σ) m out)) (sym e) (at_end ending refl (omega arith))
    see none false (w ∷ ws) n e h c f = at_word w ws n (ltb n 1000) e refl
    see none true (w ∷ ws) n e h c f = absurd (zero_one (let z : ◌≡◌ {A = List Token} (w ∷ ws) [] = h refl in cc))
    see none true [] n e h c f =
        rw (top_places rules start_state σ)
        (at_symbol none true [] h c n f e _ [] refl (action_at (top_of start_state σ) 0) refl
        (λ a. absurd (let i = reads_some rules T bounded σ L (by_chosen rules T a) in omega arith)))
    see (t & π) fin ws n e h c f =
        rw (top_places rules start_state σ)
        (at_symbol (t & π) fin ws h c n f e _ _ refl (action_at (top_of start_state σ) (label rules t)) refl
        (λ a. rw (top_places rules start_state σ)
        (stepping {m = n} (step_shift rules T σ (t & (π ⁺ as_leaves (codes_of ws))) t (π ⁺ as_leaves (codes_of ws)) refl a)
        (record { π = π; fin = fin; is_ps = refl; is_xs = refl; is_n = omega arith; is_ρ = refl; is_fin = h; is_clean = c; is_few = f })
        (sym (ap (λ c. out ++ writes_at rules c σ) a ∙ append-nil out)) (λ l. l))))

  pub sees : {ps : List StackedSymbol} {xs : List SpannedSymbol} {ws : List Token} {n : ℕ} (pl : ℕ) (out : List StepOfNode) {σ : Pile} {ρ : Forest} → Shows ps xs ws n σ ρ → Linked rules T σ → Seen σ ρ out n (mv ps xs ws n pl out)
  sees {ps} {xs} {ws} {n} pl out {σ} {ρ} S L =
      rw (S.is_ps, S.is_xs, S.is_ρ) (see σ L pl out S.π S.fin ws n S.is_n S.is_fin S.is_clean S.is_few)
