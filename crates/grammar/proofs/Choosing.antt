-- The action of a state at a symbol is the one that applies there, nothing if none does, and a conflict exactly if two do.
use Rattle.std.proofs.Common.{◌≡◌, ℕ, zero, suc, ◌<◌, ◌≤◌, Bool, true, false, ◌⊎◌, ◌↔◌, List, [], ◌∷◌, length, get_or, Some, None, sym, refl, ap, ◌∙◌, subst, inl, inr, arith}
use Rattle.std.proofs.lemmas.Bool.{eqb-true, eq-eqb, cases_lt}
use Rattle.std.proofs.lemmas.List.{get_or_past}
use Rattle.book.specs.Rules.{Production, all_bounded}
use Rattle.grammar.specs.Sets.{has, keep, up_from}
use Rattle.grammar.specs.Numbered.{numbered}
use Rattle.grammar.specs.Relations.{relations_of}
use Rattle.grammar.specs.Items.{Items, reads, close, onward, is_complete, complete_in}
use Rattle.grammar.specs.Lookahead.{Policy, Look, in_lookahead}
use Rattle.grammar.specs.States.{items_of, number_of}
use Rattle.grammar.specs.Build.{Act, nothing, shift, conflict, beside, reduce_by, with_reduces, act_at}
use Rattle.grammar.specs.Meaning.{Holds, after, Closed, Move, shifts, accepts, reduces, Applies, reads as byRead, looks as byLook, ends as byEnd}
use Rattle.grammar.specs.Laws.{Shaped, ClosingMeans, ReadsMean, ExpansionMeans, move_of, Sole}
use Rattle.grammar.specs.Rounds.{In}
use Rattle.grammar.specs.Listed.{kept_from, kept_has, counted_from, counted_has}

-- where equations clash
pub clash : {A : Type 0} → ◌≡◌ {A = ℕ} 0 1 → A
clash e = absurd (omega arith)

-- Lists of numbers without repetition.

abbrev pub Unlike : List ℕ → Type 0
Unlike [] = Unit {0}
Unlike (r ∷ rs) = ((q : ℕ) → In q rs → q ≡ r → ⊥) × Unlike rs

keep_unlike : (p : ℕ → Bool) (rs : List ℕ) → Unlike rs → Unlike (keep p rs)
keep_unlike p [] u = tt
keep_unlike p (q ∷ rs) u = go (p q) (keep_unlike p rs u.1)
  where
    go : (c : Bool) → Unlike (keep p rs) → Unlike (elim c [ true ↦ q ∷ keep p rs | false ↦ keep p rs ])
    go true more = (λ r i. u.0 r (kept_from p rs r i).0, more)
    go false more = more

up_unlike : (k n : ℕ) → Unlike (up_from k n)
up_unlike k zero = tt
up_unlike k (suc n) = (λ q i e. let h = counted_from (suc k) n q i in omega arith, up_unlike (suc k) n)

-- Moves. The outer rule accepts, any other is reduced by.

abbrev move_by : ℕ → Move
move_by zero = accepts
move_by (suc r) = reduces (suc r)

move_of_lem : (r : ℕ) → move_of (reduce_by r) ≡ Some (move_by r)
move_of_lem zero = refl
move_of_lem (suc r) = refl

move_apart : (r q : ℕ) → (r ≡ q → ⊥) → move_by r ≡ move_by q → ⊥
move_apart zero zero d e = d refl
move_apart zero (suc q) d e = clash (cc)
move_apart (suc r) zero d e = clash (cc)
move_apart (suc r) (suc q) d e = d (cc)

read_apart : (r : ℕ) → shifts ≡ move_by r → ⊥
read_apart zero e = clash (cc)
read_apart (suc r) e = clash (cc)

-- Complete rules that look at x act beside what is read.

module _ (look : Look) (x : ℕ) where
  abbrev pub Looks : List ℕ → ℕ → Type 0
  Looks rs r = In r rs × (in_lookahead look r x ≡ true)

  conflict_stays : (rs : List ℕ) → with_reduces look x rs conflict ≡ conflict
  conflict_stays [] = refl
  conflict_stays (r ∷ rs) = go (in_lookahead look r x) (conflict_stays rs)
    where
      go : (c : Bool) → with_reduces look x rs conflict ≡ conflict → with_reduces look x rs (elim c [ true ↦ conflict | false ↦ conflict ]) ≡ conflict
      go true e = e
      go false e = e

  -- where the first rule does not look, one that looks stands behind it
  behind : (q r : ℕ) (rs : List ℕ) → in_lookahead look q x ≡ false → Looks (q ∷ rs) r → Looks rs r
  behind q r rs e (inl h, l) = let f : in_lookahead look q x ≡ true = subst (λ z. in_lookahead look z x ≡ true) h l in clash (cc)
  behind q r rs e (inr i, l) = (i, l)

  -- an action beside which no other may stand: it stays, and no rule looks, or there is a conflict, and one does
  beside_one : (a : Act) → ((b : Act) → beside a b ≡ conflict) → (rs : List ℕ)
      → ((with_reduces look x rs a ≡ a) × ((r : ℕ) → Looks rs r → ⊥)) ⊎ ((with_reduces look x rs a ≡ conflict) × (r : ℕ) × Looks rs r)
  beside_one a full [] = inl (refl, λ r l. l.0)
  beside_one a full (q ∷ rs) = go (in_lookahead look q x) refl (beside_one a full rs)
    where
      go : (c : Bool) → in_lookahead look q x ≡ c
          → ((with_reduces look x rs a ≡ a) × ((r : ℕ) → Looks rs r → ⊥)) ⊎ ((with_reduces look x rs a ≡ conflict) × (r : ℕ) × Looks rs r)
          → ((with_reduces look x rs (elim c [ true ↦ beside a (reduce_by q) | false ↦ a ]) ≡ a) × ((r : ℕ) → Looks (q ∷ rs) r → ⊥))
          ⊎ ((with_reduces look x rs (elim c [ true ↦ beside a (reduce_by q) | false ↦ a ]) ≡ conflict) × (r : ℕ) × Looks (q ∷ rs) r)
      go true e more = inr (ap (with_reduces look x rs) (full (reduce_by q)) ∙ conflict_stays rs, q, (inl refl, e))
      go false e (inl (s, n)) = inl (s, λ r l. n r (behind q r rs e l))
      go false e (inr (s, r, l)) = inr (s, r, (inr l.0, l.1))

  reduce_full : (r : ℕ) (b : Act) → beside (reduce_by r) b ≡ conflict
  reduce_full zero b = refl
  reduce_full (suc r) b = refl

  -- what the rules come to where nothing is read
  data Rules (rs : List ℕ) (a : Act) : Type 0 where
    none : a ≡ nothing → ((r : ℕ) → Looks rs r → ⊥) → Rules rs a
    one : (r : ℕ) → a ≡ reduce_by r → Looks rs r → ((q : ℕ) → Looks rs q → q ≡ r) → Rules rs a
    two : a ≡ conflict → (r q : ℕ) → (r ≡ q → ⊥) → Looks rs r → Looks rs q → Rules rs a

  beside_none : (rs : List ℕ) → Unlike rs → Rules rs (with_reduces look x rs nothing)
  beside_none [] u = none refl (λ r l. l.0)
  beside_none (q ∷ rs) u = go (in_lookahead look q x) refl (beside_none rs u.1)
    where
      go : (c : Bool) → in_lookahead look q x ≡ c → Rules rs (with_reduces look x rs nothing) → Rules (q ∷ rs) (with_reduces look x rs (elim c [ true ↦ reduce_by q | false ↦ nothing ]))
      go true e more =
          elim (beside_one (reduce_by q) (reduce_full q) rs) [
            | inl (s, n) ↦ one q s (inl refl, e) (λ r l. elim l.0 [ inl h ↦ h | inr i ↦ absurd (n r (i, l.1)) ])
            | inr (s, r, l) ↦ two s r q (u.0 r l.0) (inr l.0, l.1) (inl refl, e)
          ]
      go false e (none s n) = none s (λ r l. n r (behind q r rs e l))
      go false e (one r s l n) = one r s (inr l.0, l.1) (λ p m. n p (behind q p rs e m))
      go false e (two s r p d l m) = two s r p d (inr l.0, l.1) (inr m.0, m.1)

  -- what reading and the rules come to, where reading goes to state k
  pub data Outcome (read : Bool) (k : ℕ) (rs : List ℕ) (a : Act) : Type 0 where
    idle : a ≡ nothing → read ≡ false → ((r : ℕ) → Looks rs r → ⊥) → Outcome read k rs a
    moves : a ≡ shift k → read ≡ true → ((r : ℕ) → Looks rs r → ⊥) → Outcome read k rs a
    rule : (r : ℕ) → a ≡ reduce_by r → read ≡ false → Looks rs r → ((q : ℕ) → Looks rs q → q ≡ r) → Outcome read k rs a
    read_clash : a ≡ conflict → read ≡ true → (r : ℕ) → Looks rs r → Outcome read k rs a
    rule_clash : a ≡ conflict → (r q : ℕ) → (r ≡ q → ⊥) → Looks rs r → Looks rs q → Outcome read k rs a

  outcome : (read : Bool) (k : ℕ) (rs : List ℕ) → Unlike rs → Outcome read k rs (with_reduces look x rs (elim read [ true ↦ shift k | false ↦ nothing ]))
  outcome true k rs u = elim (beside_one (shift k) (λ b. refl) rs) [ inl (s, n) ↦ moves s refl n | inr (s, r, l) ↦ read_clash s refl r l ]
  outcome false k rs u = elim (beside_none rs u) [ none s n ↦ idle s refl n | one r s l n ↦ rule r s refl l n | two s r q d l m ↦ rule_clash s r q d l m ]

  -- that a relation on moves is what is read and looked at
  pub record Tells (read : Bool) (rs : List ℕ) (Does : Move → Type 0) : Type 0 where
    pub reading : Does shifts ↔ (read ≡ true)
    pub looking : (r : ℕ) → Does (move_by r) ↔ Looks rs r
    pub never : Does (reduces 0) → ⊥

  module _ {read : Bool} {rs : List ℕ} {Does : Move → Type 0} (tells : Tells read rs Does) where
    rule_only : (r : ℕ) → read ≡ false → ((q : ℕ) → Looks rs q → q ≡ r) → (m : Move) → Does m → m ≡ move_by r
    rule_only r e n shifts d = let f = tells.reading.0 d in cc
    rule_only r e n accepts d = ap move_by (n 0 ((tells.looking 0).0 d))
    rule_only r e n (reduces zero) d = absurd (tells.never d)
    rule_only r e n (reduces (suc q)) d = ap move_by (n (suc q) ((tells.looking (suc q)).0 d))

    read_only : ((q : ℕ) → Looks rs q → ⊥) → (m : Move) → Does m → (m ≡ shifts) × (read ≡ true)
    read_only n shifts d = (refl, tells.reading.0 d)
    read_only n accepts d = absurd (n 0 ((tells.looking 0).0 d))
    read_only n (reduces zero) d = absurd (tells.never d)
    read_only n (reduces (suc q)) d = absurd (n (suc q) ((tells.looking (suc q)).0 d))

    -- without a conflict the action is the move that is made
    pub made : {k : ℕ} (a : Act) → Outcome read k rs a → (a ≡ conflict → ⊥) → (m : Move) → move_of a ≡ Some m → Does m
    made a (idle s e n) c m h = let z : None ≡ Some m = ap move_of (sym s) ∙ h in clash (cc)
    made a (moves s e n) c m h =
        let f : Some shifts ≡ Some m = ap move_of (sym s) ∙ h in
        let g : shifts ≡ m = cc in
        subst Does g (tells.reading.1 e)
    made a (rule r s e l n) c m h =
        let f : Some (move_by r) ≡ Some m = sym (move_of_lem r) ∙ ap move_of (sym s) ∙ h in
        let g : move_by r ≡ m = cc in
        subst Does g ((tells.looking r).1 l)
    made a (read_clash s e r l) c m h = absurd (c s)
    made a (rule_clash s r q d l o) c m h = absurd (c s)

    pub sole_made : {k : ℕ} (a : Act) → Outcome read k rs a → (a ≡ conflict → ⊥) → (m : Move) → Does m → move_of a ≡ Some m
    sole_made a (idle s e n) c m d = let h = read_only n m d in let f : read ≡ true = h.1 in cc
    sole_made a (moves s e n) c m d = let h : m ≡ shifts = (read_only n m d).0 in ap move_of s ∙ ap Some (sym h)
    sole_made a (rule r s e l n) c m d = let h : m ≡ move_by r = rule_only r e n m d in ap move_of s ∙ move_of_lem r ∙ ap Some (sym h)
    sole_made a (read_clash s e r l) c m d = absurd (c s)
    sole_made a (rule_clash s r q u l o) c m d = absurd (c s)

    -- a shift goes over what is read, to the state that reading goes to
    pub shift_made : {k : ℕ} (a : Act) → Outcome read k rs a → (n : ℕ) → a ≡ shift n → (read ≡ true) × (n ≡ k)
    shift_made a (idle s e n) j h = clash (cc)
    shift_made a (moves s e n) j h = (e, cc)
    shift_made a (rule zero s e l n) j h = clash (cc)
    shift_made a (rule (suc r) s e l n) j h = clash (cc)
    shift_made a (read_clash s e r l) j h = clash (cc)
    shift_made a (rule_clash s r q d l o) j h = clash (cc)

    -- with a conflict two different moves are made
    pub two_made : {k : ℕ} (a : Act) → Outcome read k rs a → a ≡ conflict → (one other : Move) × (one ≡ other → ⊥) × Does one × Does other
    two_made a (idle s e n) c = clash (cc)
    two_made a (moves s e n) c = clash (cc)
    two_made a (rule zero s e l n) c = clash (cc)
    two_made a (rule (suc r) s e l n) c = clash (cc)
    two_made a (read_clash s e r l) c = (shifts, move_by r, read_apart r, tells.reading.1 e, (tells.looking r).1 l)
    two_made a (rule_clash s r q d l o) c = (move_by r, move_by q, move_apart r q d, (tells.looking r).1 l, (tells.looking q).1 o)

-- The laws.

-- a rule is complete where an item of it has nothing behind its dot
abbrev pub CompleteMeans : Type 0
CompleteMeans = (rules : List Production) (items : Items) → Shaped rules items → (r : ℕ)
    → (is_complete (numbered rules) items r ≡ true) ↔ ((d : ℕ) × Holds items r d × (after rules r d ≡ []))

module _ (closing_means : ClosingMeans) (reads_mean : ReadsMean) (expansion_means : ExpansionMeans) (complete_means : CompleteMeans)
    (rules : List Production) (bounded : all_bounded rules ≡ true) (policy : Policy) (k : Items) (shaped : Shaped rules k) (x : ℕ) where
  abbrev closed_items : Items
  closed_items = close (numbered rules) k

  abbrev looked : Look
  looked = policy (relations_of rules) closed_items

  abbrev all_items : Items
  all_items = items_of policy (relations_of rules) k

  -- a complete rule of the closed kernel is in the list of them
  complete_in_lem : (r d : ℕ) → Closed rules (Holds k) r d → after rules r d ≡ [] → In r (complete_in (numbered rules) closed_items)
  complete_in_lem r d c e =
      let (shape, means) = closing_means rules bounded k shaped in
      let h : Holds closed_items r d = (means r d).1 c in
      let l : r < length (numbered rules) = elim (cases_lt r (length closed_items)) [
        | inl l ↦ subst (λ n. r < n) shape.rows l
        | inr g ↦ let f : has (get_or closed_items r []) d ≡ has [] d = ap (λ row. has row d) (get_or_past closed_items r [] g) in clash (cc)
      ] in
      kept_has (is_complete (numbered rules) closed_items) (up_from 0 (length (numbered rules))) r (counted_has 0 (length (numbered rules)) r (omega arith) (omega arith))
      ((complete_means rules closed_items shape r).1 (d, h, e))

  complete_from : (r : ℕ) → In r (complete_in (numbered rules) closed_items) → (r ≤ length rules) × (d : ℕ) × Closed rules (Holds k) r d × (after rules r d ≡ [])
  complete_from r i =
      let (shape, means) = closing_means rules bounded k shaped in
      let (j, e) = kept_from (is_complete (numbered rules) closed_items) (up_from 0 (length (numbered rules))) r i in
      let (d, h, f) = (complete_means rules closed_items shape r).0 e in
      let l = counted_from 0 (length (numbered rules)) r j in
      (omega arith, d, (means r d).0 h, f)

  -- what applies is what is read and looked at
  tells : Tells looked x (has (reads (numbered rules) all_items) x) (complete_in (numbered rules) closed_items) (Applies rules (Holds k) looked x)
  tells = record { reading = (read_from, read_to); looking = λ r. (look_from r, look_to r); never = λ a. none_by a }
    where
      read_from : Applies rules (Holds k) looked x shifts → has (reads (numbered rules) all_items) x ≡ true
      read_from (byRead {r} {d} {ws} h e) =
          let (shape, means) = expansion_means rules bounded looked k shaped in
          (reads_mean rules bounded all_items shape x).1 (r, d, ws, (means r d).1 h, e)

      read_to : has (reads (numbered rules) all_items) x ≡ true → Applies rules (Holds k) looked x shifts
      read_to e =
          let (shape, means) = expansion_means rules bounded looked k shaped in
          let (r, d, ws, h, f) = (reads_mean rules bounded all_items shape x).0 e in
          byRead ((means r d).0 h) f

      look_from : (r : ℕ) → Applies rules (Holds k) looked x (move_by r) → Looks looked x (complete_in (numbered rules) closed_items) r
      look_from zero (byEnd {d} c e z) = (complete_in_lem 0 d c e, eq-eqb x 0 z)
      look_from (suc r) (byLook {d = d} c e b l) = (complete_in_lem (suc r) d c e, l)

      look_to : (r : ℕ) → Looks looked x (complete_in (numbered rules) closed_items) r → Applies rules (Holds k) looked x (move_by r)
      look_to zero (i, l) = let (h, d, c, e) = complete_from 0 i in byEnd c e (eqb-true x 0 l)
      look_to (suc r) (i, l) = let (h, d, c, e) = complete_from (suc r) i in byLook c e (record { low = omega arith; high = h }) l

      none_by : Applies rules (Holds k) looked x (reduces 0) → ⊥
      none_by (byLook c e b l) = let h = b.low in omega arith

  module _ (kernels : List Items) where
    abbrev act : Act
    act = act_at (numbered rules) kernels looked (complete_in (numbered rules) closed_items) all_items (reads (numbered rules) all_items) x

    acts : Outcome looked x (has (reads (numbered rules) all_items) x) (number_of kernels (onward x (numbered rules) all_items)) (complete_in (numbered rules) closed_items) act
    acts =
        outcome looked x (has (reads (numbered rules) all_items) x) (number_of kernels (onward x (numbered rules) all_items)) (complete_in (numbered rules) closed_items)
        (keep_unlike (is_complete (numbered rules) closed_items) (up_from 0 (length (numbered rules))) (up_unlike 0 (length (numbered rules))))

    pub sole_at : (act ≡ conflict → ⊥) → Sole rules policy k x act
    sole_at c = record { clear = c; applies = made looked x tells act acts c; only = sole_made looked x tells act acts c }

    pub conflict_at : act ≡ conflict
        → (one other : Move) × (one ≡ other → ⊥) × Applies rules (Holds k) looked x one × Applies rules (Holds k) looked x other
    conflict_at c = two_made looked x tells act acts c

    pub shift_at : (n : ℕ) → act ≡ shift n → (has (reads (numbered rules) all_items) x ≡ true) × (n ≡ number_of kernels (onward x (numbered rules) all_items))
    shift_at n e = shift_made looked x tells act acts n e

-- where the table is clear no two moves apply
pub sole_alone : {rules : List Production} {policy : Policy} {k : Items} {x : ℕ} {a : Act} → Sole rules policy k x a → (m n : Move)
    → Applies rules (Holds k) (policy (relations_of rules) (close (numbered rules) k)) x m → Applies rules (Holds k) (policy (relations_of rules) (close (numbered rules) k)) x n → m ≡ n
sole_alone sole m n p q = let e = sole.only m p in let f = sole.only n q in cc
