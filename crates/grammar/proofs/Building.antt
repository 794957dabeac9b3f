-- What each answer of a build says: the tables that are granted, too many states, or the lowest conflict.
use Rattle.std.proofs.Common.{◌≡◌, ℕ, zero, suc, ◌+◌, ◌<◌, ◌≤◌, Bool, true, false, leb, ◌↔◌, List, [], ◌∷◌, map, length, get_or, Some, None, Option, sym, refl, ap, ◌∙◌, subst, arith}
use lib.ListN.{length-map}
use Rattle.std.proofs.lemmas.Bool.{leb-true, leb-false, lt-leb}
use Rattle.std.proofs.lemmas.List.{get_or-map}
use Rattle.book.specs.Answers.{Answer, granted, refused, no}
use Rattle.book.specs.Rules.{Production, all_bounded}
use Rattle.grammar.specs.Sets.{symbol_count, codes, up_from}
use Rattle.grammar.specs.Numbered.{numbered}
use Rattle.grammar.specs.Relations.{relations_of}
use Rattle.grammar.specs.Useful.{useless_in}
use Rattle.grammar.specs.Items.{Items, reads, close, onward, complete_in}
use Rattle.grammar.specs.Lookahead.{Policy}
use Rattle.grammar.specs.States.{items_of, kernels_of, most_states}
use Rattle.grammar.specs.Build.{Act, nothing, accept, shift, reduce, conflict, act_at, row_of, rows_of, is_conflict, conflict_in, conflict_from, build_says}
use Rattle.grammar.specs.Meaning.{Holds, Move, Applies}
use Rattle.grammar.specs.Laws.{ClosingMeans, ReadsMean, ExpansionMeans, StatesMean, NumbersStates, following, Sole, TablesMean, LowestConflict, BuildMeans}
use Rattle.grammar.proofs.Choosing.{clash, CompleteMeans, sole_at, conflict_at, shift_at, sole_alone}

-- The lowest conflict of a row.

conflict_is : (a : Act) → is_conflict a ≡ true → a ≡ conflict
conflict_is nothing e = cc
conflict_is accept e = cc
conflict_is (shift k) e = cc
conflict_is (reduce r) e = cc
conflict_is conflict e = refl

clear_is : (a : Act) → is_conflict a ≡ false → a ≡ conflict → ⊥
clear_is a e f = let g : is_conflict a ≡ true = ap is_conflict f in clash (cc)

-- no act of the row below n is a conflict
abbrev Clear : List Act → ℕ → Type 0
Clear row n = (x : ℕ) → x < n → is_conflict (get_or row x nothing) ≡ false

clear_more : (a : Act) (row : List Act) (n : ℕ) → is_conflict a ≡ false → Clear row n → Clear (a ∷ row) (suc n)
clear_more a row n e c zero h = e
clear_more a row n e c (suc x) h = c x (omega arith)

row_clear : (x : ℕ) (row : List Act) → conflict_in x row ≡ None → Clear row (length row)
row_clear x [] e = λ y h. absurd (omega arith)
row_clear x (a ∷ row) e = go (is_conflict a) refl e (row_clear (suc x) row)
  where
    go : (c : Bool) → is_conflict a ≡ c → ◌≡◌ {A = Option ℕ} (elim c [ true ↦ Some x | false ↦ conflict_in (suc x) row ]) None
        → (conflict_in (suc x) row ≡ None → Clear row (length row)) → Clear (a ∷ row) (suc (length row))
    go true f h more = clash (cc)
    go false f h more = clear_more a row (length row) f (more h)

-- y is the number of the lowest conflict of a row whose acts have numbers from x up
record Lowest (x : ℕ) (row : List Act) (y : ℕ) : Type 0 where
  place : ℕ
  is : y ≡ x + place
  inside : place < length row
  here : is_conflict (get_or row place nothing) ≡ true
  lower : Clear row place

row_lowest : (x : ℕ) (row : List Act) (y : ℕ) → conflict_in x row ≡ Some y → Lowest x row y
row_lowest x [] y e = clash (cc)
row_lowest x (a ∷ row) y e = go (is_conflict a) refl e (row_lowest (suc x) row y)
  where
    go : (c : Bool) → is_conflict a ≡ c → elim c [ true ↦ Some x | false ↦ conflict_in (suc x) row ] ≡ Some y → (conflict_in (suc x) row ≡ Some y → Lowest (suc x) row y) → Lowest x (a ∷ row) y
    go true f h more = let g : x ≡ y = cc in record { place = 0; is = omega arith; inside = omega arith; here = f; lower = λ z l. absurd (omega arith) }
    go false f h more =
        let l = more h in
        let g = l.is in
        record { place = suc l.place; is = omega arith; inside = omega arith; here = l.here; lower = clear_more a row l.place f l.lower }

-- The lowest state with a conflict.

-- no row below n has a conflict
abbrev ClearRows : List (List Act) → ℕ → Type 0
ClearRows rows n = (s : ℕ) → s < n → Clear (get_or rows s []) (length (get_or rows s []))

clear_rows_more : (row : List Act) (rows : List (List Act)) (n : ℕ) → Clear row (length row) → ClearRows rows n → ClearRows (row ∷ rows) (suc n)
clear_rows_more row rows n c more zero h = c
clear_rows_more row rows n c more (suc s) h = more s (omega arith)

rows_clear : (s : ℕ) (rows : List (List Act)) → conflict_from s rows ≡ None → ClearRows rows (length rows)
rows_clear s [] e = λ t h. absurd (omega arith)
rows_clear s (row ∷ rows) e = go (conflict_in 0 row) refl e (rows_clear (suc s) rows)
  where
    go : (o : Option ℕ) → conflict_in 0 row ≡ o → ◌≡◌ {A = Option (ℕ × ℕ)} (elim o [ Some x ↦ Some (s, x) | None ↦ conflict_from (suc s) rows ]) None
        → (conflict_from (suc s) rows ≡ None → ClearRows rows (length rows)) → ClearRows (row ∷ rows) (suc (length rows))
    go (Some x) f h more = clash (cc)
    go None f h more = clear_rows_more row rows (length rows) (row_clear 0 row f) (more h)

-- t is the number of the lowest row with a conflict, in rows with numbers from s up, and y its lowest conflict
record LowestRow (s : ℕ) (rows : List (List Act)) (t y : ℕ) : Type 0 where
  place : ℕ
  is : t ≡ s + place
  inside : place < length rows
  here : Lowest 0 (get_or rows place []) y
  lower : ClearRows rows place

rows_lowest : (s : ℕ) (rows : List (List Act)) (t y : ℕ) → conflict_from s rows ≡ Some (t, y) → LowestRow s rows t y
rows_lowest s [] t y e = clash (cc)
rows_lowest s (row ∷ rows) t y e = go (conflict_in 0 row) refl e (rows_lowest (suc s) rows t y)
  where
    go : (o : Option ℕ) → conflict_in 0 row ≡ o → ◌≡◌ {A = Option (ℕ × ℕ)} (elim o [ Some x ↦ Some (s, x) | None ↦ conflict_from (suc s) rows ]) (Some (t, y))
        → (conflict_from (suc s) rows ≡ Some (t, y) → LowestRow (suc s) rows t y) → LowestRow s (row ∷ rows) t y
    go (Some x) f h more =
        let q : ◌≡◌ {A = ℕ × ℕ} (s, x) (t, y) = cc in
        let g : s ≡ t = ap (λ p. p.0) q in
        let p : x ≡ y = ap (λ p. p.1) q in
        record { place = 0; is = omega arith; inside = omega arith; here = row_lowest 0 row y (f ∙ ap Some p); lower = λ z l. absurd (omega arith) }
    go None f h more =
        let l = more h in
        let g = l.is in
        record { place = suc l.place; is = omega arith; inside = omega arith; here = l.here; lower = clear_rows_more row rows l.place (row_clear 0 row f) l.lower }

-- The answers, in the order of the tests.

abbrev answer : {A : Type 0} → Option ℕ → Bool → Option (ℕ × ℕ) → A → Answer A
answer u c o rows =
    elim u [ Some x ↦ refused (no 7 (x ∷ [])) | None ↦ elim c [ true ↦ elim o [ None ↦ granted rows | Some p ↦ refused (no 9 (p.0 ∷ p.1 ∷ [])) ] | false ↦ refused (no 8 []) ] ]

module _ {A : Type 0} where
  grant_from : (u : Option ℕ) (c : Bool) (o : Option (ℕ × ℕ)) (rows given : A) → answer u c o rows ≡ granted given → (u ≡ None) × (c ≡ true) × (o ≡ None) × (rows ≡ given)
  grant_from (Some x) c o rows given e = clash (cc)
  grant_from None true (Some p) rows given e = clash (cc)
  grant_from None true None rows given e = (refl, refl, refl, cc)
  grant_from None false o rows given e = clash (cc)

  seven_from : (u : Option ℕ) (c : Bool) (o : Option (ℕ × ℕ)) (rows : A) (x : ℕ) → answer u c o rows ≡ refused (no 7 (x ∷ [])) → u ≡ Some x
  seven_from (Some y) c o rows x e = let f : y ≡ x = cc in cc
  seven_from None true (Some p) rows x e = clash (cc)
  seven_from None true None rows x e = clash (cc)
  seven_from None false o rows x e = clash (cc)

  seven_to : (u : Option ℕ) (c : Bool) (o : Option (ℕ × ℕ)) (rows : A) (x : ℕ) → u ≡ Some x → answer u c o rows ≡ refused (no 7 (x ∷ []))
  seven_to u c o rows x e = ap (λ v. answer v c o rows) e

  eight_from : (u : Option ℕ) (c : Bool) (o : Option (ℕ × ℕ)) (rows : A) → answer u c o rows ≡ refused (no 8 []) → (u ≡ None) × (c ≡ false)
  eight_from (Some x) c o rows e = clash (cc)
  eight_from None true (Some p) rows e = clash (cc)
  eight_from None true None rows e = clash (cc)
  eight_from None false o rows e = (refl, refl)

  eight_to : (u : Option ℕ) (c : Bool) (o : Option (ℕ × ℕ)) (rows : A) → u ≡ None → c ≡ false → answer u c o rows ≡ refused (no 8 [])
  eight_to (Some x) c o rows e f = cc
  eight_to None true o rows e f = cc
  eight_to None false o rows e f = refl

  nine_from : (u : Option ℕ) (c : Bool) (o : Option (ℕ × ℕ)) (rows : A) (s x : ℕ) → answer u c o rows ≡ refused (no 9 (s ∷ x ∷ [])) → (u ≡ None) × (c ≡ true) × (o ≡ Some (s, x))
  nine_from (Some y) c o rows s x e = clash (cc)
  nine_from None true (Some (t, y)) rows s x e = let f : t ≡ s = cc in let g : y ≡ x = cc in (refl, refl, cc)
  nine_from None true None rows s x e = clash (cc)
  nine_from None false o rows s x e = clash (cc)

-- What stands in the rows.

up_long : (k n : ℕ) → length (up_from k n) ≡ n
up_long k zero = refl
up_long k (suc n) = ap suc (up_long (suc k) n)

up_at : (k n x : ℕ) → x < n → get_or (up_from k n) x 0 ≡ k + x
up_at k zero x h = absurd (omega arith)
up_at k (suc n) zero h = omega arith
up_at k (suc n) (suc x) h = let e = up_at (suc k) n x (omega arith) in omega arith

code_at : (f : ℕ → Act) (n x : ℕ) → x < n → get_or (map f (up_from 0 n)) x nothing ≡ f x
code_at f n x h = get_or-map f (up_from 0 n) x 0 nothing (let l = up_long 0 n in omega arith) ∙ ap f (let e = up_at 0 n x h in omega arith)

module _ (rules : List Production) (policy : Policy) (ks : List Items) where
  -- the action at x of the state with the kernel k
  abbrev act : Items → ℕ → Act
  act k x =
      act_at (numbered rules) ks (policy (relations_of rules) (close (numbered rules) k)) (complete_in (numbered rules) (close (numbered rules) k))
      (items_of policy (relations_of rules) k) (reads (numbered rules) (items_of policy (relations_of rules) k)) x

  abbrev table : List (List Act)
  table = rows_of policy (relations_of rules) ks

  abbrev entry : ℕ → ℕ → Act
  entry s x = get_or (get_or table s []) x nothing

  table_long : length table ≡ length ks
  table_long = length-map ks (λ k. row_of policy (relations_of rules) ks (close (numbered rules) k))

  row_at : (s : ℕ) → s < length ks → get_or table s [] ≡ map (act (get_or ks s [])) codes
  row_at s h = get_or-map (λ k. row_of policy (relations_of rules) ks (close (numbered rules) k)) ks s [] [] h

  row_long : (s : ℕ) → s < length ks → length (get_or table s []) ≡ symbol_count
  row_long s h = ap length (row_at s h) ∙ length-map codes (act (get_or ks s [])) ∙ up_long 0 symbol_count

  entry_at : (s x : ℕ) → s < length ks → x < symbol_count → entry s x ≡ act (get_or ks s []) x
  entry_at s x h l = ap (λ row. get_or row x nothing) (row_at s h) ∙ code_at (act (get_or ks s [])) symbol_count x l

  abbrev AppliesIn : ℕ → ℕ → Move → Type 0
  AppliesIn s x m = Applies rules (Holds (get_or ks s [])) (policy (relations_of rules) (close (numbered rules) (get_or ks s []))) x m

  -- two moves apply
  abbrev Two : ℕ → ℕ → Type 0
  Two s x = (one other : Move) × (one ≡ other → ⊥) × AppliesIn s x one × AppliesIn s x other

-- The rows of a list that numbers the states.

module _ (closing_means : ClosingMeans) (reads_mean : ReadsMean) (expansion_means : ExpansionMeans) (complete_means : CompleteMeans)
    (rules : List Production) (bounded : all_bounded rules ≡ true) (policy : Policy) (ks : List Items) (numbers : NumbersStates rules policy ks) where
  sole_in : (s x : ℕ) → s < length ks → x < symbol_count → is_conflict (entry rules policy ks s x) ≡ false → Sole rules policy (get_or ks s []) x (entry rules policy ks s x)
  sole_in s x h l clear =
      let e = entry_at rules policy ks s x h l in
      subst (Sole rules policy (get_or ks s []) x) (sym e)
      (sole_at closing_means reads_mean expansion_means complete_means rules bounded policy (get_or ks s []) (numbers.shaped s h) x ks
      (clear_is (act rules policy ks (get_or ks s []) x) (subst (λ a. is_conflict a ≡ false) e clear)))

  two_in : (s x : ℕ) → s < length ks → x < symbol_count → is_conflict (entry rules policy ks s x) ≡ true → Two rules policy ks s x
  two_in s x h l both =
      conflict_at closing_means reads_mean expansion_means complete_means rules bounded policy (get_or ks s []) (numbers.shaped s h) x ks
      (sym (entry_at rules policy ks s x h l) ∙ conflict_is (entry rules policy ks s x) both)

  not_two : (s x : ℕ) → s < length ks → x < symbol_count → is_conflict (entry rules policy ks s x) ≡ false → Two rules policy ks s x → ⊥
  not_two s x h l clear (m, n, d, p, q) = d (sole_alone (sole_in s x h l clear) m n p q)

  -- without a conflict every entry is the move that applies
  all_sole : conflict_from 0 (table rules policy ks) ≡ None → (s x : ℕ) → s < length (table rules policy ks) → x < symbol_count
      → Sole rules policy (get_or ks s []) x (entry rules policy ks s x)
  all_sole none s x h l =
      let long = table_long rules policy ks in
      let m : s < length ks = omega arith in
      let wide = row_long rules policy ks s m in
      sole_in s x m l (rows_clear 0 (table rules policy ks) none s h x (omega arith))

  -- a shift goes to the next state
  all_go : length ks ≤ most_states → (s x k : ℕ) → s < length (table rules policy ks) → x < symbol_count → entry rules policy ks s x ≡ shift k
      → (k < length (table rules policy ks)) × (get_or ks k [] ≡ onward x (numbered rules) (items_of policy (relations_of rules) (get_or ks s [])))
  all_go few s x k h l is =
      let long = table_long rules policy ks in
      let m : s < length ks = omega arith in
      let (r, e) = shift_at closing_means reads_mean expansion_means complete_means rules bounded policy (get_or ks s []) (numbers.shaped s m) x ks k
      (sym (entry_at rules policy ks s x m l) ∙ is) in
      let next : Items = onward x (numbered rules) (items_of policy (relations_of rules) (get_or ks s [])) in
      let (a, b) = subst (λ n. (n < length ks) × (get_or ks n [] ≡ next)) (sym e) (numbers.all few next (following x (numbers.reached s m) r)) in
      (omega arith, b)

  -- the conflict that is found is the lowest
  lowest_two : (s x : ℕ) → conflict_from 0 (table rules policy ks) ≡ Some (s, x)
      → Two rules policy ks s x × ((t y : ℕ) → t < s → y < symbol_count → Two rules policy ks t y → ⊥) × ((y : ℕ) → y < x → Two rules policy ks s y → ⊥)
  lowest_two s x found =
      let long = table_long rules policy ks in
      let low = rows_lowest 0 (table rules policy ks) s x found in
      let e : low.place ≡ s = let p = low.is in omega arith in
      let h : s < length ks = let p = low.inside in omega arith in
      let here : Lowest 0 (get_or (table rules policy ks) s []) x = subst (λ t. Lowest 0 (get_or (table rules policy ks) t []) x) e low.here in
      let wide = row_long rules policy ks s h in
      let f : here.place ≡ x = let p = here.is in omega arith in
      let l : x < symbol_count = let p = here.inside in omega arith in (
        two_in s x h l (subst (λ y. is_conflict (entry rules policy ks s y) ≡ true) f here.here),
        λ t y a b.
            let j : t < length ks = omega arith in
            let w = row_long rules policy ks t j in
            not_two t y j b (low.lower t (omega arith) y (omega arith)),
        λ y a. not_two s y h (omega arith) (here.lower y (omega arith)),
      )

-- The law.

-- refusal 8 is the answer exactly if no symbol is useless and there are too many states
pub eight_exactly : (rules : List Production) (policy : Policy)
    → (build_says policy rules ≡ refused (no 8 [])) ↔ ((useless_in rules ≡ None) × (most_states < length (kernels_of policy (relations_of rules))))
eight_exactly rules policy =
    let ks = kernels_of policy (relations_of rules) in
    let u = useless_in rules in
    let c = leb (length ks) most_states in
    let o = conflict_from 0 (table rules policy ks) in (
      λ e. let (a, b) = eight_from u c o (table rules policy ks) e in (a, leb-false (length ks) most_states b),
      λ h. eight_to u c o (table rules policy ks) h.0 (lt-leb (length ks) most_states h.1),
    )

module _ (closing_means : ClosingMeans) (reads_mean : ReadsMean) (expansion_means : ExpansionMeans) (complete_means : CompleteMeans) (states_mean : StatesMean) where
  granted_means : (rules : List Production) → all_bounded rules ≡ true → (policy : Policy) (rows : List (List Act)) → build_says policy rules ≡ granted rows → TablesMean rules policy rows
  granted_means rules bounded policy rows e =
      let rel = relations_of rules in
      let ks = kernels_of policy rel in
      let numbers = states_mean rules bounded policy in
      let (u, c, o, is) = grant_from (useless_in rules) (leb (length ks) most_states) (conflict_from 0 (table rules policy ks)) (table rules policy ks) rows e in
      let few = leb-true (length ks) most_states c in
      subst (TablesMean rules policy) is
      (record {
        useful = u;
        few = few;
        many = table_long rules policy ks;
        sole = all_sole closing_means reads_mean expansion_means complete_means rules bounded policy ks numbers o;
        goes = all_go closing_means reads_mean expansion_means complete_means rules bounded policy ks numbers few;
      })

  nine_means : (rules : List Production) → all_bounded rules ≡ true → (policy : Policy) (s x : ℕ) → build_says policy rules ≡ refused (no 9 (s ∷ x ∷ [])) → LowestConflict rules policy s x
  nine_means rules bounded policy s x e =
      let rel = relations_of rules in
      let ks = kernels_of policy rel in
      let (u, c, o) = nine_from (useless_in rules) (leb (length ks) most_states) (conflict_from 0 (table rules policy ks)) (table rules policy ks) s x e in
      let (two, state, symbol) = lowest_two closing_means reads_mean expansion_means complete_means rules bounded policy ks (states_mean rules bounded policy) s x o in
      record {
        here = record { one = two.0; other = two.1; apart = two.2; first = two.3; second = two.4 };
        lower_state = λ t y a b k. state t y a b (k.one, k.other, k.apart, k.first, k.second);
        lower_symbol = λ y a k. symbol y a (k.one, k.other, k.apart, k.first, k.second);
      }

  pub build_means : BuildMeans
  build_means rules bounded policy =
      let ks = kernels_of policy (relations_of rules) in
      let u = useless_in rules in
      let c = leb (length ks) most_states in
      let o = conflict_from 0 (table rules policy ks) in
      record {
        grants = granted_means rules bounded policy;
        useless = λ x. (seven_from u c o (table rules policy ks) x, seven_to u c o (table rules policy ks) x);
        many = eight_exactly rules policy;
        useful = λ s x e. (let (a, b, d) = nine_from u c o (table rules policy ks) s x e in (a, leb-true (length ks) most_states b));
        clashes = nine_means rules bounded policy;
      }
