-- The law of every source, for each: all its words are terminals.
use Rattle.std.specs.Prelude.{◌≡◌, ℕ, ◌+◌, Bool, true, false, cond, List, [], ◌∷◌, drop, ◌==◌, slice_index, refl}
use Rattle.std.proofs.lemmas.Bool.{and_parts, and_from}
use Rattle.book.specs.Symbols.{is_terminal}
use Rattle.source.specs.Streams.{Token, clean, fault, ends, before, without, all_terminals}
use Rattle.source.specs.Texts.{text_from}
use Rattle.source.specs.Tapes.{tape_from, other_kind, word_kind, end_kind}
use Rattle.source.specs.States.{tape_means}
use Rattle.source.specs.declared.tapes.State.{State}
use Rattle.source.specs.declared.tapes.State.TheVariants.{Open, Ended, Faulted}

pub text_terminals : (letters : List ℕ) (p : ℕ) (bytes : List ℕ) → all_terminals (text_from letters p bytes).tokens ≡ true
text_terminals letters p [] = refl
text_terminals letters p (b ∷ bytes) = go (is_terminal (slice_index letters b)) refl (text_terminals letters (p + 1) bytes)
  where
    go : (t : Bool) → is_terminal (slice_index letters b) ≡ t → all_terminals (text_from letters (p + 1) bytes).tokens ≡ true
        → all_terminals (cond t (before (record { symbol = slice_index letters b; position = p }) (text_from letters (p + 1) bytes)) (ends (fault 1 p))).tokens ≡ true
    go false e rest = refl
    go true e rest = and_from _ _ e rest

other_terminals : (p kind : ℕ) → all_terminals (other_kind p kind).tokens ≡ true
other_terminals p kind = go (kind == end_kind)
  where
    go : (t : Bool) → all_terminals (cond t (ends (clean p)) (ends (fault 2 p))).tokens ≡ true
    go true = refl
    go false = refl

records_terminals : (p : ℕ) (bytes : List ℕ) → all_terminals (tape_from p bytes).tokens ≡ true
records_terminals p [] = refl
records_terminals p (kind ∷ []) = go (kind == word_kind)
  where
    go : (t : Bool) → all_terminals (cond t (ends (fault 4 p)) (other_kind p kind)).tokens ≡ true
    go true = refl
    go false = other_terminals p kind
records_terminals p (kind ∷ x ∷ bytes) = go (kind == word_kind) (is_terminal x) refl (records_terminals (p + 2) bytes)
  where
    go : (t u : Bool) → is_terminal x ≡ u → all_terminals (tape_from (p + 2) bytes).tokens ≡ true
        → all_terminals (cond t (cond u (before (record { symbol = x; position = p }) (tape_from (p + 2) bytes)) (ends (fault 3 p))) (other_kind p kind)).tokens ≡ true
    go true true e rest = and_from _ _ e rest
    go true false e rest = refl
    go false u e rest = other_terminals p kind

pub tape_terminals : (s : State) (bytes : List ℕ) (p : ℕ) → all_terminals (tape_means s bytes p).tokens ≡ true
tape_terminals Open bytes p = records_terminals p (drop p bytes)
tape_terminals Ended bytes p = refl
tape_terminals (Faulted f) bytes p = refl

pub without_terminals : (k : ℕ) (ts : List Token) → all_terminals ts ≡ true → all_terminals (without k ts) ≡ true
without_terminals k [] a = refl
without_terminals k (t ∷ ts) a =
    let p = and_parts (is_terminal t.symbol) (all_terminals ts) a in
    go (t.symbol == k) p.0 (without_terminals k ts p.1)
  where
    go : (b : Bool) → is_terminal t.symbol ≡ true → all_terminals (without k ts) ≡ true → all_terminals (cond b (without k ts) (t ∷ without k ts)) ≡ true
    go true e rest = rest
    go false e rest = and_from _ _ e rest
