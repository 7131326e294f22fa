-- Legal histories: their beginnings, their entries, one entry more, and their length.
use Rattle.std.proofs.Common.{◌≡◌, ℕ, zero, suc, ◌*◌, ◌<◌, ◌≤◌, List, [], ◌∷◌, ◌++◌, length, get_or, refl, sym, ap, ◌∙◌, subst, arith, inl, inr, ⊎_elim, All}
use Rattle.std.proofs.Common.{AllPairs, IsTrue, length-append}
use Rattle.std.proofs.Math.ListN.{get_or-append}
use Rattle.std.proofs.lemmas.List.Elements.{All-push}
use Rattle.std.proofs.lemmas.List.Quantifiers.{all_pairs_push}
use Rattle.dt_model.specs.declared.calls.Entry.{Entry}
use Rattle.dt_model.specs.declared.declared_tensors.Decls.{Decls}
use Rattle.dt_model.specs.Runs.{IsLegal, IsInScriptOrder}
use Rattle.dt_model.specs.Verdicts.{call_is_valid}
use Rattle.dt_model.proofs.OrderLengths.{length-IsLegal}
use Rattle.fiber_latch.specs.declared.view.TableConfig.{TableConfig}
use Rattle.fiber_latch.specs.Views.{In, IsLawful}

-- ---- elements by their places

-- the last element of a list that got one more
pub last_at : {A : Type 0} (xs : List A) (n : ℕ) (y d : A) → length xs ≡ n → get_or (xs ++ y ∷ []) n d ≡ y
last_at [] zero y d e = refl
last_at [] (suc n) y d e = absurd (omega arith)
last_at (x ∷ xs) zero y d e = absurd (omega arith)
last_at (x ∷ xs) (suc n) y d e = last_at xs n y d (omega arith)

-- an element has a place
pub in_place : {A : Type 0} (e : A) (xs : List A) → In e xs → (i : ℕ) × (i < length xs) × (get_or xs i e ≡ e)
in_place e [] i = absurd i
in_place e (x ∷ xs) i = ⊎_elim (λ (q : e ≡ x). (0, omega arith, sym q)) (λ (j : In e xs). let r = in_place e xs j in let b = r.1 in (
  suc r.0,
  omega arith,
  r.2,
)) i

-- what is at a place is an element
pub place_in : {A : Type 0} (xs : List A) (i : ℕ) (d : A) → i < length xs → In (get_or xs i d) xs
place_in [] i d b = absurd (omega arith)
place_in (x ∷ xs) zero d b = inl refl
place_in (x ∷ xs) (suc i) d b = inr (place_in xs i d (omega arith))

-- what is true of all is true of an element
pub all_in : {A : Type 0} (P : A → Type 0) (xs : List A) (e : A) → All P xs → In e xs → P e
all_in P xs e all i = let p = in_place e xs i in subst P p.2 (all p.0 e p.1)

-- what is true of each element is true of all
pub in_all : {A : Type 0} (P : A → Type 0) (xs : List A) → ((e : A) → In e xs → P e) → All P xs
in_all P xs each i d b = each (get_or xs i d) (place_in xs i d b)

all_front : {A : Type 0} (P : A → Type 0) (xs ys : List A) → All P (xs ++ ys) → All P xs
all_front P xs ys all i d b = subst P (get_or-append xs ys d i b) (all i d (let e = length-append xs ys in omega arith))

pairs_front : {A : Type 0} (R : A → A → Type 0) (xs ys : List A) → AllPairs R (xs ++ ys) → AllPairs R xs
pairs_front R xs ys all i j d lt b = subst (λ (p : _ × _). R p.0 p.1) (λ k. (
  get_or-append xs ys d i (omega arith) k,
  get_or-append xs ys d j b k,
)) (all i j d lt (let e = length-append xs ys in omega arith))

-- ---- legal histories

-- no entry is a legal history
pub lawful_none : (config : TableConfig) → IsLawful config []
lawful_none config = record {
  sessions = λ i d b. absurd (omega arith);
  numbers = λ i d b. absurd (omega arith);
  calls = λ i d b. absurd (omega arith);
  rising = λ i j d lt b. absurd (omega arith);
}

-- a beginning of a legal history is legal
pub lawful_front : (config : TableConfig) (xs ys : List Entry) → IsLawful config (xs ++ ys) → IsLawful config xs
lawful_front config xs ys law = record {
  sessions = all_front (λ e. (1 ≤ e.turn.session) × (e.turn.session ≤ config.sessions)) xs ys law.sessions;
  numbers = all_front (λ e. (1 ≤ e.turn.number) × (e.turn.number ≤ config.calls)) xs ys law.numbers;
  calls = all_front (λ e. IsTrue (call_is_valid config.world.decls e.call)) xs ys law.calls;
  rising = pairs_front IsInScriptOrder xs ys law.rising;
}

-- each entry of a legal history is of one of the sessions
pub lawful_sessions : (config : TableConfig) (H : List Entry) (e : Entry) → IsLawful config H → In e H
    → (1 ≤ e.turn.session) × (e.turn.session ≤ config.sessions)
lawful_sessions config H e law i = all_in (λ e. (1 ≤ e.turn.session) × (e.turn.session ≤ config.sessions)) H e law.sessions i

-- one entry more, of a number above each of its session
pub lawful_push : (config : TableConfig) (H : List Entry) (e : Entry) → (1 ≤ e.turn.session) × (e.turn.session ≤ config.sessions)
    → (1 ≤ e.turn.number) × (e.turn.number ≤ config.calls) → IsTrue (call_is_valid config.world.decls e.call)
    → All (λ f. f.turn.session ≡ e.turn.session → f.turn.number < e.turn.number) H → IsLawful config H → IsLawful config (H ++ e ∷ [])
lawful_push config H e session number valid above law = record {
  sessions = All-push (λ e. (1 ≤ e.turn.session) × (e.turn.session ≤ config.sessions)) H e law.sessions session;
  numbers = All-push (λ e. (1 ≤ e.turn.number) × (e.turn.number ≤ config.calls)) H e law.numbers number;
  calls = All-push (λ e. IsTrue (call_is_valid config.world.decls e.call)) H e law.calls valid;
  rising = all_pairs_push IsInScriptOrder H e law.rising (λ k d b. above k d b);
}

-- ---- their numbers, and their length

-- the entry's session and number are within the limits
abbrev pub InRange : ℕ → ℕ → Entry → Type 0
InRange k n e = (0 < e.turn.session) × (e.turn.session ≤ k) × (0 < e.turn.number) × (e.turn.number ≤ n)

-- legal, entry by entry
abbrev pub Rising : ℕ → ℕ → List Entry → Type 0
Rising k n [] = Unit {0}
Rising k n (e ∷ es) = InRange k n e × ((d : Entry) → In d es → d.turn.session ≡ e.turn.session → e.turn.number < d.turn.number) × Rising k n es

-- a legal history, read entry by entry
pub rising_of : (k n : ℕ) (d : Decls) (H : List Entry) → IsLegal d k n H → Rising k n H
rising_of k n decls [] law = tt
rising_of k n decls (e ∷ es) law =
    let s = law.sessions 0 e (omega arith) in let m = law.numbers 0 e (omega arith) in (
      (s.0, s.1, m.0, m.1),
      (λ d i q. let p = in_place d es i in subst (λ (x : Entry). e.turn.number < x.turn.number) p.2
          (law.rising 0 (suc p.0) d (omega arith) (let b = p.1 in omega arith) (sym (ap (λ (x : Entry). x.turn.session) p.2 ∙ q)))),
      rising_of k n decls es record {
        sessions = λ i d b. law.sessions (suc i) d (omega arith);
        numbers = λ i d b. law.numbers (suc i) d (omega arith);
        calls = λ i d b. law.calls (suc i) d (omega arith);
        rising = λ i j d lt b. law.rising (suc i) (suc j) d (omega arith) (omega arith);
      },
    )

-- a legal history has at most n entries of each session
pub lawful_length : (config : TableConfig) (H : List Entry) → IsLawful config H → length H ≤ config.sessions * config.calls
lawful_length config H law = length-IsLegal config.world.decls config.sessions config.calls H law
