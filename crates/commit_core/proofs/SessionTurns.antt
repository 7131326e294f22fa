-- How sessions stand to the history and to what they have lost.
use Rattle.std.proofs.Common.{◌≡◌, ℕ, ◌<◌, ◌≤◌, ◌++◌, Bool, true, false, List, [], ◌∷◌, refl, ap, sym, ◌∙◌, arith, subst, Some, None, inl, inr}
use Rattle.std.specs.Prelude.{◌⊎◌, ◌≢◌, ◌&&◌, ◌||◌, ◌==◌, All, nat_lt}
use Rattle.std.proofs.lemmas.Bool.{cases_eq, or_cases}
use Rattle.std.proofs.lemmas.Bool.Decides.{nat_tests}
use Rattle.std.proofs.lemmas.List.Elements.{All-push, All-weaker, All-nil, All-head, All-tail}
use Rattle.std.proofs.lemmas.List.Folds.{list_any-append}
use Rattle.dt_model.specs.declared.calls.Call.{Call}
use Rattle.dt_model.specs.declared.calls.Entry.{Entry}
use Rattle.dt_model.specs.declared.calls.Turn.{Turn}
use Rattle.dt_model.specs.declared.replies.World.{World}
use Rattle.dt_model.specs.Runs.{call_of, has_turn, is_turn}
use Rattle.dt_model.specs.Functions.{with_value}
use Rattle.commit_core.proofs.EventsLemmas.{with_value-at}
use Rattle.dt_model.proofs.FunctionsLemmas.{with_value-other}
use Rattle.dt_model.proofs.RunsLemmas.{has_turn-push, has_turn-own}
use Rattle.commit_core.specs.declared.events.Position.{Position}
use Rattle.commit_core.specs.Turns.{is_lost}
use Rattle.commit_core.specs.Events.{position_after}
use Rattle.commit_core.specs.Sound.{IsPast}
use Rattle.commit_core.specs.Invariant.{IsEntered}
use Rattle.commit_core.proofs.CoreSteps.{no_call_zero}
use Rattle.commit_core.proofs.TurnsLemmas.{past_after, none_between, standing_after}

-- entries and lost turns are past, or the current and committed call; no turn is made and lost; each earlier accepted
-- call is one of the two; and each session is at an accepted call or has none left
pub record Turns (w : World) (history : List Entry) (position : ℕ → Position) (lost : List Turn) : Type 0 where
  pub entries : All (λ e. IsEntered (position e.turn.session) e.turn.number) history
  pub quits : All (λ t. IsPast (position t.session) t.number) lost
  pub now : (s : ℕ) → (position s).committed ≡ true → has_turn history s (position s).number ≡ true
  pub once : (s n : ℕ) → has_turn history s n ≡ true → is_lost lost s n ≡ false
  pub settled : (s n : ℕ) (call : Call) → call_of w s n ≡ Some call → IsPast (position s) n → (has_turn history s n || is_lost lost s n) ≡ true
  pub standing : (s : ℕ) → ((position s).number ≡ 0) ⊎ ((call : Call) × (call_of w s (position s).number ≡ Some call))

-- ---- positions

-- a current call has a number
pub has_number : (w : World) (s n : ℕ) (call : Call) → call_of w s n ≡ Some call → n ≢ 0
has_number w s n call e nothing = let no : None ≡ Some call = sym (ap (call_of w s) nothing ∙ no_call_zero w s) ∙ e in cc

past_le : (x : Position) (n : ℕ) → x.number ≢ 0 → IsPast x n → n < x.number
past_le x n some (inl nothing) = absurd (some nothing)
past_le x n some (inr below) = below

entered_le : (x : Position) (n : ℕ) → x.number ≢ 0 → IsEntered x n → n ≤ x.number
entered_le x n some (inl past) = let l = past_le x n some past in omega arith
entered_le x n some (inr here) = let e = here.0 in omega arith

-- what was before an uncommitted call is past
entered_past : (x : Position) (n : ℕ) → x.committed ≡ false → IsEntered x n → IsPast x n
entered_past x n open' (inl past) = past
entered_past x n open' (inr here) = let c : true ≡ false = sym here.1 ∙ open' in cc

-- ---- lists of turns

or_left : (a b : Bool) → a ≡ true → (a || b) ≡ true
or_left a b e = rw e refl

or_right : (a b : Bool) → b ≡ true → (a || b) ≡ true
or_right true b e = refl
or_right false b e = e

or_more : (a b a' b' : Bool) → (a ≡ true → a' ≡ true) → (b ≡ true → b' ≡ true) → (a || b) ≡ true → (a' || b') ≡ true
or_more a b a' b' f g e = elim (or_cases a b e) [
  | inl x ↦ or_left a' b' (f x)
  | inr x ↦ or_right a' b' (g x)
]

both_same : (a b c d : ℕ) → ((a == c) && (b == d)) ≡ true → (a ≡ c) × (b ≡ d)
both_same a b c d e = (grind (arith, nat_tests), grind (arith, nat_tests))

has_turn-push_cases : (es : List Entry) (e : Entry) (s n : ℕ) → has_turn (es ++ e ∷ []) s n ≡ true
    → (has_turn es s n ≡ true) ⊎ ((e.turn.session ≡ s) × (e.turn.number ≡ n))
has_turn-push_cases es e s n h = elim (or_cases (has_turn es s n) (has_turn (e ∷ []) s n) (sym (list_any-append (is_turn s n) es (e ∷ [])) ∙ h)) [
  | inl old ↦ inl old
  | inr new ↦ elim (or_cases (is_turn s n e) false new) [
    | inl own ↦ inr (both_same e.turn.session e.turn.number s n own)
    | inr wrong ↦ cc
  ]
]

same_turn : (a b c d : ℕ) → a ≡ c → b ≡ d → ((a == c) && (b == d)) ≡ true
same_turn a b c d e f = grind (arith, nat_tests)

-- what was lost stays lost
pub is_lost-push : (lost : List Turn) (t : Turn) (s n : ℕ) → is_lost lost s n ≡ true → is_lost (lost ++ t ∷ []) s n ≡ true
is_lost-push lost t s n h = list_any-append (λ x. (x.session == s) && (x.number == n)) lost (t ∷ []) ∙ or_left (is_lost lost s n) (is_lost (t ∷ []) s n) h

-- the turn that quits is lost
pub is_lost-own : (lost : List Turn) (t : Turn) (s n : ℕ) → t.session ≡ s → t.number ≡ n → is_lost (lost ++ t ∷ []) s n ≡ true
is_lost-own lost t s n e f = list_any-append (λ x. (x.session == s) && (x.number == n)) lost (t ∷ [])
    ∙ or_right (is_lost lost s n) (is_lost (t ∷ []) s n) (or_left ((t.session == s) && (t.number == n)) false (same_turn t.session t.number s n e f))

is_lost-push_cases : (lost : List Turn) (t : Turn) (s n : ℕ) → is_lost (lost ++ t ∷ []) s n ≡ true
    → (is_lost lost s n ≡ true) ⊎ ((t.session ≡ s) × (t.number ≡ n))
is_lost-push_cases lost t s n h = elim (or_cases (is_lost lost s n) (is_lost (t ∷ []) s n) (sym (list_any-append (λ x. (x.session == s)
    && (x.number == n)) lost (t ∷ [])) ∙ h)) [
      | inl old ↦ inl old
      | inr new ↦ elim (or_cases ((t.session == s) && (t.number == n)) false new) [
        | inl own ↦ inr (both_same t.session t.number s n own)
        | inr wrong ↦ cc
      ]
    ]

no_true : (b : Bool) → (b ≡ true → ⊥) → b ≡ false
no_true true h = absurd (h refl)
no_true false h = refl

-- what was lost is past
lost_is_past : (position : ℕ → Position) (lost : List Turn) (s n : ℕ) → All (λ t. IsPast (position t.session) t.number) lost → is_lost lost s n ≡ true
    → IsPast (position s) n
lost_is_past position [] s n all e = cc
lost_is_past position (t ∷ ts) s n all e = elim (or_cases ((t.session == s) && (t.number == n)) (is_lost ts s n) e) [
  | inl own ↦ let same = both_same t.session t.number s n own in subst (λ m. IsPast (position s) m) same.1
      (subst (λ k. IsPast (position k) t.number) same.0 (All-head (λ t. IsPast (position t.session) t.number) t ts all))
  | inr rest ↦ lost_is_past position ts s n (All-tail (λ t. IsPast (position t.session) t.number) t ts all) rest
]

-- what was made is entered
made_is_entered : (position : ℕ → Position) (es : List Entry) (s n : ℕ) → All (λ e. IsEntered (position e.turn.session) e.turn.number) es
    → has_turn es s n ≡ true → IsEntered (position s) n
made_is_entered position [] s n all e = cc
made_is_entered position (x ∷ xs) s n all e = elim (or_cases (is_turn s n x) (has_turn xs s n) e) [
  | inl own ↦ let same = both_same x.turn.session x.turn.number s n own in subst (λ m. IsEntered (position s) m) same.1
      (subst (λ k. IsEntered (position k) x.turn.number) same.0 (All-head (λ e. IsEntered (position e.turn.session) e.turn.number) x xs all))
  | inr rest ↦ made_is_entered position xs s n (All-tail (λ e. IsEntered (position e.turn.session) e.turn.number) x xs all) rest
]

not_past_itself : (x : Position) → x.number ≢ 0 → IsPast x x.number → ⊥
not_past_itself x some past = let l = past_le x x.number some past in omega arith

-- ---- events

-- a session that stays at its call, and all others, keep their numbers
pub number_same : (f : ℕ → Position) (s : ℕ) (x : Position) (k : ℕ) → x.number ≡ (f s).number → (with_value f s x k).number ≡ (f k).number
number_same f s x k e = elim (cases_eq k s) [
  | inl same ↦ ap (λ y. y.number) (with_value-at f s x k same) ∙ e ∙ ap (λ j. (f j).number) (sym same)
  | inr other ↦ ap (λ y. y.number) (with_value-other f s k x other)
]

past_same : (x y : Position) (n : ℕ) → y.number ≡ x.number → IsPast x n → IsPast y n
past_same x y n e (inl nothing) = inl (e ∙ nothing)
past_same x y n e (inr below) = inr (omega arith)

-- a commit enters the current call
pub Turns-commit : (w : World) (history : List Entry) (position : ℕ → Position) (lost : List Turn) (s : ℕ) (call : Call) (e : Entry)
    → call_of w s (position s).number ≡ Some call → e.turn.session ≡ s → e.turn.number ≡ (position s).number
    → Turns w history position lost → Turns w (history ++ e ∷ []) (with_value position s (record { number = (position s).number; committed = true })) lost
Turns-commit w history position lost s call e is session number h =
    let x : Position = record { number = (position s).number; committed = true } in
    let f : ℕ → Position = with_value position s x in
    let same : (k : ℕ) → (f k).number ≡ (position k).number = λ k. number_same position s x k refl in
    let some : (position s).number ≢ 0 = has_number w s (position s).number call is in
    let back : (k n : ℕ) → IsPast (f k) n → IsPast (position k) n = λ k n past. past_same (f k) (position k) n (sym (same k)) past in
    record {
      entries = All-push (λ y. IsEntered (f y.turn.session) y.turn.number) history e
          (All-weaker (λ y. IsEntered (position y.turn.session) y.turn.number) (λ y. IsEntered (f y.turn.session) y.turn.number)
          (λ y old. still_entered position s y.turn.session y.turn.number old) history h.entries)
          (own_entered position s e.turn.session e.turn.number session number);
      quits = All-weaker (λ t. IsPast (position t.session) t.number) (λ t. IsPast (f t.session) t.number)
          (λ t old. past_same (position t.session) (f t.session) t.number (same t.session) old) lost h.quits;
      now = λ k c. elim (cases_eq k s) [
        | inl own ↦ has_turn-own history e k (f k).number (same_turn e.turn.session e.turn.number k (f k).number (session ∙ sym own) (number
            ∙ sym (same k ∙ ap (λ j. (position j).number) own)))
        | inr other ↦ has_turn-push history e k (f k).number (subst (λ n. has_turn history k n
            ≡ true) (sym (same k)) (h.now k (ap (λ y. y.committed) (sym (with_value-other position s k x other)) ∙ c)))
      ];
      once = λ k n t. elim (has_turn-push_cases history e k n t) [
        | inl old ↦ h.once k n old
        | inr own ↦ no_true (is_lost lost k n) (λ gone.
            let past : IsPast (position k) n = lost_is_past position lost k n h.quits gone in
            let at : IsPast (position s) (position s).number = subst (λ j. IsPast (position s) j) (sym own.1
            ∙ number) (subst (λ j. IsPast (position j) n) (sym own.0 ∙ session) past) in
            not_past_itself (position s) some at)
      ];
      settled = λ k n c is' past. or_more (has_turn history k n) (is_lost lost k n) (has_turn (history
          ++ e ∷ []) k n) (is_lost lost k n) (has_turn-push history e k n) (λ t. t) (h.settled k n c is' (back k n past));
      standing = λ k. subst (λ n. (n ≡ 0) ⊎ ((c : Call) × (call_of w k n ≡ Some c))) (sym (same k)) (h.standing k);
    }
  where
    still_entered : (position : ℕ → Position) (s k n : ℕ) → IsEntered (position k) n
        → IsEntered (with_value position s (record { number = (position s).number; committed = true }) k) n
    still_entered position s k n old = elim (cases_eq k s) [
      | inl own ↦ subst (λ y. IsEntered y n) (sym (with_value-at position s (record { number = (position s).number; committed = true }) k own))
          (committed_too (position s) n (subst (λ j. IsEntered (position j) n) own old))
      | inr other ↦ subst (λ y. IsEntered y n) (sym (with_value-other position s k (record { number = (position s).number; committed = true }) other)) old
    ]
      where
        committed_too : (x : Position) (n : ℕ) → IsEntered x n → IsEntered (record { number = x.number; committed = true }) n
        committed_too x n (inl past) = inl past
        committed_too x n (inr here) = inr (here.0, refl)

    own_entered : (position : ℕ → Position) (s k n : ℕ) → k ≡ s → n ≡ (position s).number
        → IsEntered (with_value position s (record { number = (position s).number; committed = true }) k) n
    own_entered position s k n own e = subst (λ y. IsEntered y n)
        (sym (with_value-at position s (record { number = (position s).number; committed = true }) k own)) (inr (e, refl))

-- a session whose current call is made or lost goes on
pub Turns-finish : (w : World) (history : List Entry) (position : ℕ → Position) (lost more : List Turn) (s : ℕ) (call : Call)
    → call_of w s (position s).number ≡ Some call
    → ((k n : ℕ) → is_lost lost k n ≡ true → is_lost more k n ≡ true)
    → All (λ t. IsPast (position t.session) t.number ⊎ ((t.session ≡ s) × (t.number ≡ (position s).number))) more
    → ((k n : ℕ) → has_turn history k n ≡ true → is_lost more k n ≡ false)
    → (has_turn history s (position s).number || is_lost more s (position s).number) ≡ true
    → Turns w history position lost → Turns w history (with_value position s (position_after w s (position s).number)) more
Turns-finish w history position lost more s call is grows quits once done h =
    let x : Position = position_after w s (position s).number in
    let f : ℕ → Position = with_value position s x in
    let some : (position s).number ≢ 0 = has_number w s (position s).number call is in
    let own : (k : ℕ) → k ≡ s → f k ≡ x = with_value-at position s x in
    let rest : (k : ℕ) → k ≢ s → f k ≡ position k = λ k. with_value-other position s k x in
    record {
      entries = All-weaker (λ y. IsEntered (position y.turn.session) y.turn.number) (λ y. IsEntered (f y.turn.session) y.turn.number)
          (λ y old. elim (cases_eq y.turn.session s) [
            | inl same ↦ inl (subst (λ z. IsPast z y.turn.number) (sym (own y.turn.session same))
                (past_after w s (position s).number y.turn.number
                (entered_le (position s) y.turn.number some (subst (λ j. IsEntered (position j) y.turn.number) same old))))
            | inr other ↦ subst (λ z. IsEntered z y.turn.number) (sym (rest y.turn.session other)) old
          ]) history h.entries;
      quits = All-weaker (λ t. IsPast (position t.session) t.number ⊎ ((t.session ≡ s) × (t.number ≡ (position s).number))) (λ t. IsPast (f t.session) t.number)
          (λ t old. elim (cases_eq t.session s) [
            | inl same ↦ subst (λ z. IsPast z t.number) (sym (own t.session same))
                (past_after w s (position s).number t.number (at_most t s position some same old))
            | inr other ↦ elim old [
              | inl past ↦ subst (λ z. IsPast z t.number) (sym (rest t.session other)) past
              | inr here ↦ absurd (other here.0)
            ]
          ]) more quits;
      now = λ k c. elim (cases_eq k s) [
        | inl same ↦ let wrong : false ≡ true = ap (λ y. y.committed) (sym (own k same)) ∙ c in cc
        | inr other ↦ subst (λ y. has_turn history k y.number ≡ true) (sym (rest k other)) (h.now k (ap (λ y. y.committed) (sym (rest k other)) ∙ c))
      ];
      once = once;
      settled = λ k n c is' past. elim (cases_eq k s) [
        | inl same ↦ settled_here w history position lost more s n h grows done is' same (subst (λ y. IsPast y n) (own k same) past)
        | inr other ↦ or_more (has_turn history k n) (is_lost lost k n) (has_turn history k n) (is_lost more k n) (λ t. t) (grows k n)
            (h.settled k n c is' (subst (λ y. IsPast y n) (rest k other) past))
      ];
      standing = λ k. elim (cases_eq k s) [
        | inl same ↦ subst (λ y. (y.number ≡ 0) ⊎ ((c : Call)
            × (call_of w k y.number ≡ Some c))) (sym (own k same)) (subst (λ j. (x.number ≡ 0) ⊎ ((c : Call)
            × (call_of w j x.number ≡ Some c))) (sym same) (standing_after w s (position s).number))
        | inr other ↦ subst (λ y. (y.number ≡ 0) ⊎ ((c : Call) × (call_of w k y.number ≡ Some c))) (sym (rest k other)) (h.standing k)
      ];
    }
  where
    at_most : (t : Turn) (s : ℕ) (position : ℕ → Position) → (position s).number ≢ 0 → t.session ≡ s
        → IsPast (position t.session) t.number ⊎ ((t.session ≡ s) × (t.number ≡ (position s).number)) → t.number ≤ (position s).number
    at_most t s position some same (inl past) = let l = past_le (position s) t.number some (subst (λ j. IsPast (position j) t.number) same past) in omega arith
    at_most t s position some same (inr here) = let e = here.1 in omega arith

    settled_here : (w : World) (history : List Entry) (position : ℕ → Position) (lost more : List Turn) (s n : ℕ) {k : ℕ} {c : Call}
        → Turns w history position lost → ((k n : ℕ) → is_lost lost k n ≡ true → is_lost more k n ≡ true)
        → (has_turn history s (position s).number || is_lost more s (position s).number) ≡ true → call_of w k n ≡ Some c → k ≡ s
        → IsPast (position_after w s (position s).number) n → (has_turn history k n || is_lost more k n) ≡ true
    settled_here w history position lost more s n {k} {c} h grows done is' same past =
        let at : call_of w s n ≡ Some c = subst (λ j. call_of w j n ≡ Some c) same is' in
        subst (λ j. (has_turn history j n || is_lost more j n) ≡ true) (sym same) (elim (order n (position s).number) [
          | inl below ↦ or_more (has_turn history s n) (is_lost lost s n) (has_turn history s n) (is_lost more s n) (λ t. t) (grows s n)
              (h.settled s n c at (inr below))
          | inr rest ↦ elim rest [
            | inl equal ↦ subst (λ m. (has_turn history s m || is_lost more s m) ≡ true) (sym equal) done
            | inr above ↦ absurd (none_between w s (position s).number n c above past at)
          ]
        ])
      where
        order : (a b : ℕ) → (a < b) ⊎ ((a ≡ b) ⊎ (b < a))
        order a b = elim (nat_lt a b) as (λ t. nat_lt a b ≡ t → (a < b) ⊎ ((a ≡ b) ⊎ (b < a))) [
          | true ↦ λ t. inl (grind (arith, nat_tests))
          | false ↦ λ t. elim (nat_lt b a) as (λ u. nat_lt b a ≡ u → (a < b) ⊎ ((a ≡ b) ⊎ (b < a))) [
            | true ↦ λ u. inr (inr (grind (arith, nat_tests)))
            | false ↦ λ u. inr (inl (grind (arith, nat_tests)))
          ] refl
        ] refl

-- with its last give a committed session goes on
pub Turns-give : (w : World) (history : List Entry) (position : ℕ → Position) (lost : List Turn) (s : ℕ) (call : Call)
    → call_of w s (position s).number ≡ Some call → (position s).committed ≡ true
    → Turns w history position lost → Turns w history (with_value position s (position_after w s (position s).number)) lost
Turns-give w history position lost s call is c h = Turns-finish w history position lost lost s call is (λ k n t. t)
    (All-weaker (λ t. IsPast (position t.session) t.number) (λ t. IsPast (position t.session) t.number ⊎ ((t.session ≡ s)
    × (t.number ≡ (position s).number))) (λ t past. inl past) lost h.quits)
    h.once (or_left (has_turn history s (position s).number) (is_lost lost s (position s).number) (h.now s c)) h

-- with a quit a session that hasn't committed loses its call and goes on
pub Turns-quit : (w : World) (history : List Entry) (position : ℕ → Position) (lost : List Turn) (s : ℕ) (call : Call)
    → call_of w s (position s).number ≡ Some call → (position s).committed ≡ false
    → Turns w history position lost → Turns w history (with_value position s (position_after w s (position s).number)) (lost
    ++ (record { session = s; number = (position s).number }) ∷ [])
Turns-quit w history position lost s call is c h =
    let t : Turn = record { session = s; number = (position s).number } in
    let some : (position s).number ≢ 0 = has_number w s (position s).number call is in
    Turns-finish w history position lost (lost ++ t ∷ []) s call is (λ k n old. is_lost-push lost t k n old)
    (All-push (λ t. IsPast (position t.session) t.number ⊎ ((t.session ≡ s) × (t.number ≡ (position s).number))) lost t
    (All-weaker (λ t. IsPast (position t.session) t.number) (λ t. IsPast (position t.session) t.number ⊎ ((t.session ≡ s)
    × (t.number ≡ (position s).number))) (λ t past. inl past) lost h.quits) (inr (refl, refl)))
    (λ k n made. no_true (is_lost (lost ++ t ∷ []) k n) (λ gone. elim (is_lost-push_cases lost t k n gone) [
      | inl old ↦ let wrong : true ≡ false = sym old ∙ h.once k n made in cc
      | inr own ↦
          let here : IsEntered (position s) (position s).number =
          subst (λ m. IsEntered (position s) m) (sym own.1)
          (subst (λ j. IsEntered (position j) n) (sym own.0) (made_is_entered position history k n h.entries made)) in
          not_past_itself (position s) some (entered_past (position s) (position s).number c here)
    ]))
    (or_right (has_turn history s (position s).number) (is_lost (lost ++ t ∷ []) s (position s).number) (is_lost-own lost t s (position s).number refl refl)) h

-- ---- the numbers of a session rise

-- an uncommitted call has a number above those that its session has made
pub rises_at : (w : World) (history : List Entry) (position : ℕ → Position) (lost : List Turn) (s : ℕ) (call : Call)
    → call_of w s (position s).number ≡ Some call → (position s).committed ≡ false → Turns w history position lost
    → All (λ f. f.turn.session ≡ s → f.turn.number < (position s).number) history
rises_at w history position lost s call is c h = All-weaker (λ f. IsEntered (position f.turn.session) f.turn.number) (λ f. f.turn.session ≡ s
    → f.turn.number < (position s).number)
    (λ f entered same. past_le (position s) f.turn.number (has_number w s (position s).number call is)
    (entered_past (position s) f.turn.number c (subst (λ j. IsEntered (position j) f.turn.number) same entered))) history h.entries

-- where every session is at its first call, and nothing is made or lost
pub Turns-initial : (w : World) → Turns w [] (λ s. position_after w s 0) []
Turns-initial w = record {
  entries = All-nil (λ y. IsEntered (position_after w y.turn.session 0) y.turn.number);
  quits = All-nil (λ t. IsPast (position_after w t.session 0) t.number);
  now = λ s c. cc;
  once = λ s n t. refl;
  settled = λ s n call is past. absurd (first_line n s call is past);
  standing = λ s. standing_after w s 0;
}
  where
    first_line : (n s : ℕ) (call : Call) → call_of w s n ≡ Some call → IsPast (position_after w s 0) n → ⊥
    first_line n s call is past = let some : n ≢ 0 = has_number w s n call is in none_between w s 0 n call (omega arith) past is
