-- Who holds which latches.
use Rattle.std.proofs.Common.{◌≡◌, ℕ, ◌+◌, ◌<◌, ◌≤◌, Bool, true, false, refl, ap, sym, ◌∙◌, arith, subst, Option, Some, inl, inr}
use Rattle.std.specs.Prelude.{◌≢◌, ◌&&◌, ◌||◌, ◌==◌, not, nat_le}
use Rattle.std.proofs.lemmas.Bool.{cases_eq}
use Rattle.std.proofs.lemmas.Bool.Decides.{nat_tests}
use Rattle.dt_model.specs.declared.calls.Call.{Call}
use Rattle.dt_model.specs.declared.declared_tensors.Decls.{Decls}
use Rattle.dt_model.specs.declared.replies.World.{World}
use Rattle.dt_model.specs.Runs.{call_of}
use Rattle.dt_model.specs.Latches.{needs}
use Rattle.dt_model.specs.Functions.{with_value}
use Rattle.dt_model.proofs.FunctionsLemmas.{with_value-other}
use Rattle.dt_model.proofs.Booleans.{both_true}
use Rattle.commit_core.specs.declared.events.Position.{Position}
use Rattle.commit_core.specs.Machine.{journal_latch, commit_needs}
use Rattle.commit_core.specs.Events.{holds_below, holds_none, can_take, without_session, position_after}
use Rattle.commit_core.proofs.EventsLemmas.{with_value-at, all_under-at, all_under-from, first_failing}
use Rattle.commit_core.proofs.CoreSteps.{is_session}
use Rattle.commit_core.proofs.SessionTurns.{number_same}

-- what holders have in common at every moment
pub record Holds (w : World) (holder : ℕ → ℕ) (position : ℕ → Position) : Type 0 where
  -- nobody holds a latch that the World doesn't have
  pub within : (l : ℕ) → journal_latch w.decls < l → holder l ≡ 0
  -- who holds a latch has a current call
  pub held : (s l : ℕ) → 1 ≤ s → holder l ≡ s → (call : Call) × (call_of w s (position s).number ≡ Some call)
  -- before its commit a session holds the first of its needed latches
  pub first : (s l : ℕ) (call : Call) → call_of w s (position s).number ≡ Some call → (position s).committed ≡ false → holder l ≡ s
      → (commit_needs w.decls call l ≡ true) × (holds_below w.decls holder s call l ≡ true)
  -- after its commit a session holds a latch
  pub busy : (s : ℕ) → 1 ≤ s → (position s).committed ≡ true → (l : ℕ) × (holder l ≡ s)

-- ---- holders

-- without a session's own, its latches are free
pub without_own : (f : ℕ → ℕ) (s k : ℕ) → f k ≡ s → without_session f s k ≡ 0
without_own f s k e = let t : (f k == s) ≡ true = grind (arith, nat_tests) in rw t refl

-- the latches of others keep their holders
pub without_other : (f : ℕ → ℕ) (s k : ℕ) → f k ≢ s → without_session f s k ≡ f k
without_other f s k n = let t : (f k == s) ≡ false = grind (arith, nat_tests) in rw t refl

-- without a session's own nobody is that session
pub without_nobody : (f : ℕ → ℕ) (s : ℕ) → 1 ≤ s → (k : ℕ) → without_session f s k ≢ s
without_nobody f s some k e = elim (cases_eq (f k) s) [
  | inl own ↦ let nobody : without_session f s k ≡ 0 = without_own f s k own in absurd (omega arith)
  | inr other ↦ other (sym (without_other f s k other) ∙ e)
]

-- a needed latch below is held
pub needed_is_held : (needed : Bool) (h s : ℕ) → (not needed || h == s) ≡ true → needed ≡ true → h ≡ s
needed_is_held needed h s e n = grind (arith, nat_tests)

held_if_needed : (needed : Bool) (h s : ℕ) → (needed ≡ true → h ≡ s) → (not needed || h == s) ≡ true
held_if_needed true h s f = let e = f refl in grind (arith, nat_tests)
held_if_needed false h s f = refl

-- a session that holds what it needs below n holds each such latch
pub holds_below-at : (d : Decls) (holder : ℕ → ℕ) (s : ℕ) (call : Call) (n k : ℕ) → holds_below d holder s call n ≡ true → k < n
    → commit_needs d call k ≡ true → holder k ≡ s
holds_below-at d holder s call n k h l need = needed_is_held (commit_needs d call k) (holder k) s (all_under-at (λ k. not (commit_needs d call k)
    || holder k == s) n k h l) need

-- a session that holds each needed latch below n holds them all
pub holds_below-from : (d : Decls) (holder : ℕ → ℕ) (s : ℕ) (call : Call) (n : ℕ) → ((k : ℕ) → k < n → commit_needs d call k ≡ true → holder k ≡ s)
    → holds_below d holder s call n ≡ true
holds_below-from d holder s call n f = all_under-from (λ k. not (commit_needs d call k)
    || holder k == s) n (λ k l. held_if_needed (commit_needs d call k) (holder k) s (f k l))

-- the parts of a test
pub four_true : (a b c e f : Bool) → (a && b && c && e && f) ≡ true → (a ≡ true) × (b ≡ true) × (c ≡ true) × (e ≡ true) × (f ≡ true)
four_true a b c e f h =
    let p = both_true (a && b && c && e) f h in
    let q = both_true (a && b && c) e p.0 in
    let r = both_true (a && b) c q.0 in
    let s = both_true a b r.0 in
    (s.0, s.1, r.1, q.1, p.1)

-- what is not true is false
pub not_committed : (b : Bool) → not b ≡ true → b ≡ false
not_committed true e = cc
not_committed false e = refl

-- the call is uncommitted, and the latch is the least that it needs and lacks, and free
pub record IsTakePossible (d : Decls) (holder : ℕ → ℕ) (position : Position) (s l : ℕ) (call : Call) : Type 0 where
  pub uncommitted : position.committed ≡ false
  pub within : l ≤ journal_latch d
  pub needed : commit_needs d call l ≡ true
  pub free : holder l ≡ 0
  pub below : holds_below d holder s call l ≡ true

-- the test of a take says so
pub IsTakePossible-can_take : (d : Decls) (holder : ℕ → ℕ) (position : Position) (s l : ℕ) (call : Call) → can_take d holder position s l call ≡ true
    → IsTakePossible d holder position s l call
IsTakePossible-can_take d holder position s l call h =
    let p = four_true (not position.committed) (nat_le l (journal_latch d)) (commit_needs d call l) (holder l == 0) (holds_below d holder s call l) h in
    record {
      uncommitted = not_committed position.committed p.0;
      within = le_of l (journal_latch d) p.1;
      needed = p.2;
      free = eq_of (holder l) p.3;
      below =
          p.4;
    }
  where
    le_of : (a b : ℕ) → nat_le a b ≡ true → a ≤ b
    le_of a b e = grind (arith, nat_tests)

    eq_of : (a : ℕ) → (a == 0) ≡ true → a ≡ 0
    eq_of a e = grind (arith, nat_tests)

-- ---- events

same_call : (o : Option Call) (a b : Call) → o ≡ Some a → o ≡ Some b → a ≡ b
same_call o a b p q = cc

-- a take keeps it
pub Holds-take : (w : World) (holder : ℕ → ℕ) (position : ℕ → Position) (s l : ℕ) (call : Call) → call_of w s (position s).number ≡ Some call
    → IsTakePossible w.decls holder (position s) s l call
    → Holds w holder position → Holds w (with_value holder l s) position
Holds-take w holder position s l call is t h =
    let some : 1 ≤ s = is_session w s (position s).number call is in
    let kept : (k j : ℕ) → 1 ≤ j → holder k ≡ j → with_value holder l s k ≡ j = λ k j one e. with_value-other holder l k s (not_free k j one e) ∙ e in
    record {
      within = λ k past. let other : k ≢ l = above k past in with_value-other holder l k s other ∙ h.within k past;
      held = λ j k one e. elim (cases_eq k l) [
        | inl same ↦ let own : s ≡ j = sym (with_value-at holder l s k same)
            ∙ e in subst (λ i. (c : Call) × (call_of w i (position i).number ≡ Some c)) own (call, is)
        | inr other ↦ h.held j k one (sym (with_value-other holder l k s other) ∙ e)
      ];
      first = λ j k c is' open' e. elim (cases_eq k l) [
        | inl same ↦
            let own : s ≡ j = sym (with_value-at holder l s k same) ∙ e in
            let at : call_of w s (position s).number ≡ Some c = subst (λ i. call_of w i (position i).number ≡ Some c) (sym own) is' in
            let one : call ≡ c = same_call (call_of w s (position s).number) call c is at in
            subst (λ i. (commit_needs w.decls c k ≡ true) × (holds_below w.decls (with_value holder l s) i c k ≡ true)) own
            (subst (λ x. (commit_needs w.decls x k ≡ true) × (holds_below w.decls (with_value holder l s) s x k ≡ true)) one
            (subst (λ m. (commit_needs w.decls call m ≡ true) × (holds_below w.decls (with_value holder l s) s call m ≡ true)) (sym same) (
              t.needed,
              holds_below-from w.decls (with_value holder l s) s call l
                  (λ i low need. kept i s some (holds_below-at w.decls holder s call l i t.below low need)),
            )))
        | inr other ↦
            let old = h.first j k c is' open' (sym (with_value-other holder l k s other) ∙ e) in
            let one : 1 ≤ j = is_session w j (position j).number c is' in
            (old.0, holds_below-from w.decls (with_value holder l s) j c k (λ i low need. kept i j one (holds_below-at w.decls holder j c k i old.1 low need)))
      ];
      busy = λ j one c. let old = h.busy j one c in (old.0, kept old.0 j one old.1);
    }
  where
    not_free : (k j : ℕ) → 1 ≤ j → holder k ≡ j → k ≢ l
    not_free k j one e same = let free : holder k ≡ 0 = ap holder same ∙ t.free in omega arith

    above : (k : ℕ) → journal_latch w.decls < k → k ≢ l
    above k past same = let in' : l ≤ journal_latch w.decls = t.within in omega arith

journal_needed : (d : Decls) (call : Call) → commit_needs d call (journal_latch d) ≡ true
journal_needed d call = or_true (needs d call (journal_latch d)) (journal_latch d)
  where
    or_true : (b : Bool) (n : ℕ) → (b || n == n) ≡ true
    or_true true n = refl
    or_true false n = grind (arith, nat_tests)

-- a commit keeps it
pub Holds-commit : (w : World) (holder : ℕ → ℕ) (position : ℕ → Position) (s : ℕ) (call : Call) → call_of w s (position s).number ≡ Some call
    → holds_below w.decls holder s call (journal_latch w.decls + 1) ≡ true
    → Holds w holder position → Holds w holder (with_value position s (record { number = (position s).number; committed = true }))
Holds-commit w holder position s call is all h =
    let x : Position = record { number = (position s).number; committed = true } in
    let same : (k : ℕ) → (with_value position s x k).number ≡ (position k).number = λ k. number_same position s x k refl in
    record {
      within = h.within;
      held = λ j k one e. subst (λ n. (c : Call) × (call_of w j n ≡ Some c)) (sym (same j)) (h.held j k one e);
      first = λ j k c is' open' e. elim (cases_eq j s) [
        | inl own ↦ let wrong : true ≡ false = ap (λ y. y.committed) (sym (with_value-at position s x j own)) ∙ open' in cc
        | inr other ↦ h.first j k c (subst (λ n. call_of w j n ≡ Some c) (same j) is') (ap (λ y. y.committed) (sym (with_value-other position s j x other))
            ∙ open') e
      ];
      busy = λ j one c. elim (cases_eq j s) [
        | inl own ↦ (
          journal_latch w.decls,
          holds_below-at w.decls holder s call (journal_latch w.decls
              + 1) (journal_latch w.decls) all (omega arith) (journal_needed w.decls call) ∙ sym own,
        )
        | inr other ↦ h.busy j one (ap (λ y. y.committed) (sym (with_value-other position s j x other)) ∙ c)
      ];
    }

-- a committed session gives a latch and still holds another
pub Holds-give : (w : World) (holder : ℕ → ℕ) (position : ℕ → Position) (s l : ℕ) → 1 ≤ s → (position s).committed ≡ true → holder l ≡ s
    → holds_none w.decls (with_value holder l 0) s ≡ false
    → Holds w holder position → Holds w (with_value holder l 0) position
Holds-give w holder position s l some c own more h =
    let left : (k j : ℕ) → 1 ≤ j → with_value holder l 0 k ≡ j → holder k ≡ j = λ k j one e. elim (cases_eq k l) [
      | inl same ↦ let nobody : with_value holder l 0 k ≡ 0 = with_value-at holder l 0 k same in absurd (omega arith)
      | inr other ↦ sym (with_value-other holder l k 0 other) ∙ e
    ] in
    let kept : (k j : ℕ) → j ≢ s → holder k ≡ j → with_value holder l 0 k ≡ j = λ k j not_own e. with_value-other holder l k 0 (not_given k j not_own e) ∙ e in
    record {
      within = λ k past. elim (cases_eq k l) [
        | inl same ↦ with_value-at holder l 0 k same
        | inr other ↦ with_value-other holder l k 0 other ∙ h.within k past
      ];
      held = λ j k one e. h.held j k one (left k j one e);
      first = λ j k call is open' e.
          let one : 1 ≤ j = is_session w j (position j).number call is in
          let old = h.first j k call is open' (left k j one e) in (
            old.0,
            holds_below-from w.decls (with_value holder l 0) j call k
                (λ i low need. kept i j (not_self j open') (holds_below-at w.decls holder j call k i old.1 low need)),
          );
      busy = λ j one past. elim (cases_eq j s) [
        | inl same ↦ let found = some_held w.decls (with_value holder l 0) s more in (found.0, found.1 ∙ sym same)
        | inr other ↦ let old = h.busy j one past in (old.0, kept old.0 j other old.1)
      ];
    }
  where
    not_given : (k j : ℕ) → j ≢ s → holder k ≡ j → k ≢ l
    not_given k j not_own e same = not_own (sym e ∙ ap holder same ∙ own)

    not_self : (j : ℕ) → (position j).committed ≡ false → j ≢ s
    not_self j open' same = let wrong : true ≡ false = sym c ∙ ap (λ i. (position i).committed) (sym same) ∙ open' in cc

    equal : (a b : ℕ) → not (a == b) ≡ false → a ≡ b
    equal a b e = grind (arith, nat_tests)

    some_held : (d : Decls) (f : ℕ → ℕ) (s : ℕ) → holds_none d f s ≡ false → (k : ℕ) × (f k ≡ s)
    some_held d f s e = elim (first_failing (λ k. not (f k == s)) (journal_latch d + 1)) [
      | inl all ↦ let wrong : true ≡ false = sym all ∙ e in cc
      | inr found ↦ (found.0, equal (f found.0) s found.2)
    ]

-- a session that holds nothing any more goes on, and all other latches have their holders
pub Holds-finish : (w : World) (holder new : ℕ → ℕ) (position : ℕ → Position) (s : ℕ) (x : Position) → ((k : ℕ) → new k ≢ s)
    → ((k : ℕ) → holder k ≡ s → new k ≡ 0) → ((k : ℕ) → holder k ≢ s → new k ≡ holder k) → x.committed ≡ false
    → Holds w holder position → Holds w new (with_value position s x)
Holds-finish w holder new position s x nothing freed kept open' h =
    let left : (k j : ℕ) → 1 ≤ j → new k ≡ j → holder k ≡ j = λ k j one e. elim (cases_eq (holder k) s) [
      | inl own ↦ let nobody : new k ≡ 0 = freed k own in absurd (omega arith)
      | inr other ↦ sym (kept k other) ∙ e
    ] in
    let rest : (j : ℕ) → j ≢ s → with_value position s x j ≡ position j = λ k. with_value-other position s k x in
    let apart : (k j : ℕ) → new k ≡ j → j ≢ s = λ k j e same. nothing k (e ∙ same) in
    record {
      within = λ k past. elim (cases_eq (holder k) s) [
        | inl own ↦ freed k own
        | inr other ↦ kept k other ∙ h.within k past
      ];
      held = λ j k one e. subst (λ y. (c : Call) × (call_of w j y.number ≡ Some c)) (sym (rest j (apart k j e))) (h.held j k one (left k j one e));
      first = λ j k call is opened e.
          let not_own : j ≢ s = apart k j e in
          let one : 1 ≤ j = is_session w j (with_value position s x j).number call is in
          let old = h.first j k call (subst (λ y. call_of w j y.number ≡ Some call) (rest j not_own) is) (ap (λ y. y.committed) (sym (rest j not_own))
          ∙ opened) (left k j one e) in
          (old.0, holds_below-from w.decls new j call k (λ i low need. still i j not_own (holds_below-at w.decls holder j call k i old.1 low need)));
      busy = λ j one c. elim (cases_eq j s) [
        | inl own ↦ let wrong : false ≡ true = sym open' ∙ ap (λ y. y.committed) (sym (with_value-at position s x j own)) ∙ c in cc
        | inr other ↦ let old = h.busy j one (ap (λ y. y.committed) (sym (rest j other)) ∙ c) in (old.0, still old.0 j other old.1)
      ];
    }
  where
    still : (k j : ℕ) → j ≢ s → holder k ≡ j → new k ≡ j
    still k j not_own e = kept k (λ same. not_own (sym e ∙ same)) ∙ e

-- after the last give
pub Holds-last : (w : World) (holder : ℕ → ℕ) (position : ℕ → Position) (s l : ℕ) (x : Position) → 1 ≤ s → holder l ≡ s
    → holds_none w.decls (with_value holder l 0) s ≡ true → x.committed ≡ false → Holds w holder position
    → Holds w (with_value holder l 0) (with_value position s x)
Holds-last w holder position s l x some own none open' h = Holds-finish w holder (with_value holder l 0) position s x nothing
    (λ k e. elim (cases_eq k l) [
      | inl same ↦ with_value-at holder l 0 k same
      | inr other ↦ absurd (nothing k (with_value-other holder l k 0 other ∙ e))
    ])
    (λ k e. with_value-other holder l k 0 (λ same. e (ap holder same ∙ own)))
    open' h
  where
    unequal : (a b : ℕ) → not (a == b) ≡ true → a ≢ b
    unequal a b e = grind (arith, nat_tests)

    nothing : (k : ℕ) → with_value holder l 0 k ≢ s
    nothing k = elim (nat_le k (journal_latch w.decls)) as (λ t. nat_le k (journal_latch w.decls) ≡ t → with_value holder l 0 k ≢ s) [
      | true ↦ λ t. unequal (with_value holder l 0 k) s (all_under-at (λ k. not (with_value holder l 0 k == s)) (journal_latch w.decls
          + 1) k none (grind (arith, nat_tests)))
      | false ↦ λ t. λ e. elim (cases_eq k l) [
        | inl same ↦ let nobody : with_value holder l 0 k ≡ 0 = with_value-at holder l 0 k same in absurd (omega arith)
        | inr other ↦ let past : journal_latch w.decls < k = grind (arith, nat_tests) in let free : with_value holder l 0 k
            ≡ 0 = with_value-other holder l k 0 other ∙ h.within k past in absurd (omega arith)
      ]
    ] refl

-- after a quit
pub Holds-quit : (w : World) (holder : ℕ → ℕ) (position : ℕ → Position) (s : ℕ) (x : Position) → 1 ≤ s → x.committed ≡ false → Holds w holder position
    → Holds w (without_session holder s) (with_value position s x)
Holds-quit w holder position s x some open' h = Holds-finish w holder (without_session holder s) position s x (without_nobody holder s some)
    (λ k e. without_own holder s k e) (λ k e. without_other holder s k e) open' h

-- it holds where nobody holds a latch
pub Holds-initial : (w : World) → Holds w (λ l. 0) (λ s. position_after w s 0)
Holds-initial w = record {
  within = λ l past. refl;
  held = λ s l one e. absurd (omega arith);
  first = λ s l call is open' e. absurd (nobody s (is_session w s (position_after w s 0).number call is) e);
  busy = λ s one c. cc;
}
  where
    nobody : (s : ℕ) → 1 ≤ s → 0 ≡ s → ⊥
    nobody s one e = omega arith
