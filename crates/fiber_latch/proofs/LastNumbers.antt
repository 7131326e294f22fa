-- The last number of each session, and when a seat may commit.
use Rattle.std.proofs.Common.{zero, suc, replicate, ◌≡◌, ◌≢◌, ℕ, ◌+◌, ◌-◌, ◌*◌, ◌<◌, ◌≤◌, ◌==◌, ◌||◌, Bool, true, false, List, [], ◌∷◌, ◌++◌, length, get_or}
use Rattle.std.proofs.Common.{set, sym, refl, ap, ◌∙◌, subst, ⊎_elim, inl, inr, arith, Option, fold, if◌then◌else◌, eq-eqb, ne_eqb, All, IsTrue, Result, Ok}
use Rattle.std.proofs.Common.{Err, IfOk, IfErr, length-append, get_or-set_other, get_or-set_same}
use Rattle.std.proofs.lemmas.List.Sums.{fold-append}
use mathlib.Core.Logic.{dite}
use native.Mathlib.Decide.{ℕ_discrete, dec_le}
use Rattle.atomic_table.specs.Seated.{TableId}
use Rattle.atomic_table.specs.Table.{Me}
use Rattle.commit_core.specs.Machine.{commit_needs, journal_latch}
use Rattle.dt_model.specs.declared.calls.Entry.{Entry}
use Rattle.dt_model.specs.JournalValue.{JournalValue}
use Rattle.dt_model.specs.Latches.{needs}
use Rattle.dt_model.specs.Tensors.{latch_count}
use Rattle.dt_model.specs.Verdicts.{call_is_valid}
use Rattle.fiber_latch.specs.declared.view.Role.{Role}
use Rattle.fiber_latch.specs.declared.view.TableConfig.{TableConfig}
use Rattle.fiber_latch.specs.declared.view.View.{View}
use Rattle.fiber_latch.specs.declared.rule.Kept as kept
use Rattle.fiber_latch.specs.declared.rule.SlotValue.{SlotValue}
use Rattle.fiber_latch.specs.Views.{In, Extends, Touches, IsLawful, Owns}
use Rattle.fiber_latch.specs.Conditions.{CanAddEntry, TakesLatch}
use Rattle.fiber_latch.specs.Seats.{SeatState, last_number, later_number, IsOutside, IsJournal}
use Rattle.fiber_latch.specs.Sitting.{state_of, IsSeat, HasNumbers, pairs}
use Rattle.fiber_latch.proofs.LawfulHistories.{Rising, rising_of, in_all, lawful_push, lawful_length}
use Rattle.fiber_latch.proofs.SittingLemmas.{out_pairs, all_kept, seated_after}

-- ---- last numbers

later_same : (s n : ℕ) (e : Entry) → e.turn.session ≡ s → later_number s n e ≡ e.turn.number
later_same s n e q = ap (λ (b : Bool). if b then e.turn.number else n) (eq-eqb e.turn.session s q)

later_other : (s n : ℕ) (e : Entry) → e.turn.session ≢ s → later_number s n e ≡ n
later_other s n e q = ap (λ (b : Bool). if b then e.turn.number else n) (ne_eqb e.turn.session s q)

-- the last number after one entry more
pub last_number-push : (s : ℕ) (H : List Entry) (e : Entry) → last_number s (H ++ e ∷ []) ≡ later_number s (last_number s H) e
last_number-push s H e = fold-append (λ n f. later_number s n f) 0 H (e ∷ [])

fold_stays : (s n : ℕ) (q : List Entry) → ((e : Entry) → In e q → e.turn.session ≢ s) → fold (λ n f. later_number s n f) n q ≡ n
fold_stays s n [] others = refl
fold_stays s n (e ∷ es) others = ap (λ (m : ℕ). fold (λ n f. later_number s n f) m es) (later_other s n e (others e (inl refl)))
    ∙ fold_stays s n es (λ d i. others d (inr i))

-- entries of other sessions leave a session's last number
pub last_number-past : (s : ℕ) (p q : List Entry) → ((e : Entry) → In e q → e.turn.session ≢ s) → last_number s (p ++ q) ≡ last_number s p
last_number-past s p q others = fold-append (λ n f. later_number s n f) 0 p q ∙ fold_stays s (last_number s p) q others

fold_above : (k c s n : ℕ) (es : List Entry) → Rising k c es → ((d : Entry) → In d es → d.turn.session ≡ s → n < d.turn.number)
    → n ≤ fold (λ n f. later_number s n f) n es
fold_above k c s n [] w above = omega arith
fold_above k c s n (e ∷ es) w above = dite (ℕ_discrete e.turn.session s)
    (λ (q : e.turn.session ≡ s).
    let a = above e (inl refl) q in
    let r = fold_above k c s e.turn.number es w.2 (λ d i z. w.1 d i (z ∙ sym q)) in
    subst (λ (m : ℕ). n ≤ fold (λ n f. later_number s n f) m es) (sym (later_same s n e q)) (omega arith))
    (λ (q : e.turn.session ≢ s). subst (λ (m : ℕ). n ≤ fold (λ n f. later_number s n f) m es) (sym (later_other s n e q))
    (fold_above k c s n es w.2 (λ d i z. above d (inr i) z)))

none_above : (k c s n : ℕ) (es : List Entry) → Rising k c es → (f : Entry) → In f es → f.turn.session ≡ s
    → f.turn.number ≤ fold (λ n f. later_number s n f) n es
none_above k c s n [] w f i z = absurd i
none_above k c s n (e ∷ es) w f i z = ⊎_elim
    (λ (q : f ≡ e).
    let same : e.turn.session ≡ s = sym (ap (λ (x : Entry). x.turn.session) q) ∙ z in
    subst (λ (x : Entry). x.turn.number ≤ fold (λ n f. later_number s n f) n (e ∷ es)) (sym q)
    (subst (λ (m : ℕ). e.turn.number ≤ fold (λ n f. later_number s n f) m es) (sym (later_same s n e same))
    (fold_above k c s e.turn.number es w.2 (λ d j y. w.1 d j (y ∙ sym same)))))
    (λ (j : In f es). none_above k c s (later_number s n e) es w.2 f j z) i

-- no entry of the session has a greater number than its last
pub below_last : (config : TableConfig) (H : List Entry) (s m : ℕ) → IsLawful config H → last_number s H < m
    → All (λ f. f.turn.session ≡ s → f.turn.number < m) H
below_last config H s m law above = in_all (λ f. f.turn.session ≡ s → f.turn.number < m) H
    (λ f i z. let b = none_above config.sessions config.calls s 0 H (rising_of config.sessions config.calls config.world.decls H law) f i z in omega arith)

-- ---- the numbers of a seat

-- at first each number is 0
pub zeros_at : (n k : ℕ) → ◌≡◌ {A = ℕ} (get_or (replicate n 0) k 0) 0
zeros_at zero k = refl
zeros_at (suc n) zero = refl
zeros_at (suc n) (suc k) = zeros_at n k

-- entries of other sessions leave a seat's numbers
pub numbered_past : (f t : ℕ) (numbers : List ℕ) (p new : List Entry) → Extends (IsOutside f t) p new → HasNumbers f t numbers p → HasNumbers f t numbers new
numbered_past f t numbers p new past n = record {
  order = n.order;
  few = n.few;
  each = λ s a b. n.each s a b ∙ sym (ap (last_number s) past.1
      ∙ last_number-past s p past.0 (λ e i q. past.2 e i (subst (λ (x : ℕ). (f ≤ x) × (x ≤ t)) (sym q) (a, b))));
}

-- a seat's numbers after an entry of its own
pub numbered_push : (f t : ℕ) (numbers : List ℕ) (p : List Entry) (e : Entry) → 0 < f → length numbers ≡ 16 → f ≤ e.turn.session → e.turn.session ≤ t
    → HasNumbers f t numbers p → HasNumbers f t (set numbers (e.turn.session - 1) e.turn.number) (p ++ e ∷ [])
numbered_push f t numbers p e some_session long low high n = record {
  order = n.order;
  few = n.few;
  each = λ s a b. let few = n.few in dite (ℕ_discrete e.turn.session s)
      (λ (q : e.turn.session ≡ s). ap (λ (x : ℕ). get_or (set numbers (e.turn.session - 1) e.turn.number) (x - 1) 0) (sym q)
      ∙ get_or-set_same numbers (e.turn.session - 1) e.turn.number 0 (omega arith) ∙ sym (last_number-push s p e ∙ later_same s (last_number s p) e q))
      (λ (q : e.turn.session ≢ s). get_or-set_other numbers (e.turn.session - 1) (s - 1) e.turn.number 0 (λ (z : s - 1 ≡ e.turn.session - 1). q (omega arith))
      ∙ n.each s a b ∙ sym (last_number-push s p e ∙ later_other s (last_number s p) e q));
}

-- ---- a commit

needs_as : (config : TableConfig) (e : Entry) (l : ℕ) → config.end ≡ latch_count config.world.decls → Touches config l e
    → IsTrue (commit_needs config.world.decls e.call l)
needs_as config e l journal (inl q) = go (needs config.world.decls e.call l)
  where
    go : (b : Bool) → IsTrue (b || l == journal_latch config.world.decls)
    go true = refl
    go false = eq-eqb l (journal_latch config.world.decls) (q ∙ journal)
needs_as config e l journal (inr t) = ap (λ (b : Bool). b || l == journal_latch config.world.decls) t

-- 16 sessions of 65,536 calls are at most 1,048,576 calls
pub small_room : (k n : ℕ) → k ≤ 16 → n ≤ 65536 → k * n ≤ 1048576
small_room k n a b = go (mul_le k n a)
  where
    mul_le : (x y : ℕ) → x ≤ 16 → x * y ≤ 16 * y
    mul_le x y h = grind arith

    go : k * n ≤ 16 * n → k * n ≤ 1048576
    go h = omega arith

-- a seat whose caller meets the clauses of a commit may add the entry
pub can_add_entry : {C : Type 0} (z : TableId) (f t : ℕ) (me : Me (Option (SlotValue C)) View) (e : Entry) → IsSeat z f t me
    → me.0.config.end ≡ latch_count me.0.config.world.decls → me.0.config.sessions ≤ 16 → me.0.config.calls ≤ 65536
    → f ≤ e.turn.session → e.turn.session ≤ t → IsTrue (call_is_valid me.0.config.world.decls e.call)
    → ((l : ℕ) → IsTrue (commit_needs me.0.config.world.decls e.call l) → In (l, e.turn.session) (pairs me.0.held))
    → last_number e.turn.session me.0.seen < e.turn.number → e.turn.number ≤ me.0.config.calls → CanAddEntry me.0.config me.0 e
can_add_entry z f t me e sits journal few small low high valid held above top =
    let rest = below_last me.0.config me.0.seen e.turn.session e.turn.number sits.law above in
    let some_session = sits.some_session in
    let within = sits.within in
    record {
      owns = subst (λ (r : Role). Owns r e.turn.session) (sym sits.role) (low, high);
      held = λ l t'.
          let p = out_pairs (l, e.turn.session) me.0.held (held l (needs_as me.0.config e l journal t')) in
          (p.0, p.1, sym (ap (λ (q : ℕ × ℕ). q.0) p.2), sym (ap (λ (q : ℕ × ℕ). q.1) p.2), all_kept p.0 me.0.held sits.kept p.1);
      valid = valid;
      above = rest;
      law = λ law. lawful_push me.0.config me.0.seen e (omega arith, omega arith) (omega arith, top) valid rest law;
      room = let a = lawful_length me.0.config me.0.seen sits.law in let b = small_room me.0.config.sessions me.0.config.calls few small in omega arith;
      idle = sits.idle;
    }

-- the journal in hand has room for an entry that may be committed
pub some_room : (config : TableConfig) (seen : List Entry) (e : Entry) (j : JournalValue) → IsLawful config (seen ++ e ∷ []) → IsJournal config seen j
    → 0 < j.spare
some_room config seen e j law is = let a = lawful_length config (seen ++ e ∷ []) law in let b = length-append seen (e ∷ []) in let c = is.room in omega arith

-- the journal with one entry more
pub journal_push : (config : TableConfig) (seen : List Entry) (e : Entry) (j k : JournalValue) → IsJournal config seen j → k.entries ≡ j.entries ++ e ∷ []
    → k.spare + 1 ≡ j.spare → IsJournal config (seen ++ e ∷ []) k
journal_push config seen e j k is entries spare = record {
  entries = entries ∙ ap (λ (x : List Entry). x ++ e ∷ []) is.entries;
  room = let b = length-append seen (e ∷ []) in let c = is.room in omega arith;
}

-- the seat after a commit
pub pushed_sits : {C : Type 0} (z : TableId) (f t : ℕ) (me : Me (Option (SlotValue C)) View) (e : Entry) → IsSeat z f t me
    → IsLawful me.0.config (me.0.seen ++ e ∷ []) → IsSeat z f t (record me.0 { seen = me.0.seen ++ e ∷ [] }, me.1)
pushed_sits z f t me e sits law = record {
  role = sits.role;
  some_session = sits.some_session;
  known = sits.known;
  idle = sits.idle;
  table = sits.table;
  within = sits.within;
  law = law;
  hand = sits.hand;
  kept = sits.kept;
}

-- what a seat has seen stays legal with an entry that it may commit; s is what callers see of the seat
pub lawful_after : {C : Type 0} (z : TableId) (f t : ℕ) (me : Me (Option (SlotValue C)) View) → IsSeat z f t me → (s : SeatState) → state_of z f t me.0 ≡ s
    → (config : TableConfig) → s.config ≡ config → (e : Entry)
    → s.first ≤ e.turn.session → e.turn.session ≤ s.last → IsTrue (call_is_valid config.world.decls e.call)
    → last_number e.turn.session s.seen < e.turn.number → e.turn.number ≤ config.calls → IsLawful config (s.seen ++ e ∷ [])
lawful_after z f t me sits s is config same e low high valid above top =
    let same' : config ≡ me.0.config = sym same ∙ ap (λ (x : SeatState). x.config) (sym is) in
    let low' = subst (λ (x : SeatState). x.first ≤ e.turn.session) (sym is) low in
    let high' = subst (λ (x : SeatState). e.turn.session ≤ x.last) (sym is) high in
    let above' = subst (λ (x : SeatState). last_number e.turn.session x.seen < e.turn.number) (sym is) above in
    let top' = subst (λ (x : TableConfig). e.turn.number ≤ x.calls) same' top in
    let some_session = sits.some_session in
    let within = sits.within in
    subst (λ (p : TableConfig × List Entry). IsLawful p.0 (p.1 ++ e ∷ [])) (λ i. (sym same' i, (is i).seen))
    (lawful_push me.0.config me.0.seen e (omega arith, omega arith) (omega arith, top')
    (subst (λ (x : TableConfig). IsTrue (call_is_valid x.world.decls e.call)) same' valid)
    (below_last me.0.config me.0.seen e.turn.session e.turn.number sits.law above') sits.law)

-- the seat after a take, whatever it answers
pub tried_sits : {C B : Type 0} (good : TableConfig → List Entry → ℕ → kept.Kept C
    → Type 0) (z : TableId) (f t l s : ℕ) (numbers : List ℕ) (me me' : Me (Option (SlotValue C)) View) (conflicts : B → List (ℕ × ℕ)) (P Q R : B
    → Type 0) (r : Result (kept.Kept C) B)
    → IsSeat z f t me → HasNumbers f t numbers me.0.seen → IfErr r (λ b. P b × Q b × R b × (me' ≡ (record me.0 { conflicts = conflicts b }, me.1)))
    → IfOk r (λ y. TakesLatch good l s me y me') → IsSeat z f t me' × HasNumbers f t numbers me'.0.seen
tried_sits good z f t l s numbers me me' conflicts P Q R (Ok y) sits n err took = (
  seated_after z f t me sits good l s y me' took,
  numbered_past f t numbers me.0.seen me'.0.seen
      (subst (λ (p : List Entry). Extends (IsOutside f t) me.0.seen p) (sym (ap (λ (m : Me _ View). m.0.seen) took.me_is))
      (took.grown.0, took.grown.1, λ e i o. (took.grown.2 e i).session (subst (λ (x : Role). Owns x e.turn.session) (sym sits.role) o))) n,
)
tried_sits good z f t l s numbers me me' conflicts P Q R (Err b) sits n err took =
    subst (λ (m : Me _ View). IsSeat z f t m × HasNumbers f t numbers m.0.seen) (sym err.3) (
      record {
        role = sits.role;
        some_session = sits.some_session;
        known = sits.known;
        idle = sits.idle;
        table = sits.table;
        within = sits.within;
        law = sits.law;
        hand = sits.hand;
        kept = sits.kept;
      },
      n,
    )

-- the numbers of two seats that are joined
pub numbered_both : (f m t : ℕ) (numbers others both : List ℕ) (p q w : List Entry) → 0 < f → Extends (IsOutside f m) p w → Extends (IsOutside (m + 1) t) q w
    → HasNumbers f m numbers p → HasNumbers (m + 1) t others q
    → ((k : ℕ) → m + 1 ≤ k + 1 → k + 1 ≤ t → get_or both k 0 ≡ get_or others k 0) → ((k : ℕ) → k + 1 < m + 1 → get_or both k 0 ≡ get_or numbers k 0)
    → HasNumbers f t both w
numbered_both f m t numbers others both p q w some_session mine theirs n o yours ours =
    let n' = numbered_past f m numbers p w mine n in
    let o' = numbered_past (m + 1) t others q w theirs o in
    record {
      order = let a = n.order in let b = o.order in omega arith;
      few = o.few;
      each = λ s a b. dite (dec_le s m)
          (λ (y : s ≤ m). ours (s - 1) (omega arith) ∙ n'.each s a y)
          (λ (y : ¬ (s ≤ m)). yours (s - 1) (omega arith) (omega arith) ∙ o'.each s (omega arith) b);
    }
