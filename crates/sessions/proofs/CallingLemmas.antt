-- A seat goes on: what takes leave, and how steps follow one another.
use Rattle.std.proofs.Common.{◌≡◌, ℕ, ◌<◌, ◌≤◌, List, [], ◌∷◌, ◌++◌, sym, refl, ap, ◌∙◌, subst, ⊎_elim}
use Rattle.std.proofs.lemmas.List.{append-nil, append_assoc}
use Rattle.dt_model.specs.declared.calls.Entry.{Entry}
use Rattle.dt_model.specs.declared.calls.Turn.{Turn}
use Rattle.dt_model.specs.declared.replies.Reply.{Reply}
use Rattle.fiber_latch.specs.Views.{In, Extends}
use Rattle.fiber_latch.specs.Seats.{SeatState, IsOutside, last_number}
use Rattle.fiber_latch.proofs.ViewsLemmas.{in_append}
use Rattle.fiber_latch.proofs.LastNumbers.{last_number-past}
use Rattle.fiber_latch.proofs.SeatsLemmas.{number_stays}
use Rattle.sessions.specs.Calling.{IsNext, CanMake, GoesOn, HasMade, IsGivenUp}
use Rattle.sessions.specs.Entering.{IsForeign}

-- ---- entries that came between

-- the same entries, of each of which less is said
pub Extends-weaker : (P Q : Entry → Type 0) (xs ys : List Entry) → ((e : Entry) → P e → Q e) → Extends P xs ys → Extends Q xs ys
Extends-weaker P Q xs ys f p = (p.0, p.1, λ e i. f e (p.2 e i))

-- nothing came between
pub Extends-none : (P : Entry → Type 0) (xs : List Entry) → Extends P xs xs
Extends-none P xs = ([], sym (append-nil xs), λ e i. absurd i)

-- some entries came, and then others
pub Extends-more : (P : Entry → Type 0) (xs ys zs : List Entry) → Extends P xs ys → Extends P ys zs → Extends P xs zs
Extends-more P xs ys zs p q = (
  p.0 ++ q.0,
  q.1 ∙ ap (λ (r : List Entry). r ++ q.0) p.1 ∙ append_assoc xs p.0 q.0,
  λ e i. ⊎_elim (λ (a : In e p.0). p.2 e a) (λ (b : In e q.0). q.2 e b) (in_append e p.0 q.0 i),
)

-- ---- the next turn

-- a take leaves the turn the next one
pub IsNext-taken : (turn : Turn) (old new : SeatState) (held conflicts : List (ℕ × ℕ)) → new
    ≡ record old { held = held; seen = new.seen; conflicts = conflicts } → Extends (IsForeign old) old.seen new.seen → IsNext turn old → IsNext turn new
IsNext-taken turn old new held conflicts rest grown n = subst (IsNext turn) (sym rest) (record {
  low = n.low;
  high = n.high;
  above = subst (λ (k : ℕ). k < turn.number) (sym (number_stays turn.session old new.seen n.low n.high grown)) n.above;
  few = n.few;
})

-- the last number of each session of the seat stays
pub last_goes : (f t s : ℕ) (xs ys : List Entry) → f ≤ s → s ≤ t → Extends (IsOutside f t) xs ys → last_number s ys ≡ last_number s xs
last_goes f t s xs ys low high p = ap (last_number s) p.1
    ∙ last_number-past s xs p.0 (λ e i q. p.2 e i (subst (λ (x : ℕ). (f ≤ x) × (x ≤ t)) (sym q) (low, high)))

-- a turn that may come next may still
pub IsNext-goes : (turn : Turn) (old new : SeatState) → GoesOn old new → IsNext turn old → IsNext turn new
IsNext-goes turn old new g n = subst (IsNext turn) (sym g.rest) (record {
  low = n.low;
  high = n.high;
  above = subst (λ (k : ℕ). k < turn.number) (sym (last_goes old.first old.last turn.session old.seen new.seen n.low n.high g.grown)) n.above;
  few = n.few;
})

-- whatever was met
pub IsNext-conflicts : (turn : Turn) (old : SeatState) (m : List (ℕ × ℕ)) → IsNext turn old → IsNext turn (record old { conflicts = m })
IsNext-conflicts turn old m n = record { low = n.low; high = n.high; above = n.above; few = n.few }

-- ---- steps

-- one step after another
pub GoesOn-more : (old mid new : SeatState) → GoesOn old mid → GoesOn mid new → GoesOn old new
GoesOn-more old mid new a b = record {
  rest = b.rest ∙ ap (λ (s : SeatState). record s { held = new.held; seen = new.seen; conflicts = new.conflicts }) a.rest;
  grown = Extends-more (IsOutside old.first old.last) old.seen mid.seen new.seen a.grown
      (subst (λ (s : SeatState). Extends (IsOutside s.first s.last) mid.seen new.seen) a.rest b.grown);
}

-- no step
pub GoesOn-none : (s : SeatState) → GoesOn s s
GoesOn-none s = record { rest = refl; grown = Extends-none (IsOutside s.first s.last) s.seen }

-- a step that changes nothing but what is held and what was met
pub GoesOn-by : (old new : SeatState) (held conflicts : List (ℕ × ℕ)) → new ≡ record old { held = held; conflicts = conflicts } → GoesOn old new
GoesOn-by old new held conflicts e =
    subst (GoesOn old) (sym e) (record { rest = refl; grown = Extends-none (IsOutside old.first old.last) old.seen })

-- a step that has seen entries which touch nothing of the seat's
pub GoesOn-seen : (old new : SeatState) (held conflicts : List (ℕ × ℕ)) (seen : List Entry) → new
    ≡ record old { held = held; seen = seen; conflicts = conflicts } → Extends (IsForeign old) old.seen seen → GoesOn old new
GoesOn-seen old new held conflicts seen e grown = subst (GoesOn old) (sym e) (record {
  rest = refl;
  grown = Extends-weaker (IsForeign old) (IsOutside old.first old.last) old.seen seen (λ x f. f.session) grown;
})

-- ---- what was met before

-- the same entries are foreign, whatever was met
pub Extends-conflicts : (old : SeatState) (m : List (ℕ × ℕ)) (xs ys : List Entry) → Extends (IsForeign (record old { conflicts = m })) xs ys
    → Extends (IsForeign old) xs ys
Extends-conflicts old m xs ys p =
    Extends-weaker (IsForeign (record old { conflicts = m })) (IsForeign old) xs ys (λ e f. record { session = f.session; latch = f.latch }) p

-- ---- out of memory

-- what was taken was given back
pub IsGivenUp-goes : (old mid new : SeatState) → GoesOn old mid → new ≡ record mid { held = old.held } → IsGivenUp old new
IsGivenUp-goes old mid new goes last =
    let n : new ≡ record old { seen = mid.seen; conflicts = mid.conflicts } = last ∙ ap (λ (s : SeatState). record s { held = old.held }) goes.rest in
    subst (IsGivenUp old) (sym n) (record { rest = refl; grown = goes.grown })

-- a seat that held nothing holds again what it held
pub idle_again : (old mid new : SeatState) → old.held ≡ [] → new ≡ record mid { held = [] } → new ≡ record mid { held = old.held }
idle_again old mid new idle last = last ∙ ap (λ (h : List (ℕ × ℕ)). record mid { held = h }) (sym idle)

-- a latch more was tried, and then what was taken was given back
pub IsGivenUp-noted : (old mid new : SeatState) → GoesOn old mid → old.held ≡ [] → new ≡ record mid { held = []; conflicts = new.conflicts } → IsGivenUp old new
IsGivenUp-noted old mid new goes idle last =
    IsGivenUp-goes old (record mid { conflicts = new.conflicts }) new
    (GoesOn-more old mid (record mid { conflicts = new.conflicts }) goes (GoesOn-by mid (record mid { conflicts = new.conflicts }) mid.held new.conflicts refl))
    (last ∙ ap (λ (h : List (ℕ × ℕ)). record mid { held = h; conflicts = new.conflicts }) (sym idle))

-- nothing was done
pub IsGivenUp-none : (s : SeatState) → IsGivenUp s s
IsGivenUp-none s = record { rest = refl; grown = Extends-none (IsOutside s.first s.last) s.seen }
