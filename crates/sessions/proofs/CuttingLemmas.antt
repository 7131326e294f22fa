-- A seat is cut into one for each session, from the last session down.
use Rattle.std.proofs.Common.{◌≡◌, ℕ, ◌+◌, ◌-◌, ◌<◌, ◌≤◌, List, [], ◌∷◌, ◌++◌, length, take, get_or, sym, ap, ◌∙◌, subst, ⊎_elim, arith}
use Rattle.std.proofs.lemmas.List.{get_or_append_left, get_or_push, take_more, take_all, same_from_push, length_push}
use Rattle.fiber_latch.specs.Seats.{SeatState}
use Rattle.sessions.specs.declared.running.SessionRun.{SessionRun}
use Rattle.sessions.specs.LinesValue.{LinesState}
use Rattle.sessions.specs.SessionRuns.{IsPart, IsCutOff, AreCut}
use Rattle.sessions.proofs.HistoriesLemmas.{le_or_next}

-- what is true of each element by its index is true of one more
pub each_push : {A : Type 0} (Q : ℕ → A → Type 0) (n : ℕ) (xs : List A) (x : A) → length xs ≡ n → ((k : ℕ) (d : A) → k < n → Q k (get_or xs k d)) → Q n x
    → (k : ℕ) (d : A) → k < n + 1 → Q k (get_or (xs ++ x ∷ []) k d)
each_push Q n xs x len each last k d b = ⊎_elim
    (λ (low : k + 1 ≤ n). subst (Q k) (sym (get_or_append_left xs (x ∷ []) d k (omega arith))) (each k d (omega arith)))
    (λ (q : k + 1 ≡ n + 1).
    let same : k ≡ n = omega arith in
    subst (Q k) (sym (get_or_push xs x d k (omega arith))) (subst (λ (j : ℕ). Q j x) (sym same) last))
    (le_or_next (k + 1) n (omega arith))

-- so many sessions were cut off from the end
pub record CutSo (old : SeatState) (all : List LinesState) (done : ℕ) (lines : List LinesState) (seat : SeatState) (runs : List SessionRun) : Type 0 where
  pub front : lines ≡ take (length all - done) all
  pub lower : seat ≡ record old { last = length all - done }
  pub count : length runs ≡ done
  pub each : (k : ℕ) (d : SessionRun) → k < done → IsCutOff old all k (get_or runs k d)

-- none was cut off
pub CutSo-none : (old : SeatState) (all : List LinesState) (runs : List SessionRun) → old.last ≡ length all → runs ≡ [] → CutSo old all 0 all old runs
CutSo-none old all runs last empty = record {
  front = sym (take_all (length all - 0) all (omega arith));
  lower = ap (λ (l : ℕ). record old { last = l }) (let same : old.last ≡ length all - 0 = omega arith in same);
  count = ap (λ (x : List SessionRun). length x) empty;
  each = λ k d b. absurd (omega (arith, b));
}

module _ (old : SeatState) (all : List LinesState) (done : ℕ) (lines : List LinesState) (seat : SeatState) (runs : List SessionRun)
    (so : CutSo old all done lines seat runs)
    (inside : done < length all) (lines' : List LinesState) (room : LinesState) (popped : lines ≡ lines' ++ room ∷ []) where
  -- the room that is taken out is that of the last session which is left
  pub CutSo-room : (lines' ≡ take (length all - (done + 1)) all) × (room ≡ get_or all (length all - done - 1) room)
  CutSo-room =
      let one : length all - done ≡ length all - (done + 1) + 1 = omega arith in
      let less : length all - (done + 1) ≡ length all - done - 1 = omega arith in
      let both = same_from_push lines' (take (length all - (done + 1)) all) room (get_or all (length all - (done + 1)) room)
      (sym popped ∙ so.front ∙ ap (λ (n : ℕ). take n all) one ∙ take_more all (length all - (done + 1)) room (omega arith)) in
      (both.0, both.1 ∙ ap (λ (n : ℕ). get_or all n room) less)

  -- one session more
  pub CutSo-more : (upper seat' : SeatState) (runs' : List SessionRun) (run : SessionRun) → run.seat ≡ upper → run.lines ≡ room → runs' ≡ runs ++ run ∷ []
      → IsPart old (length all - done) upper → seat' ≡ record old { last = length all - (done + 1) } → CutSo old all (done + 1) lines' seat' runs'
  CutSo-more upper seat' runs' run is has pushed part lower =
      let here : IsCutOff old all done run = record {
        part = subst (IsPart old (length all - done)) (sym is) part;
        room = subst (λ (x : LinesState). x ≡ get_or all (length all - done - 1) x) (sym has) CutSo-room.1;
      } in
      record {
        front = CutSo-room.0;
        lower = lower;
        count = ap (λ (x : List SessionRun). length x) pushed ∙ length_push runs run ∙ ap (λ (n : ℕ). n + 1) so.count;
        each = subst (λ (x : List SessionRun). (k : ℕ) (d : SessionRun) → k < done + 1 → IsCutOff old all k (get_or x k d)) (sym pushed)
            (each_push (IsCutOff old all) done runs run so.count so.each here);
      }

-- the seat that is cut off
pub IsPart-upper : (old seat upper : SeatState) (n : ℕ) → seat ≡ record old { last = n } → upper ≡ record seat { first = n; conflicts = [] }
    → IsPart old n upper
IsPart-upper old seat upper n lower cut =
    let same : upper ≡ record old { first = n; last = n; conflicts = [] } = cut ∙ ap (λ (x : SeatState). record x { first = n; conflicts = [] }) lower in
    record { rest = same ∙ ap (λ (c : List (ℕ × ℕ)). record old { first = n; last = n; conflicts = c }) (sym (ap (λ (x : SeatState). x.conflicts) same)) }

-- the seat that is left in the end
pub IsPart-first : (old seat : SeatState) (n : ℕ) → old.first ≡ 1 → n ≡ 1 → seat ≡ record old { last = n } → IsPart old n seat
IsPart-first old seat n first one lower =
    let same : seat ≡ record old { first = n; last = n } = lower ∙ ap (λ (f : ℕ). record old { first = f; last = n }) (first ∙ sym one) in
    record { rest = same ∙ ap (λ (c : List (ℕ × ℕ)). record old { first = n; last = n; conflicts = c }) (sym (ap (λ (x : SeatState). x.conflicts) same)) }

-- all sessions
pub AreCut-all : (old : SeatState) (all lines : List LinesState) (seat : SeatState) (runs : List SessionRun) → CutSo old all (length all) lines seat runs
    → AreCut old all runs
AreCut-all old all lines seat runs so = record { count = so.count; each = λ k d b. let c = so.count in so.each k d (omega arith) }
