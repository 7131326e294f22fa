use Rattle.std.proofs.Common.{List, [], ◌∷◌, ◌++◌, ◌≡◌, ◌+◌, length, refl, ap, sym, ◌∙◌, arith}
use Rattle.std.proofs.lemmas.List.{length_push, nil_from_length}
use Rattle.sessions.specs.declared.outcomes.Outcome.{Outcome}
use Rattle.sessions.proofs.JoiningLemmas.{JoinedSo-list, JoinedSo-first, JoinedSo-can, JoinedSo-more, JoinedSo-all}
use Rattle.sessions.proofs.running.joined.Goals as goal

pub loop-run-init : goal.loop-run-init
loop-run-init c =
    let table = c.args.engine.now in
    let all = c.args.runs.items in
    let run = c.take_last-seat.result in
    let lists = c.push_reserved.new.self.items in
    let left = c.take_last-seat.new.self.items in
    let one : c.push_reserved.new.self.items ≡ c.take_last-seat.result.lines.outcomes ∷ [] =
    c.push_reserved.ensures.items ∙ ap (λ (x : List (List Outcome)). x ++ c.into_list.result ∷ []) c.requires.room.0
    ∙ ap (λ (o : List Outcome). o ∷ []) c.into_list.ensures.value in
    let counted : length c.push_reserved.new.self.items ≡ 1 = ap (λ (x : List (List Outcome)). length x) one in
    record {
      so = λ scripts old done. JoinedSo-list table scripts old all 1 left run.seat (run.lines.outcomes ∷ []) lists one refl
          (JoinedSo-first table scripts old all left run done c.take_last-seat.ensures.items);
      count = let l = c.take_last-seat.ensures.len in omega arith;
      room = let a = c.requires.room.1 in let b = c.push_reserved.ensures.capacity in omega arith;
    }

pub join-requires-clause-engines : goal.join-requires-clause-engines
join-requires-clause-engines c =
    let w = c.requires.done in
    let lists = c.loop-run.lists.items in
    (JoinedSo-can c.args.engine.now w.0 w.1 c.args.runs.items (length lists) c.loop-run.runs.items c.pop.new.self.items c.loop-run.seat lists c.in-Some.run'
    w.2 (c.loop-run.invariant.so w.0 w.1 w.2) c.in-Some.ensures.items).0

pub join-requires-clause-follows : goal.join-requires-clause-follows
join-requires-clause-follows c =
    let w = c.requires.done in
    let lists = c.loop-run.lists.items in
    (JoinedSo-can c.args.engine.now w.0 w.1 c.args.runs.items (length lists) c.loop-run.runs.items c.pop.new.self.items c.loop-run.seat lists c.in-Some.run'
    w.2 (c.loop-run.invariant.so w.0 w.1 w.2) c.in-Some.ensures.items).1

pub join-requires-clause-idle : goal.join-requires-clause-idle
join-requires-clause-idle c =
    let w = c.requires.done in
    let lists = c.loop-run.lists.items in
    (JoinedSo-can c.args.engine.now w.0 w.1 c.args.runs.items (length lists) c.loop-run.runs.items c.pop.new.self.items c.loop-run.seat lists c.in-Some.run'
    w.2 (c.loop-run.invariant.so w.0 w.1 w.2) c.in-Some.ensures.items).2

pub loop-run-preserved : goal.loop-run-preserved
loop-run-preserved c =
    let inv = c.loop-run.invariant in
    let table = c.args.engine.now in
    let all = c.args.runs.items in
    let run = c.in-Some.run' in
    let lists = c.loop-run.lists.items in
    let left = c.pop.new.self.items in
    let more : c.push_reserved-in-Some.new.self.items ≡ c.loop-run.lists.items ++ c.in-Some.run'.lines.outcomes ∷ [] =
    c.push_reserved-in-Some.ensures.items ∙ ap (λ (o : List Outcome). c.loop-run.lists.items ++ o ∷ []) c.into_list-in-Some.ensures.value in
    let counted : length c.push_reserved-in-Some.new.self.items ≡ length c.loop-run.lists.items + 1 =
    ap (λ (x : List (List Outcome)). length x) more ∙ length_push lists run.lines.outcomes in
    record {
      so = λ scripts old done. JoinedSo-list table scripts old all (length lists + 1) left c.join.new.seat (lists ++ run.lines.outcomes ∷ [])
          c.push_reserved-in-Some.new.self.items more (length_push lists run.lines.outcomes)
          (JoinedSo-more table scripts old all (length lists) c.loop-run.runs.items left c.loop-run.seat lists run done (inv.so scripts old done)
          c.in-Some.ensures.items c.join.new.seat c.join.ensures.seat);
      count = let a = inv.count in let l = c.in-Some.ensures.cases in omega arith;
      room = let a = inv.room in let b = c.push_reserved-in-Some.ensures.capacity in omega arith;
    }

pub returns-clause-seat : goal.returns-clause-seat
returns-clause-seat c = λ scripts old done.
    let lists = c.loop-run.lists.items in
    let none : c.loop-run.runs.items ≡ [] = nil_from_length c.loop-run.runs.items (sym c.loop-run.runs.ok.0 ∙ c.in_default.ensures.cases.0) in
    (JoinedSo-all c.args.engine.now scripts old c.args.runs.items (length lists) c.loop-run.runs.items c.loop-run.seat lists done
    (c.loop-run.invariant.so scripts old done) none).0

pub returns-clause-outcomes : goal.returns-clause-outcomes
returns-clause-outcomes c = λ scripts old done.
    let lists = c.loop-run.lists.items in
    let none : c.loop-run.runs.items ≡ [] = nil_from_length c.loop-run.runs.items (sym c.loop-run.runs.ok.0 ∙ c.in_default.ensures.cases.0) in
    c.of.ensures.value
    ∙ (JoinedSo-all c.args.engine.now scripts old c.args.runs.items (length lists) c.loop-run.runs.items c.loop-run.seat lists done
    (c.loop-run.invariant.so scripts old done) none).1
