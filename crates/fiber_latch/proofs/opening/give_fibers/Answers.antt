use Rattle.std.proofs.Common.{ℕ, [], ◌∷◌, ◌≡◌, ◌+◌, ◌<◌, arith, sym, ap, ◌∙◌, subst, vec_len, length, get_or, length-append}
use Rattle.fiber_latch.specs.declared.rule.Kept.TheVariants.{Fiber}
use Rattle.fiber_latch.specs.declared.view.TableConfig.{TableConfig}
use Rattle.fiber_latch.specs.Rule.{GoodAt}
use Rattle.fiber_latch.specs.Conditions.{config_of}
use Rattle.fiber_latch.specs.Seats.{IsStore}
use Rattle.fiber_latch.proofs.OpeningsLemmas.{can_give_at, give_back-step}
use Rattle.std.proofs.Math.ListN.{get_or-append}
use Rattle.fiber_latch.proofs.LawfulHistories.{last_at}
use Rattle.fiber_latch.proofs.opening.give_fibers.Goals as goal

pub give-requires-clause-ready : goal.give-requires-clause-ready
give-requires-clause-ready g c =
    let inv = c.loop-store.invariant in
    let v0 = c.args.token.now.me.0 in
    let store = c.in-Some.store in
    let o = c.requires.ready.0 in
    let n : ℕ = c.len.result in
    let e : c.len.result ≡ vec_len c.pop.new.self = c.len.ensures in
    let more : vec_len c.pop.new.self + 1 ≡ vec_len c.loop-store.stores = c.in-Some.ensures.cases in
    let long : length c.pop.new.self.items ≡ n = sym c.pop.new.self.ok.0 ∙ sym e in
    let all : length c.loop-store.stores.items ≡ n + 1 = ap (λ xs. length xs) c.in-Some.ensures.items ∙ length-append c.pop.new.self.items (store ∷ [])
    ∙ ap (λ (k : ℕ). k + 1) long in
    let here : get_or c.loop-store.stores.items n store ≡ store = ap (λ xs. get_or xs n store) c.in-Some.ensures.items
    ∙ last_at c.pop.new.self.items n store store long in
    let inside : n < c.args.top.now.key.end = let f = inv.few in let q = c.requires.end in omega arith in
    let is : IsStore g.C.Keep.content g.C.Keep.sound (config_of c.args.top.now.key) v0.seen n store = subst
    (IsStore g.C.Keep.content g.C.Keep.sound (config_of c.args.top.now.key) v0.seen n) here (inv.good n store (omega arith)) in
    can_give_at (GoodAt g.C.Keep.content g.C.Keep.sound) v0 (config_of c.args.top.now.key) (vec_len c.loop-store.stores) n c.loop-store.token.me
    (Fiber store) o inv.me (omega arith)
    (subst (λ (x : TableConfig). GoodAt g.C.Keep.content g.C.Keep.sound x v0.seen n (Fiber store)) (sym o.same_config) (inside, is.0, is.1))

pub loop-store-preserved : goal.loop-store-preserved
loop-store-preserved g c =
    let inv = c.loop-store.invariant in
    let store = c.in-Some.store in
    let more : vec_len c.pop.new.self + 1 ≡ vec_len c.loop-store.stores = c.in-Some.ensures.cases in
    let long : length c.loop-store.stores.items ≡ length c.pop.new.self.items + 1 = ap (λ xs. length xs) c.in-Some.ensures.items
    ∙ length-append c.pop.new.self.items (store ∷ []) in
    record {
      table = c.give.ensures.same.table ∙ inv.table;
      me = give_back-step c.args.token.now.me.0 (vec_len c.loop-store.stores) (vec_len c.pop.new.self) c.loop-store.token.me c.give.new.token.me inv.me
          (omega arith) c.give.ensures.me;
      few = let f = inv.few in omega arith;
      room = let f = inv.room in let q = c.pop.ensures.capacity in omega arith;
      good = λ n d b. subst (IsStore g.C.Keep.content g.C.Keep.sound (config_of c.args.top.now.key) c.args.token.now.me.0.seen n)
          (ap (λ xs. get_or xs n d) c.in-Some.ensures.items ∙ get_or-append c.pop.new.self.items (store ∷ []) d n b) (inv.good n d (omega arith));
    }
