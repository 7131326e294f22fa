-- A call that needs several fibers, once its latches are taken.
use Rattle.std.proofs.Common.{◌≡◌, ℕ, ◌==◌, Bool, List, [], IsTrue, sym, ap, ◌∙◌, subst}
use Rattle.dt_model.specs.declared.calls.Call.{Call}
use Rattle.dt_model.specs.declared.calls.Call.TheVariants.{Batch, Query}
use Rattle.dt_model.specs.declared.calls.Entry.{Entry}
use Rattle.dt_model.specs.declared.calls.Update.{Update}
use Rattle.dt_model.specs.declared.declared_tensors.Decls.{Decls}
use Rattle.dt_model.specs.declared.replies.Reply.{Reply}
use Rattle.dt_model.specs.declared.replies.Reply.TheVariants.{Done, Result}
use Rattle.dt_model.specs.declared.statements.Stmt.{Stmt}
use Rattle.dt_model.specs.Contents.{Contents, with_updates}
use Rattle.dt_model.specs.Latches.{needs}
use Rattle.dt_model.specs.Runs.{contents_after, after_call, reply_to, restricted_to}
use Rattle.dt_model.specs.Statements.{answer}
use Rattle.dt_model.specs.Tensors.{latch_count}
use Rattle.commit_core.specs.Machine.{commit_needs}
use Rattle.dt_model.specs.Verdicts.{call_is_valid}
use Rattle.dt_model.proofs.RunsLemmas.{contents_after-push}
use Rattle.fiber_latch.specs.declared.view.TableConfig.{TableConfig}
use Rattle.fiber_latch.specs.declared.rule.Kept.TheVariants.{Fiber}
use Rattle.fiber_latch.specs.Rule.{GoodAt}
use Rattle.fiber_latch.specs.Views.{In}
use Rattle.fiber_latch.specs.Seats.{SeatState}
use Rattle.sessions.specs.declared.hands.Hand.{Hand}
use Rattle.sessions.specs.Calling.{CanMake, GoesOn, HasMade}
use Rattle.sessions.specs.Entering.{CanEnter, HasEntered}
use Rattle.sessions.specs.Holding.{Holds, HoldsBehind, IsOnlyNoted, IsReady, IsDue}
use Rattle.sessions.specs.Noting.{Notes}
use Rattle.sessions.proofs.CallingLemmas.{IsNext-goes}
use Rattle.sessions.proofs.EnteringLemmas.{has_made, good_before, good_behind}
use Rattle.sessions.proofs.HoldingLemmas.{Holds-before, IsAsBefore-noted, in_listed, of_listed}
use Rattle.sessions.proofs.NotingLemmas.{Notes-later, Notes-more, commit_needs-own, commit_needs-journal, number_is}

-- ---- where the journal's latch was tried

-- a take that was stopped leaves what is held
pub Holds-noted : {C : Type 0} (content : C → Contents) (sound : Decls → ℕ → C → Type 0) (s : ℕ) (mid late : SeatState) (hands : List (Hand C))
    → Holds content sound s mid hands → IsOnlyNoted mid late → Holds content sound s late hands
Holds-noted content sound s mid late hands holds noted = Holds-before content sound s mid hands holds late (IsAsBefore-noted mid late noted)

-- what was held was given back
pub noted_given : (mid late new : SeatState) → IsOnlyNoted mid late → new ≡ record late { held = [] } → new
    ≡ record mid { held = []; conflicts = new.conflicts }
noted_given mid late new noted last =
    let n : new ≡ record mid { held = []; conflicts = late.conflicts } = last ∙ ap (λ (s : SeatState). record s { held = [] }) noted in
    n ∙ ap (λ (m : List (ℕ × ℕ)). record mid { held = []; conflicts = m }) (sym (ap (λ (s : SeatState). s.conflicts) n))

-- a call notes conflicts with latches that its commit needs: first its own, and then the journal's
pub Notes-commit : (w : Bool) (call : Call) (stop : List (ℕ × ℕ)) (end : ℕ) (old mid new : SeatState) → GoesOn old mid
    → end ≡ latch_count old.config.world.decls
    → Notes w (needs old.config.world.decls call) [] old mid → Notes w (λ l. l == end) stop mid new
    → Notes w (commit_needs old.config.world.decls call) stop old new
Notes-commit w call stop end old mid new goes journal own last =
    Notes-more w (needs old.config.world.decls call) (λ l. l == end) (commit_needs old.config.world.decls call) stop old mid new goes
    (λ l n. commit_needs-own old.config.world.decls call l n)
    (λ l n. commit_needs-journal old.config.world.decls call l (number_is l end n ∙ journal)) own last

-- nothing was noted since, and an entry left what the table was opened for
pub Notes-made : (w : Bool) (call : Call) (stop : List (ℕ × ℕ)) (end : ℕ) (old mid late new : SeatState) → GoesOn old mid
    → end ≡ latch_count old.config.world.decls → Notes w (needs old.config.world.decls call) [] old mid → Notes w (λ l. l == end) stop mid late
    → new.conflicts ≡ late.conflicts → Notes w (commit_needs old.config.world.decls call) stop old new
Notes-made w call stop end old mid late new goes journal own last same =
    Notes-later w (commit_needs old.config.world.decls call) stop old late new same (Notes-commit w call stop end old mid late goes journal own last)

-- ---- once the latches are taken

module _ {C : Type 0} (content : C → Contents) (sound : Decls → ℕ → C → Type 0) (due : C
    → List Update) (e : Entry) (old mid : SeatState) (hands : List (Hand C)) (goes : GoesOn old mid) (holds : Holds content sound e.turn.session mid hands)
    (ready : IsReady due e.turn.session e.call mid hands) where
  -- with all latches taken, the entry may be entered
  pub held_can_enter : CanMake e old → CanEnter e mid
  held_can_enter can = record {
    next = IsNext-goes e.turn old mid goes can.next;
    valid = subst (λ (x : TableConfig). IsTrue (call_is_valid x.world.decls e.call)) (sym (ap (λ (s : SeatState). s.config) goes.rest)) can.valid;
    held = ready.all;
    below = ready.below;
  }

  -- each latch of the call is in hand
  pub held_each : (l : ℕ) → IsTrue (needs mid.config.world.decls e.call l) → (h : Hand C) × In h hands × (h.latch ≡ l)
  held_each l n =
      let h = of_listed e.turn.session (l, e.turn.session) hands (subst (In (l, e.turn.session)) holds.held (ready.all l n)) in
      (h.0, h.1.0, sym (ap (λ (p : ℕ × ℕ). p.0) h.1.1))

  module _ (late : SeatState) (entered : HasEntered e mid late) where
    late_config : late.config ≡ mid.config
    late_config = ap (λ (s : SeatState). s.config) entered.rest

    -- each store is good where the entry was put
    pub good_there : (h : Hand C) → In h hands → GoodAt content sound mid.config entered.before h.latch (Fiber h.store)
    good_there h i = good_before content sound e mid late entered h.latch e.turn.session h.store
        (subst (In (h.latch, e.turn.session)) (sym holds.held) (in_listed e.turn.session h hands i)) (holds.good h i)

    -- behind the entry of a batch the stores are due its updates
    pub behind_batch : (updates : List Update) → e.call ≡ Batch updates → HoldsBehind content sound due e.turn.session updates late hands
    behind_batch updates is = record {
      before = entered.before;
      held = ap (λ (s : SeatState). s.held) entered.rest ∙ holds.held;
      seen = subst (λ (x : TableConfig). contents_after x.world late.seen ≡ with_updates (contents_after x.world entered.before) updates) (sym late_config)
          (ap (contents_after mid.config.world) (ap (λ (s : SeatState). s.seen) entered.rest) ∙ contents_after-push mid.config.world entered.before e
          ∙ ap (λ (c : Call). after_call (contents_after mid.config.world entered.before) c) is);
      good = λ h i. subst (λ (x : TableConfig). GoodAt content sound x entered.before h.latch (Fiber h.store)) (sym late_config) (good_there h i);
      dues = λ h i. subst (λ (x : TableConfig). IsDue due x.world.decls (Batch updates) h.latch h.store) (sym late_config)
          (subst (λ (c : Call). IsDue due mid.config.world.decls c h.latch h.store) is (ready.dues h i));
    }

    -- behind the entry of a query the stores are still good
    pub behind_query : (stmt : Stmt) → e.call ≡ Query stmt → Holds content sound e.turn.session late hands
    behind_query stmt is = record {
      held = ap (λ (s : SeatState). s.held) entered.rest ∙ holds.held;
      good = λ h i.
          let g = good_there h i in
          good_behind content sound e mid late entered h.latch h.store h.store g (λ s. s) (g.2
          ∙ ap (λ (c : Call). restricted_to mid.config.world.decls (after_call (contents_after mid.config.world entered.before) c) h.latch) (sym is));
    }

    -- the call was made
    pub held_made : (reply : Reply) (new : SeatState) → old.held ≡ [] → new ≡ record late { held = [] }
        → reply_to mid.config.world.decls (contents_after mid.config.world entered.before) e.call ≡ reply → HasMade e reply old new
    held_made reply new idle last says =
        has_made e reply old mid late new goes entered (last ∙ ap (λ (h : List (ℕ × ℕ)). record late { held = h }) (sym idle)) says

    -- a batch was made
    pub batch_made : (updates : List Update) → e.call ≡ Batch updates → (new : SeatState) → old.held ≡ [] → new ≡ record late { held = [] }
        → HasMade e Done old new
    batch_made updates is new idle last = held_made Done new idle last
        (ap (λ (c : Call). reply_to mid.config.world.decls (contents_after mid.config.world entered.before) c) is)

    -- a query was made
    pub query_made : (stmt : Stmt) → e.call ≡ Query stmt → (pairs : List (List ℕ × ℕ)) → pairs
        ≡ answer mid.config.world.decls (contents_after mid.config.world entered.before) stmt
        → (new : SeatState) → old.held ≡ [] → new ≡ record late { held = [] } → HasMade e (Result pairs) old new
    query_made stmt is pairs value new idle last = held_made (Result pairs) new idle last
        (ap (λ (c : Call). reply_to mid.config.world.decls (contents_after mid.config.world entered.before) c) is
        ∙ ap (λ (p : List (List ℕ × ℕ)). Result p) (sym value))
