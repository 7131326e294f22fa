-- A query, once its latches are taken and it is answered.
use Rattle.std.proofs.Common.{◌≡◌, ℕ, List, [], subst}
use Rattle.dt_model.specs.declared.calls.Call.{Call}
use Rattle.dt_model.specs.declared.calls.Call.TheVariants.{Query}
use Rattle.dt_model.specs.declared.calls.Entry.{Entry}
use Rattle.dt_model.specs.declared.declared_tensors.Decls.{Decls}
use Rattle.dt_model.specs.declared.replies.Reply.TheVariants.{Result}
use Rattle.dt_model.specs.declared.statements.Stmt.{Stmt}
use Rattle.dt_model.specs.Contents.{Contents}
use Rattle.dt_model.specs.Latches.{needs}
use Rattle.dt_model.specs.Runs.{contents_after}
use Rattle.dt_model.specs.Statements.{answer}
use Rattle.fiber_latch.specs.Seats.{SeatState}
use Rattle.fiber_store.specs.Stores.{StoreState, IsSound, store_content}
use Rattle.sessions.specs.declared.hands.Hand.{Hand}
use Rattle.sessions.specs.Calling.{GoesOn, HasMade}
use Rattle.sessions.specs.Entering.{HasEntered}
use Rattle.sessions.specs.Holding.{due_of, Holds, IsReady}
use Rattle.sessions.specs.HeldTables.{AreFibersOf, HoldsEach}
use Rattle.sessions.proofs.HeldCalls.{good_there, held_each, query_made}

-- the pairs are the answer in all contents that the stores have
abbrev pub IsAnswer : Decls → List (Hand StoreState) → Stmt → List (List ℕ × ℕ) → Type 0
IsAnswer d hands stmt pairs = (m : Contents) → AreFibersOf d m hands → HoldsEach (needs d (Query stmt)) hands → pairs ≡ answer d m stmt

module _ (e : Entry) (old mid : SeatState) (hands : List (Hand StoreState)) (goes : GoesOn old mid)
    (holds : Holds store_content IsSound e.turn.session mid hands) (ready : IsReady due_of e.turn.session e.call mid hands) (late : SeatState)
    (entered : HasEntered e mid late) where
  -- the stores have what the entries before the query leave
  fibers_there : AreFibersOf mid.config.world.decls (contents_after mid.config.world entered.before) hands
  fibers_there h i =
      let g = good_there store_content IsSound due_of e old mid hands goes holds ready late entered h i in
      record { sound = g.1; content = g.2 }

  -- a query that was answered before its entry is answered as at its place
  pub answered_made : (stmt : Stmt) → e.call ≡ Query stmt → (d : Decls) → d ≡ mid.config.world.decls → (pairs : List (List ℕ × ℕ)) → IsAnswer d hands stmt pairs
      → (new : SeatState) → old.held ≡ [] → new ≡ record late { held = [] } → HasMade e (Result pairs) old new
  answered_made stmt is d same pairs answers new idle last =
      let there : IsAnswer mid.config.world.decls hands stmt pairs = subst (λ (x : Decls). IsAnswer x hands stmt pairs) same answers in
      let each : HoldsEach (needs mid.config.world.decls (Query stmt)) hands = subst (λ (c : Call). HoldsEach (needs mid.config.world.decls c) hands) is
      (held_each store_content IsSound due_of e old mid hands goes holds ready) in
      query_made store_content IsSound due_of e old mid hands goes holds ready late entered stmt is pairs
      (there (contents_after mid.config.world entered.before) fibers_there each) new idle last
