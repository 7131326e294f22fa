-- What holds once an entry was entered: the values in hand, and the reply.
use Rattle.std.proofs.Common.{◌≡◌, ℕ, ◌==◌, true, List, [], ◌∷◌, ◌++◌, sym, refl, ap, ◌∙◌, subst, drop, Some}
use Rattle.dt_model.specs.declared.calls.Entry.{Entry}
use Rattle.dt_model.specs.declared.declared_tensors.Decls.{Decls}
use Rattle.dt_model.specs.declared.replies.Reply.{Reply}
use Rattle.dt_model.specs.Contents.{Contents}
use Rattle.dt_model.specs.Tensors.{latch_of}
use Rattle.dt_model.specs.Runs.{contents_after, restricted_to, after_call, reply_to}
use Rattle.dt_model.proofs.RunsLemmas.{contents_after-push, reply_of_entry-push}
use Rattle.commit_core.proofs.MachineLemmas.{Agree-restricted_to}
use Rattle.fiber_latch.specs.declared.view.TableConfig.{TableConfig}
use Rattle.fiber_latch.specs.declared.rule.Kept.TheVariants.{Fiber}
use Rattle.fiber_latch.specs.Views.{In, Extends}
use Rattle.fiber_latch.specs.Rule.{GoodAt}
use Rattle.fiber_latch.specs.Seats.{SeatState, IsOutside}
use Rattle.fiber_latch.proofs.SeatsLemmas.{good_stays}
use Rattle.sessions.specs.Calling.{GoesOn, HasMade}
use Rattle.sessions.specs.Entering.{HasEntered, IsForeign}
use Rattle.sessions.proofs.CallingLemmas.{Extends-more, Extends-weaker, Extends-conflicts}

-- an entry was written after a take that may have waited
pub HasEntered-written : (e : Entry) (old mid new : SeatState) (l : ℕ × ℕ) (m : List (ℕ × ℕ)) → mid
    ≡ record old { held = l ∷ old.held; seen = mid.seen; conflicts = m } → Extends (IsForeign (record old { conflicts = m })) old.seen mid.seen
    → new ≡ record mid { held = drop 1 mid.held; seen = mid.seen ++ e ∷ [] } → HasEntered e old new
HasEntered-written e old mid new l m rest grown last =
    let n : new ≡ record old { seen = mid.seen ++ e ∷ []; conflicts = m } = last
    ∙ ap (λ (s : SeatState). record s { held = drop 1 s.held; seen = mid.seen ++ e ∷ [] }) rest in
    record {
      before = mid.seen;
      grown = Extends-conflicts old m old.seen mid.seen grown;
      rest = n ∙ ap (λ (k : List (ℕ × ℕ)). record old { seen = mid.seen ++ e ∷ []; conflicts = k }) (sym (ap (λ (s : SeatState). s.conflicts) n));
    }

module _ {C : Type 0} (content : C → Contents) (sound : Decls → ℕ → C → Type 0) (e : Entry) (old new : SeatState) (entered : HasEntered e old new) where
  -- an entry leaves what the table was opened for
  pub entered_config : new.config ≡ old.config
  entered_config = ap (λ (s : SeatState). s.config) entered.rest

  -- the entry is seen last
  pub entered_seen : new.seen ≡ entered.before ++ e ∷ []
  entered_seen = ap (λ (s : SeatState). s.seen) entered.rest

  -- an entry leaves what is held
  pub entered_held : new.held ≡ old.held
  entered_held = ap (λ (s : SeatState). s.held) entered.rest

  -- a store in hand is still good where the entry was put
  pub good_before : (l s : ℕ) (c : C) → In (l, s) old.held → GoodAt content sound old.config old.seen l (Fiber c)
      → GoodAt content sound old.config entered.before l (Fiber c)
  good_before l s c i g = good_stays content sound (l, s) old entered.before (Fiber c) i entered.grown g

  -- a store that has become what the call makes of it is good behind the entry
  pub good_behind : (l : ℕ) (c d : C) → GoodAt content sound old.config entered.before l (Fiber c)
      → (sound old.config.world.decls l c → sound old.config.world.decls l d)
      → content d ≡ restricted_to old.config.world.decls (after_call (contents_after old.config.world entered.before) e.call) l
      → GoodAt content sound new.config new.seen l (Fiber d)
  good_behind l c d g sounds is =
      subst (λ (x : TableConfig). GoodAt content sound x new.seen l (Fiber d)) (sym entered_config)
      (subst (λ (p : List Entry). GoodAt content sound old.config p l (Fiber d)) (sym entered_seen) (
        g.0,
        sounds g.1,
        is ∙ ap (λ (m : Contents). restricted_to old.config.world.decls m l) (sym (contents_after-push old.config.world entered.before e)),
      ))

-- the number of a cell of the latch, in a store that is good
pub good_number : {C : Type 0} (content : C → Contents) (sound : Decls → ℕ → C
    → Type 0) (config : TableConfig) (p : List Entry) (l t : ℕ) (at : List ℕ) (c : C) → GoodAt content sound config p l (Fiber c)
    → (latch_of config.world.decls t at == l) ≡ true → content c t at ≡ contents_after config.world p t at
good_number content sound config p l t at c g here =
    ap (λ (m : Contents). m t at) g.2 ∙ Agree-restricted_to config.world.decls l (contents_after config.world p) t at here

-- a call was made
pub has_made : (e : Entry) (reply : Reply) (old mid late new : SeatState) → GoesOn old mid → (entered : HasEntered e mid late)
    → new ≡ record late { held = old.held } → reply_to mid.config.world.decls (contents_after mid.config.world entered.before) e.call ≡ reply
    → HasMade e reply old new
has_made e reply old mid late new goes entered last answers =
    let r : late ≡ record old { held = mid.held; seen = entered.before ++ e ∷ []; conflicts = late.conflicts } = entered.rest
    ∙ ap (λ (s : SeatState). record s { seen = entered.before ++ e ∷ []; conflicts = late.conflicts }) goes.rest in
    let n : new ≡ record old { seen = entered.before ++ e ∷ []; conflicts = late.conflicts } = last
    ∙ ap (λ (s : SeatState). record s { held = old.held }) r in
    let says : reply_to old.config.world.decls (contents_after old.config.world entered.before) e.call ≡ reply =
    subst (λ (x : TableConfig). reply_to x.world.decls (contents_after x.world entered.before) e.call
    ≡ reply) (ap (λ (s : SeatState). s.config) goes.rest) answers in
    subst (HasMade e reply old) (sym n) (record {
      before = entered.before;
      grown = Extends-more (IsOutside old.first old.last) old.seen mid.seen entered.before goes.grown
          (subst (λ (s : SeatState). Extends (IsOutside s.first s.last) mid.seen entered.before) goes.rest
          (Extends-weaker (IsForeign mid) (IsOutside mid.first mid.last) mid.seen entered.before (λ x f. f.session) entered.grown));
      seen = refl;
      rest = refl;
      answers = reply_of_entry-push old.config.world entered.before e ∙ ap Some says;
    })
