-- An entry is added to the history.
use Rattle.std.proofs.Common.{◌≡◌, ◌≢◌, ℕ, ◌+◌, ◌<◌, ◌≤◌, List, [], ◌∷◌, ◌++◌, length, get_or, set, sym, refl, ap, ◌∙◌, subst, ⊎_elim, inl, arith, Option}
use Rattle.std.proofs.Common.{All, length-set, get_or-set_other, get_or-set_same}
use Rattle.std.proofs.lemmas.List.{append-nil, append_assoc}
use mathlib.Core.Option.{none}
use Rattle.atomic_table.specs.Table.{State, step, keeps}
use Rattle.dt_model.specs.declared.calls.Entry.{Entry}
use Rattle.fiber_latch.specs.declared.view.Hold.{Hold}
use Rattle.fiber_latch.specs.declared.view.Role.{Role}
use Rattle.fiber_latch.specs.declared.view.Role.TheVariants.{Spent, Pass, Sessions}
use Rattle.fiber_latch.specs.declared.view.TableConfig.{TableConfig}
use Rattle.fiber_latch.specs.declared.view.View.{View}
use Rattle.fiber_latch.specs.declared.rule.Kept as kept
use Rattle.fiber_latch.specs.declared.rule.SlotValue.{SlotValue}
use Rattle.fiber_latch.specs.Views.{IsUnrelated, In, Touches, Owns, IsSession, IsLive, HasMark, Keeps, Knows, IsKeptMark, IsKnownMark, IsLawful}
use Rattle.fiber_latch.specs.Rule.{IsSoundView, KeepsRule}
use Rattle.fiber_latch.specs.Steps.{AddsEntry}
use Rattle.fiber_latch.specs.Conditions.{CanAddEntry}
use Rattle.fiber_latch.specs.Kinds.{CommitDoes, Steps}
use Rattle.fiber_latch.proofs.MachineLemmas.{can_commit, run_commits, machine_at-commit}
use Rattle.fiber_latch.proofs.RuleLemmas.{latch_stays, session_lives, owner_is_session}
use Rattle.std.proofs.Common.{◌%◌, ◌^◌}
use Rattle.fiber_latch.proofs.TakeKind.{no_join}
use Rattle.fiber_latch.proofs.SeatSteps.{each_stays, alone_stays, owned_stays}
use Rattle.fiber_latch.proofs.ViewsLemmas.{none_in, in_append}
use Rattle.fiber_latch.proofs.Keepers.{marks_listed, marks_there, keeps_known, pass_keeps}
use Rattle.std.proofs.Common.{length-append}

once : (x n : ℕ) → n ≡ x + 1 → x < 18446744073709551615 → (x + 1) % 2 ^ 64 ≡ n
once x n e h = omega arith

module _ {C : Type 0} (good : List Entry → ℕ → kept.Kept C → Type 0) (config : TableConfig) where
  module _ (slots id : ℕ) (v : View) (c : List (ℕ × Option (SlotValue C))) (e : Entry) (can : CanAddEntry config v e) where
    owns : Owns v.role e.turn.session
    owns = can.owns

    session : IsSession v.role
    session = owner_is_session v.role e.turn.session owns

    touched : (l : ℕ) → Touches config l e → Keeps v l
    touched l t = let h = can.held l t in marks_there IsKeptMark v.role v.held l session (h.0, h.1, h.2, subst IsKeptMark (sym h.4) tt)

    -- a latch that the seat keeps is known to no other
    apart : (st : State (Option (SlotValue C)) View) (r : KeepsRule config good st) → IsSoundView config r.history r.owner r.keeper st.words r.name id v
        → (j l : ℕ) (u : View) → j ≢ id
        → IsSoundView config r.history r.owner r.keeper st.words r.name j u → IsLive u.role → Keeps v l → Knows u l → ⊥
    apart st r ok j l u n u_ok live keep know = cases u.role refl
      where
        mine : (h : Hold) × In h v.held × (h.latch ≡ l) × IsKeptMark h.mark
        mine = marks_listed IsKeptMark v.role v.held l session keep

        mine_at : r.owner (get_or st.words l 0) ≡ id
        mine_at = let x = ok.holds mine.0 mine.1 in ap r.owner (sym (ap (λ (k : ℕ). get_or st.words k 0) mine.2) ∙ x.3) ∙ ok.mine mine.0.session x.1

        cases : (role : Role) → u.role ≡ role → ⊥
        cases Spent q = subst IsLive q live
        cases (Pass w) q = n (sym (u_ok.keeps l (pass_keeps IsKeptMark u.role u.held l (q
            ∙ ap Pass (subst (λ (z : Role). HasMark IsKnownMark z u.held l) q know)))) ∙ ok.keeps l keep)
        cases (Sessions f t) q =
            let g = subst (λ (z : Role). HasMark IsKnownMark z u.held l) q know in
            let x = u_ok.holds g.0 g.1 in
            n (sym (ap r.owner (sym (ap (λ (k : ℕ). get_or st.words k 0) g.2) ∙ x.3) ∙ u_ok.mine g.0.session x.1) ∙ mine_at)

    -- a commit is the machine's commit
    pub commit_moves : Steps good config slots id (v, c) (config.end
        + 1) (λ n. (n + 1) % 2 ^ 64) (AddsEntry e (step slots (config.end + 1) 1 0 none) (v, c)) (CommitDoes config.world.decls e v)
    commit_moves = record {
      goes = λ st r deep at small.
          let ok = r.each_view id v at (session_lives v.role session) in
          let i : ℕ = config.end + 1 in
          let n' : ℕ = (get_or st.words i 0 + 1) % 2 ^ 64 in
          let H : List Entry = r.history in
          let H' : List Entry = H ++ e ∷ [] in
          let nothing : ok.sees.0 ≡ [] = none_in ok.sees.0
          (λ d q. (ok.sees.2 d q).latch config.end (keeps_known v.role v.held config.end (touched config.end (inl refl))) (inl refl)) in
          let all : H ≡ v.seen = ok.sees.1 ∙ (ap (λ (z : List Entry). v.seen ++ z) nothing ∙ append-nil v.seen) in
          let w : View = record v { seen = v.seen ++ e ∷ [] } in
          let words' : List ℕ = set st.words i n' in
          let at_latch : (l : ℕ) → l ≤ config.end → get_or words' l 0
          ≡ get_or st.words l 0 = λ l b. get_or-set_other st.words i l n' 0 (λ (q : l ≡ i). omega arith) in
          let counted : n' ≡ length H' = let x : ℕ = get_or st.words i 0 in let a : x ≡ length H = r.clock in let b : length H
          ≡ length v.seen = ap length all in let room = can.room in let d : length H' ≡ length H
          + 1 = length-append H (e ∷ []) in once x (length H') (omega arith) (omega arith) in
          let may = can_commit config st.words H r.run r.journal e (ok.within e.turn.session owns).0 can.valid
          (λ l t. let h = can.held l t in let x = ok.holds h.0 h.1 in
          subst (λ (p : ℕ × ℕ). (p.0 ≤ config.end) × (get_or st.words p.0 0 ≡ p.1)) (λ i. (h.2 i, h.3 i)) (x.0, x.3))
          (subst (All (λ f. f.turn.session ≡ e.turn.session → f.turn.number < e.turn.number)) (sym all) can.above) in (
            w,
            keeps,
            tt,
            record {
              history = H';
              owner = r.owner;
              keeper = r.keeper;
              name = r.name;
              journal = r.journal;
              wide = length-set st.words i n' ∙ r.wide;
              deep = r.deep;
              clock = get_or-set_same st.words i n' 0 (let x = r.wide in omega arith) ∙ counted;
              law = subst (λ (z : List Entry). IsLawful config (z ++ e ∷ [])) (sym all) (can.law (subst (IsLawful config) all r.law));
              run = run_commits config st.words H r.run r.journal e n' may;
              each_view = each_stays (λ (j : ℕ) (u : View). IsLive u.role → IsSoundView config H' r.owner r.keeper words' r.name j u) st.views id w
                  (λ _. record {
                    named = ok.named;
                    same_config = ok.same_config;
                    sees = ([], ap (λ (z : List Entry). z ++ e ∷ []) all ∙ sym (append-nil (v.seen ++ e ∷ [])), λ d q. absurd q);
                    mine = ok.mine;
                    within = ok.within;
                    keeps = ok.keeps;
                    holds = λ h q. let x = ok.holds h q in (x.0, x.1, x.2, at_latch h.latch x.0 ∙ x.3);
                    descending = ok.descending;
                    last_join = no_join config w v.last_join can.idle;
                  })
                  (λ j u m q live. let u_ok = r.each_view j u q live in record {
                    named = u_ok.named;
                    same_config = u_ok.same_config;
                    sees = (
                      u_ok.sees.0 ++ e ∷ [],
                      ap (λ (z : List Entry). z ++ e ∷ []) u_ok.sees.1 ∙ append_assoc u.seen u_ok.sees.0 (e ∷ []),
                      λ d p. ⊎_elim (λ (a : In d u_ok.sees.0). u_ok.sees.2 d a)
                          (λ (a : In d (e ∷ [])). ⊎_elim (λ (b : d ≡ e). subst (IsUnrelated config (Owns u.role) (Knows u)) (sym b) record {
                            session = λ o. m (sym (u_ok.mine e.turn.session o) ∙ ok.mine e.turn.session owns);
                            latch = λ l k t. apart st r ok j l u m u_ok live (touched l t) k;
                          }) (λ (b : ⊥). absurd b) a)
                          (in_append d u_ok.sees.0 (e ∷ []) p),
                    );
                    mine = u_ok.mine;
                    within = u_ok.within;
                    keeps = u_ok.keeps;
                    holds = λ h p. let x = u_ok.holds h p in (x.0, x.1, x.2, at_latch h.latch x.0 ∙ x.3);
                    descending = u_ok.descending;
                    last_join = u_ok.last_join;
                  });
              owned = owned_stays st.views r.owner config.sessions id v w at refl r.owned;
              each_latch = λ l b. latch_stays good config r.owner (r.keeper l) st.words words' st.homes st.homes st.views id v w l at session (at_latch l b)
                  refl session (λ h q _. q) (r.each_latch l b);
              alone = alone_stays st.views id v w at (λ f. f) r.alone;
            },
            refl,
            record { commits = record { can = may; after = sym (machine_at-commit config st.words H r.run r.journal e n') }; conflicts = refl },
          );
    }
