-- The steps of the table are the machine's.
use Rattle.std.proofs.Common.{◌≡◌, ◌≢◌, ℕ, zero, suc, ◌+◌, ◌<◌, ◌≤◌, ◌==◌, ◌||◌, List, [], ◌∷◌, ◌++◌, length, get_or, set, sym, refl, ap, ◌∙◌, subst, inl}
use Rattle.std.proofs.Common.{inr, arith, Bool, true, false, if◌then◌else◌, eq-eqb, ne_eqb, nat_le, nat_lt, le-leb, get_or-set_other, get_or-set_same, IsTrue}
use Rattle.std.proofs.Common.{All}
use Rattle.std.proofs.lemmas.Bool.Decides.{nat_tests}
use mathlib.Core.Logic.{dite}
use native.Mathlib.Decide.{ℕ_discrete, dec_le}
use Rattle.commit_core.specs.Machine.{Machine, Reached, CanTake, CanCommit, CanGive, taken, committed, given, content_after, commit_needs, journal_latch}
use Rattle.commit_core.specs.Machine.Reached.{opened, takes, commits, gives}
use Rattle.commit_core.proofs.MachineLemmas.{content_after-restricted_to}
use Rattle.dt_model.proofs.RunsLemmas.{contents_after-push}
use Rattle.dt_model.specs.declared.calls.Entry.{Entry}
use Rattle.dt_model.specs.Contents.{Contents}
use Rattle.dt_model.specs.Latches.{needs}
use Rattle.dt_model.specs.declared.replies.World.{World}
use Rattle.dt_model.specs.Runs.{base_of, contents_after, restricted_to}
use Rattle.dt_model.specs.Functions.{with_value}
use Rattle.dt_model.specs.Tensors.{latch_count}
use Rattle.dt_model.specs.Verdicts.{call_is_valid}
use Rattle.fiber_latch.specs.declared.view.TableConfig.{TableConfig}
use Rattle.fiber_latch.specs.Views.{Touches}
use Rattle.fiber_latch.specs.Rule.{holders, machine_at}

-- the holder of a latch is its word
pub inside_is : (end : ℕ) (words : List ℕ) (l : ℕ) → l ≤ end → holders end words l ≡ get_or words l 0
inside_is end words l b = ap (λ (t : Bool). if t then get_or words l 0 else 0) (le-leb l end b)

-- past the journal's latch nobody holds
pub outside_is : (end : ℕ) (words : List ℕ) (l : ℕ) → end < l → holders end words l ≡ 0
outside_is end words l b = ap (λ (t : Bool). if t then get_or words l 0 else 0) (not_le l end b)
  where
    not_le : (a c : ℕ) → c < a → nat_le a c ≡ false
    not_le a c h = grind (arith, nat_tests)

-- a latch's word changes
pub holders_set : (end : ℕ) (words : List ℕ) (l s : ℕ) → l ≤ end → l < length words → holders end (set words l s) ≡ with_value (holders end words) l s
holders_set end words l s b long = λ i k. each k i
  where
    each : (k : ℕ) → holders end (set words l s) k ≡ with_value (holders end words) l s k
    each k = dite (ℕ_discrete k l)
        (λ (q : k ≡ l). subst (λ (n : ℕ). holders end (set words l s) n ≡ with_value (holders end words) l s n) (sym q)
        (inside_is end (set words l s) l b ∙ get_or-set_same words l s 0 long
        ∙ sym (ap (λ (t : Bool). if t then s else holders end words l) (eq-eqb l l refl))))
        (λ (q : k ≢ l). dite (dec_le k end)
        (λ (y : k ≤ end). inside_is end (set words l s) k y ∙ get_or-set_other words l k s 0 q ∙ sym (inside_is end words k y)
        ∙ sym (ap (λ (t : Bool). if t then s else holders end words k) (ne_eqb k l q)))
        (λ (n : ¬ (k ≤ end)). outside_is end (set words l s) k (omega arith) ∙ sym (outside_is end words k (omega arith))
        ∙ sym (ap (λ (t : Bool). if t then s else holders end words k) (ne_eqb k l q))))

-- a word past the latches changes
pub holders_past : (end : ℕ) (words : List ℕ) (i n : ℕ) → end < i → holders end (set words i n) ≡ holders end words
holders_past end words i n past = λ j k. each k j
  where
    each : (k : ℕ) → holders end (set words i n) k ≡ holders end words k
    each k = dite (dec_le k end)
        (λ (y : k ≤ end). inside_is end (set words i n) k y ∙ get_or-set_other words i k n 0 (λ (q : k ≡ i). omega arith) ∙ sym (inside_is end words k y))
        (λ (m : ¬ (k ≤ end)). outside_is end (set words i n) k (omega arith) ∙ sym (outside_is end words k (omega arith)))

module _ (config : TableConfig) (words : List ℕ) (H : List Entry) (run : Reached config.world (machine_at config words H)) (journal : config.end
    ≡ latch_count config.world.decls) where
  -- the words are the same
  pub run_stays : (words' : List ℕ) → words' ≡ words → Reached config.world (machine_at config words' H)
  run_stays words' same = subst (λ (ws : List ℕ). Reached config.world (machine_at config ws H)) (sym same) run

  -- the word of a latch goes from 0 to the session: the machine takes it
  pub can_take : (s l : ℕ) → l ≤ config.end → 0 < s → get_or words l 0 ≡ 0 → ((k : ℕ) → k ≤ config.end → get_or words k 0 ≡ s → k < l)
      → CanTake config.world.decls (machine_at config words H) s l
  can_take s l inside some_session free above = record {
    session = some_session;
    latch = subst (λ (n : ℕ). l ≤ n) journal inside;
    free = inside_is config.end words l inside ∙ free;
    above = λ k e. dite (dec_le k config.end)
        (λ (y : k ≤ config.end). above k y (sym (inside_is config.end words k y) ∙ e))
        (λ (n : ¬ (k ≤ config.end)). let z = outside_is config.end words k (omega arith) in absurd (omega arith));
  }

  -- the machine after a latch's word became the session is the machine that took it
  pub machine_at-take : (s l : ℕ) → l ≤ config.end → l < length words → taken (machine_at config words H) s l ≡ machine_at config (set words l s) H
  machine_at-take s l inside long = λ i. record {
    holder = sym (holders_set config.end words l s inside long) i;
    content = λ k. restricted_to config.world.decls (contents_after config.world H) k;
    history = H;
  }

  -- so it is reached
  pub run_takes : (s l : ℕ) → l ≤ config.end → l < length words → CanTake config.world.decls (machine_at config words H) s l
      → Reached config.world (machine_at config (set words l s) H)
  run_takes s l inside long can = subst (λ (m : Machine). Reached config.world m) (machine_at-take s l inside long)
      (takes (machine_at config words H) s l run can)

  -- the word of a latch goes from the session to 0: the machine gives it back
  pub can_give : (s l : ℕ) → l ≤ config.end → 0 < s → get_or words l 0 ≡ s → CanGive (machine_at config words H) s l
  can_give s l inside some_session held = record { session = some_session; held = inside_is config.end words l inside ∙ held }

  -- the machine after a latch's word became 0 is the machine that gave it back
  pub machine_at-give : (l : ℕ) → l ≤ config.end → l < length words → given (machine_at config words H) l ≡ machine_at config (set words l 0) H
  machine_at-give l inside long = λ i. record {
    holder = sym (holders_set config.end words l 0 inside long) i;
    content = λ k. restricted_to config.world.decls (contents_after config.world H) k;
    history = H;
  }

  -- so it is reached
  pub run_gives : (s l : ℕ) → l ≤ config.end → l < length words → CanGive (machine_at config words H) s l
      → Reached config.world (machine_at config (set words l 0) H)
  run_gives s l inside long can = subst (λ (m : Machine). Reached config.world m) (machine_at-give l inside long)
      (gives (machine_at config words H) s l run can)

  -- an entry comes, whose session holds all that its commit needs: the machine commits it
  pub can_commit : (e : Entry) → 0 < e.turn.session → IsTrue (call_is_valid config.world.decls e.call)
      → ((l : ℕ) → Touches config l e → (l ≤ config.end) × (get_or words l 0 ≡ e.turn.session))
      → All (λ f. f.turn.session ≡ e.turn.session → f.turn.number < e.turn.number) H → CanCommit config.world.decls (machine_at config words H) e
  can_commit e some_session valid holds above = record {
    session = some_session;
    valid = valid;
    holds = λ l t. let h = holds l (touched l t) in inside_is config.end words l h.0 ∙ h.1;
    above = above;
  }
    where
      touched : (l : ℕ) → IsTrue (commit_needs config.world.decls e.call l) → Touches config l e
      touched l t = go (needs config.world.decls e.call l) refl t
        where
          go : (b : Bool) → needs config.world.decls e.call l ≡ b → IsTrue (b || l == journal_latch config.world.decls) → Touches config l e
          go true is t = inr (subst IsTrue (sym is) refl)
          go false is t = dite (ℕ_discrete l config.end) (λ (q : l ≡ config.end). inl q)
              (λ (q : l ≢ config.end). let f : (l == journal_latch config.world.decls)
              ≡ false = ne_eqb l (journal_latch config.world.decls) (λ (c : l ≡ journal_latch config.world.decls). q (c ∙ sym journal)) in absurd (cc (
                f,
                t,
              )))

  -- the machine after the clock counted one more is the machine that committed the entry
  pub machine_at-commit : (e : Entry) (n : ℕ) → committed config.world.decls (machine_at config words H) e
      ≡ machine_at config (set words (config.end + 1) n) (H ++ e ∷ [])
  machine_at-commit e n = λ i. record {
    holder = sym (holders_past config.end words (config.end + 1) n (omega arith)) i;
    content = λ l. same l i;
    history = H ++ e ∷ [];
  }
    where
      same : (l : ℕ) → content_after config.world.decls e.call l (restricted_to config.world.decls (contents_after config.world H) l)
          ≡ restricted_to config.world.decls (contents_after config.world (H ++ e ∷ [])) l
      same l = content_after-restricted_to config.world.decls (contents_after config.world H) e.call l
          ∙ ap (λ (m : Contents). restricted_to config.world.decls m l) (sym (contents_after-push config.world H e))

  -- so it is reached
  pub run_commits : (e : Entry) (n : ℕ) → CanCommit config.world.decls (machine_at config words H) e
      → Reached config.world (machine_at config (set words (config.end + 1) n) (H ++ e ∷ []))
  run_commits e n can = subst (λ (m : Machine). Reached config.world m) (machine_at-commit e n) (commits (machine_at config words H) e run can)

-- ---- the first words: session 1 has taken each latch, in ascending order

abbrev upto : ℕ → ℕ → ℕ
upto m k = if nat_lt k m then 1 else 0

upto_in : (m k : ℕ) → k < m → upto m k ≡ 1
upto_in m k b = ap (λ (t : Bool). if t then 1 else 0) (is_lt k m b)
  where
    is_lt : (a c : ℕ) → a < c → nat_lt a c ≡ true
    is_lt a c h = grind (arith, nat_tests)

upto_out : (m k : ℕ) → m ≤ k → upto m k ≡ 0
upto_out m k b = ap (λ (t : Bool). if t then 1 else 0) (not_lt k m b)
  where
    not_lt : (a c : ℕ) → c ≤ a → nat_lt a c ≡ false
    not_lt a c h = grind (arith, nat_tests)

abbrev at_first : World → (ℕ → ℕ) → Machine
at_first w f = record { holder = f; content = λ l. restricted_to w.decls (base_of w) l; history = [] }

taken_upto : (w : World) (m : ℕ) → m ≤ suc (journal_latch w.decls) → Reached w (at_first w (upto m))
taken_upto w zero b = subst (λ (f : ℕ → ℕ). Reached w (at_first w f)) (λ i k. sym (upto_out 0 k (omega arith)) i) opened
taken_upto w (suc m) b = subst (λ (f : ℕ → ℕ). Reached w (at_first w f)) (λ i k. each k i)
    (takes (at_first w (upto m)) 1 m (taken_upto w m (omega arith)) record {
      session = omega arith;
      latch = omega arith;
      free = upto_out m m (omega arith);
      above = λ k e. dite (dec_le (suc k) m) (λ (y : suc k ≤ m). y) (λ (n : ¬ (suc k ≤ m)). let z = upto_out m k (omega arith) in absurd (omega arith));
    })
  where
    each : (k : ℕ) → with_value (upto m) m 1 k ≡ upto (suc m) k
    each k = dite (ℕ_discrete k m)
        (λ (q : k ≡ m). ap (λ (t : Bool). if t then 1 else upto m k) (eq-eqb k m q) ∙ sym (upto_in (suc m) k (omega arith)))
        (λ (q : k ≢ m). ap (λ (t : Bool). if t then 1 else upto m k) (ne_eqb k m q)
        ∙ dite (dec_le (suc k) m) (λ (y : suc k ≤ m). upto_in m k y
        ∙ sym (upto_in (suc m) k (omega arith))) (λ (n : ¬ (suc k ≤ m)). upto_out m k (omega arith) ∙ sym (upto_out (suc m) k (omega arith))))

-- the first words are a machine that is reached: session 1 took each latch in ascending order
pub first_run : (config : TableConfig) (words : List ℕ) → config.end ≡ latch_count config.world.decls → ((l : ℕ) → l ≤ config.end → get_or words l 0 ≡ 1)
    → Reached config.world (machine_at config words [])
first_run config words journal ones = subst (λ (f : ℕ → ℕ). Reached config.world (at_first config.world f)) (λ i k. each k i)
    (taken_upto config.world (suc config.end) (subst (λ (n : ℕ). suc config.end ≤ suc n) journal (omega arith)))
  where
    each : (k : ℕ) → upto (suc config.end) k ≡ holders config.end words k
    each k = dite (dec_le k config.end)
        (λ (y : k ≤ config.end). upto_in (suc config.end) k (omega arith) ∙ sym (ones k y) ∙ sym (inside_is config.end words k y))
        (λ (n : ¬ (k ≤ config.end)). upto_out (suc config.end) k (omega arith) ∙ sym (outside_is config.end words k (omega arith)))
