-- The latch machine: who holds each latch, what each latch's cells hold, and the history.
use Rattle.std.specs.Prelude.{ℕ, ◌≡◌, ◌<◌, ◌≤◌, ◌++◌, Bool, List, [], ◌∷◌, ◌==◌, ◌||◌, if◌then◌else◌, All, IsTrue}
use Rattle.dt_model.specs.declared.calls.Call.{Call}
use Rattle.dt_model.specs.declared.calls.Entry.{Entry}
use Rattle.dt_model.specs.declared.declared_tensors.Decls.{Decls}
use Rattle.dt_model.specs.declared.replies.World.{World}
use Rattle.dt_model.specs.Contents.{Contents}
use Rattle.dt_model.specs.Tensors.{latch_count}
use Rattle.dt_model.specs.Latches.{needs}
use Rattle.dt_model.specs.Verdicts.{call_is_valid}
use Rattle.dt_model.specs.Runs.{base_of, after_call, restricted_to}
use Rattle.dt_model.specs.Functions.{with_value}

-- the session that holds each latch, 0 where nobody does; the content of each latch; the entries in order
pub record Machine : Type 0 where
  pub holder : ℕ → ℕ
  pub content : ℕ → Contents
  pub history : List Entry

-- all latches free, each with its cells of the base, and no entry
abbrev pub opening : World → Machine
opening w = record { holder = λ l. 0; content = λ l. restricted_to w.decls (base_of w) l; history = [] }

-- the journal's latch, which comes after all others
abbrev pub journal_latch : Decls → ℕ
journal_latch d = latch_count d

-- whether a commit of the call needs a latch: the call's own, and the journal's
abbrev pub commit_needs : Decls → Call → ℕ → Bool
commit_needs d call l = needs d call l || l == journal_latch d

-- the latch is free, and is above each that the session holds
pub record CanTake (d : Decls) (m : Machine) (s l : ℕ) : Type 0 where
  pub session : 0 < s
  pub latch : l ≤ journal_latch d
  pub free : m.holder l ≡ 0
  pub above : (k : ℕ) → m.holder k ≡ s → k < l

-- session s holds latch l, and all else is as before
abbrev pub taken : Machine → ℕ → ℕ → Machine
taken m s l = record { holder = with_value m.holder l s; content = m.content; history = m.history }

-- the call is valid, its session holds all that the commit needs, and its number is above each of that session
pub record CanCommit (d : Decls) (m : Machine) (e : Entry) : Type 0 where
  pub session : 0 < e.turn.session
  pub valid : IsTrue (call_is_valid d e.call)
  pub holds : (l : ℕ) → IsTrue (commit_needs d e.call l) → m.holder l ≡ e.turn.session
  pub above : All (λ f. f.turn.session ≡ e.turn.session → f.turn.number < e.turn.number) m.history

-- the content of a latch after a call: the call's updates of the latch's cells, where it needs the latch
abbrev pub content_after : Decls → Call → ℕ → Contents → Contents
content_after d call l m = if needs d call l then restricted_to d (after_call m call) l else m

-- the entry comes last, and the contents are those after its call
abbrev pub committed : Decls → Machine → Entry → Machine
committed d m e = record { holder = m.holder; content = λ l. content_after d e.call l (m.content l); history = m.history ++ e ∷ [] }

-- the session holds the latch
pub record CanGive (m : Machine) (s l : ℕ) : Type 0 where
  pub session : 0 < s
  pub held : m.holder l ≡ s

-- latch l is free, and all else is as before
abbrev pub given : Machine → ℕ → Machine
given m l = record { holder = with_value m.holder l 0; content = m.content; history = m.history }

-- what is reached from the opening by takes, commits and gives
pub data Reached (w : World) : Machine → Type 0 where
  opened : Reached w (opening w)
  takes : (m : Machine) (s l : ℕ) → Reached w m → CanTake w.decls m s l → Reached w (taken m s l)
  commits : (m : Machine) (e : Entry) → Reached w m → CanCommit w.decls m e → Reached w (committed w.decls m e)
  gives : (m : Machine) (s l : ℕ) → Reached w m → CanGive m s l → Reached w (given m l)

-- gives of session s lead from one state to another
pub data Gives (s : ℕ) (m : Machine) : Machine → Type 0 where
  nothing : Gives s m m
  one_more : (n : Machine) (l : ℕ) → Gives s m n → CanGive n s l → Gives s m (given n l)
