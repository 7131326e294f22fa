-- The store and the world that this crate's tests run on. No public clause cites this module.
use Rattle.std.specs.Prelude.{◌≡◌, ℕ, ◌<◌, ◌≤◌, ◌==◌, List, [], ◌∷◌, length, if◌then◌else◌, slice_index_or}
use Rattle.dt_model.specs.declared.declared_tensors.Decls.{Decls}
use Rattle.dt_model.specs.Flat.{flat_schema}
use Rattle.dt_model.specs.declared.replies.World.{World}
use Rattle.dt_model.specs.Contents.{Contents}
use Rattle.dt_model.specs.declared.calls.Call.{Call}
use Rattle.dt_model.specs.declared.calls.Call.TheVariants.{Batch}
use Rattle.dt_model.specs.declared.calls.Update.TheVariants.{Add}
use Rattle.fiber_latch.specs.Seats.{SeatState, TableState, BelongsTo, last_number}

-- the number at a coordinate, 0 where there is none
abbrev pub found : List (ℕ × ℕ) → ℕ → ℕ
found [] x = 0
found (p ∷ ps) x = if p.0 == x then p.1 else found ps x

-- the numbers of a tensor with one mode
abbrev pub cell_in : List (ℕ × ℕ) → List ℕ → ℕ
cell_in ps [] = 0
cell_in ps (x ∷ []) = found ps x
cell_in ps (x ∷ y ∷ ys) = 0

-- the store has cells of tensor 0 alone
abbrev pub content_of : List (ℕ × ℕ) → Contents
content_of ps t c = if t == 0 then cell_in ps c else 0

-- the number at x is v, and all others are as before
abbrev pub HasPut : ℕ → ℕ → List (ℕ × ℕ) → List (ℕ × ℕ) → Type 0
HasPut x v old new = (y : ℕ) → found new y ≡ (if x == y then v else found old y)

-- one flat tensor v of one mode, of dimension n, with l latches
abbrev pub trial_decls : ℕ → ℕ → Decls
trial_decls n l = record {
  schemas = flat_schema ∷ [];
  tensors = record { name = 118 ∷ []; dims = n ∷ []; formats = record { items = 0 ∷ [] }; latches = l }
      ∷ [];
}

-- nothing is loaded
pub record IsTrial (n l : ℕ) (w : World) : Type 0 where
  pub is : w ≡ record { decls = trial_decls n l; base = [] ∷ []; scripts = [] }

-- the call that adds 1 at a coordinate
abbrev pub adding : ℕ → Call
adding x = Batch (Add (record { tensor = 0; at = x ∷ [] }) 1 ∷ [])

-- a store for each latch, with no cell
pub record AreNew {A : Type 0} (latch : A → ℕ) (cells : A → List (ℕ × ℕ)) (stores : List A) : Type 0 where
  pub latches : (l : ℕ) (d : A) → l < length stores → latch (slice_index_or stores l d) ≡ l
  pub empty : (l : ℕ) (d : A) → l < length stores → cells (slice_index_or stores l d) ≡ []

-- between its calls, a seat of one session that has made its calls up to this number
pub record IsResting (table : TableState) (number : ℕ) (s : SeatState) : Type 0 where
  pub of : BelongsTo s table
  pub world : IsTrial 128 64 table.config.world
  pub end : table.config.end ≡ 64
  pub order : s.first ≤ s.last
  pub free : s.held ≡ []
  pub calls : last_number s.first s.seen ≡ number

-- the seat owns these sessions, which have made no call
pub record IsUnused (table : TableState) (f t : ℕ) (s : SeatState) : Type 0 where
  pub of : BelongsTo s table
  pub world : IsTrial 128 64 table.config.world
  pub end : table.config.end ≡ 64
  pub first : s.first ≡ f
  pub last : s.last ≡ t
  pub free : s.held ≡ []
  pub number : (n : ℕ) → f ≤ n → n ≤ t → last_number n s.seen ≡ 0

-- the same sessions, after their calls
pub record IsDone (table : TableState) (f t : ℕ) (s : SeatState) : Type 0 where
  pub of : BelongsTo s table
  pub first : s.first ≡ f
  pub last : s.last ≡ t
  pub free : s.held ≡ []

-- a seat of the table's that holds nothing
pub record IsFree (table : TableState) (s : SeatState) : Type 0 where
  pub of : BelongsTo s table
  pub order : s.first ≤ s.last
  pub free : s.held ≡ []

-- a table over a world of this dimension and these latches
pub record IsTable (n l k c : ℕ) (table : TableState) : Type 0 where
  pub world : IsTrial n l table.config.world
  pub end : table.config.end ≡ l
  pub sessions : table.config.sessions ≡ k
  pub calls : table.config.calls ≡ c
