-- The first seat, while the table is opened: it takes out the slots in ascending order, and gives them back in descending order.
use Rattle.std.specs.Prelude.{◌≡◌, ℕ, zero, suc, List, [], ◌∷◌, Bool, true, false, nat_lt, Option, None}
use Rattle.fiber_latch.specs.declared.view.Mark.{Mark}
use Rattle.fiber_latch.specs.declared.view.Mark.TheVariants.{Opened, Kept}
use Rattle.fiber_latch.specs.declared.view.Hold.{Hold}
use Rattle.fiber_latch.specs.declared.view.Role.TheVariants.{Sessions}
use Rattle.fiber_latch.specs.declared.view.TableConfig.{TableConfig}
use Rattle.fiber_latch.specs.declared.view.View.{View}
use Rattle.fiber_latch.specs.declared.view.TableName.{TableName}
use Rattle.fiber_latch.specs.declared.rule.SlotValue.{SlotValue}
use Rattle.fiber_latch.specs.Views.{IsSession, hold, no_name}

-- the latches up to this one, each listed for session 1 and not taken out
abbrev pub opened_up_to : ℕ → List Hold
opened_up_to zero = hold 0 1 Opened ∷ []
opened_up_to (suc l) = hold (suc l) 1 Opened ∷ opened_up_to l

-- each latch is listed for session 1
abbrev pub first_view : TableConfig → View
first_view config = record {
  role = Sessions 1 config.sessions;
  config = config;
  fresh = true;
  seen = [];
  held = opened_up_to config.end;
  conflicts = [];
  last_join = None;
  table = no_name;
}

-- a latch whose slot was taken out is kept
abbrev pub mark_if : Bool → Mark
mark_if true = Kept
mark_if false = Opened

-- the latches up to e, listed for session 1, of which those below l were taken out
abbrev pub partly_opened : ℕ → ℕ → List Hold
partly_opened l zero = hold 0 1 (mark_if (nat_lt 0 l)) ∷ []
partly_opened l (suc e) = hold (suc e) 1 (mark_if (nat_lt (suc e) l)) ∷ partly_opened l e

-- the latches below l, all kept
abbrev pub kept_below : ℕ → List Hold
kept_below zero = []
kept_below (suc l) = hold l 1 Kept ∷ kept_below l

-- the empty slots of the latches below l
abbrev pub slots_below : {C : Type 0} → ℕ → List (ℕ × Option (SlotValue C))
slots_below zero = []
slots_below (suc l) = (l, None) ∷ slots_below l

-- the seat knows which table it is
abbrev pub with_name : TableName → View → View
with_name z v = record v { fresh = false; table = z }

-- the seat lists these latches, and all else is as before
abbrev pub with_held : View → List Hold → View
with_held v hs = record v { held = hs }

-- the first seat between its steps
pub record IsOpeningSeat (v : View) (config : TableConfig) : Type 0 where
  pub session : IsSession v.role
  pub idle : v.last_join ≡ None
  pub known : v.fresh ≡ false
  pub same_config : v.config ≡ config
