-- What the rules of schemas say of kinds by number.
use Rattle.std.specs.Prelude.{◌≡◌, ◌≢◌, ◌≤◌, ◌<◌, ◌+◌, ◌*◌, ◌/◌, ◌⊎◌, ℕ, List, length, Option, Some, None}
use Rattle.node_arena.specs.declared.kinds.NodeKind.{NodeKind}
use Rattle.node_arena.specs.declared.kinds.Shape.{Shape}
use Rattle.node_arena.specs.declared.kinds.Shape.TheVariants.{Flat, Post, Ends, Woven}
use Rattle.node_arena.specs.declared.sized.TheConstants.{MOST_ELEMENTS}
use Rattle.node_arena.specs.Arenas.{ArenaState}
use Rattle.node_arena.specs.Kinds.{kind_at, shape_at}

-- the number of the kind behind the run
abbrev pub post_of : Shape → Option ℕ
post_of Flat = None
post_of (Post p) = Some p
post_of (Ends p q) = Some q
post_of Woven = None

-- kind p may stand behind the run of a kind: it is woven; or it is its own post kind, and the greater half of a run that is too long fits into it
abbrev pub MayFollow : List NodeKind → NodeKind → ℕ → Type 0
MayFollow s kind p = (p < length s) × ((shape_at s p ≡ Woven) ⊎ ((post_of (shape_at s p) ≡ Some p) × ((kind.hi + 1) / 2 ≤ (kind_at s p).hi)))

-- the links are as the rules have them
abbrev pub HasSoundLinks : List NodeKind → NodeKind → Shape → Type 0
HasSoundLinks s kind Flat = Unit {0}
HasSoundLinks s kind (Post p) = (kind.lo ≡ 1) × MayFollow s kind p
HasSoundLinks s kind (Ends p q) = (kind.lo ≡ 1) × (p < length s) × (shape_at s p ≢ Flat) × MayFollow s kind q
HasSoundLinks s kind Woven = (2 ≤ kind.hi) × (2 * kind.lo ≤ kind.hi)

-- each kind keeps the rules: the bounds of its runs, and its links
pub record AreSound (s : List NodeKind) : Type 0 where
  pub some : (k : ℕ) → 1 ≤ (kind_at s k).lo
  pub bounds : (k : ℕ) → (kind_at s k).lo ≤ (kind_at s k).hi
  pub few : (k : ℕ) → (kind_at s k).hi ≤ MOST_ELEMENTS
  pub links : (k : ℕ) → HasSoundLinks s (kind_at s k) (shape_at s k)

-- each kind's runs fit into the arena's nodes
abbrev pub Serves : List NodeKind → ArenaState → Type 0
Serves s a = (k : ℕ) → (kind_at s k).hi ≤ a.nodes.most
