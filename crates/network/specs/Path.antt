-- Paths of a network, and their lengths. Document 01's word is route.
use Rattle.std.specs.Prelude.{◌≡◌, Bool, cond, ◌&&◌, ◌||◌, List, [], ◌∷◌, ℕ, ◌+◌, ltb, eqb, get_or}
use Rattle.std.proofs.Math.Option.{Option, none, some, bind}
use Rattle.network.specs.Network.{Network, arcs, tail, head, reversible, source, sink}

-- Whether arc e is taken forward at node v, from its tail.
abbrev pub forward : Network → ℕ → ℕ → Bool
forward net v e = eqb (tail net e) v

-- Its head where v is its tail, else its tail: the other end, where v is one of its ends.
abbrev pub beyond : Network → ℕ → ℕ → ℕ
beyond net v e = cond (forward net v e) (head net e) (tail net e)

-- Where arc e leads from node v: to its head where v is its tail, to its tail where it is reversible and v its head, else nowhere. Document 01, "The
-- floor and its flow", and request C-12: this alone knows of marks.
unfoldable pub leads : Network → ℕ → ℕ → Option ℕ
leads net v e = cond (ltb e (arcs net) && (forward net v e || (reversible net e && eqb (head net e) v))) (some (beyond net v e)) none

-- Where the arcs of a list lead from node v, each starting where the one before ended.
unfoldable pub follow : Network → ℕ → List ℕ → Option ℕ
follow net v [] = some v
follow net v (e ∷ p) = bind (leads net v e) (λ w. follow net w p)

-- The list of arcs p is a path from v to t. Document 01, "The floor and its flow": a route.
abbrev pub Path : Network → ℕ → ℕ → List ℕ → Type 0
Path net v t p = follow net v p ≡ some t

-- Commodity i is joined: some path leads from its source to its sink. Document 01, "The floor and its flow".
abbrev pub Joined : Network → ℕ → Type 0
Joined net i = (p : List ℕ) × Path net (source net i) (sink net i) p

-- The length of a list of arcs, or of what a path uses: the sum of their lengths l.
unfoldable pub path_length : List ℕ → List ℕ → ℕ
path_length l [] = 0
path_length l (e ∷ p) = get_or l e 0 + path_length l p
