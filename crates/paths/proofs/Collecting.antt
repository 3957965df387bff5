-- The limited nodes of a path, written behind its arcs one after the other.
-- Assumes nothing.
use mathlib.Core.Path.{◌≡◌, refl, sym, ap, subst, ◌∙◌}
use mathlib.Core.Bool.{Bool, true, false, cond}
use mathlib.Core.Option.{some}
use mathlib.Core.List.{List, [], ◌∷◌, ◌++◌, append_assoc, append-nil}
use Prim.Native.Nat.{ℕ, ◌+◌, ◌*◌, ◌≤◌, ◌<◌}
use native.Mathlib.Nat.{le_refl}
use native.Mathlib.Numerals.{add-one}
use native.Mathlib.Omega.{arith}
use lib.ListN.{length, get_or, take, drop, set, drop_of_length-le, length-take}
use lib.Seq.{length-take-le, take-take, take-append-le, take-suc-set, drop-cons, get_or-take}
use Rattle.bounds.specs.Bounds.{most_nodes}
use Rattle.arith.specs.Lists.{flat}
use Rattle.arith.specs.Member.{Member, first, later}
use Rattle.network.specs.Ends.{Node, Ends}
use Rattle.network.specs.Network.{Network, arcs, limited}
use Rattle.network.specs.Path.{leads, beyond, Path}
use Rattle.network.specs.Resources.{place, resources, used_at, uses}
use Rattle.network.specs.Visited.{visited}
use Rattle.network.proofs.Leads.{leads-arc, leads-beyond, leads-into}
use Rattle.network.proofs.Nodes.{visited-cons, visited-node}
use Rattle.network.proofs.Paths.{path-step}
use Rattle.network.proofs.Resources.{place-low, place-high, arcs-le}
use Rattle.index.specs.Index.{resource_of}
use Rattle.paths.specs.Visits.{Entered, Visits}

module _ (net : Network) (v : ℕ) where
  -- A node is used where its number is that of a resource,
  used_at-below : resource_of net v < resources net → used_at net v ≡ resource_of net v ∷ []
  unfolding resource_of used_at
  used_at-below = by-test (limited net v)
    where
      by-test : (c : Bool) → cond c (place net v) (resources net) < resources net → cond c (place net v ∷ []) [] ≡ cond c (place net v) (resources net) ∷ []
      by-test true b = refl
      by-test false b = absurd (omega arith)

  -- and not where it is past all of them.
  used_at-past : v ≤ net.nodes → resources net ≤ resource_of net v → used_at net v ≡ []
  unfolding resource_of used_at
  used_at-past n = by-test (limited net v) refl
    where
      by-test : (c : Bool) → limited net v ≡ c → resources net ≤ cond c (place net v) (resources net) → cond c (place net v ∷ []) [] ≡ []
      by-test true h b = absurd (omega (arith, place-high net v n h))
      by-test false h b = refl

  -- No number of a node is an arc's.
  resource-low : arcs net ≤ resource_of net v
  unfolding resource_of
  resource-low = by-test (limited net v)
    where
      by-test : (c : Bool) → arcs net ≤ cond c (place net v) (resources net)
      by-test true = place-low net v
      by-test false = arcs-le net

  module _ {used r : ℕ} {old : List ℕ} (is : r ≡ resource_of net v) where
    pub entered-limited : used < length old → r < resources net → Entered net v used old (set old used r) (used + 1)
    entered-limited room b =
        record {
          written = rw (add-one used, take-suc-set old used r room) (ap (λ xs. take used old ++ xs) (sym (rw is (used_at-below (rw is at b)))));
          low = omega arith;
          high = le_refl (used + 1);
        }

    pub entered-none : v ≤ net.nodes → resources net ≤ r → Entered net v used old old used
    entered-none n b =
        record {
          written = rw (used_at-past n (rw is at b), append-nil) refl;
          low = le_refl used;
          high = omega arith;
        }

-- What is in front stays.
entered-front :
    {net : Network} {v used r : ℕ} (old new : List ℕ) → Entered net v used old new r → (n : ℕ) → n ≤ used → used ≤ length old → take n new ≡ take n old
entered-front {net} {v} {used} {r} old new E n a b =
    sym (take-take n r new (omega (arith, E.low))) ∙
    (ap (take n) E.written ∙
    (take-append-le n (take used old) (used_at net v) (omega (arith, length-take-le used old b)) ∙ take-take n used old a))

-- Where the arcs are all resources, no node is one,
used_at-none : (net : Network) → resources net ≡ arcs net → (v : ℕ) → v ≤ net.nodes → used_at net v ≡ []
used_at-none net q v n = used_at-past net v n (omega (arith, q, resource-low net v))

-- and a path uses its arcs alone.
visited-none : (net : Network) → resources net ≡ arcs net → (vs : List ℕ) → ((v : ℕ) → Member v vs → v ≤ net.nodes) → flat (used_at net) vs ≡ []
unfolding flat
visited-none net q [] nodes = refl
visited-none net q (v ∷ vs) nodes = rw (used_at-none net q v (nodes v (first refl))) (visited-none net q vs (λ w m. nodes w (later m)))

pub visits-none :
    {net : Network} {s t m : ℕ} {path : List ℕ} → resources net ≡ arcs net → Ends net → Node net s → Path net s t (take m path) → m < most_nodes →
    Visits net s m path path m
unfolding uses
visits-none {net} {s} {t} {m} {path} q ends node leads few =
    record {
      path = refl;
      used =
          sym (append-nil (take m path)) ∙
          ap (λ xs. take m path ++ xs)
          (sym (visited-none net q (visited net s (take m path)) (λ v k. (visited-node net ends s t (take m path) node leads v k).1)));
      low = le_refl m;
      high = omega arith;
    }

-- The nodes behind the first.
abbrev after : Network → ℕ → List ℕ → List ℕ
after net v p = drop 1 (visited net v p)

visited-first : (net : Network) (v : ℕ) (p : List ℕ) → visited net v p ≡ v ∷ after net v p
unfolding visited
visited-first net v [] = refl
visited-first net v (e ∷ p) = refl

-- A path p of m arcs from s is walked again: it is at v behind k of them, they are all in the table, and what is used of the nodes so far is behind them.
pub record Collecting (net : Network) (s m : ℕ) (p path : List ℕ) (used v k : ℕ) : Type 0 where
  pub front : take m path ≡ p
  pub within : k ≤ m
  pub node : Node net v
  pub to : ℕ
  pub rest : Path net v to (drop k p)
  pub written : take used path ++ flat (used_at net) (after net v (drop k p)) ≡ uses net s p
  pub low : m ≤ used
  pub high : used ≤ m + k + 1

-- The first node.
pub collecting-first :
    {net : Network} {s t m : ℕ} (old path : List ℕ) {used : ℕ} → Entered net s m old path used → Node net s → Path net s t (take m old) → m ≤ length old →
    Collecting net s m (take m path) path used s 0
unfolding uses flat
collecting-first {net} {s} {t} {m} old path E node leads room =
    let front = entered-front old path E m (le_refl m) room in
    record {
      front = refl;
      within = omega arith;
      node = node;
      to = t;
      rest = rw front leads;
      written = rw (front, E.written, append_assoc, visited-first net s (take m old)) refl;
      low = E.low;
      high = omega (arith, E.high);
    }

-- All of them.
pub collecting-end :
    {net : Network} {s m : ℕ} (old path₀ path : List ℕ) {used₀ used v k : ℕ} → Entered net s m old path₀ used₀ → m ≤ length old →
    Collecting net s m (take m path₀) path used v k → m ≤ k → m < most_nodes → Visits net s m old path used
unfolding flat visited
collecting-end {m = m} old path₀ path {used = used} {k = k} E room C past few =
    let front = entered-front old path₀ E m (le_refl m) room in
    let none : drop k (take m path₀) ≡ [] = drop_of_length-le (take m path₀) {i = k} (omega (arith, length-take m path₀)) in
    record {
      path = C.front ∙ front;
      used = sym (append-nil (take used path)) ∙ (rw (none, front) at C.written);
      low = C.low;
      high = omega (arith, C.high, C.within);
    }

module _ {net : Network} {s m : ℕ} {p path : List ℕ} {used v k : ℕ} (C : Collecting net s m p path used v k) where
  -- There is room for one more,
  pub collecting-room : m < most_nodes → 2 * most_nodes ≤ length path → k < m → used < length path
  collecting-room few room more = omega (arith, C.high)

  module _ (ends : Ends net) (room : m ≤ length path) (more : k < m) where
    abbrev e : ℕ
    e = get_or path k 0

    next : drop k p ≡ e ∷ drop (k + 1) p
    next =
        rw (add-one k, sym (get_or-take m path k 0 more), C.front)
        (drop-cons p k 0 (omega (arith, ap length C.front, length-take-le m path room)))

    -- the next arc leads on,
    on : (w : ℕ) × (leads net v e ≡ some w) × Path net w C.to (drop (k + 1) p)
    on = path-step net v C.to e (drop (k + 1) p) (subst (Path net v C.to) next C.rest)

    pub collecting-arc : e < arcs net
    collecting-arc = leads-arc net v e on.0 on.1

    module _ {w : ℕ} (is : w ≡ beyond net v e) where
      here : on.0 ≡ w
      here = sym (leads-beyond net v e on.0 on.1) ∙ sym is

      -- to a node
      pub collecting-node : Node net w
      collecting-node = subst (Node net) here (leads-into net v e on.0 on.1 ends)

      behind : after net v (drop k p) ≡ w ∷ after net w (drop (k + 1) p)
      behind =
          ap (after net v) next ∙
          (ap (drop 1) (visited-cons net v on.0 e (drop (k + 1) p) on.1) ∙
          (ap (λ u. visited net u (drop (k + 1) p)) here ∙ visited-first net w (drop (k + 1) p)))

      -- that is one more.
      pub collecting-more : {path' : List ℕ} {r : ℕ} → used ≤ length path → Entered net w used path path' r → Collecting net s m p path' r w (k + 1)
      unfolding flat
      collecting-more {path'} {r} fits E =
          record {
            front = entered-front path path' E m C.low fits ∙ C.front;
            within = omega arith;
            node = collecting-node;
            to = C.to;
            rest = subst (λ (u : ℕ). Path net u C.to (drop (k + 1) p)) here on.2;
            written = rw (E.written, append_assoc) (rw behind at C.written);
            low = omega (arith, C.low, E.low);
            high = omega (arith, C.high, E.high);
          }
