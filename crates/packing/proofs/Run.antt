-- The method of document 004, section 3, in the whole numbers of document 01, "One choice of route", over resources and columns:
-- its state, one iteration, and runs. Resources are numbered 0, 1, .., m - 1, and nothing is said of numbers past them.
-- Assumes nothing.
use mathlib.Core.Path.{◌≡◌}
use Prim.Native.Nat.{ℕ, suc, ◌+◌, ◌*◌, ◌^◌, ◌≤◌, ◌<◌}
use Rattle.arith.specs.Ceiling.{ceil}
use Rattle.arith.specs.Sum.{sum}

-- bound over alpha is the least fraction D / alpha so far, 1 over 0 before the first
pub record State : Type 0 where
  pub length : ℕ → ℕ
  pub load : ℕ → ℕ
  pub total : ℕ
  pub count : ℕ
  pub bound : ℕ
  pub alpha : ℕ

-- D: the sum of capacity times length
abbrev pub volume : ℕ → (ℕ → ℕ) → (ℕ → ℕ) → ℕ
volume m c l = sum m (λ e. c e * l e)

-- a length after a draw of y e, before any halving
abbrev pub grown : ℕ → (ℕ → ℕ) → (ℕ → ℕ) → (ℕ → ℕ) → ℕ → ℕ
grown q c l y e = l e + ceil (l e * y e) (q * c e)

-- Every length is the scale over the capacity, rounded up, and nothing is drawn.
pub record Start (m : ℕ) (c : ℕ → ℕ) (s : State) : Type 0 where
  pub length : (e : ℕ) → e < m → s.length e ≡ ceil (2 ^ 36) (c e)
  pub load : (e : ℕ) → e < m → s.load e ≡ 0
  pub total : s.total ≡ 0
  pub count : s.count ≡ 0
  pub bound : s.bound ≡ 1
  pub alpha : s.alpha ≡ 0

-- A column of length a at the lengths l, drawn by g: y e is g where the column uses e, and 0 elsewhere, so that y l sums to g * a.
-- The draw is the capacity of a resource that it uses. The argument needs no more of a column than these facts.
pub record Column (m : ℕ) (c l y : ℕ → ℕ) (g a : ℕ) : Type 0 where
  pub within : (e : ℕ) → e < m → y e ≤ c e
  pub size : sum m (λ e. y e * l e) ≡ g * a
  pub narrow : ℕ
  pub inside : narrow < m
  pub used : y narrow ≡ g
  pub full : c narrow ≡ g

-- The next lengths: as grown while all are below the mark, else every one halved, rounded up.
pub data Lengths (m : ℕ) (grown next : ℕ → ℕ) : Type 0 where
  kept : ((e : ℕ) → e < m → grown e < 2 ^ 40) → ((e : ℕ) → e < m → next e ≡ grown e) → Lengths m grown next
  halved : (k : ℕ) → k < m → 2 ^ 40 ≤ grown k → ((e : ℕ) → e < m → next e ≡ ceil (grown e) 2) → Lengths m grown next

-- The next least fraction, B' / A', after D / a: a smaller one replaces B / A, an equal one does not.
pub data Least (D a B A B' A' : ℕ) : Type 0 where
  smaller : D * A < B * a → B' ≡ D → A' ≡ a → Least D a B A B' A'
  held : B * a ≤ D * A → B' ≡ B → A' ≡ A → Least D a B A B' A'

-- One choice, from the state s to the state t.
pub record Iteration (m q : ℕ) (c : ℕ → ℕ) (s t : State) : Type 0 where
  pub draw : ℕ → ℕ
  pub amount : ℕ
  pub size : ℕ
  pub column : Column m c s.length draw amount size
  pub lengths : Lengths m (grown q c s.length draw) t.length
  pub load : (e : ℕ) → e < m → t.load e ≡ s.load e + draw e
  pub total : t.total ≡ s.total + amount
  pub count : t.count ≡ suc s.count
  pub least : Least (volume m c s.length) size s.bound s.alpha t.bound t.alpha

-- States that the method reaches: the start, or one iteration from one.
pub data Run (m q : ℕ) (c : ℕ → ℕ) : State → Type 0 where
  start : {s : State} → Start m c s → Run m q c s
  next : {s t : State} → Run m q c s → Iteration m q c s t → Run m q c t

-- Choosing goes on: no load has reached its mark (document 01, "One choice of route", last rule).
abbrev pub Below : ℕ → ℕ → ℕ → (ℕ → ℕ) → State → Type 0
Below m q L c s = (e : ℕ) → e < m → s.load e < q * L * c e
