-- The two indexes of a packed network, by its two columns of ends and its marks.
-- Assumes nothing.
use mathlib.Core.Path.{◌≡◌, sym, ap, ◌∙◌}
use mathlib.Core.Bool.{true, not, true≢false}
use mathlib.Core.List.{List}
use mathlib.Core.Option.{some}
use Prim.Native.Nat.{ℕ, ◌≤◌}
use native.Mathlib.Omega.{arith}
use borrow.Author.Tests.{ne_eqb, eq-eqb}
use lib.ListN.{length, get_or}
use Rattle.network.specs.Network.{Network, arcs, reversible}
use Rattle.network.specs.Path.{leads}
use Rattle.network.proofs.Leads.{Taken, along, against, leads-arc, leads-taken, taken-leads}
use Rattle.packed.specs.Packed.{net_in}
use Rattle.packed.specs.declared.Shape.{Shape}
use Rattle.packed.proofs.Columns.{arcs-is, heads-length, marks-length}
use Rattle.index.specs.Index.{Index}
use Rattle.index.specs.Indexing.{Side, side, Indexable, Columns, Joining, forth, back, Joins}
use Rattle.index.proofs.Building.{index_same}

-- An arc is reversible where its mark is not 0.
is-marked : (net : Network) (e : ℕ) → reversible net e ≡ true → get_or net.marks e 0 ≡ 0 → ⊥
is-marked net e r z = true≢false (sym r ∙ ap not (eq-eqb (get_or net.marks e 0) 0 z))

marked-is : (net : Network) (e : ℕ) → (get_or net.marks e 0 ≡ 0 → ⊥) → reversible net e ≡ true
marked-is net e n = ap not (ne_eqb (get_or net.marks e 0) 0 n)

module _ {s : Shape} {xs : List ℕ} {size : ℕ} (I : Indexable s xs size) where
  abbrev net : Network
  net = net_in s xs

  heads-are : length net.heads ≡ arcs net
  heads-are = heads-length I.packed

  few-arcs : arcs net ≤ 256
  few-arcs = omega (arith, arcs-is I.packed, I.packed.few-arcs)

  -- The arcs into each node are those with the head there,
  abbrev heads : Side
  heads = side net.heads net.tails net.marks

  pub into-columns : Columns heads
  into-columns =
      record {
        few = omega (arith, heads-are, few-arcs);
        others = sym heads-are;
        marked = omega (arith, heads-are, marks-length I.packed);
        ends = λ e b. (I.ends.heads e (omega (arith, heads-are))).0;
        other-ends = λ e b. (I.ends.tails e (omega (arith, heads-are))).0;
      }

  into-taken : {v e u : ℕ} → Joining heads v e u → Taken net u e v
  into-taken {v} {e} (forth p q) = along q p
  into-taken {v} {e} (back m p q) = against (marked-is net e m) q p

  taken-into : {v e u : ℕ} → Taken net u e v → Joining heads v e u
  taken-into {v} {e} (along q p) = forth p q
  taken-into {v} {e} (against r q p) = back (is-marked net e r) p q

  pub into-index : {ix : List ℕ} → Index (Joins heads) net.nodes ix → Index (λ v e u. leads net u e ≡ some v) net.nodes ix
  into-index =
      index_same
      (λ v e u b J. taken-leads net (omega (arith, J.arc, heads-are)) (into-taken J.way))
      (λ v e u b h. record { arc = omega (arith, leads-arc net u e v h, heads-are); way = taken-into (leads-taken net u e v h) })

  -- and those out of it those with the tail there.
  abbrev tails : Side
  tails = side net.tails net.heads net.marks

  pub out-columns : Columns tails
  out-columns =
      record {
        few = few-arcs;
        others = heads-are;
        marked = marks-length I.packed;
        ends = λ e b. (I.ends.tails e b).0;
        other-ends = λ e b. (I.ends.heads e b).0;
      }

  out-taken : {v e w : ℕ} → Joining tails v e w → Taken net v e w
  out-taken {v} {e} (forth p q) = along p q
  out-taken {v} {e} (back m p q) = against (marked-is net e m) p q

  taken_out : {v e w : ℕ} → Taken net v e w → Joining tails v e w
  taken_out {v} {e} (along p q) = forth p q
  taken_out {v} {e} (against r p q) = back (is-marked net e r) p q

  pub out-index : {ix : List ℕ} → Index (Joins tails) net.nodes ix → Index (λ v e w. leads net v e ≡ some w) net.nodes ix
  out-index =
      index_same
      (λ v e w b J. taken-leads net J.arc (out-taken J.way))
      (λ v e w b h. record { arc = leads-arc net v e w h; way = taken_out (leads-taken net v e w h) })
