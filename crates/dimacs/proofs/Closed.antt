-- The end of a file past its p line: what is missing, or the network.
-- Assumes nothing.
use mathlib.Core.Path.{◌≡◌}
use mathlib.Core.List.{List}
use Prim.Native.Nat.{ℕ, ◌≤◌}
use native.Mathlib.Omega.{arith}
use lib.ListN.{take, take-append-drop}
use borrow.Author.Tests.{eq-eqb, ne_eqb}
use Rattle.network.specs.declared.Refusal.TheVariants.{Layout}
use Rattle.network.specs.declared.Refusal.{Refusal}
use Rattle.std.specs.Prelude.{Option, Some, None, Result, Ok}
use Rattle.dimacs.specs.File.{refused, network_read, complete, closing}
use Rattle.dimacs.specs.Result.{padded, result_of}
use Rattle.dimacs.specs.Stage.{reading_of, Tidy, Held}
use Rattle.dimacs.specs.declared.Parsed.{Parsed}
use Rattle.dimacs.specs.declared.Tally.{Tally}
use Rattle.dimacs.proofs.Entries.{entries}
use Rattle.dimacs.proofs.Stages.{held-as}

-- A tidy table is its entries, padded.
tidy-padded : {n : ℕ} {xs : List ℕ} → Tidy n xs → n ≤ 256 → padded (take n xs) ≡ xs
unfolding padded
tidy-padded {n} {xs} t h = rw (entries t h, ← t.zeros) (take-append-drop n xs)

module _ {s : Option Tally} {t : Tally} {ts hs cs : List ℕ} (e : s ≡ Some t) (h : Held s ts hs cs) where
  pub no_source : t.source ≡ None → refused (Layout 0) ≡ closing (reading_of s ts hs cs)
  unfolding closing complete
  no_source a = rw (e, a)

  pub no-sink : {x : ℕ} → t.source ≡ Some x → t.sink ≡ None → refused (Layout 0) ≡ closing (reading_of s ts hs cs)
  unfolding closing complete
  no-sink a b = rw (e, a, b)

  module _ {x y : ℕ} (a : t.source ≡ Some x) (b : t.sink ≡ Some y) where
    pub arcs-missing : (t.found ≡ t.wanted → ⊥) → refused (Layout 0) ≡ closing (reading_of s ts hs cs)
    unfolding closing complete
    arcs-missing k =
        let g = held-as e h in
        let n = entries g.tails (omega arith) in
        rw (e, a, b, n, ne_eqb t.found t.wanted k)

    pub all_there : t.found ≡ t.wanted →
        ◌≡◌ {A = Result Parsed Refusal}
        (Ok (record {
          nodes = t.nodes;
          arcs = t.found;
          source = x;
          sink = y;
          tails = ts;
          heads = hs;
          capacities = cs;
        }))
        (result_of (closing (reading_of s ts hs cs)))
    unfolding closing complete result_of network_read
    all_there k =
        let g = held-as e h in
        let n = entries g.tails (omega arith) in
        rw (
          e,
          a,
          b,
          n,
          eq-eqb t.found t.wanted k,
          tidy-padded g.tails (omega arith),
          tidy-padded g.heads (omega arith),
          tidy-padded g.capacities (omega arith),
          n,
        )
