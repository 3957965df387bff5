-- A line past the p line that adds a source, a sink or an arc.
-- Assumes nothing.
use mathlib.Core.Path.{◌≡◌, refl}
use mathlib.Core.Bool.{true, false}
use mathlib.Core.List.{List}
use Prim.Native.Nat.{ℕ, ◌+◌, ◌≤◌, ◌<◌}
use native.Mathlib.Omega.{arith}
use lib.ListN.{set}
use borrow.Author.Tests.{lt-ltb, le-ltb}
use Rattle.network.specs.declared.Refusal.TheVariants.{Layout}
use Rattle.lines.specs.declared.Line.{Line}
use Rattle.lines.specs.declared.Line.TheVariants.{Source, Sink, Arc}
use Rattle.std.specs.Prelude.{Option, Some, None, is_some}
use Rattle.dimacs.specs.Progress.{Progress, with_source, with_sink, with_arc}
use Rattle.dimacs.specs.Reading.{down, once, following}
use Rattle.dimacs.specs.Stage.{progress_of, Held, Reached}
use Rattle.dimacs.specs.declared.Tally.{Tally}
use Rattle.dimacs.proofs.Entries.{entries, entries-set, tidy-set}

none_there : {o : Option ℕ} → is_some o ≡ false → o ≡ None
none_there {o = None} e = refl
none_there {o = Some x} e = absurd (cc)

again : (i : ℕ) (o : Option ℕ) (p : Progress) → is_some o ≡ true → once i o p ≡ down (Layout i)
unfolding once
again i None p e = absurd (cc)
again i (Some x) p e = refl

module _ (i : ℕ) {l : Line} {v : ℕ} where
  pub source-added : l ≡ Source v → (t : Tally) {ts hs cs : List ℕ} → is_some t.source ≡ false → Held (Some t) ts hs cs →
      Reached
      (following i l (progress_of t ts hs cs))
      (Some (record { nodes = t.nodes; wanted = t.wanted; found = t.found; source = Some v; sink = t.sink }))
      ts
      hs
      cs
  unfolding following once with_source
  source-added e t m h =
      record { reading = rw (e, none_there m); held = record { room = h.room; tails = h.tails; heads = h.heads; capacities = h.capacities } }

  pub sink-added : l ≡ Sink v → (t : Tally) {ts hs cs : List ℕ} → is_some t.sink ≡ false → Held (Some t) ts hs cs →
      Reached
      (following i l (progress_of t ts hs cs))
      (Some (record { nodes = t.nodes; wanted = t.wanted; found = t.found; source = t.source; sink = Some v }))
      ts
      hs
      cs
  unfolding following once with_sink
  sink-added e t m h =
      record { reading = rw (e, none_there m); held = record { room = h.room; tails = h.tails; heads = h.heads; capacities = h.capacities } }

  -- a second s or t
  pub source-again : l ≡ Source v → (t : Tally) (ts hs cs : List ℕ) → is_some t.source ≡ true →
      following i l (progress_of t ts hs cs) ≡ down (Layout i)
  unfolding following
  source-again e t ts hs cs m = rw e (again i t.source _ m)

  pub sink-again : l ≡ Sink v → (t : Tally) (ts hs cs : List ℕ) → is_some t.sink ≡ true →
      following i l (progress_of t ts hs cs) ≡ down (Layout i)
  unfolding following
  sink-again e t ts hs cs m = rw e (again i t.sink _ m)

module _ (i : ℕ) {l : Line} {u v c : ℕ} (e : l ≡ Arc u v c) (t : Tally) {ts hs cs : List ℕ} (h : Held (Some t) ts hs cs) where
  -- as many a lines as the p line said, and this one
  pub arc-too-many : t.wanted ≤ t.found → following i l (progress_of t ts hs cs) ≡ down (Layout i)
  unfolding following
  arc-too-many k = let n = entries h.tails (omega arith) in rw (e, n, le-ltb t.found t.wanted k)

  pub arc-added : t.found < t.wanted →
      Reached
      (following i l (progress_of t ts hs cs))
      (Some (record { nodes = t.nodes; wanted = t.wanted; found = t.found + 1; source = t.source; sink = t.sink }))
      (set ts t.found u)
      (set hs t.found v)
      (set cs t.found c)
  unfolding following with_arc
  arc-added k =
      let n = entries h.tails (omega arith) in
      record {
        reading =
            rw (
              e,
              n,
              lt-ltb t.found t.wanted k,
              entries-set h.tails (omega arith) u,
              entries-set h.heads (omega arith) v,
              entries-set h.capacities (omega arith) c,
            );
        held =
            record {
              room = (omega arith, h.room.1);
              tails = tidy-set h.tails (omega arith) u;
              heads = tidy-set h.heads (omega arith) v;
              capacities = tidy-set h.capacities (omega arith) c;
            };
      }
