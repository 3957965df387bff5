-- The tables that a caller of the reader gets have their 256 places, whatever the file.
-- Assumes nothing.
use mathlib.Core.Path.{◌≡◌, refl, sym}
use mathlib.Core.List.{List}
use Prim.Native.Nat.{ℕ, ◌≤◌, ◌<◌}
use native.Mathlib.Omega.{arith}
use lib.ListN.{length, length-append, length-replicate}
use Rattle.network.specs.Network.{Network}
use Rattle.network.specs.declared.Refusal.{Refusal}
use Rattle.network.specs.declared.Refusal.TheVariants.{LongFile}
use Rattle.std.specs.Prelude.{Result, Ok, Err, IfOk}
use Rattle.dimacs.specs.File.{File, holds, refused, parsed}
use Rattle.dimacs.specs.OneCommodity.{OneCommodity}
use Rattle.dimacs.specs.Result.{padded, result_of, file_code, verdict_code, Read}
use Rattle.dimacs.specs.declared.Parsed.{Parsed}
use Rattle.dimacs.proofs.Holds.{network-sizes}
pub use Rattle.dimacs.proofs.LineByLine.{long-file}

-- The three tables have 256 places, of which the arcs fill the first ones.
pub record Whole (r : Parsed) : Type 0 where
  pub few : r.arcs ≤ 256
  pub tails : length r.tails ≡ 256
  pub heads : length r.heads ≡ 256
  pub capacities : length r.capacities ≡ 256

padded-whole : (xs : List ℕ) → length xs ≤ 256 → length (padded xs) ≡ 256
unfolding padded
padded-whole xs h = simp (length-append, length-replicate) (omega arith)

outcome-whole : (o : File) → ((net : Network) → o ≡ holds net → OneCommodity net) → IfOk (result_of o) Whole
unfolding result_of
outcome-whole (holds net) f =
    let s = f net refl in
    record {
      few = s.of-arcs.most;
      tails = padded-whole net.tails s.of-arcs.most;
      heads = padded-whole net.heads (omega (arith, s.of-heads, s.of-arcs.most));
      capacities = padded-whole net.capacities (omega (arith, s.of-capacities, s.of-arcs.most));
    }
outcome-whole (refused r) f = tt

pub whole : (text : List ℕ) {r : Parsed} → Ok r ≡ result_of (parsed text) → Whole r
whole text {r} e = rw (← e) at (outcome-whole (parsed text) (λ net h. network-sizes text h))

-- The number and place of a verdict are the file's.
pub code_of : (f : File) → file_code f ≡ verdict_code (result_of f)
unfolding result_of file_code verdict_code
code_of (holds net) = refl
code_of (refused w) = refl

-- What the reader's contract says follows from what it hands over.
pub read_whole : (text : List ℕ) {r : Result Parsed Refusal} → r ≡ result_of (parsed text) → Read text r
read_whole text {r} e = record { result = e; code = rw e (sym (code_of (parsed text))) }

pub long-result : (text : List ℕ) → 65536 < length text → result_of (parsed text) ≡ Err LongFile
unfolding result_of
long-result text h = rw (← (long-file text h))

pub long-code : (text : List ℕ) → 65536 < length text → file_code (parsed text) ≡ verdict_code (Err LongFile)
unfolding file_code verdict_code
long-code text h = rw (← (long-file text h))

-- by which a file that is too long is turned down
pub ruleset long_files = (long-result, long-code)
