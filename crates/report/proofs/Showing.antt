-- The rows of a solved network of one commodity: its numbers fit, and the rows written are its outcome's. Assumes nothing.
use mathlib.Core.Path.{◌≡◌, sym, ◌∙◌}
use mathlib.Core.List.{List}
use Prim.Native.Nat.{ℕ, ◌+◌, ◌*◌, ◌^◌, ◌≤◌, ◌<◌}
use native.Mathlib.Nat.{one-mul}
use native.Mathlib.Omega.{arith}
use lib.IntN.{ℤ, pos}
use lib.ListN.{length, get_or}
use Rattle.signed.specs.Signed.{size}
use Rattle.network.specs.Network.{Network, arcs, commodities}
use Rattle.network.specs.Refusal.{Accepted}
use Rattle.method.specs.Answer.{outcome}
use Rattle.method.specs.declared.Answer.{Answer}
use Rattle.packed.specs.Packed.{net_in}
use Rattle.packed.specs.declared.Shape.{Shape}
use Rattle.packed.proofs.Columns.{arcs-is, heads-length}
use Rattle.solver.specs.Solved.{Solved}
use Rattle.rows.specs.Put.{Put}
use Rattle.rows.specs.Rows.{answer_rows}
use Rattle.rows.proofs.Puts.{put_next}
use Rattle.report.specs.Listing.{outcome_rows, verdict_rows}
use Rattle.report.specs.Shown.{belts_of, Belted, Ready, Shown}
use Rattle.report.proofs.Belts.{one-sizes, same_rows}

module _ {s : Shape} {xs : List ℕ} {at room : ℕ} (ready : Ready s xs at room) where
  abbrev net : Network
  net = net_in s xs

  -- The flow table of one commodity has a place for each arc.
  pub one-row : (n : ℕ) → n ≡ s.arcs → n ≡ commodities net * arcs net
  one-row n h = rw (ready.one, one-mul, arcs-is ready.lent.packed) h

  module _ {a : Answer} {flow : List ℤ} {kept : List ℕ} (v : Solved net 4 a flow kept) where
    pub total-small : a.total * a.capacity < 2 ^ 64
    total-small = rw v.answers v.guarantee.fits.total

    load-small : (e : ℕ) → e < arcs net → size (get_or flow e (pos 0)) * a.capacity < 2 ^ 64
    load-small e l =
        rw (v.answers, v.flows, ← one-sizes net ready.one (outcome net 4).flow e)
        (v.guarantee.fits.sizes e l)

    pub belted : (next : ℕ) → length flow ≡ s.arcs → next ≤ at + 159 → Belted net.tails net.heads flow a.capacity next room
    belted next h l =
        record {
          of-heads = heads-length ready.lent.packed;
          of-flow = h ∙ sym (arcs-is ready.lent.packed);
          sizes = rw v.flows v.guarantee.fits.flow;
          fits = load-small;
          enough = omega (arith, ready.enough, ready.lent.sound.counts.of-arcs.most);
        }

    pub shown :
        {out mid out' : List ℕ} {next end : ℕ} → Put (answer_rows a) out at mid next →
        Put (belts_of net.tails net.heads flow a.capacity a.load) mid next out' end → Shown net Accepted out at out' end
    unfolding verdict_rows outcome_rows
    shown p q =
        record {
          rows = rw (same_rows net ready.one (outcome net 4)) (rw (v.answers, v.flows) at (put_next p q));
          guarantee = λ _. v.guarantee;
        }
