-- The listing from its parts: the header, then the rows that follow from the file. Assumes nothing.
use mathlib.Core.Path.{◌≡◌, refl, sym, ap, ◌∙◌}
use mathlib.Core.List.{List}
use Prim.Native.Nat.{ℕ}
use native.Mathlib.Omega.{arith}
use Rattle.network.specs.Network.{Network}
use Rattle.network.specs.declared.Refusal.{Refusal}
use Rattle.network.specs.Refusal.{Accepted, Refused}
use Rattle.network.proofs.Decided.{no-refusal}
use Rattle.method.specs.Answer.{outcome}
use Rattle.method.specs.Guarantee.{Guarantee}
use Rattle.dimacs.specs.File.{holds, refused, parsed}
use Rattle.rows.specs.Put.{Put}
use Rattle.rows.specs.Row.{header}
use Rattle.std.specs.Prelude.{Ok, Err}
use Rattle.rows.proofs.Puts.{put-length, put_next, put-after}
use Rattle.report.specs.Listed.{Listed}
use Rattle.report.specs.Listing.{verdict_held, verdict_rows, file_rows, listing}
use Rattle.report.specs.Shown.{Shown, Filed}

module _ (text : List ℕ) where
  -- A refused file.
  pub filed-refused : {out : List ℕ} {at : ℕ} {w : Refusal} → parsed text ≡ refused w → Filed text out at out at (Err w)
  unfolding file_rows
  filed-refused {w = w} e = record { rows = (refl, refl, rw e); guarantee = λ net k v. absurd (apart (sym e ∙ k)) }
    where
      apart : {net : Network} → refused w ≡ holds net → ⊥
      apart k = let z : ◌≡◌ {A = ℕ} 0 1 = cc in omega arith

  module _ {net : Network} (e : parsed text ≡ holds net) where
    same : {net' : Network} → parsed text ≡ holds net' → net ≡ net'
    same k = cc

    -- A file that holds a refused network,
    pub filed-faulty : {out : List ℕ} {at : ℕ} {w : Refusal} → verdict_held net ≡ Refused w → Filed text out at out at (Err w)
    unfolding file_rows verdict_rows
    filed-faulty v =
        record { rows = (refl, refl, rw (e, v)); guarantee = λ net' k a. absurd (no-refusal (sym a ∙ (ap verdict_held (sym (same k)) ∙ v))) }

    -- and one that holds an accepted one.
    pub filed-held : {out out' : List ℕ} {at end : ℕ} → verdict_held net ≡ Accepted → Shown net Accepted out at out' end → Filed text out at out' end (Ok tt)
    unfolding file_rows
    filed-held v s = record { rows = rw (e, v) s.rows; guarantee = λ net' k a. rw (← (same k)) (s.guarantee refl) }

module _ (text : List ℕ) {out mid out' : List ℕ} {at end : ℕ} (h : Put header out 0 mid at) where
  pub listed :
      Put (file_rows (parsed text)) mid at out' end →
      ((net : Network) → parsed text ≡ holds net → verdict_held net ≡ Accepted → Guarantee net 4 (outcome net 4)) → Listed text out end out'
  unfolding listing
  listed p g =
      let whole = put_next h p in
      record { count = omega (arith, whole.next); places = put-after whole; within = omega (arith, whole.next, whole.room, put-length whole); guarantee = g }
